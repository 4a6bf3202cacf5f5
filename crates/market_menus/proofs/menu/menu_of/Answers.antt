use Rattle.std.proofs.Common.{◌≡◌, length, sym, subst, arith}
use Rattle.plain_facts.proofs.Lists.{read_at}
use Rattle.bundle_rules.specs.Menus.{IsMenu}
use Rattle.preference_desk.specs.PreferencesView.{wanted_by}
use Rattle.preference_desk.specs.StudentPreferences.{no_preferences}
use Rattle.preference_desk.proofs.BelowLemmas.{rated_below}
use Rattle.student_roll.specs.Students.{Student, no_student}
use Rattle.market_menus.specs.MenusOf.{IsMenuOf}
use Rattle.market_menus.specs.Students.{student_at}
use Rattle.market_menus.proofs.ClashFacts.{are_clashes}
use Rattle.market_menus.proofs.PairFacts.{are_pairs}
use Rattle.market_menus.proofs.PlaceFacts.{AreGoodPlaces, good_places}
use Rattle.market_menus.proofs.StudentFacts.{is_menu, menu_data}
use Rattle.market_menus.proofs.menu.menu_of.Goals as goal

pub places_of-requires : goal.places_of-requires
places_of-requires c =
    let wanted = wanted_by c.args.closed.now.preferences.now c.args.student.0 in
    rated_below (length c.args.closed.now.catalog.now.sections) wanted c.ratings.result.now
    (c.args.closed.now.sections c.args.student.0 no_preferences (omega arith))
    c.ratings.ensures.entries

pub invariant_of-places : goal.invariant_of-places
invariant_of-places c =
    let wanted = wanted_by c.args.closed.now.preferences.now c.args.student.0 in
    let good : AreGoodPlaces c.args.closed.now.catalog.now.sections c.in_ok-rated.rated.items =
    good_places c.args.closed.now.catalog.now wanted c.ratings.result.now c.in_ok-rated.rated.items c.len-few_sections.ensures.kept c.ratings.ensures.kept
    (c.args.closed.now.sections c.args.student.0 no_preferences (omega arith)) c.ratings.ensures.entries c.in_ok-rated.ensures in
    rw c.deref.ensures.value (record { few = good.places_are.few; sections = good.below })

pub build-requires-clause-places : goal.build-requires-clause-places
build-requires-clause-places c =
    let wanted = wanted_by c.args.closed.now.preferences.now c.args.student.0 in
    let good : AreGoodPlaces c.args.closed.now.catalog.now.sections c.in_ok-rated.rated.items =
    good_places c.args.closed.now.catalog.now wanted c.ratings.result.now c.in_ok-rated.rated.items c.len-few_sections.ensures.kept c.ratings.ensures.kept
    (c.args.closed.now.sections c.args.student.0 no_preferences (omega arith)) c.ratings.ensures.entries c.in_ok-rated.ensures in
    rw c.deref-2.ensures.value good.places_are

pub build-requires-clause-pairs : goal.build-requires-clause-pairs
build-requires-clause-pairs c =
    let wanted = wanted_by c.args.closed.now.preferences.now c.args.student.0 in
    let good : AreGoodPlaces c.args.closed.now.catalog.now.sections c.in_ok-rated.rated.items =
    good_places c.args.closed.now.catalog.now wanted c.ratings.result.now c.in_ok-rated.rated.items c.len-few_sections.ensures.kept c.ratings.ensures.kept
    (c.args.closed.now.sections c.args.student.0 no_preferences (omega arith)) c.ratings.ensures.entries c.in_ok-rated.ensures in
    rw (c.deref-2.ensures.value, c.deref-3.ensures.value, c.in_ok-pairs.ensures, c.deref.ensures.value)
    (are_pairs c.in_ok-rated.rated.items c.pairs.result.now good.places_are.ascending c.pairs.ensures.kept)

pub build-requires-clause-clashes : goal.build-requires-clause-clashes
build-requires-clause-clashes c =
    let wanted = wanted_by c.args.closed.now.preferences.now c.args.student.0 in
    let good : AreGoodPlaces c.args.closed.now.catalog.now.sections c.in_ok-rated.rated.items =
    good_places c.args.closed.now.catalog.now wanted c.ratings.result.now c.in_ok-rated.rated.items c.len-few_sections.ensures.kept c.ratings.ensures.kept
    (c.args.closed.now.sections c.args.student.0 no_preferences (omega arith)) c.ratings.ensures.entries c.in_ok-rated.ensures in
    rw (c.deref-2.ensures.value, c.deref-4.ensures.value)
    (are_clashes c.args.closed.now.catalog.now.sections c.in_ok-rated.rated.items c.in_ok-clashes.clashes.items good.places_are.ascending good.courses
    good.sections
    (rw c.deref.ensures.value at c.in_ok-clashes.ensures))

pub returns : goal.returns
returns c =
    let catalog = c.args.closed.now.catalog.now.sections in
    let wanted = wanted_by c.args.closed.now.preferences.now c.args.student.0 in
    let student = student_at c.args.closed.now.roll.now.students c.args.student.0 in
    let nobody = no_student in
    let parts = menu_data c.in_ok-rated.rated.items c.in_ok-pairs.pairs.items c.in_ok-clashes.clashes.items c.credits.result c.courses.result in
    let is : c.in_ok-menu.menu ≡ parts = rw (c.deref-2.ensures.value, c.deref-3.ensures.value, c.deref-4.ensures.value) at c.in_ok-menu.ensures in
    let made : IsMenuOf catalog student wanted parts =
    is_menu catalog student wanted c.ratings.result.now c.pairs.result.now c.in_ok-rated.rated.items c.in_ok-pairs.pairs.items c.in_ok-clashes.clashes.items
    c.credits.result c.courses.result
    c.in_ok-rated.ensures c.ratings.ensures.entries (rw c.deref.ensures.value at c.in_ok-pairs.ensures) c.pairs.ensures.entries
    (rw c.deref.ensures.value at c.in_ok-clashes.ensures)
    (read_at (λ (s : Student). s.credits) c.args.closed.now.roll.now.students c.args.student.0 c.credits.result nobody c.credits.ensures.credits)
    (read_at (λ (s : Student). s.courses) c.args.closed.now.roll.now.students c.args.student.0 c.courses.result nobody c.courses.ensures.courses)
    (subst IsMenu is c.len.ensures.menu) in
    subst (IsMenuOf catalog student wanted) (sym is) made
