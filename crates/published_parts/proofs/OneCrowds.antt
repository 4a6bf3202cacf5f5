-- A market has one crowd after a journal.
use Rattle.std.proofs.Common.{ℕ, ◌≡◌, ◌∙◌, List, [], ◌∷◌, map, refl, sym, subst}
use Rattle.course_catalog.specs.Sections.{Section}
use Rattle.student_roll.specs.Students.{Student}
use Rattle.demand_api.specs.Crowds.{CrowdData, Student as Asked}
use Rattle.preference_desk.specs.StudentPreferences.{StudentPreferences}
use Rattle.market_menus.proofs.OneMenus.{one_list}
use Rattle.market_crowd.specs.Crowds.{IsCrowdOf}
use Rattle.preference_desk.specs.declared.entry.Entry.{Entry}
use Rattle.utility_language.specs.declared.commands.Command.{Command}
use Rattle.published_parts.specs.Markets.{Market, names_in}
use Rattle.published_parts.specs.Journals.{wanted_in}
use Rattle.published_parts.specs.Crowds.{IsCrowdAfter, IsCrowdIn}
use Rattle.published_parts.proofs.OneJournals.{one_journal}

-- students with the same menus and the same budgets are the same
same_students : (one other : List Asked) → map (λ (student : Asked). student.menu) one ≡ map (λ (student : Asked). student.menu) other
    → map (λ (student : Asked). student.budget) one ≡ map (λ (student : Asked). student.budget) other → one ≡ other
same_students [] [] menus budgets = refl
same_students [] (y ∷ other) menus budgets = cc
same_students (x ∷ one) [] menus budgets = cc
same_students (x ∷ one) (y ∷ other) menus budgets =
    let menu : x.menu ≡ y.menu = cc in
    let budget : x.budget ≡ y.budget = cc in
    let more : map (λ (student : Asked). student.menu) one ≡ map (λ (student : Asked). student.menu) other = cc in
    let rest : map (λ (student : Asked). student.budget) one ≡ map (λ (student : Asked). student.budget) other = cc in
    let head : x ≡ y = λ i. record { menu = menu i; budget = budget i } in
    let tail : one ≡ other = same_students one other more rest in
    cc

pub one_crowd : (catalog : List Section) (roll : List Student) (wanted : List StudentPreferences) (seed spread : ℕ) (one other : CrowdData)
    → IsCrowdOf catalog roll wanted seed spread one → IsCrowdOf catalog roll wanted seed spread other → one ≡ other
one_crowd catalog roll wanted seed spread one other is so =
    let students : one.students ≡ other.students =
    same_students one.students other.students (one_list catalog roll wanted _ _ is.menus so.menus) (is.budgets ∙ sym so.budgets) in
    let sections : one.sections ≡ other.sections = is.sections ∙ sym so.sections in
    λ i. record { students = students i; sections = sections i }

pub one_crowd_after : (market : Market) (streams : List (List Command)) (order : List ℕ) (one other : CrowdData) → IsCrowdAfter market streams order one
    → IsCrowdAfter market streams order other → one ≡ other
one_crowd_after market streams order one other is so =
    let journal : is.journal ≡ so.journal = one_journal (names_in market) streams order is.journal so.journal is.is_journal so.is_journal in
    one_crowd market.catalog.sections market.roll.students (wanted_in market so.journal) market.settings.seed market.settings.spread one other
    (subst (λ (j : List Entry). IsCrowdIn market j one) journal is.is_crowd) so.is_crowd
