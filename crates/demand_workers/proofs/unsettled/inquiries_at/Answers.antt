use Rattle.std.proofs.Common.{◌≡◌, ◌≤◌, ◌*◌, ◌∙◌, All, List, Vec, Global, length, ap, sym, subst}
use Rattle.std.specs.Arc.{arc_value}
use Rattle.std.proofs.lemmas.List.{length-map}
use Rattle.market_units.specs.declared.units.Tokens.{Tokens}
use Rattle.demand_api.proofs.Parts.{students_length}
use Rattle.demand_workers.specs.declared.remembered.Remembered.{Remembered}
use Rattle.price_board.specs.declared.round.Task.{Task}
use Rattle.price_board.specs.Tasks.{IsTask}
use Rattle.demand_workers.specs.Rounds.{prices_of}
use Rattle.demand_workers.specs.Surveys.{IsSurvey}
use Rattle.demand_workers.specs.Views.{crowd_of}
use Rattle.demand_workers.proofs.Rounds.{copies_priced}
use Rattle.demand_workers.proofs.unsettled.inquiries_at.Goals as goal

pub of-requires-clause-priced : goal.of-requires-clause-priced
of-requires-clause-priced g c =
    copies_priced (crowd_of (arc_value c.args.remembered.now)) c.args.versions.now c.in_ok-copies_of.field-0.items c.in_ok-copies_of.ensures c.requires

pub of-requires-clause-asked : goal.of-requires-clause-asked
of-requires-clause-asked g c =
    let copies = c.in_ok-copies_of.field-0.items in
    let versions = c.args.versions.now in
    let list = c.in_ok-list.list.items in
    let many : length (prices_of versions) ≡ length copies =
    ap length (sym c.in_ok-copies_of.ensures) ∙ length-map copies (λ (w : Vec Tokens Global). w.items) in
    subst (λ (r : Remembered). All (IsTask (crowd_of r) (length copies)) list) c.deref.ensures
    (subst (λ n. All (IsTask (crowd_of c.deref.result.now) n) list) many c.in_ok-list.ensures.survey.asked)

pub returns-clause-few : goal.returns-clause-few
returns-clause-few g c =
    subst (λ (l : List Task). length l ≤ length c.args.versions.now * length (crowd_of (arc_value c.args.remembered.now)).students)
    (sym c.in_ok-inquiries.ensures.list)
    (subst (λ n. length c.in_ok-list.list.items ≤ length c.args.versions.now * n)
    (ap (λ (r : Remembered). length r.bundles.items) c.deref.ensures ∙ (arc_value c.args.remembered.now).each
    ∙ sym (students_length (arc_value (arc_value c.args.remembered.now).crowd)))
    c.in_ok-list.ensures.few)

pub returns-clause-versions : goal.returns-clause-versions
returns-clause-versions g c = ap prices_of c.in_ok-inquiries.ensures.versions ∙ c.in_ok-copies_of.ensures

pub returns-clause-surveyed : goal.returns-clause-surveyed
returns-clause-surveyed g c =
    let inquiries = c.in_ok-inquiries.inquiries in
    let copies = c.in_ok-copies_of.field-0.items in
    let versions = c.args.versions.now in
    let list = c.in_ok-list.list.items in
    let same : c.deref.result.now ≡ arc_value inquiries.remembered = c.deref.ensures ∙ sym c.in_ok-inquiries.ensures.remembered in
    let now : prices_of versions ≡ prices_of (arc_value inquiries.round).versions.items =
    sym (ap prices_of c.in_ok-inquiries.ensures.versions ∙ c.in_ok-copies_of.ensures) in
    let many : length versions ≡ length (arc_value inquiries.round).versions.items =
    sym (length-map versions (λ (w : Vec Tokens Global). w.items)) ∙ ap length now
    ∙ length-map (arc_value inquiries.round).versions.items (λ (w : Vec Tokens Global). w.items) in
    let memory : Remembered = arc_value inquiries.remembered in
    subst (λ (l : List Task). IsSurvey (crowd_of memory) memory.bundles.items (prices_of (arc_value inquiries.round).versions.items)
    (length (arc_value inquiries.round).versions.items) l) (sym c.in_ok-inquiries.ensures.list)
    (subst (λ n. IsSurvey (crowd_of memory) memory.bundles.items (prices_of (arc_value inquiries.round).versions.items) n list) many
    (subst (λ (l : List (List Tokens)). IsSurvey (crowd_of memory) memory.bundles.items l (length versions) list) now
    (subst (λ (r : Remembered). IsSurvey (crowd_of r) r.bundles.items (prices_of versions) (length versions) list) same c.in_ok-list.ensures.survey)))
