use Rattle.std.proofs.Common.{ℕ, ◌≡◌, ◌∙◌, ap, length, map, subst, sym}
use Rattle.std.proofs.lemmas.List.{length-map}
use Rattle.std.proofs.lemmas.Result.{IfOk-weaker}
use Rattle.demand_api.specs.Views.{data_of}
use Rattle.demand_text.specs.Taken.{IsTakenBy}
use Rattle.market_crowd.proofs.CrowdFacts.{crowd_length, sections_known}
use Rattle.preference_desk.specs.DeskNames.{DeskNames}
use Rattle.preference_desk.specs.DeskView.{entries_of, names_of}
use Rattle.preference_desk.specs.PreferencesView.{preferences_of}
use Rattle.preference_desk.specs.Shared.{entry_of_step}
use Rattle.market_host.proofs.DemandFacts.{told_whole}
use Rattle.market_host.proofs.demand.text_of.Goals as goal

pub make_crowd-requires-clause-students : goal.make_crowd-requires-clause-students
make_crowd-requires-clause-students g c =
    c.closed.ensures.rows ∙ ap (λ (names : DeskNames). length names.students) c.in_ok-closed.ensures.names
    ∙ length-map c.args.market.now.roll.students (λ student. student.name)

pub make_crowd-requires-clause-sections : goal.make_crowd-requires-clause-sections
make_crowd-requires-clause-sections g c =
    sections_known (names_of c.in_ok-closed.closed.desk) c.args.market.now.catalog.sections c.args.market.now.roll.students
    (preferences_of c.closed.result.now) c.in_ok-closed.ensures.names c.closed.ensures.sections

pub taken_by-requires-clause-seats : goal.taken_by-requires-clause-seats
taken_by-requires-clause-seats g c κs within =
    ap length c.all_seats-seats.ensures ∙ length-map c.args.market.now.catalog.sections (λ section. section.seats) ∙ sym c.in_ok-crowd.ensures.sections

pub taken_by-requires-clause-prices : goal.taken_by-requires-clause-prices
taken_by-requires-clause-prices g c κs within = c.requires.prices ∙ sym c.in_ok-crowd.ensures.sections

pub demand_text-requires : goal.demand_text-requires
demand_text-requires g c =
    let crowd = data_of c.in_ok-crowd.crowd in
    let is = c.in_ok-crowd.ensures in
    let students : length crowd.students ≡ length c.args.market.now.roll.students =
    crowd_length c.args.market.now.catalog.sections c.args.market.now.roll.students (preferences_of c.closed.result.now) c.args.market.now.settings.seed
    c.args.market.now.settings.spread crowd is in
    subst (λ (n : ℕ). IsTakenBy n (length c.args.market.now.catalog.sections) c.in_ok-taken.taken) students
    (subst (λ (n : ℕ). IsTakenBy (length crowd.students) n c.in_ok-taken.taken) is.sections c.in_ok-taken.ensures.by)

pub returns : goal.returns
returns g c =
    let crowd = data_of c.in_ok-crowd.crowd in
    IfOk-weaker c.demand_text.result _ _
    (λ text is. (let told = told_whole c.args.market.now.catalog c.args.market.now.roll c.args.market.now.settings (names_of c.in_ok-closed.closed.desk) (preferences_of c.closed.result.now) (entries_of c.in_ok-closed.closed.desk) c.journal.result.now
    (map entry_of_step c.in_ok-closed.closed.journal) crowd c.all_seats-seats.result.now c.args.prices.now c.in_ok-taken.taken text.items
    c.in_ok-closed.ensures.names c.closed.ensures.after c.in_ok-closed.ensures.entries c.journal.ensures.entries
    c.in_ok-crowd.ensures c.all_seats-seats.ensures c.in_ok-taken.ensures.value is in
    (map entry_of_step c.in_ok-closed.closed.journal, c.in_ok-closed.ensures.legal, (rw c.deref.ensures.value at c.in_ok-closed.ensures.merges), crowd, told.0, told.1)))
    c.demand_text.ensures
