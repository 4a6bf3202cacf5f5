use Rattle.std.proofs.Common.{◌≡◌, ◌∷◌, [], List, length, map, rules}
use Rattle.std.proofs.lemmas.Result.{err_from_is_err_and}
use Rattle.bundle_rules.specs.Bundles.{sections_of}
use Rattle.market_certificate.specs.declared.refusals.LineFault.TheVariants.{Rest}
use Rattle.market_certificate.specs.Publications.{IsBundleOf, IsProved, IsUsed}
use Rattle.market_certificate.specs.Texts.{bundle_line, final_line, used_line}
use Rattle.market_certificate.specs.Due.{AreDue, Due, EndForm, One, Turns, UsedForm, outcome_due}
use Rattle.market_certificate.specs.Finding.{Finds, OnDefect}
use Rattle.market_certificate.specs.Views.{proved_of, seen, turn_of}
use Rattle.market_certificate.proofs.Blocks.{AreTurnsRead, defect_of_names, of_names}
use Rattle.market_certificate.proofs.Parts.{at_turns, behind_end, finals_due, outcome_read, passes_bundles, passes_finals, passes_seats, passes_turns, used_due}
use Rattle.market_certificate.proofs.Places.{no_items}
use Rattle.market_certificate.proofs.Steps.{AreRead, HasPassed, defect_passed, pass_both, stop_passed}
use Rattle.market_certificate.proofs.reading.read_outcome.Goals as goal
use Rattle.market_certificate.proofs.reading.read_outcome.Goals.{In_ok-allocation, In_ok-bundles, In_ok-turns, In_ok-used}

-- the bundles, and what is due behind them
bundles : (c : In_ok-bundles)
    → AreRead (bundle_line (seen c.args.tables.now).sections) (IsProved (seen c.args.tables.now).sections) (seen c.args.tables.now).students
    (map proved_of c.in_ok-bundles.bundles.items) c.args.lines.number c.args.lines.rest.now c.in_ok-bundles.left.number c.in_ok-bundles.left.rest.now
bundles c = record { range = c.in_ok-bundles.ensures.range; takes = c.in_ok-bundles.ensures.lines }

behind_bundles : (c : In_ok-bundles)
    → HasPassed (seen c.args.tables.now) (outcome_due (seen c.args.tables.now)) (Turns ∷ finals_due (seen c.args.tables.now)) c.args.lines.number
    c.args.lines.rest.now c.in_ok-bundles.left.number c.in_ok-bundles.left.rest.now
behind_bundles c = passes_bundles (seen c.args.tables.now) (Turns ∷ finals_due (seen c.args.tables.now)) (bundles c)

-- the turns
turns : (c : In_ok-turns)
    → AreTurnsRead (seen c.args.tables.now) (map turn_of c.in_ok-turns.turns.items) c.in_ok-bundles.left.number c.in_ok-bundles.left.rest.now
    c.in_ok-turns.left.number c.in_ok-turns.left.rest.now
turns c = record { range = c.in_ok-turns.ensures.range; takes = c.in_ok-turns.ensures.lines }

behind_turns : (c : In_ok-turns)
    → HasPassed (seen c.args.tables.now) (Turns ∷ finals_due (seen c.args.tables.now)) (finals_due (seen c.args.tables.now)) c.in_ok-bundles.left.number
    c.in_ok-bundles.left.rest.now c.in_ok-turns.left.number c.in_ok-turns.left.rest.now
behind_turns c = passes_turns (seen c.args.tables.now) (turns c) c.in_ok-turns.ensures.behind

-- the final bundles
finals : (c : In_ok-allocation)
    → AreRead (final_line (seen c.args.tables.now).sections) (IsBundleOf (seen c.args.tables.now).sections) (seen c.args.tables.now).students
    (map sections_of c.in_ok-allocation.allocation.items) c.in_ok-turns.left.number c.in_ok-turns.left.rest.now c.in_ok-allocation.left.number
    c.in_ok-allocation.left.rest.now
finals c = record { range = c.in_ok-allocation.ensures.range; takes = c.in_ok-allocation.ensures.lines }

behind_finals : (c : In_ok-allocation)
    → HasPassed (seen c.args.tables.now) (finals_due (seen c.args.tables.now)) (used_due (seen c.args.tables.now)) c.in_ok-turns.left.number
    c.in_ok-turns.left.rest.now c.in_ok-allocation.left.number c.in_ok-allocation.left.rest.now
behind_finals c = passes_finals (seen c.args.tables.now) (used_due (seen c.args.tables.now)) (finals c)

-- the used seats
used : (c : In_ok-used)
    → AreRead used_line IsUsed (seen c.args.tables.now).sections c.in_ok-used.used.items c.in_ok-allocation.left.number c.in_ok-allocation.left.rest.now
    c.in_ok-used.left.number c.in_ok-used.left.rest.now
used c = of_names used_line IsUsed c.deref.ensures.value c.in_ok-used.ensures.range c.in_ok-used.ensures.lines

behind_used : (c : In_ok-used)
    → HasPassed (seen c.args.tables.now) (used_due (seen c.args.tables.now)) (One EndForm ∷ []) c.in_ok-allocation.left.number
    c.in_ok-allocation.left.rest.now c.in_ok-used.left.number c.in_ok-used.left.rest.now
behind_used c = passes_seats (seen c.args.tables.now) (One EndForm ∷ []) (used c)

pub returns-in_err-bundles-clause-defect : goal.returns-in_err-bundles-clause-defect
returns-in_err-bundles-clause-defect c =
    let p = err_from_is_err_and c.from_residual.result c.from_residual.ensures.1 in
    rw (p.1, p.2) (c.in_err-bundles.ensures.defect (Turns ∷ finals_due (seen c.args.tables.now)))

pub returns-in_err-turns-clause-defect : goal.returns-in_err-turns-clause-defect
returns-in_err-turns-clause-defect c =
    let p = err_from_is_err_and c.from_residual-in_err-turns.result c.from_residual-in_err-turns.ensures.1 in
    rw (p.1, p.2)
    (defect_passed c.in_err-turns.field-0.0 (behind_bundles (goal.at.returns-in_err-turns-clause-defect c).In_ok-bundles)
    (at_turns (seen c.args.tables.now)
    (λ (due : List Due). OnDefect c.in_err-turns.field-0.0
    (Finds (AreDue (seen c.args.tables.now) due) c.in_ok-bundles.left.number c.in_ok-bundles.left.rest.now))
    c.in_err-turns.ensures.defect))

pub returns-in_err-allocation-clause-defect : goal.returns-in_err-allocation-clause-defect
returns-in_err-allocation-clause-defect c =
    let p = err_from_is_err_and c.from_residual-in_err-allocation.result c.from_residual-in_err-allocation.ensures.1 in
    let at = goal.at.returns-in_err-allocation-clause-defect c in
    rw (p.1, p.2)
    (defect_passed c.in_err-allocation.field-0.0 (pass_both (behind_bundles at.In_ok-bundles) (behind_turns at.In_ok-turns))
    (c.in_err-allocation.ensures.defect (used_due (seen c.args.tables.now))))

pub returns-in_err-used-clause-defect : goal.returns-in_err-used-clause-defect
returns-in_err-used-clause-defect c =
    let p = err_from_is_err_and c.from_residual-in_err-used.result c.from_residual-in_err-used.ensures.1 in
    let at = goal.at.returns-in_err-used-clause-defect c in
    rw (p.1, p.2)
    (defect_passed c.in_err-used.field-0.0
    (pass_both (pass_both (behind_bundles at.In_ok-bundles) (behind_turns at.In_ok-turns)) (behind_finals at.In_ok-allocation))
    (defect_of_names c.in_ok-allocation.left.number c.in_ok-allocation.left.rest.now (seen c.args.tables.now) UsedForm (One EndForm ∷ [])
    c.in_err-used.field-0.0 c.deref.ensures.value (c.in_err-used.ensures.defect (seen c.args.tables.now) (One EndForm ∷ []))))

pub returns-in_err-left-clause-defect : goal.returns-in_err-left-clause-defect
returns-in_err-left-clause-defect c =
    let p = err_from_is_err_and c.from_residual-in_err-left.result c.from_residual-in_err-left.ensures.1 in
    let at = goal.at.returns-in_err-left-clause-defect c in
    rw (p.1, p.2)
    (stop_passed c.in_err-left.field-0.0 EndForm []
    (pass_both (pass_both (behind_bundles at.In_ok-bundles) (behind_turns at.In_ok-turns))
    (pass_both (behind_finals at.In_ok-allocation) (behind_used at.In_ok-used)))
    (c.in_err-left.ensures.defect (seen c.args.tables.now)))

pub returns-then-not-is_empty-clause-defect : goal.returns-then-not-is_empty-clause-defect
returns-then-not-is_empty-clause-defect c =
    let at = goal.at.returns-then-not-is_empty-clause-defect c in
    let all = pass_both (pass_both (behind_bundles at.In_ok-bundles) (behind_turns at.In_ok-turns))
    (pass_both (behind_finals at.In_ok-allocation) (behind_used at.In_ok-used)) in
    all.passed c.in_ok-left.left.number Rest
    (behind_end (seen c.args.tables.now) c.in_ok-used.left.number c.in_ok-used.left.rest.now c.in_ok-left.left.number c.in_ok-left.left.rest.now
    c.in_ok-left.ensures.line (search rules))

pub returns-clause-outcome : goal.returns-clause-outcome
returns-clause-outcome c =
    let at = goal.at.returns-clause-outcome c in
    let none : length c.in_ok-left.left.rest.now ≡ 0 = search rules in
    outcome_read (seen c.args.tables.now) (bundles at.In_ok-bundles) (turns at.In_ok-turns) (finals at.In_ok-allocation) (used at.In_ok-used)
    c.in_ok-left.ensures.line (no_items c.in_ok-left.left.rest.now none)
