use Rattle.std.proofs.Common.{rules, ◌≤◌, length, subst, sym, ◌≡◌, ℕ, arith}
use Rattle.std.proofs.lemmas.List.{length-map}
use Rattle.market_units.specs.declared.units.SectionNo.{SectionNo}
use Rattle.bundle_rules.specs.Ordinals.{ordinals}
use Rattle.fairness_audit.proofs.ButFor.{room_left, stays_above}
use Rattle.fairness_audit.proofs.sight.but_for.Goals as goal

pub with-rest-requires-clause-room : goal.with-rest-requires-clause-room
with-rest-requires-clause-room c =
    let items = c.sections-other-items.result.now in
    let m : ℕ = length (ordinals items) in
    let few : m ≤ 8 = subst (λ l. length l ≤ 8) (sym c.sections-other-items.ensures.value) c.sections-other-items.ensures.bundle.few in
    let whole : m ≡ length items = length-map items (λ (section : SectionNo). section.0) in
    rw c.loop-other.invariant
    (room_left c.args.section.0 items c.loop-other.other-index (record { 0 = 0 }) c.loop-other-test.true
    (let n : ℕ = length items in let goal : n ≤ 8 = omega arith in goal))

pub with-rest-requires-clause-above : goal.with-rest-requires-clause-above
with-rest-requires-clause-above c =
    let items = c.sections-other-items.result.now in
    rw c.loop-other.invariant
    (stays_above c.args.section.0 items c.loop-other.other-index (record { 0 = 0 }) c.loop-other-test.true (search rules)
    (rw c.sections-other-items.ensures.value c.sections-other-items.ensures.bundle.ascending))
