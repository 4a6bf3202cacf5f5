use Rattle.std.proofs.Common.{ℕ, ◌≡◌, ◌<◌, false, get_or}
use Rattle.bundle_rules.specs.Menus.{wishes_of}
use Rattle.explain_desk.proofs.reasons.reason_of.Given as goal

-- none of the sections so far clashes
abbrev pub invariant-others : goal.invariant-others
invariant-others l =
    (k : ℕ) → k < l.other-index → (wishes_of l.fn.offered.menu.now).clash (get_or l.sections k (record { 0 = 0 })).0 l.fn.section.0 ≡ false
