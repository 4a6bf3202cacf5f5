use Rattle.std.proofs.Common.{◌≡◌, ◌≤◌, ◌+◌, ◌*◌, take}
use Rattle.market_units.specs.Totals.{total}
use Rattle.bundle_rules.specs.Menus.{wishes_of}
use Rattle.bundle_rules.specs.Ordinals.{ordinals}
use Rattle.explain_desk.proofs.limits.first_passed.Given as goal

-- the credits of the section and of the others so far
abbrev pub invariant-others : goal.invariant-others
invariant-others l = record {
  sum : l.credits
      ≡ (wishes_of l.fn.offered.menu.now).credits l.fn.section.0
      + total (wishes_of l.fn.offered.menu.now).credits (ordinals (take l.other-index l.sections));
  few : l.credits ≤ 100 * (l.other-index + 1);
}
