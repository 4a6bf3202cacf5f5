use Rattle.std.proofs.Common.{◌≡◌, ◌≤◌, ◌+◌, ◌*◌, None, take}
use Rattle.bundle_rules.specs.Ordinals.{ordinals}
use Rattle.dropadd_desk.specs.Fits.{credits_of, lowest_clash}
use Rattle.dropadd_desk.specs.Market.{offered}
use Rattle.dropadd_desk.proofs.rules.MarketRules.obstacle.Given as goal

-- none of the sections so far clashes, and the credits are theirs and those of the section
abbrev pub invariant-held : goal.invariant-held
invariant-held l = record {
  none : lowest_clash l.self l.fn.section.0 (ordinals (take l.other-index l.sections)) ≡ None;
  sum : l.credits ≡ credits_of l.self (ordinals (take l.other-index l.sections)) + (offered l.self l.fn.section.0).credits;
  few : l.credits ≤ 100 * (l.other-index + 1);
}
