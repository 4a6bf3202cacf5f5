use Rattle.std.proofs.Common.{◌≡◌, ◌≤◌, ◌*◌, take}
use Rattle.market_units.specs.Totals.{total}
use Rattle.bundle_rules.specs.Ordinals.{ordinals}
use Rattle.course_catalog.specs.Sections.{section_at}
use Rattle.dropadd_hall.proofs.opening.sum_credits.Given as goal

-- the credits of the sections so far
abbrev pub invariant-sections : goal.invariant-sections
invariant-sections l = record {
  sum : l.sum ≡ total (λ s. (section_at l.catalog.sections s).credits) (ordinals (take l.section-index l.sections));
  few : l.sum ≤ 65535 * l.section-index;
}
