use Rattle.std.proofs.Common.{ℕ, ◌≡◌, ◌<◌, false, get_or}
use Rattle.std.specs.List.{list_any}
use Rattle.bundle_rules.specs.Ordinals.{ordinals}
use Rattle.course_catalog.specs.Sections.{sections_clash}
use Rattle.dropadd_hall.proofs.opening.may_hold.Given as goal

-- none of the sections so far clashes with one of all
abbrev pub invariant-looked : goal.invariant-looked
invariant-looked l =
    (k : ℕ) → k < l.section-index → list_any (λ t. sections_clash l.catalog.sections (get_or l.sections k (record { 0 = 0 })).0 t) (ordinals l.sections) ≡ false
