-- The best bundle as a value.
use Rattle.std.specs.Prelude.{ℕ, Bool, List}
use Rattle.bundle_rules.specs.Menus.{MenuData}
use Rattle.bundle_rules.specs.Existence.Demands.{one_best}

-- the one set that is the best: the law of unique demand says that there is exactly one
unfoldable pub best : MenuData → (ℕ → ℕ) → ℕ → (ℕ → Bool) → List ℕ
best menu price budget allowed = (one_best menu price budget allowed).0
