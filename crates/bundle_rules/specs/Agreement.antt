-- Wishes that say the same of what is rated.
use Rattle.std.specs.Prelude.{ℕ, ◌<◌, ◌≡◌}
use Rattle.bundle_rules.specs.Wishes.{Wishes}

-- the same ratings and caps, and of rated sections the same credits, adjustments and clashes
pub record Agrees (a b : Wishes) : Type 0 where
  pub rating : (s : ℕ) → a.rating s ≡ b.rating s
  pub credits : (s : ℕ) → 0 < a.rating s → a.credits s ≡ b.credits s
  pub adjustment : (s t : ℕ) → 0 < a.rating s → 0 < a.rating t → a.adjustment s t ≡ b.adjustment s t
  pub clash : (s t : ℕ) → 0 < a.rating s → 0 < a.rating t → a.clash s t ≡ b.clash s t
  pub credit_cap : a.credit_cap ≡ b.credit_cap
  pub course_cap : a.course_cap ≡ b.course_cap
