-- The limits that sections can pass together.
use Rattle.std.specs.Prelude.{ℕ, ◌<◌, List, length}
use Rattle.market_units.specs.Totals.{total}
use Rattle.bundle_rules.specs.Wishes.{Wishes}
use Rattle.explain_desk.specs.declared.limits.Limit.{Limit}
use Rattle.explain_desk.specs.declared.limits.Limit.TheVariants.{Price, Credits, Courses}

-- their prices sum to more than the budget, their credits to more than the credit cap, or they are
-- more than the course cap
abbrev pub Passes : Wishes → (ℕ → ℕ) → ℕ → List ℕ → Limit → Type 0
Passes wishes price budget sections Price = budget < total price sections
Passes wishes price budget sections Credits = wishes.credit_cap < total wishes.credits sections
Passes wishes price budget sections Courses = wishes.course_cap < length sections

-- the order in which limits are told
abbrev pub rank : Limit → ℕ
rank Price = 0
rank Credits = 1
rank Courses = 2

-- the first limit that they pass
pub record PassesFirst (wishes : Wishes) (price : ℕ → ℕ) (budget : ℕ) (sections : List ℕ)
    (limit : Limit) : Type 0 where
  pub passes : Passes wishes price budget sections limit
  pub first : (earlier : Limit) → rank earlier < rank limit
      → ¬ Passes wishes price budget sections earlier
