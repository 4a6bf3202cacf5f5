-- Whether a set is a choice can be decided.
use Rattle.std.proofs.Common.{◌≡◌, ◌≢◌, ◌<◌, ◌≤◌, ◌⊎◌, ℕ, Bool, true, false, true≢false, List, [], ◌∷◌, length, arith, refl, sym, subst, inl, inr}
use Rattle.std.proofs.lemmas.Bool.{cases_lt, cases_order}
use Rattle.market_units.specs.Totals.{total}
use Rattle.market_units.specs.Members.{has}
use Rattle.bundle_rules.specs.Sets.{IsAscending}
use Rattle.bundle_rules.specs.Wishes.{Wishes, IsFeasible}
use Rattle.bundle_rules.specs.Demand.{IsChoice}
use Rattle.bundle_rules.specs.Existence.Members.{has-here, has-there, has-cases}

-- a fact that can be decided for each section can be decided for all of a set
pub each_or_not : (P : ℕ → Type 0) → ((s : ℕ) → P s ⊎ (P s → ⊥)) → (ss : List ℕ)
    → ((s : ℕ) → has ss s ≡ true → P s) ⊎ (((s : ℕ) → has ss s ≡ true → P s) → ⊥)
each_or_not P test [] = inl (λ s none. absurd (true≢false (sym none)))
each_or_not P test (x ∷ xs) = elim (test x) [
  | inl here ↦ elim (each_or_not P test xs) [
    | inl there ↦ inl (λ s is. elim (has-cases x xs s is) [ inl e ↦ subst P e here | inr h ↦ there s h ])
    | inr not ↦ inr (λ all. not (λ s is. all s (has-there x xs s is)))
  ]
  | inr not ↦ inr (λ all. not (all x (has-here x xs)))
]

bool_or_not : (b c : Bool) → (b ≡ c) ⊎ (b ≡ c → ⊥)
bool_or_not true true = inl refl
bool_or_not true false = inr (λ e. true≢false e)
bool_or_not false true = inr (λ e. true≢false (sym e))
bool_or_not false false = inl refl

below_or_not : (m n : ℕ) → (m < n) ⊎ (m < n → ⊥)
below_or_not m n =
    elim (cases_lt m n) [ inl low ↦ inl low | inr high ↦ inr (λ low. absurd (omega arith)) ]

at_most_or_not : (m n : ℕ) → (m ≤ n) ⊎ (m ≤ n → ⊥)
at_most_or_not m n =
    elim (cases_lt n m) [ inl high ↦ inr (λ low. absurd (omega arith)) | inr low ↦ inl low ]

apart_or_not : (w : Wishes) (s t : ℕ)
    → (s ≢ t → w.clash s t ≡ false) ⊎ ((s ≢ t → w.clash s t ≡ false) → ⊥)
apart_or_not w s t = elim (bool_or_not (w.clash s t) false) [
  | inl none ↦ inl (λ other. none)
  | inr some ↦ elim (cases_order s t) [
    | inl same ↦ inl (λ other. absurd (other same))
    | inr (inl below) ↦ inr (λ each. some (each (omega arith)))
    | inr (inr above) ↦ inr (λ each. some (each (omega arith)))
  ]
]

pub feasible_or_not : (w : Wishes) (ss : List ℕ) → IsAscending ss
    → IsFeasible w ss ⊎ (IsFeasible w ss → ⊥)
feasible_or_not w ss set =
    elim (each_or_not (λ s. 0 < w.rating s) (λ s. below_or_not 0 (w.rating s)) ss) [
      | inr no_rating ↦ inr (λ is. no_rating is.rated)
      | inl rated ↦ elim (each_or_not (λ s. (t : ℕ) → has ss t ≡ true → s ≢ t → w.clash s t ≡ false) (λ s. each_or_not (λ t. s ≢ t → w.clash s t ≡ false) (apart_or_not w s) ss) ss) [
        | inr clash ↦ inr (λ is. clash (λ s in_s t in_t other. is.apart s t in_s in_t other))
        | inl apart ↦ elim (at_most_or_not (total w.credits ss) w.credit_cap) [
          | inr dear ↦ inr (λ is. dear is.credits)
          | inl credits ↦ elim (at_most_or_not (length ss) w.course_cap) [
            | inr many ↦ inr (λ is. many is.courses)
            | inl courses ↦ inl record { set = set; rated = rated; apart = λ s t in_s in_t other. apart s in_s t in_t other; credits = credits; courses = courses }
          ]
        ]
      ]
    ]

pub choice_or_not : (w : Wishes) (price : ℕ → ℕ) (budget : ℕ) (allowed : ℕ → Bool) (ss : List ℕ)
    → IsAscending ss → IsChoice w price budget allowed ss ⊎ (IsChoice w price budget allowed ss → ⊥)
choice_or_not w price budget allowed ss set =
    elim (feasible_or_not w ss set) [
      | inr not ↦ inr (λ is. not is.feasible)
      | inl feasible ↦ elim (at_most_or_not (total price ss) budget) [
        | inr dear ↦ inr (λ is. dear is.affordable)
        | inl affordable ↦ elim (each_or_not (λ s. allowed s ≡ true) (λ s. bool_or_not (allowed s) true) ss) [
          | inr outside ↦ inr (λ is. outside is.within)
          | inl within ↦ inl record { feasible = feasible; affordable = affordable; within = within }
        ]
      ]
    ]
