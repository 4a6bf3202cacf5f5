-- Preference is a strict total order.
use Rattle.std.proofs.Common.{ℕ, ◌≡◌, ◌≢◌, ◌↔◌, ◌<◌, ◌≤◌, ◌⊎◌, ℤ, pos, negsuc, false, ◌||◌, ◌==◌, List, [], ◌∷◌, arith, ap, sym, ◌∙◌, refl, inl, inr}
use Rattle.std.specs.Prelude.{◌<ℤ◌}
use Rattle.std.proofs.lemmas.Int.{ints}
use Rattle.std.proofs.lemmas.Bool.{cases_lt, cases_order, eq-eqb, ne_eqb, or_from, or_left, or_right, false≢true}
use Rattle.market_units.specs.Members.{has}
use Rattle.bundle_rules.specs.Sets.{AllAbove, IsAscending, DiffersFirstIn}
use Rattle.bundle_rules.specs.Wishes.{Wishes, utility}
use Rattle.bundle_rules.specs.Preferences.{IsPreferred}

-- nothing at or below a section is among those above it
pub none_below : (x : ℕ) (xs : List ℕ) → AllAbove x xs → (t : ℕ) → t ≤ x → has xs t ≡ false
none_below x [] above t low = refl
none_below x (y ∷ ys) above t low = or_from (y == t) (has ys t) (ne_eqb y t (λ e. let h : x < y = above.0 in absurd (omega arith))) (none_below x ys above.1 t low)

pub below_head : (x : ℕ) (xs : List ℕ) → AllAbove x xs → (t : ℕ) → t < x → has (x ∷ xs) t ≡ false
below_head x xs above t low =
    or_from (x == t) (has xs t) (ne_eqb x t (λ e. absurd (omega arith)))
    (none_below x xs above t (omega arith))

-- a first section that the other lacks, with all below it
pub head_first : (x : ℕ) (xs b : List ℕ) → AllAbove x xs → ((t : ℕ) → t ≤ x → has b t ≡ false)
    → DiffersFirstIn (x ∷ xs) b
head_first x xs b above none = (
  x,
  or_left (x == x) (has xs x) (eq-eqb x x refl),
  none x (omega arith),
  λ t low. below_head x
      xs above t low
      ∙ sym (none t (omega arith)),
)

under_head : (x : ℕ) (xs ys : List ℕ) → AllAbove x xs → DiffersFirstIn xs ys
    → DiffersFirstIn (x ∷ xs) (x ∷ ys)
under_head x xs ys above d =
    let apart : (x == d.0) ≡ false = ne_eqb x d.0 (λ e. false≢true (sym (none_below x xs above d.0 (omega arith)) ∙ d.1)) in (
      d.0,
      or_right (x == d.0) (has xs d.0) d.1,
      or_from (x == d.0) (has ys d.0) apart d.2,
      λ t low. ap
          (λ b. (x == t) || b) (d.3 t low),
    )

-- two sets are equal, or one has the lowest section on which they differ
pub differ : (a b : List ℕ) → IsAscending a → IsAscending b
    → (a ≡ b) ⊎ (DiffersFirstIn a b ⊎ DiffersFirstIn b a)
differ [] [] p q = inl refl
differ [] (y ∷ ys) p q = inr (inr (head_first y ys [] q.0 (λ t low. refl)))
differ (x ∷ xs) [] p q = inr (inl (head_first x xs [] p.0 (λ t low. refl)))
differ (x ∷ xs) (y ∷ ys) p q = elim (cases_order x y) [
  | inl same ↦ elim (differ xs ys p.1 q.1) [
    | inl equal ↦ inl cc
    | inr (inl first) ↦ inr (inl (rw (← same) (under_head x xs ys p.0 first)))
    | inr (inr second) ↦ inr (inr (rw (← same) (under_head x ys xs (rw same q.0) second)))
  ]
  | inr (inl below) ↦ inr (inl (head_first x xs (y ∷ ys) p.0 (λ t low. below_head y ys q.0 t (omega arith))))
  | inr (inr above) ↦ inr (inr (head_first y ys (x ∷ xs) q.0 (λ t low. below_head x xs p.0 t (omega arith))))
]

pub not_both_first : (a b : List ℕ) → DiffersFirstIn a b → DiffersFirstIn b a → ⊥
not_both_first a b p q = elim (cases_order p.0 q.0) [
  | inl same ↦ false≢true (sym q.2 ∙ rw (← same) p.1)
  | inr (inl below) ↦ false≢true (sym p.2 ∙ q.3 p.0 below ∙ p.1)
  | inr (inr above) ↦ false≢true (sym q.2 ∙ p.3 q.0 above ∙ q.1)
]

pub first_trans : (a b c : List ℕ) → DiffersFirstIn a b → DiffersFirstIn b c → DiffersFirstIn a c
first_trans a b c p q = elim (cases_order p.0 q.0) [
  | inl same ↦ absurd (false≢true (sym p.2 ∙ rw same q.1))
  | inr (inl below) ↦ (p.0, p.1, sym (q.3 p.0 below) ∙ p.2, λ t low. p.3 t low ∙ q.3 t (omega arith))
  | inr (inr above) ↦ (q.0, p.3 q.0 above ∙ q.1, q.2, λ t low. p.3 t (omega arith) ∙ q.3 t low)
]

-- of two signed numbers one is less, or they are equal
pub int_order : (y z : ℤ) → (y <ℤ z) ⊎ ((y ≡ z) ⊎ (z <ℤ y))
int_order (pos m) (pos n) = elim (cases_order m n) [
  | inl same ↦ inr (inl (ap (λ k. pos k) same))
  | inr (inl below) ↦ inl (omega (arith, ints))
  | inr (inr above) ↦ inr (inr (omega (arith, ints)))
]
int_order (pos m) (negsuc n) = inr (inr (omega (arith, ints)))
int_order (negsuc m) (pos n) = inl (omega (arith, ints))
int_order (negsuc m) (negsuc n) = elim (cases_order m n) [
  | inl same ↦ inr (inl (ap (λ k. negsuc k) same))
  | inr (inl below) ↦ inr (inr (omega (arith, ints)))
  | inr (inr above) ↦ inl (omega (arith, ints))
]

-- of two bundles not both are preferred
pub not_both_preferred : (w : Wishes) (a b : List ℕ) → IsPreferred w a b → IsPreferred w b a → ⊥
not_both_preferred w a b (inl p) (inl q) = omega (arith, ints)
not_both_preferred w a b (inl p) (inr q) = omega (arith, ints)
not_both_preferred w a b (inr p) (inl q) = omega (arith, ints)
not_both_preferred w a b (inr p) (inr q) = not_both_first a b p.1 q.1

pub not_preferred_itself : (w : Wishes) (a : List ℕ) → IsPreferred w a a → ⊥
not_preferred_itself w a p = not_both_preferred w a a p p

-- of two different sets one is preferred
pub one_preferred : (w : Wishes) (a b : List ℕ) → IsAscending a → IsAscending b → a ≢ b
    → IsPreferred w a b ⊎ IsPreferred w b a
one_preferred w a b p q apart = elim (int_order (utility w a) (utility w b)) [
  | inl less ↦ inr (inl less)
  | inr (inl same) ↦ elim (differ a b p q) [
    | inl equal ↦ absurd (apart equal)
    | inr (inl first) ↦ inl (inr (same, first))
    | inr (inr second) ↦ inr (inr (sym same, second))
  ]
  | inr (inr more) ↦ inl (inl more)
]

-- equal, or one is preferred
pub compared : (w : Wishes) (a b : List ℕ) → IsAscending a → IsAscending b
    → (a ≡ b) ⊎ (IsPreferred w a b ⊎ IsPreferred w b a)
compared w a b p q = elim (differ a b p q) [
  | inl equal ↦ inl equal
  | inr (inl first) ↦ inr (one_preferred w a b p q (λ e. none_first a b first e))
  | inr (inr second) ↦ inr (one_preferred w a b p q (λ e. none_first b a second (sym e)))
]
  where
    none_first : (a b : List ℕ) → DiffersFirstIn a b → a ≡ b → ⊥
    none_first a b p e = false≢true (sym p.2 ∙ rw (← e) p.1)

pub preferred_trans : (w : Wishes) (a b c : List ℕ) → IsPreferred w a b → IsPreferred w b c
    → IsPreferred w a c
preferred_trans w a b c (inl p) (inl q) = inl (omega (arith, ints))
preferred_trans w a b c (inl p) (inr q) = inl (rw (← q.0) p)
preferred_trans w a b c (inr p) (inl q) = inl (rw p.0 q)
preferred_trans w a b c (inr p) (inr q) = inr (p.0 ∙ q.0, first_trans a b c p.1 q.1)

past_head : (x t : ℕ) → x < t → (x == t) ≡ false
past_head x t low = ne_eqb x t (λ e. absurd (omega arith))

same_below : (x : ℕ) (xs ys : List ℕ) → AllAbove x xs → AllAbove x ys → (s : ℕ)
    → ((t : ℕ) → t < s → has (x ∷ xs) t ≡ has (x ∷ ys) t) → (t : ℕ) → t < s → has xs t ≡ has ys t
same_below x xs ys above above' s all t low = elim (cases_lt x t) [
  | inl past ↦ rw (past_head x t past) at (all t low)
  | inr before ↦ none_below x xs above t before ∙ sym (none_below x ys above' t before)
]

-- under one head the rests decide
pub same_head : (x : ℕ) (xs ys : List ℕ) → AllAbove x xs → AllAbove x ys
    → DiffersFirstIn xs ys ↔ DiffersFirstIn (x ∷ xs) (x ∷ ys)
same_head x xs ys above above' = (under_head x xs ys above, back)
  where
    back : DiffersFirstIn (x ∷ xs) (x ∷ ys) → DiffersFirstIn xs ys
    back d =
        let past : x < d.0 = elim (cases_order x d.0) [
          | inl same ↦ absurd (false≢true (sym d.2 ∙ or_left (x == d.0) (has ys d.0) (eq-eqb x d.0 same)))
          | inr (inl low) ↦ low
          | inr (inr high) ↦ absurd (false≢true (sym (below_head x xs above d.0 high) ∙ d.1))
        ] in
        let apart = past_head x d.0 past in (d.0, rw apart at d.1, rw apart at d.2, same_below x xs ys above above' d.0 d.3)

-- and of different heads the lower decides
pub other_head : (x : ℕ) (xs : List ℕ) (y : ℕ) (ys : List ℕ) → AllAbove x xs → AllAbove y ys → x ≢ y
    → (x < y) ↔ DiffersFirstIn (x ∷ xs) (y ∷ ys)
other_head x xs y ys above above' apart = (first, back)
  where
    first : x < y → DiffersFirstIn (x ∷ xs) (y ∷ ys)
    first low = head_first x xs (y ∷ ys) above (λ t at. below_head y ys above' t (omega arith))

    back : DiffersFirstIn (x ∷ xs) (y ∷ ys) → x < y
    back d = elim (cases_order x y) [
      | inl same ↦ absurd (apart same)
      | inr (inl low) ↦ low
      | inr (inr high) ↦ absurd (not_both_first (y ∷ ys) (x ∷ xs) (head_first y ys (x ∷ xs) above' (λ t at. below_head x xs above t (omega arith))) d)
    ]

pub longer_first : (x : ℕ) (xs : List ℕ) → AllAbove x xs → DiffersFirstIn (x ∷ xs) []
longer_first x xs above = head_first x xs [] above (λ t low. refl)
