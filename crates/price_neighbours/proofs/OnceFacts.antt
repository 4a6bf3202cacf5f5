-- Each item once.
use Rattle.std.proofs.Common.{ℕ, zero, suc, ◌<◌, ◌≡◌, ◌∙◌, ◌++◌, Bool, true, false, not, cond, ◌||◌, List, [], ◌∷◌, length, get_or, refl, sym, ap, inl, inr, arith}
use Rattle.std.specs.Prelude.{filter, All}
use Rattle.std.specs.List.{list_any}
use Rattle.std.specs.Cmp.{IsEquivalence}
use Rattle.std.proofs.lemmas.Bool.{cases_Bool, true≢false}
use Rattle.std.proofs.lemmas.List.{append-nil}
use Rattle.std.proofs.lemmas.List.Elements.{filter-append, All-weaker, All-nil, All-cons, All-head, All-tail, All-filter, filter_passes}
use Rattle.price_neighbours.specs.Distinct.{once}

module _ {A : Type 0} (same : A → A → Bool) (equal : IsEquivalence same) where
  -- among the others without one item are the others
  any-without : (x y : A) (xs : List A) → same x y ≡ false → list_any (same x) (filter (λ other. not (same y other)) xs) ≡ list_any (same x) xs
  any-without x y [] apart = refl
  any-without x y (z ∷ zs) apart = elim (cases_Bool (same y z)) [
    | inl here ↦
        let there : same x z ≡ false = (equal.symm x z ∙ (sym (equal.congr y z x here) ∙ equal.symm y x)) ∙ apart in
        rw (here, there) (any-without x y zs apart)
    | inr there ↦ rw there (ap (λ (b : Bool). same x z || b) (any-without x y zs apart))
  ]

  -- the items that stand once are those of the list
  pub any-once : (x : A) (xs : List A) → list_any (same x) (once same xs) ≡ list_any (same x) xs
  any-once x [] = refl
  any-once x (y ∷ ys) = elim (cases_Bool (same x y)) [
    | inl here ↦ rw here refl
    | inr there ↦ rw there (any-without x y (once same ys) there ∙ any-once x ys)
  ]

  snoc-step : (x y : A) (kept : List A) (seen : Bool)
      → x ∷ filter (λ other. not (same x other)) (cond seen kept (kept ++ y ∷ []))
      ≡ cond (same y x || seen) (x ∷ filter (λ other. not (same x other)) kept) (x ∷ filter (λ other. not (same x other)) kept ++ y ∷ [])
  snoc-step x y kept true = elim (cases_Bool (same y x)) [ inl t ↦ rw t refl | inr f ↦ rw f refl ]
  snoc-step x y kept false = elim (cases_Bool (same y x)) [
    | inl t ↦
        let back : same x y ≡ true = equal.symm x y ∙ t in
        rw (filter-append (λ other. not (same x other)) kept (y ∷ []), back, t)
        (ap (λ (rest : List A). x ∷ rest) (append-nil (filter (λ other. not (same x other)) kept)))
    | inr f ↦
        let back : same x y ≡ false = equal.symm x y ∙ f in
        rw (filter-append (λ other. not (same x other)) kept (y ∷ []), back, f) refl
  ]

  -- one more item comes last, unless it stands there
  pub once_more : (xs : List A) (y : A) → once same (xs ++ y ∷ []) ≡ cond (list_any (same y) xs) (once same xs) (once same xs ++ y ∷ [])
  once_more [] y = refl
  once_more (x ∷ xs) y = rw (once_more xs y) (snoc-step x y (once same xs) (list_any (same y) xs))

  pub once_more_seen : (xs : List A) (y : A) → list_any (same y) (once same xs) ≡ true → once same (xs ++ y ∷ []) ≡ once same xs
  once_more_seen xs y seen = let t : list_any (same y) xs ≡ true = sym (any-once y xs) ∙ seen in once_more xs y ∙ rw t refl

  pub once_more_new : (xs : List A) (y : A) → list_any (same y) (once same xs) ≡ false → once same (xs ++ y ∷ []) ≡ once same xs ++ y ∷ []
  once_more_new xs y new = let f : list_any (same y) xs ≡ false = sym (any-once y xs) ∙ new in once_more xs y ∙ rw f refl

-- what holds of all holds of those that stand once
pub All-once : {A : Type 0} (same : A → A → Bool) (P : A → Type 0) (xs : List A) → All P xs → All P (once same xs)
All-once same P [] all = All-nil P
All-once same P (x ∷ xs) all =
    All-cons P x (filter (λ other. not (same x other)) (once same xs)) (All-head P x xs all)
    (All-filter (λ other. not (same x other)) P (once same xs) (All-once same P xs (All-tail P x xs all)))

-- no item is the same as a later one
abbrev pub AreApart : {A : Type 0} → (A → A → Bool) → List A → Type 0
AreApart same [] = Unit {0}
AreApart same (x ∷ xs) = All (λ other. same x other ≡ false) xs × AreApart same xs

apart-filter : {A : Type 0} (same : A → A → Bool) (p : A → Bool) (xs : List A) → AreApart same xs → AreApart same (filter p xs)
apart-filter same p [] apart = tt
apart-filter same p (x ∷ xs) apart = elim (cases_Bool (p x)) [
  | inl t ↦ rw t (All-filter p (λ other. same x other ≡ false) xs apart.0, apart-filter same p xs apart.1)
  | inr f ↦ rw f (apart-filter same p xs apart.1)
]

-- what stands once is apart
pub apart-once : {A : Type 0} (same : A → A → Bool) (xs : List A) → AreApart same (once same xs)
apart-once same [] = tt
apart-once same (x ∷ xs) = (
  All-weaker (λ other. not (same x other) ≡ true) (λ other. same x other ≡ false)
      (λ other not_same. elim (cases_Bool (same x other)) [ inl t ↦ absurd (true≢false (sym not_same ∙ ap not t)) | inr f ↦ f ])
      (filter (λ other. not (same x other)) (once same xs)) (filter_passes (λ other. not (same x other)) (once same xs)),
  apart-filter same (λ other. not (same x other)) (once same xs) (apart-once same xs),
)

-- by places
pub apart_by_place : {A : Type 0} (same : A → A → Bool) (xs : List A) (d : A) (i j : ℕ) → AreApart same xs → i < j → j < length xs
    → same (get_or xs i d) (get_or xs j d) ≡ false
apart_by_place same [] d i j apart below within = absurd (omega arith)
apart_by_place same (x ∷ xs) d i zero apart below within = absurd (omega arith)
apart_by_place same (x ∷ xs) d zero (suc j) apart below within = apart.0 j d (omega arith)
apart_by_place same (x ∷ xs) d (suc i) (suc j) apart below within = apart_by_place same xs d i j apart.1 (omega arith) (omega arith)
