-- The first occurrences in a list of names, and the places of names.
use Rattle.std.proofs.Common.{ℕ, ◌+◌, ◌≡◌, ◌∙◌, ◌++◌, Bool, true, false, not, cond, ◌||◌, List, [], ◌∷◌, eqb, refl, sym, ap, inl, inr, arith}
use Rattle.std.specs.Prelude.{filter}
use Rattle.std.specs.List.{list_any, position_or_len}
use Rattle.std.specs.Str.{bytes_eq}
use Rattle.std.proofs.lemmas.Bool.{cases_Bool}
use Rattle.std.proofs.lemmas.Bool.Decides.{same_from_decides, Decides-eqb}
use Rattle.std.proofs.lemmas.List.{append-nil}
use Rattle.std.proofs.lemmas.List.Elements.{filter-append}
use Rattle.std.proofs.lemmas.Slice.Eq.{bytes_eq-Decides}
use Rattle.plain_facts.proofs.Lists.{bytes_eq-other_way}
use Rattle.course_catalog.specs.Courses.{first_occurrences}

pub bytes_eq-same : (x y : List ℕ) → bytes_eq x y ≡ true → x ≡ y
bytes_eq-same x y t = (bytes_eq-Decides x y).0 t

pub same-bytes_eq : (x y : List ℕ) → x ≡ y → bytes_eq x y ≡ true
same-bytes_eq x y e = (bytes_eq-Decides x y).1 e

-- among the first occurrences without one name are the others
any-without : (x y : List ℕ) (names : List (List ℕ)) → bytes_eq x y ≡ false
    → list_any (bytes_eq x) (filter (λ other. not (bytes_eq y other)) names) ≡ list_any (bytes_eq x) names
any-without x y [] differ = refl
any-without x y (n ∷ ns) differ = elim (cases_Bool (bytes_eq y n)) [
  | inl t ↦
      let no : bytes_eq x n ≡ false = rw (← bytes_eq-same y n t) differ in
      rw (t, no) (any-without x y ns differ)
  | inr f ↦ rw f (ap (λ (b : Bool). bytes_eq x n || b) (any-without x y ns differ))
]

-- the first occurrences have the names of the list
pub any-first_occurrences : (x : List ℕ) (names : List (List ℕ)) → list_any (bytes_eq x) (first_occurrences names) ≡ list_any (bytes_eq x) names
any-first_occurrences x [] = refl
any-first_occurrences x (n ∷ ns) = elim (cases_Bool (bytes_eq x n)) [
  | inl t ↦ rw t refl
  | inr f ↦ rw f (any-without x n (first_occurrences ns) f ∙ any-first_occurrences x ns)
]

snoc-step : (x y : List ℕ) (firsts : List (List ℕ)) (seen : Bool)
    → x ∷ filter (λ other. not (bytes_eq x other)) (cond seen firsts (firsts ++ y ∷ []))
    ≡ cond (bytes_eq y x || seen) (x ∷ filter (λ other. not (bytes_eq x other)) firsts) (x ∷ filter (λ other. not (bytes_eq x other)) firsts ++ y ∷ [])
snoc-step x y firsts true = elim (cases_Bool (bytes_eq y x)) [ inl t ↦ rw t refl | inr f ↦ rw f refl ]
snoc-step x y firsts false = elim (cases_Bool (bytes_eq y x)) [
  | inl t ↦
      let back : bytes_eq x y ≡ true = bytes_eq-other_way x y ∙ t in
      rw (filter-append (λ other. not (bytes_eq x other)) firsts (y ∷ []), back, t)
      (ap (λ (rest : List (List ℕ)). x ∷ rest) (append-nil (filter (λ other. not (bytes_eq x other)) firsts)))
  | inr f ↦
      let back : bytes_eq x y ≡ false = bytes_eq-other_way x y ∙ f in
      rw (filter-append (λ other. not (bytes_eq x other)) firsts (y ∷ []), back, f) refl
]

-- one more name comes last, unless it occurred
pub first_occurrences-snoc : (names : List (List ℕ)) (y : List ℕ)
    → first_occurrences (names ++ y ∷ []) ≡ cond (list_any (bytes_eq y) names) (first_occurrences names) (first_occurrences names ++ y ∷ [])
first_occurrences-snoc [] y = refl
first_occurrences-snoc (x ∷ names) y = rw (first_occurrences-snoc names y) (snoc-step x y (first_occurrences names) (list_any (bytes_eq y) names))

-- a name that is there, or comes last, has its place after one more
pub position_or_len-snoc : (p : List ℕ → Bool) (xs : List (List ℕ)) (y : List ℕ) → (list_any p xs || p y) ≡ true
    → position_or_len p (xs ++ y ∷ []) ≡ position_or_len p xs
position_or_len-snoc p [] y found = rw found refl
position_or_len-snoc p (x ∷ xs) y found = elim (cases_Bool (p x)) [
  | inl t ↦ rw t refl
  | inr f ↦ rw f (ap (λ k. 1 + k) (position_or_len-snoc p xs y (rw f at found)))
]

-- two names of the list with one place are equal
pub same_place : (names : List (List ℕ)) (x y : List ℕ) → list_any (bytes_eq x) names ≡ true → list_any (bytes_eq y) names ≡ true
    → position_or_len (bytes_eq x) names ≡ position_or_len (bytes_eq y) names → x ≡ y
same_place [] x y has_x has_y e = absurd (cc)
same_place (n ∷ ns) x y has_x has_y e = elim (cases_Bool (bytes_eq x n)) [
  | inl t ↦ elim (cases_Bool (bytes_eq y n)) [
    | inl u ↦ bytes_eq-same x n t ∙ sym (bytes_eq-same y n u)
    | inr g ↦ let d : 0 ≡ 1 + position_or_len (bytes_eq y) ns = rw (t, g) at e in absurd (omega arith)
  ]
  | inr f ↦ elim (cases_Bool (bytes_eq y n)) [
    | inl u ↦ let d : 1 + position_or_len (bytes_eq x) ns ≡ 0 = rw (f, u) at e in absurd (omega arith)
    | inr g ↦ let d : 1 + position_or_len (bytes_eq x) ns ≡ 1 + position_or_len (bytes_eq y) ns = rw (f, g) at e in
        same_place ns x y (rw f at has_x) (rw g at has_y) (omega arith)
  ]
]

-- names of the list are equal where their places are
pub same_number : (names : List (List ℕ)) (x y : List ℕ) → list_any (bytes_eq x) names ≡ true → list_any (bytes_eq y) names ≡ true
    → eqb (position_or_len (bytes_eq x) names) (position_or_len (bytes_eq y) names) ≡ bytes_eq x y
same_number names x y has_x has_y =
    let places = Decides-eqb (position_or_len (bytes_eq x) names) (position_or_len (bytes_eq y) names) in
    same_from_decides (eqb (position_or_len (bytes_eq x) names) (position_or_len (bytes_eq y) names)) (bytes_eq x y) places
    (λ t. ap (λ (n : List ℕ). position_or_len (bytes_eq n) names) (bytes_eq-same x y t), λ e. same-bytes_eq x y (same_place names x y has_x has_y e))
