-- An ascending set with one section more or less.
use Rattle.std.proofs.Common.{ℕ, suc, ◌≡◌, ◌≢◌, ◌<◌, ◌≤◌, ◌+◌, ◌++◌, ◌==◌, ◌||◌, ◌&&◌, ◌∙◌, Bool, true, false, not, List, [], ◌∷◌, length, take, drop, arith, refl, sym, ap, subst, inl, inr}
use Rattle.std.specs.Prelude.{nat_lt, nat_le}
use Rattle.std.specs.List.{filter}
use Rattle.std.proofs.lemmas.Bool.{cases_Bool, cases_lt, cases_order, le-ltb, lt-ltb, le-leb, lt-leb, ltb-true, eq-eqb, ne_eqb, eqb-true, false≢true, or_parts}
use Rattle.market_units.specs.declared.units.SectionNo.{SectionNo}
use Rattle.market_units.specs.Members.{has}
use Rattle.bundle_rules.specs.Sets.{AllAbove, IsAscending, without_section}
use Rattle.bundle_rules.specs.Ordinals.{ordinals}
use Rattle.bundle_rules.specs.Existence.Members.{has-above}
use Rattle.dropadd_desk.specs.Sets.{place_in, with_section}
use Rattle.bundle_rules.proofs.Ascents.{above_all}

-- nothing above a section that is not below another is below it
none_lower : (s x : ℕ) (xs : List ℕ) → s ≤ x → AllAbove x xs → filter (λ t. nat_lt t s) xs ≡ []
none_lower s x [] low above = refl
none_lower s x (y ∷ ys) low above =
    let h : x < y = above.0 in
    let test : nat_lt y s ≡ false = le-ltb y s (omega arith) in
    rw test (none_lower s x ys low above.1)

-- all above a section that is not below another are above it
all_higher : (s x : ℕ) (xs : List ℕ) → s ≤ x → AllAbove x xs → filter (λ t. nat_lt s t) xs ≡ xs
all_higher s x [] low above = refl
all_higher s x (y ∷ ys) low above =
    let h : x < y = above.0 in
    let test : nat_lt s y ≡ true = lt-ltb s y (omega arith) in
    rw test (ap (λ l. y ∷ l) (all_higher s x ys low above.1))

-- all above a section are other ones
all_other : (x : ℕ) (xs : List ℕ) → AllAbove x xs → filter (λ t. not (t == x)) xs ≡ xs
all_other x [] above = refl
all_other x (y ∷ ys) above =
    let h : x < y = above.0 in
    let test : (y == x) ≡ false = ne_eqb y x (λ e. omega arith) in
    rw test (ap (λ l. y ∷ l) (all_other x ys above.1))

next_place : (n : ℕ) → 1 + n ≡ suc n
next_place n = omega arith

-- the lower ones stand in front
pub lower_part : (s : ℕ) (xs : List SectionNo) → IsAscending (ordinals xs) → ordinals (take (place_in s xs) xs) ≡ filter (λ t. nat_lt t s) (ordinals xs)
lower_part s [] up = refl
lower_part s (x ∷ xs) up = elim (cases_lt x.0 s) [
  | inl low ↦
      let test : nat_lt x.0 s ≡ true = lt-ltb x.0 s low in
      let at_place : nat_le s x.0 ≡ false = lt-leb s x.0 low in rw (test, at_place, next_place (place_in s xs)) (ap (λ l. x.0 ∷ l) (lower_part s xs up.1))
  | inr high ↦
      let test : nat_lt x.0 s ≡ false = le-ltb x.0 s high in
      let at_place : nat_le s x.0 ≡ true = le-leb s x.0 high in rw (test, at_place) (sym (none_lower s x.0 (ordinals xs) high up.0))
]

-- and the higher ones behind, where the section is not there
pub higher_part : (s : ℕ) (xs : List SectionNo) → IsAscending (ordinals xs) → has (ordinals xs) s ≡ false
    → ordinals (drop (place_in s xs) xs) ≡ filter (λ t. nat_lt s t) (ordinals xs)
higher_part s [] up lacks = refl
higher_part s (x ∷ xs) up lacks =
    let parts = or_parts (x.0 == s) (has (ordinals xs) s) lacks in
    elim (cases_lt x.0 s) [
      | inl low ↦
          let test : nat_lt x.0 s ≡ true = lt-ltb x.0 s low in let at_place : nat_le s x.0 ≡ false = lt-leb s x.0 low in
          let not_higher : nat_lt s x.0 ≡ false = le-ltb s x.0 (omega arith) in
          rw (at_place, not_higher, next_place (place_in s xs)) (higher_part s xs up.1 parts.1)
      | inr high ↦
          let test : nat_lt x.0 s ≡ false = le-ltb x.0 s high in let at_place : nat_le s x.0 ≡ true = le-leb s x.0 high in
          let apart : x.0 ≢ s = λ e. false≢true (sym parts.0 ∙ eq-eqb x.0 s e) in
          let higher : nat_lt s x.0 ≡ true =
          lt-ltb s x.0
          (elim (cases_order s x.0) [ inl same ↦ absurd (apart (sym same)) | inr (inl below) ↦ below | inr (inr above) ↦ absurd (omega arith) ]) in
          rw (at_place, higher) (ap (λ l. x.0 ∷ l) (sym (all_higher s x.0 (ordinals xs) high up.0)))
    ]

-- where it is there, it stands between them
pub other_parts : (s : ℕ) (xs : List SectionNo) → IsAscending (ordinals xs) → has (ordinals xs) s ≡ true
    → ordinals (take (place_in s xs) xs) ++ ordinals (drop (place_in s xs + 1) xs) ≡ without_section s (ordinals xs)
other_parts s [] up is = absurd (false≢true is)
other_parts s (x ∷ xs) up is = elim (cases_lt x.0 s) [
  | inl low ↦
      let test : nat_lt x.0 s ≡ true = lt-ltb x.0 s low in let at_place : nat_le s x.0 ≡ false = lt-leb s x.0 low in
      let other : (x.0 == s) ≡ false = ne_eqb x.0 s (λ e. omega arith) in
      let there : has (ordinals xs) s ≡ true = rw other at is in
      let one : 1 + place_in s xs ≡ suc (place_in s xs) = next_place (place_in s xs) in
      let two : suc (place_in s xs) + 1 ≡ suc (place_in s xs + 1) = omega arith in
      rw (at_place, other, one, two) (ap (λ l. x.0 ∷ l) (other_parts s xs up.1 there))
  | inr high ↦
      let test : nat_lt x.0 s ≡ false = le-ltb x.0 s high in let at_place : nat_le s x.0 ≡ true = le-leb s x.0 high in
      elim (cases_Bool (x.0 == s)) [
        | inl here ↦
            let same : x.0 ≡ s = eqb-true x.0 s here in
            let one : 0 + 1 ≡ suc 0 = omega arith in
            rw (at_place, here) (sym (subst (λ n. filter (λ t. not (t == n)) (ordinals xs) ≡ ordinals xs) same (all_other x.0 (ordinals xs) up.0)))
        | inr apart ↦
            let there : has (ordinals xs) s ≡ true = rw apart at is in
            let above : x.0 < s = has-above x.0 (ordinals xs) s up.0 there in
            absurd (omega arith)
      ]
]

-- the place is among these where the section is there
pub place_within : (s : ℕ) (xs : List SectionNo) → IsAscending (ordinals xs) → has (ordinals xs) s ≡ true → place_in s xs < length xs
place_within s [] up is = absurd (false≢true is)
place_within s (x ∷ xs) up is = elim (cases_lt x.0 s) [
  | inl low ↦
      let test : nat_lt x.0 s ≡ true = lt-ltb x.0 s low in let at_place : nat_le s x.0 ≡ false = lt-leb s x.0 low in
      let other : (x.0 == s) ≡ false = ne_eqb x.0 s (λ e. omega arith) in
      let there : has (ordinals xs) s ≡ true = rw other at is in
      let rest = place_within s xs up.1 there in
      rw at_place (omega arith)
  | inr high ↦ let test : nat_lt x.0 s ≡ false = le-ltb x.0 s high in let at_place : nat_le s x.0 ≡ true = le-leb s x.0 high in rw at_place (omega arith)
]

-- sets stay ascending
above_lower : (x s : ℕ) (xs : List ℕ) → AllAbove x xs → AllAbove x (filter (λ t. nat_lt t s) xs)
above_lower x s [] above = tt
above_lower x s (y ∷ ys) above = elim (cases_Bool (nat_lt y s)) [
  | inl is ↦ rw is (above.0, above_lower x s ys above.1)
  | inr no_more ↦ rw no_more (above_lower x s ys above.1)
]

above_joined : (x : ℕ) (xs ys : List ℕ) → AllAbove x xs → AllAbove x ys → AllAbove x (xs ++ ys)
above_joined x [] ys above more = more
above_joined x (z ∷ zs) ys above more = (above.0, above_joined x zs ys above.1 more)

above_higher : (s : ℕ) (xs : List ℕ) → AllAbove s (filter (λ t. nat_lt s t) xs)
above_higher s [] = tt
above_higher s (y ∷ ys) = elim (cases_Bool (nat_lt s y)) [
  | inl is ↦ rw is (ltb-true s y is, above_higher s ys)
  | inr no_more ↦ rw no_more (above_higher s ys)
]

higher_ascends : (s : ℕ) (xs : List ℕ) → IsAscending xs → IsAscending (filter (λ t. nat_lt s t) xs)
higher_ascends s [] up = tt
higher_ascends s (y ∷ ys) up = elim (cases_Bool (nat_lt s y)) [
  | inl is ↦ rw is (above_of_filter y s ys up.0, higher_ascends s ys up.1)
  | inr no_more ↦ rw no_more (higher_ascends s ys up.1)
]
  where
    above_of_filter : (y s : ℕ) (ys : List ℕ) → AllAbove y ys → AllAbove y (filter (λ t. nat_lt s t) ys)
    above_of_filter y s [] above = tt
    above_of_filter y s (z ∷ zs) above = elim (cases_Bool (nat_lt s z)) [
      | inl is ↦ rw is (above.0, above_of_filter y s zs above.1)
      | inr no_more ↦ rw no_more (above_of_filter y s zs above.1)
    ]

pub with_ascends : (s : ℕ) (xs : List ℕ) → IsAscending xs → IsAscending (with_section s xs)
with_ascends s xs up = joined xs up
  where
    joined : (ys : List ℕ) → IsAscending ys → IsAscending (filter (λ t. nat_lt t s) ys ++ s ∷ filter (λ t. nat_lt s t) xs)
    joined [] up' = (above_higher s xs, higher_ascends s xs up)
    joined (y ∷ ys) up' = elim (cases_Bool (nat_lt y s)) [
      | inl is ↦
          let low : y < s = ltb-true y s is in
          rw is (
            above_joined y (filter (λ t. nat_lt t s) ys) (s ∷ filter (λ t. nat_lt s t) xs) (above_lower y s ys up'.0)
                (low, above_all y s (filter (λ t. nat_lt s t) xs) low (above_higher s xs)),
            joined ys up'.1,
          )
      | inr no_more ↦ rw no_more (joined ys up'.1)
    ]

-- what is in them
has-append : (xs ys : List ℕ) (t : ℕ) → has (xs ++ ys) t ≡ (has xs t || has ys t)
has-append [] ys t = refl
has-append (x ∷ xs) ys t = elim (cases_Bool (x == t)) [
  | inl here ↦ rw here refl
  | inr other ↦ rw other (has-append xs ys t)
]

has-lower : (s : ℕ) (xs : List ℕ) (t : ℕ) → has (filter (λ u. nat_lt u s) xs) t ≡ (nat_lt t s && has xs t)
has-lower s [] t = elim (cases_Bool (nat_lt t s)) [ inl is ↦ rw is refl | inr other ↦ rw other refl ]
has-lower s (x ∷ xs) t = elim (cases_Bool (x == t)) [
  | inl here ↦
      let same : x ≡ t = eqb-true x t here in
      elim (cases_Bool (nat_lt t s)) [
        | inl is ↦ let is' : nat_lt x s ≡ true = ap (λ n. nat_lt n s) same ∙ is in rw (is', here, is) refl
        | inr other ↦ let other' : nat_lt x s ≡ false = ap (λ n. nat_lt n s) same ∙ other in rw other' (has-lower s xs t ∙ rw other refl)
      ]
  | inr apart ↦ elim (cases_Bool (nat_lt x s)) [
    | inl is ↦ rw (is, apart) (has-lower s xs t)
    | inr other ↦ rw (other, apart) (has-lower s xs t)
  ]
]

has-higher : (s : ℕ) (xs : List ℕ) (t : ℕ) → has (filter (λ u. nat_lt s u) xs) t ≡ (nat_lt s t && has xs t)
has-higher s [] t = elim (cases_Bool (nat_lt s t)) [ inl is ↦ rw is refl | inr other ↦ rw other refl ]
has-higher s (x ∷ xs) t = elim (cases_Bool (x == t)) [
  | inl here ↦
      let same : x ≡ t = eqb-true x t here in
      elim (cases_Bool (nat_lt s t)) [
        | inl is ↦ let is' : nat_lt s x ≡ true = ap (nat_lt s) same ∙ is in rw (is', here, is) refl
        | inr other ↦ let other' : nat_lt s x ≡ false = ap (nat_lt s) same ∙ other in rw other' (has-higher s xs t ∙ rw other refl)
      ]
  | inr apart ↦ elim (cases_Bool (nat_lt s x)) [
    | inl is ↦ rw (is, apart) (has-higher s xs t)
    | inr other ↦ rw (other, apart) (has-higher s xs t)
  ]
]

pub has-with : (s : ℕ) (xs : List ℕ) (t : ℕ) → has (with_section s xs) t ≡ (s == t || has xs t)
has-with s xs t =
    has-append (filter (λ u. nat_lt u s) xs) (s ∷ filter (λ u. nat_lt s u) xs) t
    ∙ ap (λ b. b || (s == t || has (filter (λ u. nat_lt s u) xs) t)) (has-lower s xs t)
    ∙ ap (λ b. (nat_lt t s && has xs t) || (s == t || b)) (has-higher s xs t)
    ∙ elim (cases_order s t) [
      | inl same ↦ let here : (s == t) ≡ true = eq-eqb s t same in let low : nat_lt t s ≡ false = le-ltb t s (omega arith) in rw (here, low) refl
      | inr (inl below) ↦
          let apart : (s == t) ≡ false = ne_eqb s t (λ e. omega arith) in
          let low : nat_lt t s ≡ false = le-ltb t s (omega arith) in
          let high : nat_lt s t ≡ true = lt-ltb s t below in
          rw (apart, low, high) refl
      | inr (inr above) ↦
          let apart : (s == t) ≡ false = ne_eqb s t (λ e. omega arith) in
          let low : nat_lt t s ≡ true = lt-ltb t s above in
          let high : nat_lt s t ≡ false = le-ltb s t (omega arith) in
          rw (apart, low, high) (or_false (has xs t))
    ]
  where
    or_false : (b : Bool) → (b || false) ≡ b
    or_false true = refl
    or_false false = refl

pub has-without : (s : ℕ) (xs : List ℕ) (t : ℕ) → has (without_section s xs) t ≡ (not (s == t) && has xs t)
has-without s [] t = elim (cases_Bool (s == t)) [ inl is ↦ rw is refl | inr other ↦ rw other refl ]
has-without s (x ∷ xs) t = elim (cases_Bool (x == s)) [
  | inl here ↦
      let same : x ≡ s = eqb-true x s here in
      elim (cases_Bool (s == t)) [
        | inl is ↦ rw here (has-without s xs t ∙ rw is refl)
        | inr other ↦ let other' : (x == t) ≡ false = ap (λ n. n == t) same ∙ other in rw (here, other') (has-without s xs t)
      ]
  | inr apart ↦ elim (cases_Bool (x == t)) [
    | inl is ↦
        let same : x ≡ t = eqb-true x t is in
        let other : (s == t) ≡ false = ne_eqb s t (λ e. false≢true (sym apart ∙ eq-eqb x s (same ∙ sym e))) in
        rw (apart, is, other) refl
    | inr other ↦ rw (apart, other) (has-without s xs t)
  ]
]

-- how many sections they have
pub length-with : (s : ℕ) (xs : List ℕ) → length (with_section s xs) ≤ length xs + 1
length-with s xs =
    let joined : length (with_section s xs) ≡ length (filter (λ t. nat_lt t s) xs) + (length (filter (λ t. nat_lt s t) xs) + 1) =
    joined_length (filter (λ t. nat_lt t s) xs) (filter (λ t. nat_lt s t) xs) in
    let most = both_parts xs in omega arith
  where
    joined_length : (front back : List ℕ) → length (front ++ s ∷ back) ≡ length front + (length back + 1)
    joined_length [] back = omega arith
    joined_length (x ∷ front) back = omega (arith, joined_length front back)

    both_parts : (ys : List ℕ) → length (filter (λ t. nat_lt t s) ys) + length (filter (λ t. nat_lt s t) ys) ≤ length ys
    both_parts [] = omega arith
    both_parts (y ∷ ys) = elim (cases_lt y s) [
      | inl low ↦
          let test : nat_lt y s ≡ true = lt-ltb y s low in
          let test' : nat_lt s y ≡ false = le-ltb s y (omega arith) in
          let rest = both_parts ys in
          rw (test, test') (omega arith)
      | inr high ↦ let test : nat_lt y s ≡ false = le-ltb y s high in let rest = both_parts ys in elim (cases_Bool (nat_lt s y)) [
        | inl is ↦ rw (test, is) (omega arith)
        | inr other ↦ rw (test, other) (omega arith)
      ]
    ]

above_without : (x s : ℕ) (xs : List ℕ) → AllAbove x xs → AllAbove x (without_section s xs)
above_without x s [] above = tt
above_without x s (y ∷ ys) above = elim (cases_Bool (y == s)) [
  | inl is ↦ rw is (above_without x s ys above.1)
  | inr other ↦ rw other (above.0, above_without x s ys above.1)
]

pub without_ascends : (s : ℕ) (xs : List ℕ) → IsAscending xs → IsAscending (without_section s xs)
without_ascends s [] up = tt
without_ascends s (y ∷ ys) up = elim (cases_Bool (y == s)) [
  | inl is ↦ rw is (without_ascends s ys up.1)
  | inr other ↦ rw other (above_without y s ys up.0, without_ascends s ys up.1)
]

pub length-without : (s : ℕ) (xs : List ℕ) → length (without_section s xs) ≤ length xs
length-without s [] = omega arith
length-without s (x ∷ xs) = let rest = length-without s xs in elim (cases_Bool (x == s)) [
  | inl is ↦ rw is (omega arith)
  | inr other ↦ rw other (omega arith)
]
