-- Bundles of listed students that are exchanged.
use Rattle.std.proofs.Common.{ℕ, zero, suc, ◌≡◌, ◌≢◌, ◌<◌, ◌≤◌, ◌+◌, ◌==◌, ◌∙◌, ◌⊎◌, true, false, List, [], ◌∷◌, ◌++◌, length, map, take, All, arith, subst, sym, ap, refl, inl, inr}
use Rattle.std.specs.Prelude.{slice_index_or, slice_set}
use Rattle.std.proofs.lemmas.Bool.{cases_Bool, false≢true}
use Rattle.std.proofs.lemmas.Bool.Decides.{nat_tests}
use Rattle.std.proofs.lemmas.List.{get_or-set_same, get_or-set_other, map-set, length-set, length-map, length-append, take_all}
use Rattle.std.proofs.lemmas.List.Elements.{All-append, All-cons}
use Rattle.market_units.specs.declared.units.StudentNo.{StudentNo}
use Rattle.bundle_rules.specs.declared.bundle.Bundle.{Bundle}
use Rattle.bundle_rules.specs.Bundles.{sections_of}
use Rattle.market_units.specs.Members.{has}
use Rattle.own_price.specs.Exchanges.{exchanged, IsListed, AreHolders}

pub exchanged_more : (bundles : List Bundle) (students : List StudentNo) (others : List Bundle) (i : ℕ) (d : StudentNo) (e : Bundle) → i < length students
    → length others ≡ length students
    → exchanged bundles (take (i + 1) students) (take (i + 1) others)
    ≡ slice_set (exchanged bundles (take i students) (take i others)) (slice_index_or students i d).0 (slice_index_or others i e)
exchanged_more bundles [] others i d e low same = absurd (omega arith)
exchanged_more bundles (x ∷ xs) [] i d e low same = absurd (omega arith)
exchanged_more bundles (x ∷ xs) (y ∷ ys) zero d e low same = refl
exchanged_more bundles (x ∷ xs) (y ∷ ys) (suc i) d e low same =
    let one_more : suc i + 1 ≡ suc (i + 1) = omega arith in
    rw one_more (exchanged_more (slice_set bundles x.0 y) xs ys i d e (omega arith) (omega arith))

pub exchanged_length : (bundles : List Bundle) (students : List StudentNo) (others : List Bundle) → length (exchanged bundles students others) ≡ length bundles
exchanged_length bundles [] others = refl
exchanged_length bundles (x ∷ xs) [] = refl
exchanged_length bundles (x ∷ xs) (y ∷ ys) = exchanged_length (slice_set bundles x.0 y) xs ys ∙ length-set bundles x.0 y

pub exchanged_all : (bundles : List Bundle) (students : List StudentNo) (others : List Bundle) (i : ℕ) → length students ≤ i → length others ≡ length students
    → exchanged bundles (take i students) (take i others) ≡ exchanged bundles students others
exchanged_all bundles students others i past same = rw (take_all i students past, take_all i others (rw same past)) refl

-- lists of one length with the same items are the same
lists_same : (xs ys : List (List ℕ)) → length xs ≡ length ys → ((i : ℕ) → i < length ys → slice_index_or xs i [] ≡ slice_index_or ys i []) → xs ≡ ys
lists_same [] [] same each = refl
lists_same [] (y ∷ ys) same each = absurd (omega arith)
lists_same (x ∷ xs) [] same each = absurd (omega arith)
lists_same (x ∷ xs) (y ∷ ys) same each =
    let here : x ≡ y = each 0 (omega arith) in
    let rest : xs ≡ ys = lists_same xs ys (omega arith) (λ i low. each (suc i) (let h : suc i < suc (length ys) = omega arith in h)) in
    ap (λ z. z ∷ xs) here ∙ ap (λ zs. y ∷ zs) rest

-- where each bundle is what is wanted or is exchanged for it, all are what is wanted
pub exchanged_wanted : (wanted : List (List ℕ)) (bundles : List Bundle) (students : List StudentNo) (others : List Bundle)
    → length (map sections_of bundles) ≡ length wanted
    → map sections_of others ≡ map (λ student. slice_index_or wanted student.0 []) students
    → ((i : ℕ) → i < length wanted → (slice_index_or (map sections_of bundles) i [] ≡ slice_index_or wanted i []) ⊎ IsListed i students)
    → map sections_of (exchanged bundles students others) ≡ wanted
exchanged_wanted wanted bundles [] others long told each =
    lists_same (map sections_of bundles) wanted long (λ i low. elim (each i low) [ inl same ↦ same | inr none ↦ absurd none ])
exchanged_wanted wanted bundles (x ∷ xs) [] long told each = absurd cc
exchanged_wanted wanted bundles (x ∷ xs) (y ∷ ys) long told each =
    let first : sections_of y ≡ slice_index_or wanted x.0 [] = cc in
    let rest : map sections_of ys ≡ map (λ student. slice_index_or wanted student.0 []) xs = cc in
    exchanged_wanted wanted (slice_set bundles x.0 y) xs ys
    (length-map (slice_set bundles x.0 y) sections_of ∙ length-set bundles x.0 y ∙ sym (length-map bundles sections_of) ∙ long) rest
    (λ i low. then i low first)
  where
    moved : (i : ℕ)
        → slice_index_or (map sections_of (slice_set bundles x.0 y)) i [] ≡ slice_index_or (slice_set (map sections_of bundles) x.0 (sections_of y)) i []
    moved i = ap (λ bs. slice_index_or bs i []) (map-set sections_of bundles x.0 y)

    then : (i : ℕ) → i < length wanted → sections_of y ≡ slice_index_or wanted x.0 []
        → (slice_index_or (map sections_of (slice_set bundles x.0 y)) i [] ≡ slice_index_or wanted i []) ⊎ IsListed i xs
    then i low first = elim (cases_Bool (i == x.0)) [
      | inl here ↦
          let e : i ≡ x.0 = grind (arith, nat_tests) in
          let low_map : x.0 < length (map sections_of bundles) = rw (long, ← e) low in
          inl
          (moved i ∙ ap (λ k. slice_index_or (slice_set (map sections_of bundles) x.0 (sections_of y)) k []) e
          ∙ get_or-set_same (map sections_of bundles) x.0 (sections_of y) [] low_map ∙ first ∙ ap (λ k. slice_index_or wanted k []) (sym e))
      | inr there ↦
          let apart : i ≢ x.0 = λ e. grind (arith, nat_tests) in
          elim (each i low) [
            | inl same ↦ inl (moved i ∙ get_or-set_other (map sections_of bundles) x.0 i (sections_of y) [] apart ∙ same)
            | inr listed ↦ elim listed [
              | inl is_x ↦ absurd (apart (sym is_x))
              | inr later ↦ inr later
            ]
          ]
    ]

-- a fact of all, and of one more
all_last : {X : Type 0} (P : X → Type 0) (xs : List X) (x : X) → All P xs → P x → All P (xs ++ x ∷ [])
all_last P xs x all is = All-append P xs (x ∷ []) all (All-cons P x [] is (λ i d low. absurd (omega arith)))

-- holders among the first students
pub record AreHoldersBelow (s : ℕ) (bundles : List (List ℕ)) (place : ℕ) (students : List StudentNo) : Type 0 where
  pub few : length students ≤ place
  pub range : All (λ student. student.0 < length bundles) students
  pub all : (i : ℕ) → i < place → has (slice_index_or bundles i []) s ≡ true → IsListed i students
  pub only : All (λ student. has (slice_index_or bundles student.0 []) s ≡ true) students

listed_before : (i : ℕ) (students : List StudentNo) (last : StudentNo) → IsListed i students → IsListed i (students ++ last ∷ [])
listed_before i [] last none = absurd none
listed_before i (x ∷ xs) last is = elim is [
  | inl here ↦ inl here
  | inr there ↦ inr (listed_before i xs last there)
]

listed_last : (i : ℕ) (students : List StudentNo) (last : StudentNo) → last.0 ≡ i → IsListed i (students ++ last ∷ [])
listed_last i [] last is = inl is
listed_last i (x ∷ xs) last is = inr (listed_last i xs last is)

pub holder_more : (s : ℕ) (bundles : List (List ℕ)) (place : ℕ) (students later : List StudentNo) (last : StudentNo) → AreHoldersBelow s bundles place students
    → place < length bundles → last.0 ≡ place → has (slice_index_or bundles place []) s ≡ true → later ≡ students ++ last ∷ []
    → AreHoldersBelow s bundles (place + 1) later
holder_more s bundles place students later last are low at has_it more = rw more record {
  few = let few : length students ≤ place = are.few in let long = length-append students (last ∷ []) in omega (arith, few, long);
  range = all_last (λ student. student.0 < length bundles) students last are.range (rw at low);
  all = λ i below is. elim (cases_Bool (i == place)) [
    | inl here ↦ listed_last i students last (let e : i ≡ place = grind (arith, nat_tests) in at ∙ sym e)
    | inr there ↦
        listed_before i students last (are.all i (let apart : i ≢ place = λ e. grind (arith, nat_tests) in let less : i < place + 1 = below in grind arith) is)
  ];
  only = all_last (λ student. has (slice_index_or bundles student.0 []) s ≡ true) students last are.only (rw at has_it);
}

pub holder_none : (s : ℕ) (bundles : List (List ℕ)) (place : ℕ) (students : List StudentNo) → AreHoldersBelow s bundles place students
    → has (slice_index_or bundles place []) s ≡ false → AreHoldersBelow s bundles (place + 1) students
holder_none s bundles place students are lacks = record {
  few = let few : length students ≤ place = are.few in omega arith;
  range = are.range;
  all = λ i below is. elim (cases_Bool (i == place)) [
    | inl here ↦ let e : i ≡ place = grind (arith, nat_tests) in absurd (false≢true (sym lacks ∙ subst (λ k. has (slice_index_or bundles k []) s ≡ true) e is))
    | inr there ↦ are.all i (let apart : i ≢ place = λ e. grind (arith, nat_tests) in let less : i < place + 1 = below in grind arith) is
  ];
  only = are.only;
}

pub holders_found : (s : ℕ) (bundles : List (List ℕ)) (place n : ℕ) (students : List StudentNo) → n ≡ length bundles → place ≡ n
    → AreHoldersBelow s bundles place students → AreHolders s bundles students
holders_found s bundles place n students long past are =
    let e : place ≡ length bundles = past ∙ long in
    record { few = subst (λ m. length students ≤ m) e are.few; range = are.range; all = λ i low is. are.all i (rw e low) is; only = are.only }
