-- A table of the adjustments of each two places.
use Rattle.std.proofs.Common.{◌≡◌, ◌≢◌, ◌<◌, ◌≤◌, ◌+◌, ◌*◌, ◌==◌, ◌&&◌, ◌||◌, ◌⊎◌, ℕ, suc, ℤ, pos, negsuc, ◌≤ℤ◌, All, true, false, List, [], ◌∷◌, length, get_or, set, length-set, arith, refl, ap, subst, sym, ◌∙◌, inl, inr, get_or-set_same, get_or-set_other}
use Rattle.std.proofs.Math.Nat.{mul-le-mul_right, add-mul}
use Rattle.std.proofs.lemmas.Int.{ints}
use Rattle.std.proofs.lemmas.List.{get_or_read}
use Rattle.std.proofs.lemmas.Nat.{mul-add-lt}
use Rattle.std.proofs.lemmas.Bool.{cases_order, cases_Bool}
use Rattle.std.proofs.lemmas.Bool.Decides.{nat_tests}
use Rattle.bundle_rules.specs.Menus.{MenuData, adjustment_in, IsPair}
use Rattle.bundle_rules.specs.Kept.{IsTable, IsKept}

below_row : (p a b x y : ℕ) → y < p → x < a → x * p + y < a * p + b
below_row p a b x y col low =
    let more : (x + 1) * p ≤ a * p = mul-le-mul_right p (let h : x + 1 ≤ a = omega arith in h) in
    let split : (x + 1) * p ≡ x * p + 1 * p = add-mul x 1 p in
    omega arith

-- each pair is one of two places, by cases on the list
abbrev pub AllPairs : ℕ → List (ℕ × ℕ × ℤ) → Type 0
AllPairs places [] = Unit {0}
AllPairs places (pair ∷ pairs) = IsPair places pair × AllPairs places pairs

pub all_pairs : (places : ℕ) (pairs : List (ℕ × ℕ × ℤ)) → All (IsPair places) pairs → AllPairs places pairs
all_pairs places [] all = tt
all_pairs places (pair ∷ pairs) all =
    (all 0 pair (omega arith), all_pairs places pairs (λ k d low. all (suc k) d (let h : suc k < suc (length pairs) = omega arith in h)))

-- two places of the table are one only where row and column are
pub same_place : (p a b x y : ℕ) → b < p → y < p → x * p + y ≡ a * p + b → (x ≡ a) × (y ≡ b)
same_place p a b x y col col' same =
    elim (cases_order x a) [
      | inl e ↦ let row : x * p ≡ a * p = ap (λ n. n * p) e in (e, omega arith)
      | inr (inl low) ↦ let h : x * p + y < a * p + b = below_row p a b x y col' low in absurd (omega arith)
      | inr (inr high) ↦ let h : a * p + b < x * p + y = below_row p x y a b col high in absurd (omega arith)
    ]

-- what stands at the two places after one value was written at both
written_second : (t : List ℤ) (i j k : ℕ) (v : ℤ) → k ≡ j → j < length (set t i v) → get_or (set (set t i v) j v) k (pos 0) ≡ v
written_second t i j k v at low = rw at (get_or-set_same (set t i v) j v (pos 0) low)

written_first : (t : List ℤ) (i j k : ℕ) (v : ℤ) → k ≡ i → i < length t → j < length (set t i v) → get_or (set (set t i v) j v) k (pos 0) ≡ v
written_first t i j k v at low low' =
    elim (cases_order k j) [
      | inl e ↦ written_second t i j k v e low'
      | inr (inl below) ↦ get_or-set_other (set t i v) j k v (pos 0) (let h : k ≢ j = omega arith in h) ∙ rw at (get_or-set_same t i v (pos 0) low)
      | inr (inr above) ↦ get_or-set_other (set t i v) j k v (pos 0) (let h : k ≢ j = omega arith in h) ∙ rw at (get_or-set_same t i v (pos 0) low)
    ]

named_either : (pair : ℕ × ℕ × ℤ) (a b : ℕ) → ((pair.0 == a && pair.1 == b) || (pair.0 == b && pair.1 == a)) ≡ true
    → ((pair.0 ≡ a) × (pair.1 ≡ b)) ⊎ ((pair.0 ≡ b) × (pair.1 ≡ a))
named_either pair a b t = grind (arith, nat_tests)

named_not : (pair : ℕ × ℕ × ℤ) (a b : ℕ) → ((pair.0 == a && pair.1 == b) || (pair.0 == b && pair.1 == a)) ≡ false
    → (((pair.0 ≡ a) × (pair.1 ≡ b)) → ⊥) × (((pair.0 ≡ b) × (pair.1 ≡ a)) → ⊥)
named_not pair a b t = ((λ e. grind (arith, nat_tests)), (λ e. grind (arith, nat_tests)))

pub first_within : (places : ℕ) (pair : ℕ × ℕ × ℤ) → IsPair places pair → pair.0 < places
first_within places pair is = let one : pair.0 < pair.1 = is.ordered in let two : pair.1 < places = is.on_menu in omega arith

-- a pair written at both of its places
pub put_both : (places : ℕ) (pair : ℕ × ℕ × ℤ) (pairs : List (ℕ × ℕ × ℤ)) (table : List ℤ) (i j : ℕ) → IsPair places pair → IsTable places pairs table
    → i ≡ pair.0 * places + pair.1 → j ≡ pair.1 * places + pair.0
    → IsTable places (pair ∷ pairs) (set (set table i pair.2) j pair.2)
put_both places pair pairs table i j is old at_i at_j =
    let first_low : pair.0 < pair.1 = is.ordered in
    let second_low : pair.1 < places = is.on_menu in
    let size : length table ≡ places * places = old.size in
    let once : length (set table i pair.2) ≡ length table = length-set table i pair.2 in
    let in_i : i < length table = omega (arith, mul-add-lt pair.0 places pair.1 places (omega arith) second_low) in
    let in_j : j < length (set table i pair.2) = omega (arith, mul-add-lt pair.1 places pair.0 places second_low (omega arith)) in
    record {
      size = length-set (set table i pair.2) j pair.2 ∙ once ∙ size;
      each = λ a b low_a low_b.
          elim (cases_Bool ((pair.0 == a && pair.1 == b) || (pair.0 == b && pair.1 == a))) [
            | inl t ↦ rw t (there a b low_a low_b in_i in_j (named_either pair a b t))
            | inr f ↦ rw f (elsewhere a b low_a low_b (named_not pair a b f))
          ];
    }
  where
    there : (a b : ℕ) → a < places → b < places → i < length table → j < length (set table i pair.2)
        → ((pair.0 ≡ a) × (pair.1 ≡ b)) ⊎ ((pair.0 ≡ b) × (pair.1 ≡ a)) → get_or (set (set table i pair.2) j pair.2) (a * places + b) (pos 0) ≡ pair.2
    there a b low_a low_b in_i in_j (inl e) =
        written_first table i j (a * places + b) pair.2 (sym (at_i ∙ ap (λ n. n * places + pair.1) e.0 ∙ ap (λ n. a * places + n) e.1)) in_i in_j
    there a b low_a low_b in_i in_j (inr e) =
        written_second table i j (a * places + b) pair.2 (sym (at_j ∙ ap (λ n. n * places + pair.0) e.1 ∙ ap (λ n. a * places + n) e.0)) in_j

    elsewhere : (a b : ℕ) → a < places → b < places → (((pair.0 ≡ a) × (pair.1 ≡ b)) → ⊥) × (((pair.0 ≡ b) × (pair.1 ≡ a)) → ⊥)
        → get_or (set (set table i pair.2) j pair.2) (a * places + b) (pos 0) ≡ adjustment_in pairs a b
    elsewhere a b low_a low_b apart =
        let not_i : a * places + b ≢ i = λ e. let same = same_place places pair.0 pair.1 a b is.on_menu low_b (e ∙ at_i) in apart.0 (sym same.0, sym same.1) in
        let not_j : a * places + b ≢ j =
        λ e. let same = same_place places pair.1 pair.0 a b (first_within places pair is) low_b (e ∙ at_j) in apart.1 (sym same.1, sym same.0) in
        get_or-set_other (set table i pair.2) j (a * places + b) pair.2 (pos 0) not_j ∙ get_or-set_other table i (a * places + b) pair.2 (pos 0) not_i
        ∙ old.each a b low_a low_b

-- what was read of the table is what the pairs say
pub table_read : (places : ℕ) (pairs : List (ℕ × ℕ × ℤ)) (table : List ℤ) (a b i : ℕ) (x : ℤ) → IsTable places pairs table → a < places → b < places
    → i ≡ a * places + b → x ≡ get_or table i x → x ≡ adjustment_in pairs a b
table_read places pairs table a b i x is low_a low_b at read =
    let size : length table ≡ places * places = is.size in
    let within : i < length table = omega (arith, mul-add-lt a places b places low_a low_b) in
    get_or_read table i x within read (pos 0) ∙ ap (λ n. get_or table n (pos 0)) at ∙ is.each a b low_a low_b

-- an adjustment is from -200 to 200
pub adjustment_in-low : (places : ℕ) (pairs : List (ℕ × ℕ × ℤ)) (a b : ℕ) → AllPairs places pairs → negsuc 199 ≤ℤ adjustment_in pairs a b
adjustment_in-low places [] a b all = omega (arith, ints)
adjustment_in-low places (pair ∷ pairs) a b all =
    elim (cases_Bool ((pair.0 == a && pair.1 == b) || (pair.0 == b && pair.1 == a)))
    [ inl t ↦ rw t all.0.low | inr f ↦ rw f (adjustment_in-low places pairs a b all.1) ]

pub adjustment_in-high : (places : ℕ) (pairs : List (ℕ × ℕ × ℤ)) (a b : ℕ) → AllPairs places pairs → adjustment_in pairs a b ≤ℤ pos 200
adjustment_in-high places [] a b all = omega (arith, ints)
adjustment_in-high places (pair ∷ pairs) a b all =
    elim (cases_Bool ((pair.0 == a && pair.1 == b) || (pair.0 == b && pair.1 == a)))
    [ inl t ↦ rw t all.0.high | inr f ↦ rw f (adjustment_in-high places pairs a b all.1) ]

-- a pair and the table after it was written, as the code has them
pub put_next : (places : ℕ) (pairs more : List (ℕ × ℕ × ℤ)) (pair : ℕ × ℕ × ℤ) (table : List ℤ) (a b a' b' : ℕ) (v : ℤ) → pairs ≡ pair ∷ more
    → IsPair places pair → IsTable places more table
    → a ≡ pair.0 → b ≡ pair.1 → b' ≡ pair.1 → a' ≡ pair.0 → v ≡ pair.2 → IsTable places pairs (set (set table (a * places + b) v) (b' * places + a') v)
put_next places pairs more pair table a b a' b' v split is old a_is b_is b'_is a'_is v_is =
    subst (λ ps. IsTable places ps (set (set table (a * places + b) v) (b' * places + a') v)) (sym split) (
    rw v_is (put_both places pair more table (a * places + b) (b' * places + a') is old (rw (a_is, b_is) refl) (rw (a'_is, b'_is) refl))
    )

-- what the code reads of the table
pub read_range : (menu : MenuData) (table : List ℤ) (a b i : ℕ) (x : ℤ) → IsKept menu table → a < length menu.places → b < length menu.places
    → i ≡ a * length menu.places + b → x ≡ get_or table i x
    → (x ≡ adjustment_in menu.pairs a b) × (negsuc 199 ≤ℤ x) × (x ≤ℤ pos 200)
read_range menu table a b i x is low_a low_b at read =
    let value : x ≡ adjustment_in menu.pairs a b = table_read (length menu.places) menu.pairs table a b i x is.table low_a low_b at read in
    let all : AllPairs (length menu.places) menu.pairs = all_pairs (length menu.places) menu.pairs is.sound.pairs.each in
    (value, rw value (adjustment_in-low (length menu.places) menu.pairs a b all), rw value (adjustment_in-high (length menu.places) menu.pairs a b all))
