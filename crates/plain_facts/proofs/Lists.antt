-- Lists: their first item, a further one, what stands at a place, and what is seen of them.
use Rattle.std.proofs.Common.{◌≡◌, ◌≤◌, ◌<◌, ◌+◌, ◌-◌, ◌||◌, ◌++◌, ◌∙◌, ℕ, zero, suc, Bool, cond, List, [], ◌∷◌, All, length, map, get_or, take, drop, inl, inr, arith, refl, ap, sym, subst}
use Rattle.std.specs.Prelude.{filter, not, Option, Some, option_map, slice_get}
use Rattle.std.specs.Str.{bytes_eq}
use Rattle.std.specs.List.{AllZip, list_any, position_or_len, range_with_len}
use Rattle.std.specs.Iterator.{Yields}
use Rattle.std.proofs.Math.Seq.{take-length}
use Rattle.std.proofs.lemmas.Bool.{cases_Bool}
use Rattle.std.proofs.lemmas.Bool.Decides.{same_from_decides}
use Rattle.std.proofs.lemmas.List.{get_or_append_left, length-append}
use Rattle.std.proofs.lemmas.Slice.Eq.{bytes_eq-Decides}
use Rattle.std.proofs.lemmas.Iterator.{YieldsList}
use Rattle.std.proofs.lemmas.Iterator.Consumers.{YieldsList-turn}

-- a comparison either way
pub bytes_eq-other_way : (ones others : List ℕ) → bytes_eq ones others ≡ bytes_eq others ones
bytes_eq-other_way ones others =
    same_from_decides (bytes_eq ones others) (bytes_eq others ones) (bytes_eq-Decides ones others)
    (λ t. sym ((bytes_eq-Decides others ones).0 t), λ e. (bytes_eq-Decides others ones).1 (sym e))

-- what passes a test is no more
pub length-filter_le : {A : Type 0} (p : A → Bool) (xs : List A) → length (filter p xs) ≤ length xs
length-filter_le p [] = omega arith
length-filter_le p (x ∷ xs) =
    let rest : length (filter p xs) ≤ length xs = length-filter_le p xs in elim (cases_Bool (p x)) [ inl t ↦ rw t (omega arith) | inr f ↦ rw f (omega arith) ]

-- what holds of all holds of a front
pub all_front : {A : Type 0} (P : A → Type 0) (front later : List A) → All P (front ++ later) → All P front
all_front P front later all = λ k d low. subst P (get_or_append_left front later d k low) (all k d (let long = length-append front later in omega arith))

-- a list as its first item and the rest
pub first_rest : {A : Type 0} → (xs : List A) (d : A) → 1 ≤ length xs → xs ≡ get_or xs 0 d ∷ take (length xs - 1) (drop 1 xs)
first_rest [] d some = absurd (omega arith)
first_rest (x ∷ xs) d some = ap (λ l. x ∷ l) (sym (take-length xs) ∙ ap (λ n. take n xs) (let h : length xs ≡ suc (length xs) - 1 = omega arith in h))

-- what stands at a place, in the two ways of saying it
pub read_at : {A B : Type 0} (f : A → B) (xs : List A) (n : ℕ) (v : B) (d : A) → option_map f (slice_get xs n) ≡ Some v → v ≡ f (get_or xs n d)
read_at f [] n v d e = cc
read_at f (x ∷ xs) zero v d e = cc
read_at f (x ∷ xs) (suc n) v d e = read_at f xs n v d e

-- a pair more
pub all_zip_push : {A B : Type 0} (R : A → B → Type 0) (xs : List A) (ys : List B) (x : A) (y : B) → AllZip R xs ys → R x y → AllZip R (xs ++ x ∷ []) (ys ++ y ∷ [])
all_zip_push R [] [] x y are is = (is, tt)
all_zip_push R (a ∷ xs) (b ∷ ys) x y are is = (are.0, all_zip_push R xs ys x y are.1 is)
all_zip_push R [] (b ∷ ys) x y are is = absurd are
all_zip_push R (a ∷ xs) [] x y are is = absurd are

-- a test of what each item is seen as
pub list_any-map : {A B : Type 0} (p : B → Bool) (f : A → B) (xs : List A) → list_any p (map f xs) ≡ list_any (λ x. p (f x)) xs
list_any-map p f [] = refl
list_any-map p f (x ∷ xs) = ap (λ b. p (f x) || b) (list_any-map p f xs)

pub position_or_len-map : {A B : Type 0} (p : B → Bool) (f : A → B) (xs : List A) → position_or_len p (map f xs) ≡ position_or_len (λ x. p (f x)) xs
position_or_len-map p f [] = refl
position_or_len-map p f (x ∷ xs) = ap (λ n. cond (not (p (f x))) (1 + n) 0) (position_or_len-map p f xs)

-- the element of an iteration and the end of a loop, with the iterator's own facts first
pub item_of_turn : {S A B : Type 0} {steps : S → Option A → S → Type 0} {v : A → B} {s : S} {all : List B} (xs : List A) (t : S) (y : Yields steps s xs t)
    → (r : Option A) (u : S) (x : A) → r ≡ Some x → steps t r u → YieldsList steps v s all → (length xs < length all) × (v x ≡ get_or all (length xs) (v x))
item_of_turn xs t y r u x is step e = YieldsList-turn e xs t y r u x is step

-- one number more at the end of a range
range_more : (first n last : ℕ) → first + n ≡ last → range_with_len first (suc n) ≡ range_with_len first n ++ last ∷ []
range_more first zero last at = ap (λ k. k ∷ []) (let here : first ≡ last = omega arith in here)
range_more first (suc n) last at = ap (λ more. first ∷ more) (range_more (first + 1) n last (omega arith))

pub range_next : (n : ℕ) → range_with_len 0 (n + 1) ≡ range_with_len 0 n ++ n ∷ []
range_next n = let on : n + 1 ≡ suc n = omega arith in ap (range_with_len 0) on ∙ range_more 0 n n (omega arith)
