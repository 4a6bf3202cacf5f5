-- The last items of a list, and the lowest error of a list.
use Rattle.std.proofs.Common.{Vec, Global, ℕ, ◌+◌, ◌-◌, ◌<◌, ◌≤◌, ◌≡◌, ◌∙◌, ◌++◌, ◌∷◌, [], true, false, List, map, length, drop, refl, sym, ap, inl, inr, arith, length-append, length-drop, drop-drop}
use Rattle.std.specs.Prelude.{All, nat_lt}
use Rattle.std.specs.List.{list_all}
use Rattle.std.proofs.lemmas.Bool.{cases_Bool, cases_lt}
use Rattle.std.proofs.lemmas.Bool.Decides.{nat_tests}
use Rattle.std.proofs.lemmas.List.{drop-append-le, drop-map}
use Rattle.std.proofs.lemmas.List.Elements.{All-weaker, All-head, All-tail}
use Rattle.circular_buffer.specs.Buffer.{Buffer}
use Rattle.tabu_search.specs.Visits.{last_of}
use Rattle.tabu_search.proofs.LeastFirst.{IsFirstOfLeast, least_of_all}

-- the last ones of the last ones and one more
pub last_more : {A : Type 0} (n : ℕ) (xs : List A) (y : A) → last_of n (last_of n xs ++ y ∷ []) ≡ last_of n (xs ++ y ∷ [])
last_more n xs y =
    let k : ℕ = length xs - n in
    let front : drop (length xs - n) (xs ++ y ∷ []) ≡ drop (length xs - n) xs ++ y ∷ [] = drop-append-le (length xs - n) xs (y ∷ []) (omega arith) in
    let j : ℕ = length (last_of n xs ++ y ∷ []) - n in
    let one : length (drop (length xs - n) xs ++ y ∷ []) ≡ length (drop (length xs - n) xs) + 1 = length-append (drop (length xs - n) xs) (y ∷ []) in
    let left : length (drop (length xs - n) xs) ≡ length xs - (length xs - n) = length-drop (length xs - n) xs in
    let all : length (xs ++ y ∷ []) ≡ length xs + 1 = length-append xs (y ∷ []) in
    let far : (length xs - n) + (length (drop (length xs - n) xs ++ y ∷ []) - n) ≡ length (xs ++ y ∷ []) - n = omega arith in
    ap (λ l. drop (length (drop (length xs - n) xs ++ y ∷ []) - n) l) (sym front)
    ∙ drop-drop (length (drop (length xs - n) xs ++ y ∷ []) - n) (length xs - n) (xs ++ y ∷ [])
    ∙ ap (λ m. drop m (xs ++ y ∷ [])) far

module _ {A : Type 0} (f : A → ℕ) where
  all_lower : (xs : List A) (e : ℕ) → All (λ x. e < f x) xs → list_all (λ x. nat_lt e (f x)) xs ≡ true
  all_lower [] e all = refl
  all_lower (x ∷ xs) e all =
      let h : e < f x = All-head (λ x. e < f x) x xs all in
      let t : nat_lt e (f x) ≡ true = grind (arith, nat_tests) in
      rw t (all_lower xs e (All-tail (λ x. e < f x) x xs all))

  not_lower : (front back : List A) (x : A) (e : ℕ) → f x ≤ e → list_all (λ y. nat_lt e (f y)) (front ++ x ∷ back) ≡ false
  not_lower [] back x e more = let n : nat_lt e (f x) ≡ false = grind (arith, nat_tests) in rw n refl
  not_lower (y ∷ ys) back x e more = elim (cases_Bool (nat_lt e (f y))) [
    | inl t ↦ rw t (not_lower ys back x e more)
    | inr n ↦ rw n refl
  ]

  -- lower than all is lower than the least
  pub lower_than_best : (xs : List A) (best : A) (e : ℕ) → IsFirstOfLeast f xs best → list_all (λ x. nat_lt e (f x)) xs ≡ nat_lt e (f best)
  lower_than_best xs best e is = elim (cases_lt e (f best)) [
    | inl less ↦
        let t : nat_lt e (f best) ≡ true = grind (arith, nat_tests) in
        all_lower xs e (All-weaker (λ x. f best ≤ f x) (λ x. e < f x) (λ x most. omega arith) xs (least_of_all f xs best is)) ∙ sym t
    | inr more ↦
        let n : nat_lt e (f best) ≡ false = grind (arith, nat_tests) in
        ap (λ l. list_all (λ x. nat_lt e (f x)) l) is.is ∙ not_lower is.front is.back best e more ∙ sym n
  ]

-- the first window
pub window_begins : (window after : Buffer (Vec ℕ Global)) (counts : Vec ℕ Global) (numbers : List ℕ) (tabu : ℕ)
    → window ≡ record { items = []; capacity = tabu }
    → after ≡ record { items = last_of window.capacity (window.items ++ counts ∷ []); capacity = window.capacity } → counts.items ≡ numbers
    → (map (λ counts. counts.items) after.items ≡ last_of tabu (numbers ∷ [])) × (after.capacity ≡ tabu)
window_begins window after counts numbers tabu is then at = (
  ap (λ (b : Buffer (Vec ℕ Global)). map (λ (c : Vec ℕ Global). c.items) b.items) then
      ∙ ap (λ (b : Buffer (Vec ℕ Global)). map (λ (c : Vec ℕ Global). c.items) (last_of b.capacity (b.items ++ counts ∷ []))) is
      ∙ sym (drop-map (λ (c : Vec ℕ Global). c.items) (1 - tabu) (counts ∷ []))
      ∙ ap (λ ns. last_of tabu (ns ∷ [])) at,
  ap (λ (b : Buffer (Vec ℕ Global)). b.capacity) then ∙ ap (λ (b : Buffer (Vec ℕ Global)). b.capacity) is,
)
