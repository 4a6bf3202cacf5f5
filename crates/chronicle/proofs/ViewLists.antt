-- Lists of which one place changes, and what holds of each view after one of them has changed.
use Rattle.std.proofs.Common.{◌≡◌, ◌≢◌, ◌+◌, ◌≤◌, ◌<◌, ◌++◌, ◌∷◌, [], ℕ, zero, suc, List, length, map, set, sym, ap, subst, ◌∙◌, ◌⊎◌, ⊎_elim, inl, inr, arith}
use Rattle.std.specs.Prelude.{Option, Some, None}
use mathlib.Core.Logic.{dite}
use mathlib.Core.Option.{some, some-injective, some-ne-none}
use native.Mathlib.Decide.{ℕ_discrete}
use lib.ListN.{get_elem?}
use Rattle.plain_facts.proofs.Outcomes.{same_some}
use Rattle.atomic_table.proofs.Lists.{at_set, set_here, set_else}
use Rattle.market_units.specs.Totals.{total}
use Rattle.std.specs.List.{AllByRecursion as Each}
use Rattle.chronicle.specs.Members.{IsIn}

-- a sum in which one item changes
pub total-set : {X : Type 0} (f : X → ℕ) (xs : List X) (i : ℕ) (v w : X) → get_elem? xs i ≡ some v → total f (set xs i w) + f v ≡ total f xs + f w
total-set f [] i v w e = absurd (some-ne-none v (sym e))
total-set f (x ∷ xs) zero v w e =
    let same : f x ≡ f v = ap f (some-injective x v e) in let k : ℕ = total f xs in let goal : f w + k + f v ≡ f x + k + f w = omega arith in goal
total-set f (x ∷ xs) (suc i) v w e =
    let rest = total-set f xs i v w e in
    let a : ℕ = total f (set xs i w) in
    let b : ℕ = total f xs in let h : a + f v ≡ b + f w = rest in let goal : f x + a + f v ≡ f x + b + f w = omega arith in goal

-- one item is no more than the sum
pub term_le : {X : Type 0} (f : X → ℕ) (xs : List X) (i : ℕ) (v : X) → get_elem? xs i ≡ some v → f v ≤ total f xs
term_le f [] i v e = absurd (some-ne-none v (sym e))
term_le f (x ∷ xs) zero v e = let same : f x ≡ f v = ap f (some-injective x v e) in let k : ℕ = total f xs in let goal : f v ≤ f x + k = omega arith in goal
term_le f (x ∷ xs) (suc i) v e =
    let rest = term_le f xs i v e in let k : ℕ = total f xs in let h : f v ≤ k = rest in let goal : f v ≤ f x + k = omega arith in goal

pub at_below : {X : Type 0} (xs : List X) (i : ℕ) (x : X) → get_elem? xs i ≡ some x → i < length xs
at_below [] i x e = absurd (some-ne-none x (sym e))
at_below (y ∷ ys) zero x e = omega arith
at_below (y ∷ ys) (suc i) x e = let h = at_below ys i x e in omega arith

module _ {X : Type 0} where
  -- what holds of each holds of each where it implies another
  pub each_so : (P R : X → Type 0) (xs : List X) → ((x : X) → P x → R x) → Each P xs → Each R xs
  each_so P R [] so each = tt
  each_so P R (x ∷ xs) so each = (so x each.0, each_so P R xs so each.1)

  pub each-append : (P : X → Type 0) (xs ys : List X) → Each P xs → Each P ys → Each P (xs ++ ys)
  each-append P [] ys front back = back
  each-append P (x ∷ xs) ys front back = (front.0, each-append P xs ys front.1 back)

  pub each_in : (P : X → Type 0) (xs : List X) (x : X) → Each P xs → IsIn x xs → P x
  each_in P [] x each none = absurd none
  each_in P (y ∷ ys) x each (inl same) = subst P same each.0
  each_in P (y ∷ ys) x each (inr later) = each_in P ys x each.1 later

  pub in_front : (xs ys : List X) (x : X) → IsIn x xs → IsIn x (xs ++ ys)
  in_front [] ys x none = absurd none
  in_front (y ∷ xs) ys x (inl same) = inl same
  in_front (y ∷ xs) ys x (inr later) = inr (in_front xs ys x later)

  pub in_back : (xs ys : List X) (x : X) → IsIn x ys → IsIn x (xs ++ ys)
  in_back [] ys x h = h
  in_back (y ∷ xs) ys x h = inr (in_back xs ys x h)

-- the images of a list followed by another are those of the one or the other
pub in_images : {X Y : Type 0} (f : X → Y) (xs ys : List X) (y : Y) → IsIn y (map f (xs ++ ys)) → IsIn y (map f xs) ⊎ IsIn y (map f ys)
in_images f [] ys y h = inr h
in_images f (x ∷ xs) ys y (inl same) = inl (inl same)
in_images f (x ∷ xs) ys y (inr later) = ⊎_elim (λ h. inl (inr h)) (λ h. inr h) (in_images f xs ys y later)

pub in_images_front : {X Y : Type 0} (f : X → Y) (xs ys : List X) (y : Y) → IsIn y (map f xs) → IsIn y (map f (xs ++ ys))
in_images_front f [] ys y none = absurd none
in_images_front f (x ∷ xs) ys y (inl same) = inl same
in_images_front f (x ∷ xs) ys y (inr later) = inr (in_images_front f xs ys y later)

pub in_images_back : {X Y : Type 0} (f : X → Y) (xs ys : List X) (y : Y) → IsIn y (map f ys) → IsIn y (map f (xs ++ ys))
in_images_back f [] ys y h = h
in_images_back f (x ∷ xs) ys y h = inr (in_images_back f xs ys y h)

-- the views of seats, of which a spent one has none
module _ {W : Type 0} where
  pub same_place : (vs : List (Option W)) (i j : ℕ) (v w : W) → get_elem? vs i ≡ some (Some v) → get_elem? vs j ≡ some (Some w) → j ≡ i → w ≡ v
  same_place vs i j v w at there same = sym (same_some v w (some-injective (Some v) (Some w) (sym at ∙ ap (λ k. get_elem? vs k) (sym same) ∙ there)))

  -- each view meets what it has to, after one has changed
  pub fits_set : (P : ℕ → W → Type 0) (vs : List (Option W)) (id : ℕ) (w : W) → P id w → ((j : ℕ) (u : W) → j ≢ id → get_elem? vs j ≡ some (Some u) → P j u)
      → (j : ℕ) (u : W) → get_elem? (set vs id (Some w)) j ≡ some (Some u) → P j u
  fits_set P vs id w mine others j u e =
      ⊎_elim
      (λ (x : (j ≡ id) × (Some w ≡ Some u)). subst (λ (y : ℕ × W). P y.0 y.1) (λ i. (sym x.0 i, same_some w u x.1 i)) mine)
      (λ (x : (j ≢ id) × (get_elem? vs j ≡ some (Some u))). others j u x.0 x.1)
      (at_set vs id j (Some w) (Some u) e)

  -- or after one was spent
  pub fits_spent : (P : ℕ → W → Type 0) (vs : List (Option W)) (id : ℕ) → ((j : ℕ) (u : W) → j ≢ id → get_elem? vs j ≡ some (Some u) → P j u)
      → (j : ℕ) (u : W) → get_elem? (set vs id None) j ≡ some (Some u) → P j u
  fits_spent P vs id others j u e =
      ⊎_elim
      (λ (x : (j ≡ id) × (None ≡ Some u)). let clash : None ≡ Some u = x.1 in absurd (cc))
      (λ (x : (j ≢ id) × (get_elem? vs j ≡ some (Some u))). others j u x.0 x.1)
      (at_set vs id j None (Some u) e)

  -- a view that is there, of which P holds, is there after another has changed, or the changed one is, of which P holds then
  pub there_set : (P : W → Type 0) (vs : List (Option W)) (id : ℕ) (v w : W) (j : ℕ) → get_elem? vs id ≡ some (Some v) → (P v → P w)
      → ((u : W) × (get_elem? vs j ≡ some (Some u)) × P u) → (u : W) × (get_elem? (set vs id (Some w)) j ≡ some (Some u)) × P u
  there_set P vs id v w j at so (u, there, holds) =
      dite (ℕ_discrete j id)
      (λ same. (
        w,
        ap (λ k. get_elem? (set vs id (Some w)) k) same ∙ set_here vs id (Some w) (at_below vs id (Some v) at),
        so (subst P (same_place vs id j v u at there same) holds),
      ))
      (λ other. (u, set_else vs id j (Some w) other ∙ there, holds))
