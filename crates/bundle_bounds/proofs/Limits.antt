-- The first bound below a limit.
use Rattle.std.proofs.Common.{◌≡◌, ◌≤◌, ◌-◌, ℕ, suc, ◌*◌, ◌/◌, true, ◌&&◌, List, [], ◌∷◌, ◌++◌, length, take, drop, Option, Some, None, refl, sym, ◌∙◌, ap, subst, arith, inl, inr}
use Rattle.std.proofs.Math.Seq.{take-length}
use Rattle.std.specs.Prelude.{ℤ, pos, ◌+ℤ◌, ◌<ℤ◌, nat_lt, IfSome, IfNone, All}
use Rattle.std.proofs.lemmas.Bool.{cases_Bool}
use Rattle.bundle_bounds.specs.declared.nodes.Leaf.{Leaf}
use Rattle.bundle_bounds.specs.declared.prospects.Prospect.{Prospect}
use Rattle.bundle_bounds.specs.declared.prospects.Resource.{Resource}
use Rattle.bundle_bounds.specs.Courses.{takes_of}
use Rattle.bundle_bounds.specs.Bounds.{leaf_of, at_price, resource_bounds}
use Rattle.bundle_bounds.specs.Limits.{NoneBelow, IsFirstBelow}

pub none-append : (limit : ℤ) (as' bs : List (Leaf × ℤ)) → NoneBelow limit as' → NoneBelow limit bs → NoneBelow limit (as' ++ bs)
none-append limit [] bs first second = second
none-append limit (a ∷ as') bs first second = (first.0, none-append limit as' bs first.1 second)

pub first-append_left : (limit : ℤ) (as' bs : List (Leaf × ℤ)) (leaf : Leaf) → IsFirstBelow limit as' leaf → IsFirstBelow limit (as' ++ bs) leaf
first-append_left limit [] bs leaf first = absurd first
first-append_left limit (a ∷ as') bs leaf (inl here) = inl here
first-append_left limit (a ∷ as') bs leaf (inr later) = inr (later.0, first-append_left limit as' bs leaf later.1)

pub first-append_right : (limit : ℤ) (as' bs : List (Leaf × ℤ)) (leaf : Leaf) → NoneBelow limit as' → IsFirstBelow limit bs leaf
    → IsFirstBelow limit (as' ++ bs) leaf
first-append_right limit [] bs leaf none first = first
first-append_right limit (a ∷ as') bs leaf none first = inr (none.0, first-append_right limit as' bs leaf none.1 first)

module _ (base : ℤ) (limit : ℤ) (rest : ℕ) (resource : Resource) (all : List Prospect) where
  abbrev pub Below : Prospect → Type 0
  Below p =
      ((nat_lt 0 p.worth && nat_lt 0 (takes_of resource p)) ≡ true)
      × ((base +ℤ pos (at_price resource rest (1000 * p.worth / takes_of resource p) all)) <ℤ limit)

  pub first_here : (p : Prospect) (ps : List Prospect) → Below p
      → IsFirstBelow limit (resource_bounds base rest resource all (p ∷ ps)) (leaf_of resource p.place)
  first_here p ps below = rw below.0 (inl (below.1, refl))

  pub first_later : (p : Prospect) (ps : List Prospect) (leaf : Leaf) → ¬ Below p → IsFirstBelow limit (resource_bounds base rest resource all ps) leaf
      → IsFirstBelow limit (resource_bounds base rest resource all (p ∷ ps)) leaf
  first_later p ps leaf above first =
      elim (cases_Bool (nat_lt 0 p.worth && nat_lt 0 (takes_of resource p))) [
        | inl has ↦ rw has (inr ((λ low. above (has, low)), first))
        | inr none ↦ rw none first
      ]

  pub none_later : (p : Prospect) (ps : List Prospect) → ¬ Below p → NoneBelow limit (resource_bounds base rest resource all ps)
      → NoneBelow limit (resource_bounds base rest resource all (p ∷ ps))
  none_later p ps above none_ =
      elim (cases_Bool (nat_lt 0 p.worth && nat_lt 0 (takes_of resource p))) [
        | inl has ↦ rw has ((λ low. above (has, low)), none_)
        | inr none ↦ rw none none_
      ]

  pub if_first_later : (p : Prospect) (ps : List Prospect) (r : Option Leaf) → ¬ Below p
      → IfSome r (IsFirstBelow limit (resource_bounds base rest resource all ps))
      → IfSome r (IsFirstBelow limit (resource_bounds base rest resource all (p ∷ ps)))
  if_first_later p ps None above h = h
  if_first_later p ps (Some leaf) above h = first_later p ps leaf above h

  pub if_none_later : (p : Prospect) (ps : List Prospect) (r : Option Leaf) → ¬ Below p → IfNone r (NoneBelow limit (resource_bounds base rest resource all ps))
      → IfNone r (NoneBelow limit (resource_bounds base rest resource all (p ∷ ps)))
  if_none_later p ps None above h = none_later p ps above h
  if_none_later p ps (Some leaf) above h = h

-- what comes after bounds that are all above the limit
pub if_first-append_right : (limit : ℤ) (as' bs : List (Leaf × ℤ)) (r : Option Leaf) → NoneBelow limit as' → IfSome r (IsFirstBelow limit bs)
    → IfSome r (IsFirstBelow limit (as' ++ bs))
if_first-append_right limit as' bs None none h = h
if_first-append_right limit as' bs (Some leaf) none h = first-append_right limit as' bs leaf none h

pub if_none-append : (limit : ℤ) (as' bs : List (Leaf × ℤ)) (r : Option Leaf) → NoneBelow limit as' → IfNone r (NoneBelow limit bs)
    → IfNone r (NoneBelow limit (as' ++ bs))
if_none-append limit as' bs None none h = none-append limit as' bs none h
if_none-append limit as' bs (Some leaf) none h = h

pub if_first-next : (limit : ℤ) (b : Leaf × ℤ) (bs : List (Leaf × ℤ)) (r : Option Leaf) → ¬ (b.1 <ℤ limit) → IfSome r (IsFirstBelow limit bs)
    → IfSome r (IsFirstBelow limit (b ∷ bs))
if_first-next limit b bs None above h = h
if_first-next limit b bs (Some leaf) above h = inr (above, h)

pub if_none-next : (limit : ℤ) (b : Leaf × ℤ) (bs : List (Leaf × ℤ)) (r : Option Leaf) → ¬ (b.1 <ℤ limit) → IfNone r (NoneBelow limit bs)
    → IfNone r (NoneBelow limit (b ∷ bs))
if_none-next limit b bs None above h = (above, h)
if_none-next limit b bs (Some leaf) above h = h

pub all_tail : (P : Prospect → Type 0) (x : Prospect) (xs : List Prospect) → All P (x ∷ xs) → All P xs
all_tail P x xs all = λ k d low. all (suc k) d (omega arith)

-- what holds of each holds of each but the first
pub all_rest : (P : Prospect → Type 0) (xs : List Prospect) → 1 ≤ length xs → All P xs → All P (take (length xs - 1) (drop 1 xs))
all_rest P [] some all = absurd (omega arith)
all_rest P (x ∷ xs) some all =
    let size : length xs ≡ suc (length xs) - 1 = omega arith in subst (All P) (sym (take-length xs) ∙ ap (λ n. take n xs) size) (all_tail P x xs all)
