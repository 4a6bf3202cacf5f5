-- The place of a leaf on the menu of bounds is on the menu.
use Rattle.std.proofs.Common.{◌<◌, ◌≤◌, ◌+◌, ◌-◌, ◌++◌, ◌&&◌, ℕ, zero, suc, List, [], ◌∷◌, length, subst, inl, inr, arith}
use Rattle.std.specs.Prelude.{ℤ, nat_lt, ⊤}
use Rattle.std.proofs.lemmas.Bool.{cases_Bool}
use Rattle.bundle_bounds.specs.declared.nodes.Leaf.{Leaf}
use Rattle.bundle_bounds.specs.declared.nodes.Leaf.TheVariants.{Plain, Budget, Credits, Number}
use Rattle.bundle_bounds.specs.declared.prospects.Prospect.{Prospect}
use Rattle.bundle_bounds.specs.declared.prospects.Resource.{Resource}
use Rattle.bundle_bounds.specs.declared.prospects.Resource.TheVariants.{Money, Count}
use Rattle.bundle_bounds.specs.declared.prospects.Resource.TheVariants as resources
use Rattle.bundle_bounds.specs.Offers.{OfferData}
use Rattle.bundle_bounds.specs.Courses.{takes_of}
use Rattle.bundle_bounds.specs.Opens.{is_open, opens_from, open_places, prospects, left_of}
use Rattle.bundle_bounds.specs.Bounds.{leaf_of, resource_bounds, base_of, bounds, IsFirstPruning}

-- a leaf's place, where it has one, is below this number
abbrev pub IsLow : ℕ → Leaf → Type 0
IsLow n Plain = ⊤
IsLow n (Budget place) = place < n
IsLow n (Credits place) = place < n
IsLow n (Number place) = place < n

abbrev AreLow : ℕ → List (Leaf × ℤ) → Type 0
AreLow n [] = ⊤
AreLow n (b ∷ bs) = IsLow n b.0 × AreLow n bs

-- each of these prospects is of a place below this one
abbrev AreAt : ℕ → List Prospect → Type 0
AreAt n [] = ⊤
AreAt n (p ∷ ps) = (p.place < n) × AreAt n ps

abbrev AreBelow : ℕ → List ℕ → Type 0
AreBelow n [] = ⊤
AreBelow n (p ∷ ps) = (p < n) × AreBelow n ps

opens_below : (offer : OfferData) (cs : List ℕ) (place count n : ℕ) → place + count ≤ n → AreBelow n (opens_from offer cs place count)
opens_below offer cs place zero n within = tt
opens_below offer cs place (suc count) n within =
    let later = opens_below offer cs (place + 1) count n (omega arith) in
    elim (cases_Bool (is_open offer cs place)) [
      | inl open_ ↦ rw open_ ((let low : place < n = omega arith in low), later)
      | inr shut ↦ rw shut later
    ]

prospects_at : (offer : OfferData) (cs os : List ℕ) (n : ℕ) → AreBelow n os → AreAt n (prospects offer cs os)
prospects_at offer cs [] n below = tt
prospects_at offer cs (o ∷ os) n below = (below.0, prospects_at offer cs os n below.1)

low_leaf : (resource : Resource) (place n : ℕ) → place < n → IsLow n (leaf_of resource place)
low_leaf Money place n low = low
low_leaf resources.Credits place n low = low
low_leaf Count place n low = low

low_bounds : (base : ℤ) (rest : ℕ) (resource : Resource) (all ps : List Prospect) (n : ℕ) → AreAt n ps → AreLow n (resource_bounds base rest resource all ps)
low_bounds base rest resource all [] n at = tt
low_bounds base rest resource all (p ∷ ps) n at =
    let later = low_bounds base rest resource all ps n at.1 in
    elim (cases_Bool (nat_lt 0 p.worth && nat_lt 0 (takes_of resource p))) [
      | inl bounded ↦ rw bounded (low_leaf resource p.place n at.0, later)
      | inr none ↦ rw none later
    ]

low_append : (n : ℕ) (as' bs : List (Leaf × ℤ)) → AreLow n as' → AreLow n bs → AreLow n (as' ++ bs)
low_append n [] bs first second = second
low_append n (a ∷ as') bs first second = (first.0, low_append n as' bs first.1 second)

all_low : (offer : OfferData) (k : ℕ) (cs : List ℕ) (n : ℕ) → length offer.menu.places ≤ n → k ≤ n → AreLow n (bounds offer k cs)
all_low offer k cs n few within =
    let os = open_places offer k cs in
    let ps = prospects offer cs os in
    let at = prospects_at offer cs os n (opens_below offer cs k (length offer.menu.places - k) n (omega arith)) in
    let base = base_of offer cs in (
      tt,
      low_append n (resource_bounds base (left_of offer cs Money) Money ps ps) _ (low_bounds base (left_of offer cs Money) Money ps ps n at)
          (low_append n (resource_bounds base (left_of offer cs resources.Credits) resources.Credits ps ps) _
          (low_bounds base (left_of offer cs resources.Credits) resources.Credits ps ps n at) (low_bounds base (left_of offer cs Count) Count ps ps n at)),
    )

low_first : (offer : OfferData) (k : ℕ) (cs ch : List ℕ) (n : ℕ) (bs : List (Leaf × ℤ)) (leaf : Leaf) → AreLow n bs → IsFirstPruning offer k cs ch bs leaf
    → IsLow n leaf
low_first offer k cs ch n [] leaf low first = absurd first
low_first offer k cs ch n (b ∷ bs) leaf low (inl here) = subst (IsLow n) here.1 low.0
low_first offer k cs ch n (b ∷ bs) leaf low (inr later) = low_first offer k cs ch n bs leaf low.1 later.1

pub pruning_low : (offer : OfferData) (k : ℕ) (cs ch : List ℕ) (leaf : Leaf) → k ≤ length offer.menu.places → IsFirstPruning offer k cs ch (bounds offer k cs) leaf
    → IsLow (length offer.menu.places) leaf
pruning_low offer k cs ch leaf within first =
    low_first offer k cs ch (length offer.menu.places) (bounds offer k cs) leaf (all_low offer k cs (length offer.menu.places) (omega arith) within) first
