-- The first pruning bound as a value.
use Rattle.std.proofs.Common.{◌≡◌, ◌<◌, ℕ, true, false, List, [], ◌∷◌, Option, None, Some, refl, sym, ap, inl, inr, arith}
use Rattle.std.specs.Prelude.{ℤ, ◌<ℤ◌, int_lt, IfSome, IfNone}
use Rattle.std.proofs.lemmas.Int.{ints}
use Rattle.std.proofs.lemmas.Bool.{cases_Bool}
use Rattle.plain_facts.proofs.Numbers.{true_lt_signed}
use Rattle.market_units.specs.Members.{has}
use Rattle.bundle_rules.specs.Sets.{IsAscending}
use Rattle.bundle_rules.proofs.Feasibility.{place_of_rated}
use Rattle.bundle_bounds.specs.declared.nodes.Leaf.{Leaf}
use Rattle.bundle_bounds.specs.Offers.{OfferData, places_of}
use Rattle.bundle_bounds.specs.Bounds.{bounds, IsFirstPruning, NonePrunes}
use Rattle.bundle_bounds.specs.Limits.{NoneBelow, IsFirstBelow, first_below}
use Rattle.bundle_bounds.specs.Ahead.{first_pruning}
use Rattle.bundle_bounds.specs.PruningLaws.{IsFirstOrNone, FirstPruningIsTheFirst}
use Rattle.bundle_bounds.proofs.ByPlace.{ascending_places, has-places}
use Rattle.bundle_bounds.proofs.BelowLimit.{limit, below_prunes, prunes_below, first_to, none_to}

below_true : (a b : ℤ) → a <ℤ b → int_lt a b ≡ true
below_true a b h = grind (arith, ints)

not_below : (a b : ℤ) → int_lt a b ≡ false → ¬ (a <ℤ b)
not_below a b h = grind (arith, ints)

below_false : (a b : ℤ) → ¬ (a <ℤ b) → int_lt a b ≡ false
below_false a b h = grind (arith, ints)

-- the first below a limit as a value
pub first_is : (most : ℤ) (bs : List (Leaf × ℤ)) (leaf : Leaf) → IsFirstBelow most bs leaf → first_below most bs ≡ Some leaf
first_is most [] leaf first = absurd first
first_is most (b ∷ bs) leaf (inl here) = rw (below_true b.1 most here.0) (ap (λ l. Some l) here.1)
first_is most (b ∷ bs) leaf (inr later) = rw (below_false b.1 most later.0) (first_is most bs leaf later.1)

pub none_is : (most : ℤ) (bs : List (Leaf × ℤ)) → NoneBelow most bs → first_below most bs ≡ None
none_is most [] none = refl
none_is most (b ∷ bs) none = rw (below_false b.1 most none.0) (none_is most bs none.1)

is_first : (most : ℤ) (bs : List (Leaf × ℤ)) (leaf : Leaf) → first_below most bs ≡ Some leaf → IsFirstBelow most bs leaf
is_first most [] leaf is = cc is
is_first most (b ∷ bs) leaf is =
    elim (cases_Bool (int_lt b.1 most)) [
      | inl below ↦ let some : Some b.0 ≡ Some leaf = rw below at is in inl (true_lt_signed b.1 most below, (let same : b.0 ≡ leaf = cc some in same))
      | inr above ↦ inr (not_below b.1 most above, is_first most bs leaf (rw above at is))
    ]

is_none : (most : ℤ) (bs : List (Leaf × ℤ)) → first_below most bs ≡ None → NoneBelow most bs
is_none most [] is = tt
is_none most (b ∷ bs) is =
    elim (cases_Bool (int_lt b.1 most)) [
      | inl below ↦ (let some : Some b.0 ≡ None = rw below at is in cc some)
      | inr above ↦ (not_below b.1 most above, is_none most bs (rw above at is))
    ]

-- what the code finds is that value
pub found_is : (most : ℤ) (bs : List (Leaf × ℤ)) (r : Option Leaf) → IfSome r (IsFirstBelow most bs) → IfNone r (NoneBelow most bs) → r ≡ first_below most bs
found_is most bs None some none = sym (none_is most bs none)
found_is most bs (Some leaf) some none = sym (first_is most bs leaf some)

module _ (offer : OfferData) (k : ℕ) (cs ch : List ℕ) (up : IsAscending ch) (up' : IsAscending cs) (low : (c : ℕ) → has cs c ≡ true → c < k) where
  first_from : (bs : List (Leaf × ℤ)) (leaf : Leaf) → IsFirstPruning offer k cs ch bs leaf → IsFirstBelow (limit offer k cs ch up up' low) bs leaf
  first_from [] leaf first = first
  first_from (b ∷ bs) leaf (inl here) = inl (prunes_below offer k cs ch up up' low b.1 here.0, here.1)
  first_from (b ∷ bs) leaf (inr later) = inr ((λ below. later.0 (below_prunes offer k cs ch up up' low b.1 below)), first_from bs leaf later.1)

  none_from : (bs : List (Leaf × ℤ)) → NonePrunes offer k cs ch bs → NoneBelow (limit offer k cs ch up up' low) bs
  none_from [] none = tt
  none_from (b ∷ bs) none = ((λ below. none.0 (below_prunes offer k cs ch up up' low b.1 below)), none_from bs none.1)

  pub first_or_none : IsFirstOrNone offer k cs ch
  first_or_none = record {
    first = λ leaf. (
      (λ is. first_to offer k cs ch up up' low (bounds offer k cs) leaf (is_first (limit offer k cs ch up up' low) (bounds offer k cs) leaf is)),
      (λ first. first_is (limit offer k cs ch up up' low) (bounds offer k cs) leaf (first_from (bounds offer k cs) leaf first)),
    );
    none = (
      (λ is. none_to offer k cs ch up up' low (bounds offer k cs) (is_none (limit offer k cs ch up up' low) (bounds offer k cs) is)),
      (λ none. none_is (limit offer k cs ch up up' low) (bounds offer k cs) (none_from (bounds offer k cs) none)),
    );
  }

pub first_pruning_is_the_first : FirstPruningIsTheFirst
first_pruning_is_the_first offer k chosen champion menu node feasible =
    let places = offer.menu.places in
    let rises = menu.places.ascending in
    first_or_none offer k (places_of offer.menu chosen) (places_of offer.menu champion)
    (ascending_places places champion rises (place_of_rated offer.menu champion feasible.rated) feasible.set)
    (ascending_places places chosen rises (place_of_rated offer.menu chosen node.takable.feasible.rated) node.takable.feasible.set)
    (λ p is. (let at = has-places places chosen p is in rw (← at.2) (node.decided at.0 at.1)))

-- what the code finds with the node's own numbers is the first pruning bound
pub found_pruning : (offer : OfferData) (k : ℕ) (chosen champion : List ℕ) (r : Option Leaf)
    → IsFirstOrNone offer k (places_of offer.menu chosen) (places_of offer.menu champion)
    → IfSome r (IsFirstPruning offer k (places_of offer.menu chosen) (places_of offer.menu champion) (bounds offer k (places_of offer.menu chosen)))
    → IfNone r (NonePrunes offer k (places_of offer.menu chosen) (places_of offer.menu champion) (bounds offer k (places_of offer.menu chosen)))
    → r ≡ first_pruning offer k (places_of offer.menu chosen) (places_of offer.menu champion)
found_pruning offer k chosen champion None is some none = sym (is.none.1 none)
found_pruning offer k chosen champion (Some leaf) is some none = sym ((is.first leaf).1 some)
