-- Facts of nodes for callers.
use Rattle.std.proofs.Common.{ℕ, List, [], ◌∷◌, arith, inl, inr, refl}
use Rattle.std.specs.Prelude.{ℤ}
use Rattle.std.proofs.lemmas.Bool.{false≢true}
use Rattle.bundle_rules.specs.Menus.{wishes_of}
use Rattle.bundle_bounds.specs.declared.nodes.Leaf.{Leaf}
use Rattle.bundle_bounds.specs.Offers.{OfferData}
use Rattle.bundle_bounds.specs.Laws.{IsNode}
use Rattle.bundle_bounds.specs.Bounds.{HasBound, IsFirstPruning}

-- with nothing chosen, every place is one of a node
pub nothing_chosen : (offer : OfferData) (k : ℕ) → IsNode offer k []
unfolding wishes_of
nothing_chosen offer k = record {
  takable = record {
    feasible =
        record {
          set = tt;
          rated = λ s is. absurd (false≢true is);
          apart = λ s t is is' other. absurd (false≢true is);
          credits = omega arith;
          courses = omega arith;
        };
    affordable = omega arith;
    within = λ s is. absurd (false≢true is);
  };
  decided = λ s is. absurd (false≢true is);
}

-- the first pruning leaf is on the menu of bounds
pub first_has : (offer : OfferData) (k : ℕ) (cs ch : List ℕ) (bs : List (Leaf × ℤ)) (leaf : Leaf) → IsFirstPruning offer k cs ch bs leaf
    → (number : ℤ) × HasBound bs leaf number
first_has offer k cs ch [] leaf first = absurd first
first_has offer k cs ch (b ∷ bs) leaf (inl here) = (b.1, inl (here.1, refl))
first_has offer k cs ch (b ∷ bs) leaf (inr later) = let rest = first_has offer k cs ch bs leaf later.1 in (rest.0, inr rest.1)
