-- Bundles in order of preference.
use Rattle.std.proofs.Common.{ℕ, ◌⊎◌, ◌++◌, List, [], ◌∷◌, refl, sym, subst, inl, inr}
use Rattle.bundle_rules.specs.Wishes.{Wishes}
use Rattle.demand_oracle.specs.Bests.{IsAmong, AreInOrder}
use Rattle.demand_oracle.specs.Names.{IsPreferredByName}
use Rattle.demand_oracle.proofs.NamedGoodness.{preferred_trans}

pub among_front : (bundle : List ℕ) (front back : List (List ℕ)) → IsAmong bundle front → IsAmong bundle (front ++ back)
among_front bundle [] back is = absurd is
among_front bundle (b ∷ front) back (inl same) = inl same
among_front bundle (b ∷ front) back (inr there) = inr (among_front bundle front back there)

pub among_back : (bundle : List ℕ) (front back : List (List ℕ)) → IsAmong bundle back → IsAmong bundle (front ++ back)
among_back bundle [] back is = is
among_back bundle (b ∷ front) back is = inr (among_back bundle front back is)

pub among_either : (bundle : List ℕ) (front back : List (List ℕ)) → IsAmong bundle (front ++ back) → IsAmong bundle front ⊎ IsAmong bundle back
among_either bundle [] back is = inr is
among_either bundle (b ∷ front) back (inl same) = inl (inl same)
among_either bundle (b ∷ front) back (inr there) = elim (among_either bundle front back there) [
  | inl before ↦ inl (inr before)
  | inr behind ↦ inr behind
]

-- a part of what is in order is in order
pub order_front : (Before : List ℕ → List ℕ → Type 0) (front back : List (List ℕ)) → AreInOrder Before (front ++ back) → AreInOrder Before front
order_front Before [] back order = tt
order_front Before (b ∷ front) back order = (λ other is. order.0 other (among_front other front back is), order_front Before front back order.1)

-- all before the last one come before it
pub before_last : (Before : List ℕ → List ℕ → Type 0) (front : List (List ℕ)) (last : List ℕ) → AreInOrder Before (front ++ last ∷ [])
    → (bundle : List ℕ) → IsAmong bundle front → Before bundle last
before_last Before [] last order bundle is = absurd is
before_last Before (b ∷ front) last order bundle (inl same) =
    subst (λ x. Before x last) (sym same) (order.0 last (among_back last front (last ∷ []) (inl refl)))
before_last Before (b ∷ front) last order bundle (inr there) = before_last Before front last order.1 bundle there

-- what the last is preferred to, all are preferred to
pub over_the_last : (name : ℕ → ℕ) (w : Wishes) (front : List (List ℕ)) (last other : List ℕ) → AreInOrder (IsPreferredByName name w) (front ++ last ∷ [])
    → IsPreferredByName name w last other → (bundle : List ℕ) → IsAmong bundle (front ++ last ∷ []) → IsPreferredByName name w bundle other
over_the_last name w front last other order over bundle is = elim (among_either bundle front (last ∷ []) is) [
  | inl before ↦ preferred_trans name w bundle last other (before_last (IsPreferredByName name w) front last order bundle before) over
  | inr (inl same) ↦ subst (λ x. IsPreferredByName name w x other) (sym same) over
  | inr (inr none) ↦ absurd none
]
