-- Bundles that are as good as others, where names decide between bundles of one utility.
use Rattle.std.proofs.Common.{◌≡◌, ◌⊎◌, ℕ, List, sym, inl, inr, ◌∙◌, arith}
use Rattle.std.proofs.lemmas.Int.{ints}
use Rattle.bundle_rules.specs.Wishes.{Wishes, utility}
use Rattle.bundle_rules.specs.Menus.{wishes_of}
use Rattle.bundle_rules.specs.Existence.Orders.{int_order}
use Rattle.bundle_bounds.specs.Offers.{OfferData}
use Rattle.bundle_bounds.specs.Laws.{IsTakable}
use Rattle.demand_oracle.specs.Names.{AreNames, IsPreferredByName}
use Rattle.demand_oracle.specs.Search.{IsAsGoodByName}
use Rattle.demand_oracle.proofs.Naming.{before_trans, one_before}

pub preferred_trans : (name : ℕ → ℕ) (w : Wishes) (a b c : List ℕ) → IsPreferredByName name w a b → IsPreferredByName name w b c → IsPreferredByName name w a c
preferred_trans name w a b c (inl p) (inl q) = inl (omega (arith, ints))
preferred_trans name w a b c (inl p) (inr q) = inl (rw (← q.0) p)
preferred_trans name w a b c (inr p) (inl q) = inl (rw p.0 q)
preferred_trans name w a b c (inr p) (inr q) = inr (p.0 ∙ q.0, before_trans name a b c p.1 q.1)

module _ (offer : OfferData) (name : ℕ → ℕ) where
  module _ (names : AreNames (wishes_of offer.menu) name) where
    -- two bundles that may be taken are equal, or one is preferred
    compared : (a b : List ℕ) → IsTakable offer a → IsTakable offer b
        → (a ≡ b) ⊎ (IsPreferredByName name (wishes_of offer.menu) a b ⊎ IsPreferredByName name (wishes_of offer.menu) b a)
    compared a b may may' =
        elim (one_before name a b may.feasible.set may'.feasible.set (λ s t is is'. names s t (may.feasible.rated s is) (may'.feasible.rated t is'))) [
          | inl same ↦ inl same
          | inr first ↦ inr (elim (int_order (utility (wishes_of offer.menu) a) (utility (wishes_of offer.menu) b)) [
            | inl less ↦ inr (inl less)
            | inr (inl equal) ↦ elim first [ inl one ↦ inl (inr (equal, one)) | inr two ↦ inr (inr (sym equal, two)) ]
            | inr (inr more) ↦ inl (inl more)
          ])
        ]

    -- what another is not preferred to is as good as the other
    pub as_good_where_not : (a b : List ℕ) → IsTakable offer a → IsTakable offer b → (IsPreferredByName name (wishes_of offer.menu) b a → ⊥)
        → IsAsGoodByName name offer a b
    as_good_where_not a b may may' none = elim (compared b a may' may) [
      | inl same ↦ inl same
      | inr (inl more) ↦ absurd (none more)
      | inr (inr less) ↦ inr less
    ]
