-- Bundles that are as good as others.
use Rattle.std.proofs.Common.{◌≢◌, ℕ, List, sym, subst, inl, inr}
use Rattle.bundle_rules.specs.Sets.{IsAscending}
use Rattle.bundle_rules.specs.Menus.{wishes_of}
use Rattle.bundle_rules.specs.Preferences.{IsPreferred}
use Rattle.bundle_rules.specs.Existence.Orders.{compared, preferred_trans, not_preferred_itself}
use Rattle.bundle_bounds.specs.Offers.{OfferData}
use Rattle.bundle_bounds.specs.Prunings.{IsAsGood}

module _ (offer : OfferData) where
  -- what is as good as one that is as good as a third is as good as the third
  pub as_good_trans : (a b c : List ℕ) → IsAsGood offer a b → IsAsGood offer b c → IsAsGood offer a c
  as_good_trans a b c (inl e) k = subst (λ x. IsAsGood offer x c) e k
  as_good_trans a b c (inr h) (inl e) = inr (subst (IsPreferred (wishes_of offer.menu) a) (sym e) h)
  as_good_trans a b c (inr h) (inr k) = inr (preferred_trans (wishes_of offer.menu) a b c h k)

  -- what is preferred to every other bundle is as good as each
  pub as_good_where_other : (a b : List ℕ) → IsAscending a → IsAscending b → (b ≢ a → IsPreferred (wishes_of offer.menu) a b) → IsAsGood offer a b
  as_good_where_other a b up up' over = elim (compared (wishes_of offer.menu) b a up' up) [
    | inl same ↦ inl same
    | inr (inl more) ↦ inr (over (λ e. not_preferred_itself (wishes_of offer.menu) a (subst (λ x. IsPreferred (wishes_of offer.menu) x a) e more)))
    | inr (inr less) ↦ inr less
  ]

  -- what another is not preferred to is as good as the other
  pub as_good_where_not : (a b : List ℕ) → IsAscending a → IsAscending b → (IsPreferred (wishes_of offer.menu) b a → ⊥) → IsAsGood offer a b
  as_good_where_not a b up up' none = elim (compared (wishes_of offer.menu) b a up' up) [
    | inl same ↦ inl same
    | inr (inl more) ↦ absurd (none more)
    | inr (inr less) ↦ inr less
  ]

  -- what is as good as another bundle is preferred to it
  pub over_other : (a b : List ℕ) → b ≢ a → IsAsGood offer a b → IsPreferred (wishes_of offer.menu) a b
  over_other a b apart (inl same) = absurd (apart same)
  over_other a b apart (inr more) = more
