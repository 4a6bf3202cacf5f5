-- The best bundle, where one leads all those without a section.
use Rattle.std.proofs.Common.{◌≡◌, ◌≢◌, ◌∙◌, ℕ, Bool, true, List, refl, sym, ap, inl, inr}
use Rattle.std.proofs.lemmas.Bool.{cases_Bool, true≢false}
use Rattle.market_units.specs.Members.{has}
use Rattle.bundle_rules.specs.Wishes.{Wishes}
use Rattle.bundle_rules.specs.Menus.{wishes_of}
use Rattle.bundle_rules.specs.Preferences.{IsPreferred}
use Rattle.bundle_rules.specs.Demand.{IsBest}
use Rattle.bundle_bounds.specs.Offers.{OfferData}
use Rattle.bundle_bounds.specs.Prunings.{IsAsGood}
use Rattle.bundle_bounds.specs.Laws.{IsTakable}
use Rattle.demand_oracle.specs.Beside.{LeadsThoseWithout}
use Rattle.demand_oracle.specs.Search.{LeadsWanted}
use Rattle.demand_oracle.proofs.Goodness.{as_good_trans, as_good_where_other, as_good_where_not, over_other}

-- the best bundle of fewer sections leads those without the section that alone is missing there
pub leads_where_fewer : (wishes : Wishes) (price : ℕ → ℕ) (budget : ℕ) (fewer allowed : ℕ → Bool) (section : ℕ) (bundle : List ℕ)
    → ((s : ℕ) → fewer s ≡ true → allowed s ≡ true) → ((s : ℕ) → allowed s ≡ true → s ≢ section → fewer s ≡ true)
    → IsBest wishes price budget fewer bundle → LeadsThoseWithout wishes price budget allowed section bundle
leads_where_fewer wishes price budget fewer allowed section bundle all rest best = record {
  choice = record { feasible = best.choice.feasible; affordable = best.choice.affordable; within = λ s is. all s (best.choice.within s is) };
  preferred = λ other may lacks apart. best.preferred other record {
    feasible = may.feasible;
    affordable = may.affordable;
    within = λ s is. rest s (may.within s is) (λ same. true≢false (sym is ∙ ap (has other) same ∙ lacks));
  } apart;
}

module _ (offer : OfferData) (section : ℕ) (first : List ℕ)
    (leads : LeadsThoseWithout (wishes_of offer.menu) offer.price offer.budget offer.allowed section first) where
  -- it is the best where nothing with the section may be taken
  pub best_where_none : ((other : List ℕ) → IsTakable offer other → has other section ≡ true → ⊥)
      → IsBest (wishes_of offer.menu) offer.price offer.budget offer.allowed first
  best_where_none none = record {
    choice = leads.choice;
    preferred = λ other may apart. elim (cases_Bool (has other section)) [
      | inl is ↦ absurd (none other may is)
      | inr lacks ↦ leads.preferred other may lacks apart
    ];
  }

  -- a bundle that is as good as it and as all with the section is the best
  best_over_both : (bundle : List ℕ) → IsTakable offer bundle → IsAsGood offer bundle first
      → ((other : List ℕ) → IsTakable offer other → has other section ≡ true → IsAsGood offer bundle other)
      → IsBest (wishes_of offer.menu) offer.price offer.budget offer.allowed bundle
  best_over_both bundle takable over_first over_with = record {
    choice = takable;
    preferred = λ other may apart. over_other offer bundle other apart (elim (cases_Bool (has other section)) [
      | inl is ↦ over_with other may is
      | inr lacks ↦
          as_good_trans offer bundle first other over_first
          (as_good_where_other offer first other leads.choice.feasible.set may.feasible.set (leads.preferred other may lacks))
    ]);
  }

  module _ (found : List ℕ) (found_leads : LeadsWanted offer (λ bundle. has bundle section) found) where
    -- it is the best where it is preferred to what leads all with the section
    pub first_is_best : IsPreferred (wishes_of offer.menu) first found → IsBest (wishes_of offer.menu) offer.price offer.budget offer.allowed first
    first_is_best more =
        best_over_both first leads.choice (inl refl) (λ other may is. as_good_trans offer first found other (inr more) (found_leads.over other may is))

    -- and else that is
    pub found_is_best : (IsPreferred (wishes_of offer.menu) first found → ⊥) → IsBest (wishes_of offer.menu) offer.price offer.budget offer.allowed found
    found_is_best not_more =
        best_over_both found found_leads.takable (as_good_where_not offer found first found_leads.takable.feasible.set leads.choice.feasible.set not_more)
        found_leads.over
