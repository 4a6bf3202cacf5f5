-- The first of the best bundles that is still affordable is the best at higher prices.
use Rattle.std.proofs.Common.{ℕ, ◌≢◌, ◌<◌, ◌≤◌, Bool, List, [], ◌∷◌, refl, sym, subst, inl, inr, arith}
use Rattle.market_units.specs.Totals.{total}
use Rattle.bundle_rules.specs.Wishes.{Wishes, AllRated}
use Rattle.bundle_rules.specs.Preferences.{IsPreferred}
use Rattle.bundle_rules.specs.Demand.{IsChoice}
use Rattle.bundle_rules.specs.Existence.Members.{has-here, has-there}
use Rattle.demand_oracle.specs.Bests.{IsAmong, AreInOrder, IsFirstWithin}
use Rattle.demand_oracle.specs.Laws.{FirstWithinIsBest}

module _ (wishes : Wishes) (before after : ℕ → ℕ) (no_lower : (s : ℕ) → 0 < wishes.rating s → before s ≤ after s) where
  -- rated sections cost no less
  cost_before : (bundle : List ℕ) → AllRated wishes bundle → total before bundle ≤ total after bundle
  cost_before [] rated = omega arith
  cost_before (s ∷ ss) rated =
      let here : before s ≤ after s = no_lower s (rated s (has-here s ss)) in
      let rest : total before ss ≤ total after ss = cost_before ss (λ t is. rated t (has-there s ss t is)) in omega arith

  -- what may be chosen might be chosen before
  choice_before : (budget : ℕ) (allowed : ℕ → Bool) (bundle : List ℕ) → IsChoice wishes after budget allowed bundle → IsChoice wishes before budget allowed bundle
  choice_before budget allowed bundle choice = record {
    feasible = choice.feasible;
    affordable =
        let paid : total after bundle ≤ budget = choice.affordable in
        let less : total before bundle ≤ total after bundle = cost_before bundle choice.feasible.rated in omega arith;
    within = choice.within;
  }

-- the first that is affordable: of those before it none is, and it comes before all behind it
pub record IsFirstOf (wishes : Wishes) (price : ℕ → ℕ) (budget : ℕ) (bundles : List (List ℕ)) (bundle : List ℕ) : Type 0 where
  pub among : IsAmong bundle bundles
  pub affordable : total price bundle ≤ budget
  pub over : (other : List ℕ) → IsAmong other bundles → total price other ≤ budget → other ≢ bundle → IsPreferred wishes bundle other

first_of : (wishes : Wishes) (price : ℕ → ℕ) (budget : ℕ) (bundles : List (List ℕ)) (bundle : List ℕ) → AreInOrder (IsPreferred wishes) bundles
    → IsFirstWithin price budget bundles bundle → IsFirstOf wishes price budget bundles bundle
first_of wishes price budget [] bundle order first = absurd first
first_of wishes price budget (b ∷ bs) bundle order (inl here) =
    subst (IsFirstOf wishes price budget (b ∷ bs)) (sym here.1) record {
      among = inl refl;
      affordable = here.0;
      over = λ other among paid apart. over_here other among apart;
    }
  where
    over_here : (other : List ℕ) → IsAmong other (b ∷ bs) → other ≢ b → IsPreferred wishes b other
    over_here other (inl same) apart = absurd (apart same)
    over_here other (inr behind) apart = order.0 other behind
first_of wishes price budget (b ∷ bs) bundle order (inr there) =
    let rest = first_of wishes price budget bs bundle order.1 there.1 in
    record { among = inr rest.among; affordable = rest.affordable; over = over_there rest }
  where
    over_there : IsFirstOf wishes price budget bs bundle
        → (other : List ℕ) → IsAmong other (b ∷ bs) → total price other ≤ budget → other ≢ bundle → IsPreferred wishes bundle other
    over_there rest other (inl same) paid apart =
        let dear : budget < total price b = there.0 in
        let cheap : total price b ≤ budget = subst (λ x. total price x ≤ budget) same paid in absurd (omega arith)
    over_there rest other (inr behind) paid apart = rest.over other behind paid apart

pub first_within_is_best : FirstWithinIsBest
first_within_is_best wishes before after budget allowed bundles bundle best no_lower within =
    let first = first_of wishes after budget bundles bundle best.in_order within in
    let choice = best.choices bundle first.among in
    record {
      choice = record { feasible = choice.feasible; affordable = first.affordable; within = choice.within };
      preferred = λ other may apart. elim (best.others other (choice_before wishes before after no_lower budget allowed other may)) [
        | inl among ↦ first.over other among may.affordable apart
        | inr behind ↦ behind bundle first.among
      ];
    }
