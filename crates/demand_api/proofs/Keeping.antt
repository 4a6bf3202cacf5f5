-- Bundles that stay the best.
use Rattle.std.proofs.Common.{ℕ, ◌≡◌, ◌<◌, ◌≤◌, Bool, true, false, List, [], ◌∷◌, arith, sym, ◌∙◌, subst, inl, inr}
use Rattle.std.proofs.lemmas.Bool.{cases_order, false≢true}
use Rattle.market_units.specs.Totals.{total}
use Rattle.market_units.specs.Members.{has}
use Rattle.bundle_rules.specs.Wishes.{Wishes}
use Rattle.bundle_rules.specs.Demand.{IsBest}
use Rattle.bundle_rules.specs.Existence.Members.{has-here, has-there}
use Rattle.demand_api.specs.Prices.{IsRaised}

-- a sum over no more of each member is no more
pub total_has_le : (f g : ℕ → ℕ) (ss : List ℕ) → ((s : ℕ) → has ss s ≡ true → f s ≤ g s) → total f ss ≤ total g ss
total_has_le f g [] each = omega arith
total_has_le f g (s ∷ ss) each =
    let here : f s ≤ g s = each s (has-here s ss) in omega (arith, here, total_has_le f g ss (λ t is. each t (has-there s ss t is)))

pub best_stays : (w : Wishes) (before after : ℕ → ℕ) (budget : ℕ) (allowed : ℕ → Bool) (bundle : List ℕ) → ((s : ℕ) → 0 < w.rating s → before s ≤ after s)
    → total after bundle ≤ budget
    → IsBest w before budget allowed bundle → IsBest w after budget allowed bundle
best_stays w before after budget allowed bundle no_cheaper affordable best = record {
  choice = record { feasible = best.choice.feasible; affordable = affordable; within = best.choice.within };
  preferred = λ other choice apart.
      let less : total before other ≤ total after other = total_has_le before after other (λ s is. no_cheaper s (choice.feasible.rated s is)) in
      let cost : total after other ≤ budget = choice.affordable in
      best.preferred other (record { feasible = choice.feasible; affordable = omega arith; within = choice.within }) apart;
}

-- where one price is raised, none falls
pub none_falls : (s : ℕ) (before after : ℕ → ℕ) → IsRaised s before after → (t : ℕ) → before t ≤ after t
none_falls s before after is t = elim (cases_order t s) [
  | inl same ↦ rw same is.raised
  | inr (inl low) ↦ let e : after t ≡ before t = is.others t (λ e. omega arith) in omega arith
  | inr (inr high) ↦ let e : after t ≡ before t = is.others t (λ e. omega arith) in omega arith
]

-- and what lacks the section costs the same
pub same_cost : (s : ℕ) (before after : ℕ → ℕ) (bundle : List ℕ) → IsRaised s before after → has bundle s ≡ false → total after bundle ≤ total before bundle
same_cost s before after bundle is lacks =
    total_has_le after before bundle
    (λ t in_it. let e : after t ≡ before t = is.others t (λ e. false≢true (sym lacks ∙ subst (λ u. has bundle u ≡ true) e in_it)) in omega arith)

pub best_without_stays : (w : Wishes) (s : ℕ) (before after : ℕ → ℕ) (budget : ℕ) (allowed : ℕ → Bool) (bundle : List ℕ) → IsRaised s before after
    → has bundle s ≡ false
    → IsBest w before budget allowed bundle → IsBest w after budget allowed bundle
best_without_stays w s before after budget allowed bundle is lacks best =
    let cost : total before bundle ≤ budget = best.choice.affordable in
    let same : total after bundle ≤ total before bundle = same_cost s before after bundle is lacks in
    best_stays w before after budget allowed bundle (λ t rated. none_falls s before after is t) (omega arith) best
