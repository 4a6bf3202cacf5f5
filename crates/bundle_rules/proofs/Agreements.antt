-- What agreeing wishes have in common.
use Rattle.std.proofs.Common.{◌≡◌, ◌<◌, ℕ, Bool, List, [], ◌∷◌, refl, sym, subst, ◌∙◌, inl, inr}
use Rattle.market_units.specs.Totals.{total}
use Rattle.bundle_rules.specs.Wishes.{Wishes, adjustments, utility, AllRated, IsFeasible}
use Rattle.bundle_rules.specs.Preferences.{IsPreferred}
use Rattle.bundle_rules.specs.Demand.{IsChoice, IsBest}
use Rattle.bundle_rules.specs.Agreement.{Agrees}
use Rattle.bundle_rules.specs.Existence.Members.{has-here, has-there}

-- agreement goes both ways
pub agrees_back : (a b : Wishes) → Agrees a b → Agrees b a
agrees_back a b is = record {
  rating = λ s. sym (is.rating s);
  credits = λ s rated. sym (is.credits s (rated_too s rated));
  adjustment = λ s t rated rated'. sym (is.adjustment s t (rated_too s rated) (rated_too t rated'));
  clash = λ s t rated rated'. sym (is.clash s t (rated_too s rated) (rated_too t rated'));
  credit_cap = sym is.credit_cap;
  course_cap = sym is.course_cap;
}
  where
    rated_too : (s : ℕ) → 0 < b.rating s → 0 < a.rating s
    rated_too s rated = subst (λ n. 0 < n) (sym (is.rating s)) rated

module _ (a b : Wishes) (is : Agrees a b) where
  credits_agree : (ss : List ℕ) → AllRated a ss → total a.credits ss ≡ total b.credits ss
  credits_agree [] rated = refl
  credits_agree (s ∷ ss) rated = rw (is.credits s (rated s (has-here s ss)), credits_agree ss (λ t in_it. rated t (has-there s ss t in_it))) refl

  adjustments_agree : (s : ℕ) (ss : List ℕ) → 0 < a.rating s → AllRated a ss → adjustments a s ss ≡ adjustments b s ss
  adjustments_agree s [] rated all = refl
  adjustments_agree s (t ∷ ts) rated all =
      rw (is.adjustment s t rated (all t (has-here t ts)), adjustments_agree s ts rated (λ u in_it. all u (has-there t ts u in_it))) refl

  pub utility_agrees : (ss : List ℕ) → AllRated a ss → utility a ss ≡ utility b ss
  utility_agrees [] rated = refl
  utility_agrees (s ∷ ss) rated =
      let rest : AllRated a ss = λ t in_it. rated t (has-there s ss t in_it) in
      rw (is.rating s, adjustments_agree s ss (rated s (has-here s ss)) rest, utility_agrees ss rest) refl

  pub feasible_agrees : (ss : List ℕ) → IsFeasible a ss → IsFeasible b ss
  feasible_agrees ss feasible = record {
    set = feasible.set;
    rated = λ s in_it. subst (λ n. 0 < n) (is.rating s) (feasible.rated s in_it);
    apart = λ s t in_s in_t other. sym (is.clash s t (feasible.rated s in_s) (feasible.rated t in_t)) ∙ feasible.apart s t in_s in_t other;
    credits = rw (← credits_agree ss feasible.rated, ← is.credit_cap) feasible.credits;
    courses = rw (← is.course_cap) feasible.courses;
  }

  pub choice_agrees : (price : ℕ → ℕ) (budget : ℕ) (allowed : ℕ → Bool) (ss : List ℕ) → IsChoice a price budget allowed ss → IsChoice b price budget allowed ss
  choice_agrees price budget allowed ss choice =
      record { feasible = feasible_agrees ss choice.feasible; affordable = choice.affordable; within = choice.within }

  pub preferred_agrees : (x y : List ℕ) → AllRated a x → AllRated a y → IsPreferred a x y → IsPreferred b x y
  preferred_agrees x y rated rated' (inl more) = inl (rw (← utility_agrees x rated, ← utility_agrees y rated') more)
  preferred_agrees x y rated rated' (inr tie) = inr (sym (utility_agrees x rated) ∙ tie.0 ∙ utility_agrees y rated', tie.1)

-- where wishes agree, the best of the ones is the best of the others
pub best_agrees : (a b : Wishes) → Agrees a b → (price : ℕ → ℕ) (budget : ℕ) (allowed : ℕ → Bool) (bundle : List ℕ) → IsBest a price budget allowed bundle
    → IsBest b price budget allowed bundle
best_agrees a b is price budget allowed bundle best = record {
  choice = choice_agrees a b is price budget allowed bundle best.choice;
  preferred = λ other choice apart.
      let before = choice_agrees b a (agrees_back a b is) price budget allowed other choice in
      preferred_agrees a b is bundle other best.choice.feasible.rated before.feasible.rated (best.preferred other before apart);
}
