-- The prices that a search finds.
use Rattle.std.proofs.Common.{ℕ, ◌≡◌, Bool, true, false, List, [], ◌∷◌, subst}
use Rattle.std.specs.Prelude.{All, Some, cond, find}
use Rattle.std.proofs.lemmas.List.Elements.{All-head, All-tail}
use Rattle.market_units.specs.declared.units.Tokens.{Tokens}
use Rattle.demand_api.specs.Asking.{ArePricesFor}
use Rattle.demand_api.specs.Crowds.{CrowdData}
use Rattle.market_settings.specs.declared.reader.Settings.{Settings}
use Rattle.tabu_search.specs.Search.{IsFound}
use Rattle.tabu_search.specs.Visits.{after_turns}
use Rattle.tabu_search.proofs.Courses.{visited_are_prices}

-- what holds of all items holds of the one that is found
found_has : {A : Type 0} (P : A → Type 0) (test : A → Bool) (xs : List A) (x : A) → All P xs → find test xs ≡ Some x → P x
found_has P test [] x each is = cc
found_has P test (y ∷ xs) x each is = elim (test y) as (λ b. cond b (Some y) (find test xs) ≡ Some x → P x) [
  | true ↦ λ e. let same : y ≡ x = cc in subst P same (All-head P y xs each)
  | false ↦ λ e. found_has P test xs x (All-tail P y xs each) e
] is

-- they may be asked
pub found_prices : (crowd : CrowdData) (seats : List ℕ) (settings : Settings) (prices : List Tokens) (error turns : ℕ)
    → IsFound crowd seats settings prices error turns → ArePricesFor crowd prices
found_prices crowd seats settings prices error turns is =
    found_has (ArePricesFor crowd) _ (after_turns crowd seats settings turns).visited prices (visited_are_prices crowd seats settings turns) is.best.best
