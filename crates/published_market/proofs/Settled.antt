-- The last prices of an elimination.
use Rattle.std.proofs.Common.{ℕ, ◌≡◌, ◌∙◌, List, [], ◌∷◌, length, ap, sym, subst}
use Rattle.market_units.specs.declared.units.Tokens.{Tokens}
use Rattle.demand_api.specs.Asking.{ArePricesFor}
use Rattle.demand_api.specs.Crowds.{CrowdData}
use Rattle.oversubscription_stage.specs.Rounds.{AreRounds, IsSettled, last}
use Rattle.oversubscription_stage.proofs.Eliminations.{one_elimination}
use Rattle.oversubscription_stage.proofs.Raises.{round_raises}

last_prices : (crowd : CrowdData) (seats : List ℕ) (start : List Tokens) (vectors : List (List Tokens)) → ArePricesFor crowd start
    → AreRounds crowd seats start vectors → ArePricesFor crowd (last start vectors)
last_prices crowd seats start [] are rounds = are
last_prices crowd seats start (next ∷ vectors) are ((s, price, round), more) =
    last_prices crowd seats next vectors (round_raises crowd seats start next s price are round).prices more

-- they are prices, as those are from which it starts
pub settled_prices : (crowd : CrowdData) (seats : List ℕ) (start prices : List Tokens) (rounds : ℕ) → ArePricesFor crowd start
    → IsSettled crowd seats start prices rounds → ArePricesFor crowd prices
settled_prices crowd seats start prices rounds are (vectors, is, at, number) =
    subst (ArePricesFor crowd) at (last_prices crowd seats start vectors are is.rounds)

-- they are one vector, and the number of rounds is one
pub one_settled : (crowd : CrowdData) (seats : List ℕ) (start one other : List Tokens) (m n : ℕ) → IsSettled crowd seats start one m
    → IsSettled crowd seats start other n → (one ≡ other) × (m ≡ n)
one_settled crowd seats start one other m n (vectors, is, at, number) (others, so, there, count) =
    let same : vectors ≡ others = one_elimination crowd seats start vectors others is so in
    (sym at ∙ ap (last start) same ∙ there, sym number ∙ ap (λ (all : List (List Tokens)). length all) same ∙ count)
