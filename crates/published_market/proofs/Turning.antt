-- Turns that are made, and the same turns as they are published.
use Rattle.std.proofs.Common.{ℕ, ◌≡◌, ◌∙◌, List, [], ◌∷◌, ◌++◌, refl, ap}
use Rattle.std.specs.Prelude.{slice_set}
use Rattle.std.specs.List.{AllZip}
use Rattle.market_units.specs.declared.units.Tokens.{Tokens}
use Rattle.demand_api.specs.Crowds.{CrowdData}
use Rattle.aftermarket_stage.specs.Turns.{EachTurn, TurnData, after_turn, after_turns}
use Rattle.market_certificate.specs.Publications.{ProvedTurn}
use Rattle.published_parts.specs.Holdings.{held_after}
use Rattle.published_market.specs.Turns.{IsPublishedTurn}

-- a list beside the parts of another, in the same parts
pub record IsCut {A B : Type 0} (R : A → B → Type 0) (xs : List A) (front later : List B) : Type 0 where
  pub ahead : List A
  pub behind : List A
  pub whole : xs ≡ ahead ++ behind
  pub first : AllZip R ahead front
  pub second : AllZip R behind later

pub cut_like : {A B : Type 0} (R : A → B → Type 0) (xs : List A) (front later : List B) → AllZip R xs (front ++ later) → IsCut R xs front later
cut_like R xs [] later are = record { ahead = []; behind = xs; whole = refl; first = tt; second = are }
cut_like R [] (y ∷ front) later are = absurd are
cut_like R (x ∷ xs) (y ∷ front) later are =
    let rest = cut_like R xs front later are.1 in
    record { ahead = x ∷ rest.ahead; behind = rest.behind; whole = ap (λ all. x ∷ all) rest.whole; first = (are.0, rest.first); second = rest.second }

-- what is held after turns is held after the published ones
pub same_held : (crowd : CrowdData) (prices : List Tokens) (raise : ℕ) (held : List (List ℕ)) (turns : List TurnData) (published : List ProvedTurn)
    → AllZip (IsPublishedTurn crowd prices raise) turns published → held_after held published ≡ after_turns held turns
same_held crowd prices raise held [] [] are = refl
same_held crowd prices raise held (turn ∷ turns) (proved ∷ published) are =
    let place : proved.student ≡ turn.student = are.0.student in
    let bundle : proved.bundle ≡ turn.bundle = are.0.bundle in
    let next : slice_set held proved.student proved.bundle ≡ after_turn held turn =
    ap (λ s. slice_set held s proved.bundle) place ∙ ap (slice_set held turn.student) bundle in
    ap (λ now. held_after now published) next ∙ same_held crowd prices raise (after_turn held turn) turns published are.1
same_held crowd prices raise held [] (proved ∷ published) are = absurd are
same_held crowd prices raise held (turn ∷ turns) [] are = absurd are

-- a turn is as wanted where it stands
pub each_there : (Wanted : List (List ℕ) → TurnData → Type 0) (held : List (List ℕ)) (front later : List TurnData) (turn : TurnData)
    → EachTurn Wanted held (front ++ turn ∷ later) → Wanted (after_turns held front) turn
each_there Wanted held [] later turn are = are.0
each_there Wanted held (first ∷ front) later turn are = each_there Wanted (after_turn held first) front later turn are.1
