-- What the sessions ask of an object: a list of requests each.
use Rattle.std.specs.Prelude.{ℕ, ◌≡◌, ◌<◌, List, [], Vec, All, length, map, slice_index_or}
use Rattle.std.proofs.Common.{Global}
use Rattle.chronicle.specs.declared.journal.StepOf.{StepOf}
use Rattle.chronicle.specs.History.{calls_by}

-- the requests of each stream
abbrev pub lists_of : {Q : Type 0} → List (Vec Q Global) → List (List Q)
lists_of {Q = Q} streams = map (λ (stream : Vec Q Global). stream.items) streams

-- what was asked at each step
abbrev pub requests : {Q A : Type 0} → List (StepOf Q A) → List Q
requests {Q = Q} {A = A} steps = map (λ (step : StepOf Q A). step.request) steps

-- every step is of a given session, numbered from 0 here, and the requests of each are its whole
-- stream
pub record MergesCalls {Q A : Type 0} (streams : List (List Q))
    (history : List (StepOf Q A)) : Type 0 where
  pub given : All (λ (step : StepOf Q A). step.seat < length streams) history
  pub whole : (k : ℕ) → k < length streams
      → requests (calls_by k history) ≡ slice_index_or streams k []
