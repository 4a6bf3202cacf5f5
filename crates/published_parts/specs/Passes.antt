-- The passes in which the published turns of an aftermarket come.
use Rattle.std.specs.Prelude.{ℕ, ◌≡◌, ◌≢◌, ◌+◌, ◌↔◌, All, List, [], ◌∷◌, ◌++◌, length, map, slice_index_or}
use Rattle.std.specs.List.{flat_map}
use Rattle.market_certificate.specs.Publications.{ProvedTurn}
use Rattle.published_parts.specs.Holdings.{held_after}

-- the turns of whole passes, one after another
abbrev pub turns_of : List (List ProvedTurn) → List ProvedTurn
turns_of passes = flat_map (λ pass. pass) passes

-- nobody changes anything in a pass: at each of its turns the student gets what it held before the
-- pass
abbrev pub ChangesNothing : List (List ℕ) → List ProvedTurn → Type 0
ChangesNothing held pass =
    All (λ (turn : ProvedTurn). slice_index_or held turn.student [] ≡ turn.bundle) pass

-- A pass behind earlier ones and before later ones, where students have turns in this order and
-- hold these bundles at the start: its turns have its number, counted from 1; each student has one
-- turn in it, in the order; and nobody changes anything in it exactly where it is the last one.
pub record IsPassBetween (order : List ℕ) (start : List (List ℕ))
    (earlier later : List (List ProvedTurn)) (pass : List ProvedTurn) : Type 0 where
  pub numbered : All (λ (turn : ProvedTurn). turn.pass ≡ length earlier + 1) pass
  pub students : map (λ (turn : ProvedTurn). turn.student) pass ≡ order
  pub last : ChangesNothing (held_after start (turns_of earlier)) pass ↔ (later ≡ [])

-- the turns come in passes, and there is a pass exactly where there are students
pub record ComeInPasses (order : List ℕ) (start : List (List ℕ))
    (turns : List ProvedTurn) : Type 0 where
  pub passes : List (List ProvedTurn)
  pub joined : turns_of passes ≡ turns
  pub none : (passes ≡ []) ↔ (order ≡ [])
  pub each : (earlier later : List (List ProvedTurn)) (pass : List ProvedTurn)
      → passes ≡ earlier ++ pass ∷ later → IsPassBetween order start earlier later pass

-- a turn of the student, behind which there is none of it
pub record IsLastTurn (student : ℕ) (turns : List ProvedTurn) (turn : ProvedTurn) : Type 0 where
  pub earlier : List ProvedTurn
  pub later : List ProvedTurn
  pub split : turns ≡ earlier ++ turn ∷ later
  pub whose : turn.student ≡ student
  pub none_later : All (λ (other : ProvedTurn). other.student ≢ student) later
