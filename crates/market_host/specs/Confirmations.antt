-- What `check` answers to a text that `run` wrote, where it is given the same inputs.
use Rattle.std.specs.Prelude.{ℕ, ⊤, ◌≡◌, ◌<◌, List, ◌∷◌, ◌++◌, length}
use Rattle.market_units.specs.declared.limits.TheConstants.{MAX_TEXT_BYTES}
use Rattle.market_edge.specs.Faults.{Rose}
use Rattle.market_words.specs.declared.words.Form.TheVariants.{Check, Run}
use Rattle.market_words.specs.Forms.{HasForm, inputs_of}
use Rattle.market_host.specs.declared.status.Status.{Status}
use Rattle.market_host.specs.declared.status.Status.TheVariants.{Done, Usage, ShelfFault, Refused, TooLong, NoPrices, Found, Unknown, SinkFault, OutOfMemory}
use Rattle.market_host.specs.Inputs.{AreTold}
use Rattle.market_host.specs.Outcomes.{IsOutcome}
use Rattle.market_host.specs.Sights.{Sight}

-- `check` is given the inputs of `run`, with this text as the published one: the shelf tells at
-- both calls that these are their texts
pub record IsCheckOfRun (run check : List (List ℕ)) (at_run at_check : Sight)
    (text : List ℕ) : Type 0 where
  pub workers : ℕ
  pub is_run : HasForm run (Run workers)
  pub is_check : HasForm check Check
  pub catalog : List ℕ
  pub roll : List ℕ
  pub settings : List ℕ
  pub sessions : List (List ℕ)
  pub told_to_run : AreTold at_run.held (inputs_of (Run workers) run)
      (catalog ∷ roll ∷ settings ∷ sessions)
  pub told_to_check : AreTold at_check.held (inputs_of Check check)
      (catalog ∷ roll ∷ settings ∷ text ∷ sessions)

-- a count of faults of one of these inputs rose
abbrev pub HasFaultOf : Sight → List (List ℕ) → Type 0
HasFaultOf seen inputs =
    (earlier : List (List ℕ)) × (name : List ℕ) × (later : List (List ℕ))
    × (inputs ≡ earlier ++ name ∷ later) × Rose (seen.before name) (seen.after name)

-- The text is accepted, but where a fault was counted, the text is above its limit, or memory is
-- wanted.
abbrev pub Confirms : List (List ℕ) → Sight → List ℕ → Status → Type 0
Confirms check seen text Done = ⊤
Confirms check seen text (ShelfFault number) = HasFaultOf seen (inputs_of Check check)
Confirms check seen text (TooLong number) = (number ≡ 4) × (MAX_TEXT_BYTES < length text)
Confirms check seen text OutOfMemory = ⊤
Confirms check seen text Usage = ⊥
Confirms check seen text (Refused number row cause) = ⊥
Confirms check seen text (NoPrices least) = ⊥
Confirms check seen text (Found finding) = ⊥
Confirms check seen text (Unknown word) = ⊥
Confirms check seen text SinkFault = ⊥

-- whatever the outcome of `check` is, where it is given a text that `run` printed for the same
-- inputs
abbrev pub RunIsConfirmed : Type 0
RunIsConfirmed =
    (run check : List (List ℕ)) (at_run at_check : Sight) (text written : List ℕ) (status : Status)
    → IsOutcome run at_run Done text → IsCheckOfRun run check at_run at_check text
    → IsOutcome check at_check status written → Confirms check at_check text status
