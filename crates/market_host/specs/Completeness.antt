-- When the work must be done.
use Rattle.std.specs.Prelude.{ℕ, List, [], All, ⊤}
use Rattle.market_edge.specs.Faults.{Rose}
use Rattle.market_words.specs.declared.words.Form.{Form}
use Rattle.market_words.specs.Forms.{HasForm, inputs_of}
use Rattle.market_host.specs.declared.status.Status.{Status}
use Rattle.market_host.specs.declared.status.Status.TheVariants.{Done, Usage, ShelfFault, Refused, TooLong, NoPrices, Found, Unknown, SinkFault, OutOfMemory}
use Rattle.market_host.specs.Inputs.{AreInOrder, AreTold}
use Rattle.market_host.specs.Sights.{Sight}

-- the words have a form, each of its inputs is held, all are in order, and no fault of any was
-- counted
abbrev pub CanBeDone : List (List ℕ) → Sight → Type 0
CanBeDone words seen =
    (form : Form) × HasForm words form
    × (texts : List (List ℕ)) × AreTold seen.held (inputs_of form words) texts
    × AreInOrder form [] texts
    × All (λ name. ¬ Rose (seen.before name) (seen.after name)) (inputs_of form words)

-- The status is one that the work ends with, or that of want of memory. Which one it is with which
-- the work ends is said by the outcome.
abbrev pub EndsWork : Status → Type 0
EndsWork Done = ⊤
EndsWork (NoPrices least) = ⊤
EndsWork (Found finding) = ⊤
EndsWork (Unknown word) = ⊤
EndsWork OutOfMemory = ⊤
EndsWork Usage = ⊥
EndsWork (ShelfFault number) = ⊥
EndsWork (Refused number row cause) = ⊥
EndsWork (TooLong number) = ⊥
EndsWork SinkFault = ⊥
