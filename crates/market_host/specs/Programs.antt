-- What a process ends with.
use Rattle.std.specs.Prelude.{ℕ, ◌≡◌, ◌≤◌, List, [], map, Result, Ok, Err, String, Vec}
use Rattle.std.proofs.Common.{Global}
use Rattle.std.specs.String.{string_bytes}
use Rattle.market_edge.specs.declared.given_words.NoWords.{NoWords}
use Rattle.market_edge.specs.declared.given_words.NoWords.TheVariants.{NotText, NoMemory}
use Rattle.market_edge.specs.declared.shelf.Shelf as Shelf
use Rattle.market_host.specs.declared.status.Status.{Status}
use Rattle.market_host.specs.Answers.{IsAnswered, IsWordless}
use Rattle.market_host.specs.Sights.{Writing, sight}
use Rattle.market_host.specs.Taking.{Keeps}
use Rattle.market_host.specs.Traces.{trace}

-- a call with these words answers this status, where its shelf was the first and is the second; what
-- the shelf holds stays, and no count of faults falls
pub record IsCalled {H : Type 0} (words : List (List ℕ)) (shelf : Shelf.Ghosts H) (old new : H)
    (writes : Writing) (status : Status) : Type 0 where
  pub keeps : Keeps shelf old new
  pub later : writes.faults_before ≤ writes.faults_after
  pub answered : IsAnswered words (sight shelf old new) (trace shelf old new) writes status

-- A process whose words are these, or are not had for this reason, answers this status: as a call
-- with these words does; as one without words, where a word is not UTF-8; or that memory is wanted
-- for the words, and then the shelf stays as it was.
abbrev pub EndsProcess : {H : Type 0} → Result (Vec (String Global) Global) NoWords → Shelf.Ghosts H
    → H → H → Writing → Status → Type 0
EndsProcess (Ok words) shelf old new writes status =
    IsCalled (map string_bytes words.items) shelf old new writes status
EndsProcess (Err NotText) shelf old new writes status = IsCalled [] shelf old new writes status
EndsProcess (Err NoMemory) shelf old new writes status = IsWordless writes status × (new ≡ old)
