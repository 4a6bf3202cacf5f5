-- What is seen of a shelf and of a sink at a call.
use Rattle.std.specs.Prelude.{ℕ, Bool, List, Option}
use Rattle.market_edge.specs.declared.shelf.Shelf as Shelf
use Rattle.market_edge.specs.declared.sink.Sink as Sink
use Rattle.market_edge.specs.Holdings.{Holding}

-- What a shelf holds, where it tells, and its counts of faults before and after a call; and after
-- it whether a text is begun, which names are served, and what is left of the begun text, where the
-- shelf tells.
pub record Sight : Type 0 where
  pub held : Option Holding
  pub before : List ℕ → ℕ
  pub after : List ℕ → ℕ
  pub begun : Bool
  pub serves : List ℕ → Bool
  pub left : Option (List ℕ)

-- what is seen of a shelf that was the first before a call, and is the second after it
abbrev pub sight : {H : Type 0} → Shelf.Ghosts H → H → H → Sight
sight shelf old new = record {
  held = (shelf.shows old).holds;
  before = (shelf.shows old).faults;
  after = (shelf.shows new).faults;
  begun = (shelf.shows new).is_begun;
  serves = (shelf.shows new).serves;
  left = (shelf.shows new).left;
}

-- What a sink has taken, where it tells, and its count of faults, before and after a call.
pub record Writing : Type 0 where
  pub taken_before : Option (List ℕ)
  pub taken_after : Option (List ℕ)
  pub faults_before : ℕ
  pub faults_after : ℕ

-- what is seen of a sink that was the first before a call, and is the second after it
abbrev pub writing : {K : Type 0} → Sink.Ghosts K → K → K → Writing
writing sink old new = record {
  taken_before = (sink.shows old).taken;
  taken_after = (sink.shows new).taken;
  faults_before = (sink.shows old).faults;
  faults_after = (sink.shows new).faults;
}
