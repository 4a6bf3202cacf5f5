-- What a call answers.
use Rattle.std.specs.Prelude.{ℕ, ◌≡◌, ◌≢◌, ◌≤◌, List}
use Rattle.market_edge.specs.Faults.{Rose}
use Rattle.market_edge.specs.Sinks.{Takes, TakesFront}
use Rattle.market_host.specs.declared.status.Status.{Status}
use Rattle.market_host.specs.declared.status.Status.TheVariants.{OutOfMemory, SinkFault}
use Rattle.market_host.specs.declared.trouble.Trouble.TheVariants as trouble
use Rattle.market_host.specs.Completeness.{CanBeDone, EndsWork}
use Rattle.market_host.specs.Ends.{IsReadOutAt}
use Rattle.market_host.specs.Lines.{line_of}
use Rattle.market_host.specs.Outcomes.{IsOutcome}
use Rattle.market_host.specs.Sights.{Sight, Writing}
use Rattle.market_host.specs.Traces.{AreUsed, Trace}

-- A call with these words answers this status, where this is seen of its shelf, of the texts begun
-- there, and of its sink.
pub record IsAnswered (words : List (List ℕ)) (seen : Sight) (begun : Trace) (writes : Writing)
    (status : Status) : Type 0 where
  -- the status and its text are the outcome of the call, and the sink took that text, all of it
  -- unless it fails
  pub written : status ≢ SinkFault
      → (text : List ℕ) × IsOutcome words seen status text
      × Takes writes.taken_before writes.taken_after text
  -- a sink fault stands for the outcome of the call, and some of its text was not taken
  pub sink_fault : status ≡ SinkFault → Rose writes.faults_before writes.faults_after
  pub replaced : status ≡ SinkFault
      → (instead : Status) × (text : List ℕ) × IsOutcome words seen instead text
      × AreUsed words begun instead × TakesFront writes.taken_before writes.taken_after text
  -- where every input is held and in order and no fault is counted, the work is ended, or memory is
  -- wanted
  pub complete : CanBeDone words seen → ¬ Rose writes.faults_before writes.faults_after
      → EndsWork status
  -- where the work is ended, the last input was read to its end, and where an input is refused,
  -- that one
  pub read_out : IsReadOutAt words seen status
  -- where the shelf tells what was begun: each input is begun in its turn and read to its end, and
  -- so is each before the one that stops the call; where neither the shelf nor the sink is at
  -- fault, no count of theirs rose
  pub used : status ≢ SinkFault → AreUsed words begun status
  pub uncounted : status ≢ SinkFault → writes.faults_after ≡ writes.faults_before

-- There is no memory for the words of a call: memory is wanted, unless the sink fails.
pub record IsWordless (writes : Writing) (status : Status) : Type 0 where
  pub written : status ≢ SinkFault
      → (status ≡ OutOfMemory)
      × Takes writes.taken_before writes.taken_after (line_of trouble.OutOfMemory)
  pub sink_fault : status ≡ SinkFault → Rose writes.faults_before writes.faults_after
  pub replaced : status ≡ SinkFault
      → TakesFront writes.taken_before writes.taken_after (line_of trouble.OutOfMemory)
  pub uncounted : status ≢ SinkFault → writes.faults_after ≡ writes.faults_before
  -- the sink's count of faults does not fall
  pub later : writes.faults_before ≤ writes.faults_after
