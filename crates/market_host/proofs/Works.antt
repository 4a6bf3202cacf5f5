-- What a form answers is an outcome of the call.
use Rattle.std.proofs.Common.{ℕ, ◌≡◌, ◌≢◌, List, [], refl, subst, sym}
use Rattle.std.specs.Prelude.{Result}
use Rattle.market_edge.specs.declared.shelf.Shelf as Shelf
use Rattle.market_words.specs.declared.words.Form.{Form}
use Rattle.market_words.specs.declared.call.Call.{Call}
use Rattle.market_words.specs.Forms.{inputs_of}
use Rattle.market_words.specs.Inputs.{IsCall, names_in}
use Rattle.market_host.specs.declared.ended.Ended.{Ended}
use Rattle.market_host.specs.declared.status.Status.{Status}
use Rattle.market_host.specs.declared.status.Status.TheVariants.{Done, Usage, ShelfFault, Refused, TooLong, NoPrices, Found, Unknown, SinkFault, OutOfMemory}
use Rattle.market_host.specs.declared.trouble.Trouble.{Trouble}
use Rattle.market_host.specs.Lines.{line_of}
use Rattle.market_host.specs.Outcomes.{IsOutcome, IsStopped}
use Rattle.market_host.specs.Sights.{sight}
use Rattle.market_host.specs.Taking.{AreTaken, OneStops}
use Rattle.market_host.specs.Traces.{AreReadTo, AreUsed, trace}
use Rattle.market_host.specs.Works.{Ends, IsAnswer}

-- no work ends with a sink fault
pub ended_apart : (form : Form) (texts : List (List ℕ)) (status : Status) (text : List ℕ) → Ends form texts status text → status ≢ SinkFault
ended_apart form texts status text ends is = subst (λ (s : Status). Ends form texts s text) is ends

-- a call of a form that is known
pub known_call : (form known : Form) (call : Call) → form ≡ known → ((words : List (List ℕ)) × IsCall words form call)
    → (words : List (List ℕ)) × IsCall words known call
known_call form known call is (words, has) = (words, subst (λ (f : Form). IsCall words f call) is has)

-- what is answered for a form that is known
pub answered_for : {H : Type 0} (shelf : Shelf.Ghosts H) (form known : Form) (names : List (List ℕ)) (a b : H)
    (result : Result Ended Trouble) → form ≡ known → IsAnswer shelf known names a b result → IsAnswer shelf form names a b result
answered_for shelf form known names a b result is answer = subst (λ (f : Form). IsAnswer shelf f names a b result) (sym is) answer

-- the same where there are no inputs
pub answered_alone : {H : Type 0} (shelf : Shelf.Ghosts H) (form known : Form) (names : List (List ℕ)) (a b : H)
    (result : Result Ended Trouble) → form ≡ known → [] ≡ names → IsAnswer shelf known [] a b result → IsAnswer shelf form names a b result
answered_alone shelf form known names a b result is none answer =
    answered_for shelf form known names a b result is (subst (λ (all : List (List ℕ)). IsAnswer shelf known all a b result) none answer)

module _ {H : Type 0} (shelf : Shelf.Ghosts H) (form : Form) (a b : H) where
  module _ (words : List (List ℕ)) (call : Call) (is : IsCall words form call) where
    -- the inputs that are taken are those of the words
    of_words : (texts : List (List ℕ)) → AreTaken shelf form (names_in call) texts a b → AreTaken shelf form (inputs_of form words) texts a b
    of_words texts taken = subst (λ (names : List (List ℕ)). AreTaken shelf form names texts a b) (sym is.named) taken

    stops_of_words : (stop : Trouble) → OneStops shelf form (names_in call) a b stop → OneStops shelf form (inputs_of form words) a b stop
    stops_of_words stop stops = subst (λ (names : List (List ℕ)). OneStops shelf form names a b stop) (sym is.named) stops

    -- the work that is ended is an outcome
    pub ended_outcome : (status : Status) (text : List ℕ)
        → ((texts : List (List ℕ)) × AreTaken shelf form (names_in call) texts a b × Ends form texts status text)
        → IsOutcome words (sight shelf a b) status text
    ended_outcome Done text (texts, taken, ends) = (form, is.has, texts, (of_words texts taken).read, (of_words texts taken).ended, ends)
    ended_outcome (NoPrices least) text (texts, taken, ends) = (form, is.has, texts, (of_words texts taken).read, (of_words texts taken).ended, ends)
    ended_outcome (Found finding) text (texts, taken, ends) = (form, is.has, texts, (of_words texts taken).read, (of_words texts taken).ended, ends)
    ended_outcome (Unknown word) text (texts, taken, ends) = (form, is.has, texts, (of_words texts taken).read, (of_words texts taken).ended, ends)
    ended_outcome Usage text (texts, taken, ends) = absurd ends
    ended_outcome (ShelfFault n) text (texts, taken, ends) = absurd ends
    ended_outcome (Refused n row cause) text (texts, taken, ends) = absurd ends
    ended_outcome (TooLong n) text (texts, taken, ends) = absurd ends
    ended_outcome SinkFault text (texts, taken, ends) = absurd ends
    ended_outcome OutOfMemory text (texts, taken, ends) = absurd ends

    -- all inputs are used for it
    pub ended_used : (status : Status) (text : List ℕ)
        → ((texts : List (List ℕ)) × AreTaken shelf form (names_in call) texts a b × Ends form texts status text)
        → AreUsed words (trace shelf a b) status
    ended_used Done text (texts, taken, ends) = (form, is.has, (of_words texts taken).used)
    ended_used (NoPrices least) text (texts, taken, ends) = (form, is.has, (of_words texts taken).used)
    ended_used (Found finding) text (texts, taken, ends) = (form, is.has, (of_words texts taken).used)
    ended_used (Unknown word) text (texts, taken, ends) = (form, is.has, (of_words texts taken).used)
    ended_used Usage text (texts, taken, ends) = absurd ends
    ended_used (ShelfFault n) text (texts, taken, ends) = absurd ends
    ended_used (Refused n row cause) text (texts, taken, ends) = absurd ends
    ended_used (TooLong n) text (texts, taken, ends) = absurd ends
    ended_used SinkFault text (texts, taken, ends) = absurd ends
    ended_used OutOfMemory text (texts, taken, ends) = absurd ends

    -- what stops the call is an outcome too
    pub stopped_so : (stop : Trouble) → OneStops shelf form (names_in call) a b stop → IsStopped words (sight shelf a b) stop (line_of stop)
    stopped_so stop stops = (form, is.has, (stops_of_words stop stops).trouble, refl)

    pub used_until : (stop : Trouble) → OneStops shelf form (names_in call) a b stop → AreReadTo words (trace shelf a b) stop
    used_until stop stops = (form, is.has, (stops_of_words stop stops).used)
