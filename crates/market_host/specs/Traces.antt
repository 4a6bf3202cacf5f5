-- How a call uses its inputs: which of them it begins, how far it reads them, and whether it counts
-- a fault.
use Rattle.std.specs.Prelude.{ℕ, ◌≡◌, ◌+◌, ◌≤◌, false, List, [], ◌++◌, length, map, Option, ⊤}
use Rattle.market_edge.specs.declared.shelf.Shelf as Shelf
use Rattle.market_edge.specs.Openings.{Opening, Changes, read_out, with_read_out}
use Rattle.market_words.specs.declared.words.Form.{Form}
use Rattle.market_words.specs.Forms.{HasForm, inputs_of}
use Rattle.market_host.specs.declared.status.Status.{Status}
use Rattle.market_host.specs.declared.status.Status.TheVariants.{Done, Usage, ShelfFault, Refused, TooLong, NoPrices, Found, Unknown, SinkFault, OutOfMemory}
use Rattle.market_host.specs.declared.trouble.Trouble.{Trouble}
use Rattle.market_host.specs.declared.trouble.Trouble.TheVariants as trouble

-- a shelf's counts of faults before and after a call, and the texts that were begun until then,
-- where the shelf tells
pub record Trace : Type 0 where
  pub before : List ℕ → ℕ
  pub after : List ℕ → ℕ
  pub earlier : Option (List Opening)
  pub openings : Option (List Opening)

-- the trace of a call, before which the shelf was the first and after which it is the second
abbrev pub trace : {H : Type 0} → Shelf.Ghosts H → H → H → Trace
trace shelf old new = record {
  before = (shelf.shows old).faults;
  after = (shelf.shows new).faults;
  earlier = (shelf.shows old).openings;
  openings = (shelf.shows new).openings;
}

-- a text of this name that was begun, and not read to its end
abbrev pub only_begun : List ℕ → Opening
only_begun name = (name, false)

-- behind these, texts are begun: those of the first names, each read to its end, and those of the
-- others, not read to theirs
abbrev pub with_begun_too : List (List ℕ) → List (List ℕ) → List Opening → List Opening
with_begun_too ended begun openings = openings ++ (map read_out ended ++ map only_begun begun)

-- no count of faults rose, and exactly the texts of these names were begun, one after another, and
-- read to their ends
abbrev pub AreReadOut : Trace → List (List ℕ) → Type 0
AreReadOut seen names =
    (seen.after ≡ seen.before) × Changes seen.earlier seen.openings (with_read_out names)

-- no count of faults rose, where it is not a fault of the shelf that stops the call
abbrev pub CountsStand : Trouble → (List ℕ → ℕ) → (List ℕ → ℕ) → Type 0
CountsStand (trouble.ShelfFault n) before after = ⊤
CountsStand (trouble.Refused n row cause) before after = after ≡ before
CountsStand (trouble.TooLong n) before after = after ≡ before
CountsStand trouble.OutOfMemory before after = after ≡ before

-- The input that stops the call is the last begun one, or the next one, which could not be begun.
-- `next` is the number behind the inputs that were read to their ends, and `begun` counts the begun
-- ones behind those: at most one. A refused input is the last that was read to its end; one that is
-- too long is that too, or the begun one behind it. Want of memory is told of no input.
abbrev pub IsLastBegun : Trouble → ℕ → ℕ → Type 0
IsLastBegun (trouble.ShelfFault n) next begun = (n ≡ next) × (begun ≤ 1)
IsLastBegun (trouble.Refused n row cause) next begun = (n + 1 ≡ next) × (begun ≡ 0)
IsLastBegun (trouble.TooLong n) next begun = (n + 1 ≡ next + begun) × (begun ≤ 1)
IsLastBegun trouble.OutOfMemory next begun = begun ≤ 1

-- Of these inputs, the first of which has this number, the first ones were begun, one after
-- another, and all but the last were read to their ends; the last is the one of which it is told
-- what stops the call, and no count of faults rose but for a fault of the shelf.
abbrev pub AreReadUntil : Trace → List (List ℕ) → ℕ → Trouble → Type 0
AreReadUntil seen names first stop =
    CountsStand stop seen.before seen.after
    × (ended : List (List ℕ)) × (begun : List (List ℕ)) × (later : List (List ℕ))
    × (names ≡ ended ++ (begun ++ later)) × IsLastBegun stop (first + length ended) (length begun)
    × Changes seen.earlier seen.openings (with_begun_too ended begun)

-- all inputs of the words were read to their ends, or they were read until this stops the call
abbrev pub AreAllRead : List (List ℕ) → Trace → Type 0
AreAllRead words seen = (form : Form) × HasForm words form × AreReadOut seen (inputs_of form words)

abbrev pub AreReadTo : List (List ℕ) → Trace → Trouble → Type 0
AreReadTo words seen stop =
    (form : Form) × HasForm words form × AreReadUntil seen (inputs_of form words) 1 stop

-- How a call with these words that answers this uses its inputs. Words of no form have none.
abbrev pub AreUsed : List (List ℕ) → Trace → Status → Type 0
AreUsed words seen Done = AreAllRead words seen
AreUsed words seen (NoPrices least) = AreAllRead words seen
AreUsed words seen (Found finding) = AreAllRead words seen
AreUsed words seen (Unknown word) = AreAllRead words seen
AreUsed words seen Usage = AreReadOut seen []
AreUsed words seen (ShelfFault number) = AreReadTo words seen (trouble.ShelfFault number)
AreUsed words seen (Refused number row cause) =
    AreReadTo words seen (trouble.Refused number row cause)
AreUsed words seen (TooLong number) = AreReadTo words seen (trouble.TooLong number)
AreUsed words seen OutOfMemory = AreReadTo words seen trouble.OutOfMemory
AreUsed words seen SinkFault = ⊥
