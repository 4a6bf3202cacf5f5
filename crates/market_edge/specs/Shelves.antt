-- What a shelf shows, and what its calls make of it.
use Rattle.std.specs.Prelude.{ℕ, ◌≡◌, ◌<◌, ◌≤◌, Bool, false, IsTrue, List, length, take, Option, Result, MatchResult}
use Rattle.std.specs.Io.KnownBytes.{Consumes, IsAtEnd, Keeps}
use Rattle.market_edge.specs.Faults.{Rose}
use Rattle.market_edge.specs.Holdings.{Holding, Begins}
use Rattle.market_edge.specs.Openings.{Opening, Changes, as_before, with_begun, with_end}

-- what a shelf shows
pub record ShelfState : Type 0 where
  -- what it holds, where it tells
  pub holds : Option Holding
  -- what is left of the text that is begun, where it tells
  pub left : Option (List ℕ)
  -- whether a text is begun
  pub is_begun : Bool
  -- the names that a failed read may be about
  pub serves : List ℕ → Bool
  -- the names whose texts were begun, in order, each with whether it was read to its end, where it
  -- tells; a call may end the telling, and none begins it
  pub openings : Option (List Opening)
  -- how often begins and reads have failed, by name, up to the greatest `u64`
  pub faults : List ℕ → ℕ

-- the text of this name is begun at its first byte
pub record HasBegun (before after : ShelfState) (name : List ℕ) : Type 0 where
  pub holds : after.holds ≡ before.holds
  pub begun : IsTrue after.is_begun
  pub text : Begins before.holds name after.left
  pub serves : IsTrue (after.serves name)
  pub opens : Changes before.openings after.openings (with_begun name)
  -- of all names at once, so that no caller's proof needs a premise for each
  pub uncounted : after.faults ≡ before.faults

-- the text of this name could not be begun; that is counted, and no text is begun
pub record HasNotBegun (before after : ShelfState) (name : List ℕ) : Type 0 where
  pub holds : after.holds ≡ before.holds
  pub none : after.is_begun ≡ false
  pub opens : Changes before.openings after.openings as_before
  pub cause : Rose (before.faults name) (after.faults name)
  pub later : (other : List ℕ) → before.faults other ≤ after.faults other

-- what a begin with this result does
abbrev pub IsBegin : {A E : Type 0} → ShelfState → ShelfState → List ℕ → Result A E → Type 0
IsBegin before after name result =
    MatchResult result (λ _. HasBegun before after name) (λ _. HasNotBegun before after name)

-- a text is begun, and the room has a place for a byte of it
abbrev pub MayRead : ShelfState → List ℕ → Type 0
MayRead before room = IsTrue before.is_begun × (0 < length room)

-- so many of the next bytes of the begun text are taken, and stand at the front of the room: none
-- only at the end of the text, or where there is no room
pub record HasRead (before after : ShelfState) (room : List ℕ) (count : ℕ) : Type 0 where
  pub holds : after.holds ≡ before.holds
  pub begun : IsTrue after.is_begun
  pub bound : count ≤ length room
  pub bytes : Consumes before.left after.left (take count room)
  pub end : count ≡ 0 → 0 < length room → IsAtEnd after.left
  pub ends : count ≡ 0 → Changes before.openings after.openings with_end
  pub goes_on : 0 < count → Changes before.openings after.openings as_before
  pub serves : (other : List ℕ) → after.serves other ≡ before.serves other
  pub uncounted : after.faults ≡ before.faults

-- the begun text could not be read on; that is counted, and no byte is taken
pub record HasNotRead (before after : ShelfState) : Type 0 where
  pub holds : after.holds ≡ before.holds
  pub begun : IsTrue after.is_begun
  pub bytes : Keeps before.left after.left
  pub stays : Changes before.openings after.openings as_before
  pub serves : (other : List ℕ) → after.serves other ≡ before.serves other
  pub cause : (other : List ℕ) → IsTrue (before.serves other)
      → Rose (before.faults other) (after.faults other)
  pub later : (other : List ℕ) → before.faults other ≤ after.faults other

-- what a read with this result does; the room is as it is after the read
abbrev pub IsRead : {E : Type 0} → ShelfState → ShelfState → List ℕ → Result ℕ E → Type 0
IsRead before after room result =
    MatchResult result (HasRead before after room) (λ _. HasNotRead before after)
