-- What a shelf of texts holds, where it tells, and what was taken of a text.
use Rattle.std.specs.Prelude.{ℕ, ◌≡◌, ◌+◌, ◌≤◌, Bool, cond, List, [], drop, length, IsSome, ⊤, Option, Some, None}
use Rattle.std.specs.Option.{option_or}
use Rattle.std.specs.Ordering.{nat_cmp}
use Rattle.std.specs.Cmp.Lexicographic.{slice_cmp}
use Rattle.std.specs.FinMap.{FinMap, get}

-- texts by name, and whether a name that is not among them stands for the empty text
pub record Holding : Type 0 where
  pub texts : FinMap (slice_cmp nat_cmp) (List ℕ)
  pub others_empty : Bool

-- the text of a name, if it has one
abbrev pub text_of : Holding → List ℕ → Option (List ℕ)
text_of holding name = option_or (get holding.texts name) (cond holding.others_empty (Some []) None)

-- the text of a name, where the shelf tells and the name has one
abbrev pub told_text : Option Holding → List ℕ → Option (List ℕ)
told_text None name = None
told_text (Some holding) name = text_of holding name

-- where the shelf tells, the name has a text, and all of it is left
abbrev pub Begins : Option Holding → List ℕ → Option (List ℕ) → Type 0
Begins None name left = ⊤
Begins (Some holding) name left = IsSome left × (left ≡ text_of holding name)

-- where the shelf tells, the name has a text, and it is this one
abbrev pub IsTextOf : Option Holding → List ℕ → List ℕ → Type 0
IsTextOf None name text = ⊤
IsTextOf (Some holding) name text = text_of holding name ≡ Some text

-- where the shelf tells, nothing is left
abbrev pub IsReadOut : Option Holding → Option (List ℕ) → Type 0
IsReadOut None left = ⊤
IsReadOut (Some holding) left = left ≡ Some []

-- these are the bytes that are left of a text of which so many were taken
abbrev pub IsLeftOf : ℕ → Option (List ℕ) → Option (List ℕ) → Type 0
IsLeftOf count (Some text) (Some left) = (left ≡ drop count text) × (count ≤ length text)
IsLeftOf count text left = ⊥

-- no more than so many bytes of a text were taken, where it is begun
abbrev pub IsMostOf : ℕ → Option (List ℕ) → Option (List ℕ) → Type 0
IsMostOf count (Some text) (Some left) = length text ≤ count + length left
IsMostOf count text left = ⊤

-- where the shelf tells, exactly so many bytes of the name's text were taken
abbrev pub TakesExactly : ℕ → Option Holding → List ℕ → Option (List ℕ) → Type 0
TakesExactly count None name left = ⊤
TakesExactly count (Some holding) name left = IsLeftOf count (text_of holding name) left

-- where the shelf tells, at most so many bytes of the name's text were taken
abbrev pub TakesAtMost : ℕ → Option Holding → List ℕ → Option (List ℕ) → Type 0
TakesAtMost count None name left = ⊤
TakesAtMost count (Some holding) name left = IsMostOf count (text_of holding name) left
