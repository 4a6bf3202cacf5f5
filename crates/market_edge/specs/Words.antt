-- The words of a command, where they are told, and what is found where one is asked for.
use Rattle.std.specs.Prelude.{ℕ, ◌≡◌, ◌<◌, ◌≤◌, List, length, take, slice_get, Option, Some, None, ⊤}
use Rattle.market_edge.specs.declared.words.Word.{Word}
use Rattle.market_edge.specs.declared.words.Word.TheVariants.{Whole, TooLong, Missing}

-- where the words are told, the one of this number has these bytes
abbrev pub HasWord : Option (List (List ℕ)) → ℕ → List ℕ → Type 0
HasWord None number bytes = ⊤
HasWord (Some words) number bytes = slice_get words number ≡ Some bytes

-- where the words are told, the one of this number has more than so many bytes
abbrev pub HasLonger : Option (List (List ℕ)) → ℕ → ℕ → Type 0
HasLonger None number count = ⊤
HasLonger (Some words) number count =
    (bytes : List ℕ) × (slice_get words number ≡ Some bytes) × (count < length bytes)

-- where the words are told, there are at most so many
abbrev pub HasAtMost : Option (List (List ℕ)) → ℕ → Type 0
HasAtMost None count = ⊤
HasAtMost (Some words) count = length words ≤ count

-- what is found of the word of a number; the room is as it is after the call
abbrev pub IsWord : Option (List (List ℕ)) → ℕ → List ℕ → Word → Type 0
IsWord told number room (Whole count) =
    (count ≤ length room) × HasWord told number (take count room)
IsWord told number room TooLong = HasLonger told number (length room)
IsWord told number room Missing = HasAtMost told number
