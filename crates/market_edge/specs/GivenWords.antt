-- The words of a command as text, or why they are not had.
use Rattle.std.specs.Prelude.{ℕ, ◌≡◌, List, map, slice_get, Option, Some, None, Result, Ok, Err, String, Vec, ⊤}
use Rattle.std.proofs.Common.{Global}
use Rattle.std.specs.Str.{IsUtf8}
use Rattle.std.specs.String.{string_bytes}
use Rattle.market_edge.specs.Words.{HasAtMost, HasWord}
use Rattle.market_edge.specs.declared.given_words.NoWords.{NoWords}
use Rattle.market_edge.specs.declared.given_words.NoWords.TheVariants.{NotText, NoMemory}

-- where the words are told, they are these
abbrev pub AreTold : Option (List (List ℕ)) → List (List ℕ) → Type 0
AreTold None words = ⊤
AreTold (Some told) words = words ≡ told

-- where the words are told, one of them is not UTF-8
abbrev pub SomeIsNoText : Option (List (List ℕ)) → Type 0
SomeIsNoText None = ⊤
SomeIsNoText (Some told) =
    (number : ℕ) × (bytes : List ℕ) × (slice_get told number ≡ Some bytes) × (¬ IsUtf8 bytes)

-- why words are not had; of want of memory no cause is said
abbrev pub IsWhyNone : Option (List (List ℕ)) → NoWords → Type 0
IsWhyNone told NotText = SomeIsNoText told
IsWhyNone told NoMemory = ⊤

-- all words are had, or this is why not
abbrev pub AreHad : Option (List (List ℕ)) → Result (Vec (String Global) Global) NoWords → Type 0
AreHad told (Ok words) = AreTold told (map string_bytes words.items)
AreHad told (Err why) = IsWhyNone told why

-- the word of a number is had, or there is none of it, or this is why it is not had
abbrev pub IsHad : Option (List (List ℕ)) → ℕ → Result (Option (String Global)) NoWords → Type 0
IsHad told number (Ok (Some word)) = HasWord told number (string_bytes word)
IsHad told number (Ok None) = HasAtMost told number
IsHad told number (Err why) = IsWhyNone told why

-- these bytes are had as text, or they are none, or memory is wanted
abbrev pub IsTextOf : List ℕ → Result (Option (String Global)) NoWords → Type 0
IsTextOf bytes (Ok (Some text)) = string_bytes text ≡ bytes
IsTextOf bytes (Ok None) = ⊥
IsTextOf bytes (Err why) = why ≡ NotText → ¬ IsUtf8 bytes
