-- The words of a command, told so far.
use Rattle.std.proofs.Common.{Global, String, ℕ, ◌≡◌, ◌≤◌, ◌+◌, List, [], ◌∷◌, ◌++◌, Some, None, refl, ap, subst, sym, ◌∙◌, length, take, arith}
use Rattle.std.specs.Prelude.{⊤, Option, Result, Ok, Err, slice_get}
use Rattle.std.specs.Str.{IsUtf8}
use Rattle.std.specs.String.{string_bytes}
use Rattle.std.proofs.lemmas.List.{take-append-le, take-take, take_all, take_more}
use Rattle.std.proofs.lemmas.Option.{get_or_from_slice_get, slice_get_within}
use Rattle.market_edge.specs.GivenWords.{AreTold, IsHad, IsTextOf, IsWhyNone}
use Rattle.market_edge.specs.Words.{HasAtMost, HasWord}
use Rattle.market_edge.specs.declared.given_words.NoWords.{NoWords}
use Rattle.market_edge.specs.declared.given_words.NoWords.TheVariants.{NotText, NoMemory}

-- where the words are told, the first so many of them are these
abbrev pub AreFirst : Option (List (List ℕ)) → ℕ → List (List ℕ) → Type 0
AreFirst None count words = ⊤
AreFirst (Some told) count words = words ≡ take count told

-- before any word
pub none_yet : (told : Option (List (List ℕ))) → AreFirst told 0 []
none_yet None = tt
none_yet (Some told) = refl

-- with one more word
pub one_more_word : (told : Option (List (List ℕ))) (count : ℕ) (words : List (List ℕ)) (word : List ℕ)
    → AreFirst told count words → HasWord told count word → AreFirst told (count + 1) (words ++ word ∷ [])
one_more_word None count words word first has = tt
one_more_word (Some told) count words word first has =
    ap (λ front. front ++ word ∷ []) first
    ∙ ap (λ w. take count told ++ w ∷ []) (sym (get_or_from_slice_get told count word [] has))
    ∙ sym (take_more told count [] (slice_get_within told count word has))

-- where there are no more
pub all_told : (told : Option (List (List ℕ))) (count : ℕ) (words : List (List ℕ)) → AreFirst told count words
    → HasAtMost told count → AreTold told words
all_told None count words first few = tt
all_told (Some told) count words first few = first ∙ take_all count told few

-- a word that is no text, or want of memory
why_none : (told : Option (List (List ℕ))) (number : ℕ) (bytes : List ℕ) (why : NoWords) → HasWord told number bytes
    → (why ≡ NotText → ¬ IsUtf8 bytes) → IsWhyNone told why
why_none told number bytes NoMemory has not = tt
why_none None number bytes NotText has not = tt
why_none (Some words) number bytes NotText has not = (number, bytes, has, not refl)

-- the word of a number is had where its bytes are had as text
pub text_is_had : (told : Option (List (List ℕ))) (number : ℕ) (bytes : List ℕ) (result : Result (Option (String Global)) NoWords)
    → HasWord told number bytes → IsTextOf bytes result → IsHad told number result
text_is_had told number bytes (Ok (Some text)) has is = subst (HasWord told number) (sym is) has
text_is_had told number bytes (Ok None) has is = absurd is
text_is_had told number bytes (Err why) has is = why_none told number bytes why has is

-- the front of a room that is seen within its length
pub front_of_room : (count width : ℕ) (room rest : List ℕ) → count ≤ length room → length room ≤ width
    → take count room ≡ take count (take width (room ++ rest))
front_of_room count width room rest fits wide =
    sym (take-append-le count room rest fits) ∙ sym (take-take count width (room ++ rest) (omega (arith, fits, wide)))
