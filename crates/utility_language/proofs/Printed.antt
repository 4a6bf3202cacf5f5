-- What is printed is read as what it was.
use Rattle.std.proofs.Common.{ℕ, zero, suc, ◌≡◌, ◌<◌, ◌≤◌, ◌^◌, ◌&&◌, true≢false, Bool, true, false, not, List, [], ◌∷◌, length, get_or, refl, sym, ap, subst, ◌∙◌, inl, inr, arith}
use Rattle.std.specs.Prelude.{codes, unsigned_abs, IsTrue, ℤ, pos, negsuc}
use Rattle.std.specs.List.{All, join_with_byte}
use Rattle.std.specs.Fmt.{decimal, signed_decimal}
use Rattle.std.proofs.lemmas.List.{get_or_default}
use Rattle.std.proofs.lemmas.Bool.{cases_eq, ne_eqb}
use Rattle.std.proofs.lemmas.Fmt.{decimal_is_IsNumeral, decimal_nonempty}
use Rattle.std.proofs.lemmas.Str.Parse.{digit_at}
use Rattle.plain_facts.proofs.Truths.{and_parts, not_true}
use Rattle.market_units.specs.Names.{is_name_byte}
use Rattle.market_units.specs.declared.names.Name.{Name}
use Rattle.market_units.specs.Name.{name_bytes}
use Rattle.utility_language.specs.declared.commands.Command.{Command}
use Rattle.utility_language.specs.declared.commands.Command.TheVariants.{Rate, Pair, Clear, Close, Unreadable}
use Rattle.utility_language.specs.Words.{is_blank, words_of}
use Rattle.utility_language.specs.Commands.{Spells, IsCommandOf, words_by, HasShortNumber, is_command, printed}
use Rattle.utility_language.specs.Laws.{IsWord, PrintedIsReadLaw}
use Rattle.utility_language.proofs.Spellings.{one_command_a_line_law}
use Rattle.utility_language.proofs.WordLemmas.{ended_word, last_word}

-- each of the list is a word
pub AllWords : List (List ℕ) → Type 0
AllWords [] = Unit {0}
AllWords (word ∷ words) = IsWord word × AllWords words

-- words joined by spaces are the words of the line
words_of_joined : (words : List (List ℕ)) → AllWords words → words_of (join_with_byte 32 words) ≡ words
unfolding AllWords
words_of_joined [] each = refl
words_of_joined (word ∷ []) each = last_word word each.0
words_of_joined (word ∷ next ∷ more) each =
    ended_word word 32 (join_with_byte 32 (next ∷ more)) each.0 refl ∙ ap (λ words. word ∷ words) (words_of_joined (next ∷ more) each.1)

-- no byte is a blank, as a test that computes
no_blanks : List ℕ → Bool
no_blanks [] = true
no_blanks (byte ∷ bytes) = not (is_blank byte) && no_blanks bytes

name_byte_no_blank : (byte : ℕ) → IsTrue (is_name_byte byte) → is_blank byte ≡ false
name_byte_no_blank byte is = elim (cases_eq byte 32) [
  | inl space ↦ let here : is_name_byte 32 ≡ true = rw space at is in absurd (true≢false (sym here))
  | inr other ↦ elim (cases_eq byte 9) [
    | inl tab ↦ let here : is_name_byte 9 ≡ true = rw tab at is in absurd (true≢false (sym here))
    | inr neither ↦ rw (ne_eqb byte 32 other, ne_eqb byte 9 neither) refl
  ]
]

pub above_blank : (byte : ℕ) → 33 ≤ byte → is_blank byte ≡ false
above_blank byte above = rw (ne_eqb byte 32 (λ e. absurd (omega arith)), ne_eqb byte 9 (λ e. absurd (omega arith))) refl

name_is_word : (name : Name) → IsWord (name_bytes name)
name_is_word name =
    record { some = name.holds.name.some; whole = λ k d below. name_byte_no_blank (get_or (name_bytes name) k d) (name.holds.name.each k d below) }

digit_of : (n : ℕ) (small : n < 2 ^ 64) (k d : ℕ) → k < length (decimal n) → 48 ≤ get_or (decimal n) k d
digit_of n small k d below =
    let numeral = decimal_is_IsNumeral n small in
    let range = digit_at (decimal n) k numeral.0.1 below in
    let same = get_or_default (decimal n) k d 0 below in
    omega (arith, same, range)

decimal_is_word : (n : ℕ) → n < 2 ^ 64 → IsWord (decimal n)
decimal_is_word n small =
    record { some = decimal_nonempty n small; whole = λ k d below. above_blank (get_or (decimal n) k d) (omega (arith, digit_of n small k d below)) }

behind_sign : (bytes : List ℕ) → All (λ byte. is_blank byte ≡ false) bytes → All (λ byte. is_blank byte ≡ false) (45 ∷ bytes)
behind_sign bytes each zero d below = refl
behind_sign bytes each (suc k) d below = each k d (omega arith)

known_at : (bytes : List ℕ) (k d : ℕ) → k < length bytes → no_blanks bytes ≡ true → is_blank (get_or bytes k d) ≡ false
unfolding no_blanks
known_at [] k d below computed = absurd (omega arith)
known_at (byte ∷ bytes) zero d below computed = not_true (is_blank byte) (and_parts _ _ computed).0
known_at (byte ∷ bytes) (suc k) d below computed = known_at bytes k d (omega arith) (and_parts _ _ computed).1

known : (bytes : List ℕ) → 0 < length bytes → no_blanks bytes ≡ true → IsWord bytes
known bytes some computed = record { some = some; whole = λ k d below. known_at bytes k d below computed }

signed_is_word : (n : ℤ) → unsigned_abs n < 10 ^ 6 → IsWord (signed_decimal n)
signed_is_word (pos n) short = decimal_is_word n (omega arith)
signed_is_word (negsuc n) short = record {
  some = omega arith;
  whole = behind_sign (decimal (suc n)) (decimal_is_word (suc n) (omega arith)).whole;
}

pub words_are_words : (command : Command) → HasShortNumber command → AllWords (words_by command)
unfolding AllWords no_blanks
words_are_words (Rate student section n) short = (known (codes "rate") (omega arith) refl, (name_is_word student, (name_is_word section, (signed_is_word n short, tt))))
words_are_words (Pair student first second n) short = (known (codes "pair") (omega arith) refl, (name_is_word student, (name_is_word first, (name_is_word second, (signed_is_word n short, tt)))))
words_are_words (Clear student) short = (known (codes "clear") (omega arith) refl, (name_is_word student, tt))
words_are_words Close short = (known (codes "close") (omega arith) refl, tt)
words_are_words Unreadable short = (known (codes "unreadable") (omega arith) refl, tt)

-- no command is written by the one word `unreadable`
no_unreadable : (other : Command) → Spells (codes "unreadable" ∷ []) other → ⊥
no_unreadable (Rate student section n) spells = cc spells.written
no_unreadable (Pair student first second n) spells = cc spells.written
no_unreadable (Clear student) spells = cc spells.written
no_unreadable Close spells = cc spells.written
no_unreadable Unreadable spells = spells.readable refl

words_give : (command : Command) → HasShortNumber command → (is_command (words_by command) ≡ true) × IsCommandOf (words_by command) command
words_give (Rate student section n) short = (refl, inl (record { readable = λ e. cc; short = short; written = refl }))
words_give (Pair student first second n) short = (refl, inl (record { readable = λ e. cc; short = short; written = refl }))
words_give (Clear student) short = (refl, inl (record { readable = λ e. cc; short = short; written = refl }))
words_give Close short = (refl, inl (record { readable = λ e. cc; short = short; written = refl }))
words_give Unreadable short = (refl, inr (refl, no_unreadable))

pub printed_is_read_law : PrintedIsReadLaw
printed_is_read_law command short = rw (words_of_joined (words_by command) (words_are_words command short)) (words_give command short)

-- the command of a line that was printed
pub read_back : (line : List ℕ) (words : List (List ℕ)) (read command : Command) → words_of line ≡ words → IsCommandOf words read → HasShortNumber command
    → line ≡ printed command → read ≡ command
read_back line words read command is of short e =
    let law = printed_is_read_law command short in
    let same : words_of (printed command) ≡ words = ap words_of (sym e) ∙ is in
    let written = rw same at law.1 in
    one_command_a_line_law words read command of written

-- a line that was printed is a command
pub not_passed : (line : List ℕ) (command : Command) → is_command (words_of line) ≡ false → HasShortNumber command → line ≡ printed command → ⊥
not_passed line command none short e = true≢false (sym (printed_is_read_law command short).0 ∙ ap (λ line. is_command (words_of line)) (sym e) ∙ none)

-- the number of a line's command has at most six digits
pub short_of : (words : List (List ℕ)) (command : Command) → IsCommandOf words command → HasShortNumber command
short_of words command (inl spells) = spells.short
short_of words command (inr none) = subst HasShortNumber (sym none.0) tt
