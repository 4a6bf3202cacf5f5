-- The commands of a text, line by line.
use Rattle.std.proofs.Common.{ℕ, ◌≡◌, ◌<◌, true, false, cond, List, [], ◌∷◌, length, refl, ap, ◌∙◌, arith, zero, suc, get_or}
use Rattle.std.specs.List.{All, AllZip, filter}
use Rattle.std.specs.Prelude.{map}
use Rattle.utility_language.specs.declared.commands.Command.{Command}
use Rattle.utility_language.specs.Laws.{OneListATextLaw}
use Rattle.utility_language.proofs.Spellings.{one_command_a_line_law}
use Rattle.utility_language.specs.Lines.{lines_of}
use Rattle.utility_language.specs.Words.{words_of}
use Rattle.utility_language.specs.Commands.{HasShortNumber, IsCommandOf, is_command, command_lines}
use Rattle.utility_language.proofs.Printed.{short_of}

-- a first line that is no command
pub line_passed : (text line rest : List ℕ) → lines_of text ≡ line ∷ lines_of rest → is_command (words_of line) ≡ false
    → command_lines text ≡ command_lines rest
line_passed text line rest lines none =
    ap (λ lines. filter is_command (map words_of lines)) lines ∙ ap (λ b. cond b (words_of line ∷ command_lines rest) (command_lines rest)) none

-- a first line that is one
pub line_taken : (text line rest : List ℕ) → lines_of text ≡ line ∷ lines_of rest → is_command (words_of line) ≡ true
    → command_lines text ≡ words_of line ∷ command_lines rest
line_taken text line rest lines some =
    ap (λ lines. filter is_command (map words_of lines)) lines ∙ ap (λ b. cond b (words_of line ∷ command_lines rest) (command_lines rest)) some

pub zip_length : {A B : Type 0} (R : A → B → Type 0) (xs : List A) (ys : List B) → AllZip R xs ys → length xs ≡ length ys
zip_length R [] [] each = refl
zip_length R [] (b ∷ ys) each = absurd each
zip_length R (a ∷ xs) [] each = absurd each
zip_length R (a ∷ xs) (b ∷ ys) each = omega (arith, zip_length R xs ys each.1)

pub no_lines : (text : List ℕ) → length text ≡ 0 → command_lines text ≡ []
no_lines [] none = refl
no_lines (byte ∷ bytes) none = absurd (omega arith)

same_commands : (lines : List (List (List ℕ))) (a b : List Command) → AllZip IsCommandOf lines a → AllZip IsCommandOf lines b → a ≡ b
same_commands [] [] [] first second = refl
same_commands [] [] (y ∷ ys) first second = absurd second
same_commands [] (x ∷ xs) b first second = absurd first
same_commands (line ∷ lines) [] b first second = absurd first
same_commands (line ∷ lines) (x ∷ xs) [] first second = absurd second
same_commands (line ∷ lines) (x ∷ xs) (y ∷ ys) first second =
    let here : x ≡ y = one_command_a_line_law line x y first.0 second.0 in
    let there : xs ≡ ys = same_commands lines xs ys first.1 second.1 in
    cc

pub one_list_a_text_law : OneListATextLaw
one_list_a_text_law text a b first second = same_commands (command_lines text) a b first second

pub short_at : (lines : List (List (List ℕ))) (commands : List Command) → AllZip IsCommandOf lines commands → (k : ℕ) (d : Command) → k < length commands
    → HasShortNumber (get_or commands k d)
short_at [] [] each k d below = absurd (omega arith)
short_at [] (c ∷ cs) each k d below = absurd each
short_at (line ∷ lines) [] each k d below = absurd each
short_at (line ∷ lines) (c ∷ cs) each zero d below = short_of line c each.0
short_at (line ∷ lines) (c ∷ cs) each (suc k) d below = short_at lines cs each.1 k d (omega arith)

pub all_short : (lines : List (List (List ℕ))) (commands : List Command) → AllZip IsCommandOf lines commands → All HasShortNumber commands
all_short lines commands each = short_at lines commands each
