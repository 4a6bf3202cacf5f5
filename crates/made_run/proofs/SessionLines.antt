-- The sessions of a made market have no more commands than lines.
use Rattle.std.proofs.Common.{ℕ, zero, suc, ◌≡◌, ◌+◌, ◌*◌, ◌%◌, ◌^◌, ◌<◌, ◌≤◌, Bool, true, false, List, [], ◌∷◌, ◌++◌, length, map, refl, ap, subst, sym, ◌∙◌, arith, append_assoc}
use Rattle.std.specs.Prelude.{All, ℤ, pos, negsuc, ◌-ℤ◌, ◌==◌, if◌then◌else◌, nat_lt, not, ⊤}
use Rattle.std.specs.Fmt.{decimal, signed_decimal}
use Rattle.std.specs.List.{filter, flat_map, range_with_len}
use Rattle.std.proofs.lemmas.Bool.{ne_eqb}
use Rattle.std.proofs.lemmas.Int.{ints}
use Rattle.std.proofs.lemmas.List.{length-map}
use Rattle.std.proofs.lemmas.List.Elements.{All-cons, All-filter, All-head, All-tail}
use Rattle.std.proofs.lemmas.List.Filters.{length-filter_both}
use Rattle.std.proofs.lemmas.List.FromFn.{get_or-range_with_len, length-range_with_len}
use Rattle.made_run.proofs.Fields.{AreFrom, from_decimal}
use Rattle.market_maker.proofs.Sizes.{rated_small, within_limits}
use Rattle.market_maker.specs.Lines.{numbers_to, text_of}
use Rattle.market_maker.specs.Sessions.{adjustment_line, adjustment_lines, adjustment_of, first_text, is_even, is_odd, lines_of, rated_count, rated_section, rating_behind, rating_line, rating_of, second_text, student_lines}
use Rattle.utility_language.proofs.LineLemmas.{ended_line}
use Rattle.utility_language.specs.Commands.{command_lines, is_command}
use Rattle.utility_language.specs.Laws.{IsOneLine}
use Rattle.utility_language.specs.Lines as utility
use Rattle.utility_language.specs.Words.{words_of}

from_append : (least : ℕ) (xs ys : List ℕ) → AreFrom least xs → AreFrom least ys → AreFrom least (xs ++ ys)
from_append least [] ys front back = back
from_append least (x ∷ xs) ys front back = (front.0, from_append least xs ys front.1 back)

-- ---- no line has a line feed in it

pub one_line : (line : List ℕ) → AreFrom 32 line → IsOneLine line
one_line [] from = λ k d inside. absurd (omega arith)
one_line (b ∷ bs) from = All-cons (λ byte. (byte == 10) ≡ false) b bs (ne_eqb b 10 (λ e. omega arith)) (one_line bs from.1)

from_signed : (z : ℤ) (a b : ℕ) → z ≡ pos a -ℤ pos b → a < 41 → b ≤ 20 → AreFrom 32 (signed_decimal z)
from_signed (pos n) a b e small small' = from_decimal 32 n (omega arith) (omega (arith, ints, e))
from_signed (negsuc n) a b e small small' = (omega arith, from_decimal 32 (suc n) (omega arith) (omega (arith, ints, e)))

-- a word of a letter and a number, with what comes behind it
from_name : (letter n : ℕ) (behind : List ℕ) → 32 ≤ letter → n < 2 ^ 64 → AreFrom 32 behind → AreFrom 32 ((letter ∷ decimal n) ++ 32 ∷ behind)
from_name letter n behind low small from = (low, from_append 32 (decimal n) (32 ∷ behind) (from_decimal 32 n (omega arith) small) (omega arith, from))

rating_whole : (seed i j : ℕ) → i ≤ 2000 → j ≤ 400 → AreFrom 32 (rating_line seed i j)
rating_whole seed i j small small' =
    let behind =
    from_name 83 i _ (omega arith) (omega arith)
    (from_name 67 j (decimal (rating_of seed i j)) (omega arith) (omega arith) (from_decimal 32 (rating_of seed i j) (omega arith) (omega arith))) in
    (omega arith, (omega arith, (omega arith, (omega arith, (omega arith, behind)))))

adjustment_whole : (seed sections i : ℕ) → i ≤ 2000 → 1 ≤ sections → sections ≤ 400 → AreFrom 32 (adjustment_line seed sections i)
adjustment_whole seed sections i small some few =
    let one = rated_section sections i 0 in
    let other = rated_section sections i 1 in
    let last = from_signed (adjustment_of seed i) ((seed % 41 + i) % 41) 20 refl (omega arith) (omega arith) in
    let pair =
    from_name 67 one _ (omega arith) (omega (arith, rated_small sections i 0 some few))
    (from_name 67 other (signed_decimal (adjustment_of seed i)) (omega arith) (omega (arith, rated_small sections i 1 some few)) last) in
    (omega arith, (omega arith, (omega arith, (omega arith, (omega arith, from_name 83 i _ (omega arith) (omega arith) pair)))))

-- each line of these is whole
abbrev pub AreWhole : List (List ℕ) → Type 0
AreWhole [] = ⊤
AreWhole (line ∷ lines) = AreFrom 32 line × AreWhole lines

whole_append : (xs ys : List (List ℕ)) → AreWhole xs → AreWhole ys → AreWhole (xs ++ ys)
whole_append [] ys front back = back
whole_append (x ∷ xs) ys front back = (front.0, whole_append xs ys front.1 back)

whole_mapped : (line : ℕ → List ℕ) (from n : ℕ) → ((t : ℕ) → AreFrom 32 (line t)) → AreWhole (map line (range_with_len from n))
whole_mapped line from zero each = tt
whole_mapped line from (suc n) each = (each from, whole_mapped line (from + 1) n each)

whole_if : (b : Bool) (line : List ℕ) → AreFrom 32 line → AreWhole (if b then [] else (line ∷ []))
whole_if true line whole = tt
whole_if false line whole = (whole, tt)

student_whole : (seed sections i : ℕ) → i ≤ 2000 → 1 ≤ sections → sections ≤ 400 → AreWhole (student_lines seed sections i)
student_whole seed sections i small some few =
    whole_append (map (rating_behind seed sections i) (range_with_len 0 (rated_count sections))) (adjustment_lines seed sections i)
    (whole_mapped (rating_behind seed sections i) 0 (rated_count sections)
    (λ t. rating_whole seed i (rated_section sections i t) small (rated_small sections i t some few)))
    (whole_if (nat_lt (rated_count sections) 2) (adjustment_line seed sections i) (adjustment_whole seed sections i small some few))

whole_flat : (lines : ℕ → List (List ℕ)) (students : List ℕ) → All (λ i. i ≤ 2000) students → ((i : ℕ) → i ≤ 2000 → AreWhole (lines i))
    → AreWhole (flat_map lines students)
whole_flat lines [] small each = tt
whole_flat lines (i ∷ more) small each =
    whole_append (lines i) (flat_map lines more) (each i (All-head (λ j. j ≤ 2000) i more small))
    (whole_flat lines more (All-tail (λ j. j ≤ 2000) i more small) each)

small_numbers : (n : ℕ) → n ≤ 2000 → All (λ i. i ≤ 2000) (numbers_to n)
small_numbers n few k d inside =
    let within : k < n = omega (arith, length-range_with_len 1 n) in
    subst (λ (i : ℕ). i ≤ 2000) (sym (get_or-range_with_len 1 n k d within)) (omega arith)

pub session_whole : (is_in : ℕ → Bool) (seed students sections : ℕ) → students ≤ 2000 → 1 ≤ sections → sections ≤ 400
    → AreWhole (lines_of is_in seed students sections)
session_whole is_in seed students sections few some small =
    whole_flat (student_lines seed sections) (filter is_in (numbers_to students))
    (All-filter is_in (λ i. i ≤ 2000) (numbers_to students) (small_numbers students few)) (λ i least. student_whole seed sections i least some small)

-- ---- so a text has as many lines as it was made of, and no more commands

lines_counted : (lines : List (List ℕ)) → AreWhole lines → length (utility.lines_of (text_of lines)) ≡ length lines
lines_counted [] whole = refl
lines_counted (line ∷ lines) whole =
    ap (λ t. length (utility.lines_of t)) (append_assoc line (10 ∷ []) (text_of lines)) ∙ ap length (ended_line line (text_of lines) (one_line line whole.0))
    ∙ ap suc (lines_counted lines whole.1)

commands_few : (text : List ℕ) → length (command_lines text) ≤ length (utility.lines_of text)
commands_few text =
    let words = map words_of (utility.lines_of text) in
    omega (arith, length-filter_both is_command (λ w. not (is_command w)) (λ w. refl) words, length-map (utility.lines_of text) words_of)

session_few : (is_in : ℕ → Bool) (seed students sections : ℕ) → students ≤ 2000 → 1 ≤ sections → sections ≤ 400
    → length (command_lines (text_of (lines_of is_in seed students sections))) ≤ length (lines_of is_in seed students sections)
session_few is_in seed students sections few some small =
    let lines = lines_of is_in seed students sections in
    omega (arith, commands_few (text_of lines), lines_counted lines (session_whole is_in seed students sections few some small))

pub sessions_few : (seed students sections : ℕ) → seed < 2 ^ 64 → students ≤ 2000 → 1 ≤ sections → sections ≤ 400
    → length (command_lines (first_text seed students sections)) + length (command_lines (second_text seed students sections)) ≤ 200000
sessions_few seed students sections seeded few some small =
    omega (
      arith,
      session_few is_odd seed students sections few some small,
      session_few is_even seed students sections few some small,
      (within_limits seed students sections 0 seeded few some small (omega arith)).lines,
    )
