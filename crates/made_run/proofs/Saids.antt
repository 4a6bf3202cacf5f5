-- What the sessions of a made market say: of each command, the number of the student that it is of.
use Rattle.std.proofs.Common.{ℕ, zero, suc, ◌≡◌, ◌<◌, ◌≤◌, ◌+◌, ◌-◌, ◌∙◌, Bool, true, false, cond, List, [], ◌∷◌, ◌++◌, length, map, take, get_or, refl, ap, sym, subst, arith, append_assoc, inl, inr, ◌%◌, ◌^◌}
use Rattle.std.specs.Prelude.{◌⊎◌, All, codes, if◌then◌else◌, nat_lt, ⊤, ◌==◌, slice_index}
use Rattle.std.specs.Fmt.{decimal, signed_decimal}
use Rattle.std.specs.List.{AllZip, filter, flat_map, join_with_byte, range_with_len}
use Rattle.std.specs.Str.Lines.{strip_carriage_return}
use Rattle.std.proofs.lemmas.Bool.{ne_eqb}
use Rattle.std.proofs.lemmas.List.Elements.{All-cons, All-nil}
use Rattle.market_units.specs.declared.names.Name.{Name}
use Rattle.market_units.specs.Name.{name_bytes}
use Rattle.market_maker.specs.Lines.{numbers_to, text_of}
use Rattle.market_maker.specs.Catalogs.{section_name}
use Rattle.market_maker.specs.Rolls.{student_name}
use Rattle.market_maker.specs.Sessions.{adjustment_line, adjustment_lines, adjustment_of, lines_of, rated_count, rated_section, rating_behind, rating_line, rating_of, student_lines}
use Rattle.made_run.proofs.Fields.{AreFrom, from_decimal}
use Rattle.made_run.proofs.SessionLines.{AreWhole, one_line, session_whole}
use Rattle.utility_language.specs.declared.commands.Command.{Command}
use Rattle.utility_language.specs.declared.commands.Command.TheVariants.{Rate, Pair, Clear, Close, Unreadable}
use Rattle.utility_language.specs.Commands.{AreCommands, IsCommandOf, is_command, words_by, Spells, command_lines}
use Rattle.utility_language.specs.Laws.{IsWord}
use Rattle.utility_language.specs.Lines as utility
use Rattle.utility_language.specs.Words.{is_blank, words_of}
use Rattle.utility_language.proofs.LineLemmas.{ended_line}
use Rattle.utility_language.proofs.WordLemmas.{ended_word}
use Rattle.utility_language.proofs.Printed.{above_blank}

-- the words are a rating or an adjustment of student i
record IsSaidBy (i : ℕ) (words : List (List ℕ)) : Type 0 where
  pub verb : List ℕ
  pub rest : List (List ℕ)
  pub known : (verb ≡ codes "rate") ⊎ (verb ≡ codes "pair")
  pub written : words ≡ verb ∷ student_name i ∷ rest

-- the command is of the student with this number, or can't be read
abbrev pub IsSaidOf : ℕ → Command → Type 0
IsSaidOf i (Rate student section n) = name_bytes student ≡ student_name i
IsSaidOf i (Pair student first second n) = name_bytes student ≡ student_name i
IsSaidOf i (Clear student) = ⊥
IsSaidOf i Close = ⊥
IsSaidOf i Unreadable = ⊤

-- a word that begins with c is neither verb
other_verb : (verb word : List ℕ) → (verb ≡ codes "rate") ⊎ (verb ≡ codes "pair") → verb ≡ word → get_or word 0 0 ≡ 99 → ⊥
other_verb verb word (inl is) same other = let e : ◌≡◌ {A = ℕ} 114 99 = ap (λ (w : List ℕ). get_or w 0 0) (sym is ∙ same) ∙ other in absurd (omega arith)
other_verb verb word (inr is) same other = let e : ◌≡◌ {A = ℕ} 112 99 = ap (λ (w : List ℕ). get_or w 0 0) (sym is ∙ same) ∙ other in absurd (omega arith)

-- the command of such words
said_command : (i : ℕ) (words : List (List ℕ)) (command : Command) → IsSaidBy i words → IsCommandOf words command → IsSaidOf i command
said_command i words (Rate student section n) said (inl spells) =
    let both : said.verb ∷ student_name i ∷ said.rest ≡ words_by (Rate student section n) = sym said.written ∙ spells.written in cc
said_command i words (Rate student section n) said (inr none) = let e = none.0 in cc
said_command i words (Pair student first second n) said (inl spells) =
    let both : said.verb ∷ student_name i ∷ said.rest ≡ words_by (Pair student first second n) = sym said.written ∙ spells.written in cc
said_command i words (Pair student first second n) said (inr none) = let e = none.0 in cc
said_command i words (Clear student) said (inl spells) =
    let both : said.verb ∷ student_name i ∷ said.rest ≡ words_by (Clear student) = sym said.written ∙ spells.written in
    let same : said.verb ≡ codes "clear" = cc in
    other_verb said.verb (codes "clear") said.known same refl
said_command i words (Clear student) said (inr none) = let e = none.0 in cc
said_command i words Close said (inl spells) =
    let both : said.verb ∷ student_name i ∷ said.rest ≡ words_by Close = sym said.written ∙ spells.written in
    let same : said.verb ≡ codes "close" = cc in
    other_verb said.verb (codes "close") said.known same refl
said_command i words Close said (inr none) = let e = none.0 in cc
said_command i words Unreadable said is = tt

-- ---- the words of a line

no_blanks : (word : List ℕ) → AreFrom 33 word → All (λ byte. is_blank byte ≡ false) word
no_blanks [] from = All-nil (λ byte. is_blank byte ≡ false)
no_blanks (b ∷ bs) from = All-cons (λ byte. is_blank byte ≡ false) b bs (above_blank b from.0) (no_blanks bs from.1)

is_word : (word : List ℕ) → 0 < length word → AreFrom 33 word → IsWord word
is_word word some from = record { some = some; whole = no_blanks word from }

name_is_word : (i : ℕ) → i ≤ 2000 → IsWord (student_name i)
name_is_word i small = is_word (student_name i) (omega arith) (omega arith, from_decimal 33 i (omega arith) (omega arith))

-- a verb and a name in front of other words
begins_said : (i : ℕ) (verb rest : List ℕ) → i ≤ 2000 → IsWord verb
    → words_of (verb ++ 32 ∷ (student_name i ++ 32 ∷ rest)) ≡ verb ∷ student_name i ∷ words_of rest
begins_said i verb rest small is =
    ended_word verb 32 (student_name i ++ 32 ∷ rest) is refl
    ∙ ap (λ (more : List (List ℕ)). verb ∷ more) (ended_word (student_name i) 32 rest (name_is_word i small) refl)

rating_said : (seed i j : ℕ) → i ≤ 2000 → IsSaidBy i (words_of (rating_line seed i j))
rating_said seed i j small = record {
  verb = codes "rate";
  rest = words_of (join_with_byte 32 (section_name j ∷ decimal (rating_of seed i j) ∷ []));
  known = inl refl;
  written = begins_said i (codes "rate") (join_with_byte 32 (section_name j ∷ decimal (rating_of seed i j) ∷ [])) small
      (is_word (codes "rate") (omega arith) (omega arith, (omega arith, (omega arith, (omega arith, tt)))));
}

adjustment_said : (seed sections i : ℕ) → i ≤ 2000 → IsSaidBy i (words_of (adjustment_line seed sections i))
adjustment_said seed sections i small = record {
  verb = codes "pair";
  rest =
      words_of
      (join_with_byte 32
      (section_name (rated_section sections i 0) ∷ section_name (rated_section sections i 1) ∷ signed_decimal (adjustment_of seed i) ∷ []));
  known = inr refl;
  written = begins_said i (codes "pair") (join_with_byte 32 (section_name (rated_section sections i 0) ∷ section_name (rated_section sections i 1) ∷ signed_decimal (adjustment_of seed i) ∷ [])) small
      (is_word (codes "pair") (omega arith) (omega arith, (omega arith, (omega arith, (omega arith, tt)))));
}

-- ---- the lines of students, of whose numbers R holds

-- the command of the first words, and those of the others
one_more : (R : ℕ → Type 0) (words : List (List ℕ)) (others : List (List (List ℕ))) (commands : List Command) → ((i : ℕ) × R i × IsSaidBy i words)
    → ((rest : List Command) → AllZip IsCommandOf others rest → All (λ command. (i : ℕ) × R i × IsSaidOf i command) rest)
    → AllZip IsCommandOf (words ∷ others) commands → All (λ command. (i : ℕ) × R i × IsSaidOf i command) commands
one_more R words others [] first rest are = absurd are
one_more R words others (command ∷ more) first rest are =
    All-cons (λ c. (i : ℕ) × R i × IsSaidOf i c) command more (first.0, first.1, said_command first.0 words command first.2 are.0) (rest more are.1)

module _ (R : ℕ → Type 0) where
  -- each of the lines is of such a student
  abbrev AreSaid : List (List ℕ) → Type 0
  AreSaid [] = ⊤
  AreSaid (line ∷ lines) = ((i : ℕ) × R i × IsSaidBy i (words_of line)) × AreSaid lines

  said_append : (xs ys : List (List ℕ)) → AreSaid xs → AreSaid ys → AreSaid (xs ++ ys)
  said_append [] ys front back = back
  said_append (x ∷ xs) ys front back = (front.0, said_append xs ys front.1 back)

  said_mapped : (i : ℕ) (line : ℕ → List ℕ) (from n : ℕ) → R i → ((t : ℕ) → IsSaidBy i (words_of (line t))) → AreSaid (map line (range_with_len from n))
  said_mapped i line from zero is each = tt
  said_mapped i line from (suc n) is each = ((i, is, each from), said_mapped i line (from + 1) n is each)

  said_if : (b : Bool) (i : ℕ) (line : List ℕ) → R i → IsSaidBy i (words_of line) → AreSaid (if b then [] else (line ∷ []))
  said_if true i line is said = tt
  said_if false i line is said = ((i, is, said), tt)

  student_said : (seed sections i : ℕ) → R i → i ≤ 2000 → AreSaid (student_lines seed sections i)
  student_said seed sections i is small =
      said_append (map (rating_behind seed sections i) (range_with_len 0 (rated_count sections))) (adjustment_lines seed sections i)
      (said_mapped i (rating_behind seed sections i) 0 (rated_count sections) is (λ t. rating_said seed i (rated_section sections i t) small))
      (said_if (nat_lt (rated_count sections) 2) i (adjustment_line seed sections i) is (adjustment_said seed sections i small))

  -- the students of such a number, among those from this one on
  students_said : (is_in : ℕ → Bool) (seed sections from n : ℕ) → from + n ≤ 2001 → ((i : ℕ) → is_in i ≡ true → from ≤ i → i < from + n → R i)
      → AreSaid (flat_map (student_lines seed sections) (filter is_in (range_with_len from n)))
  students_said is_in seed sections from zero few gives = tt
  students_said is_in seed sections from (suc n) few gives =
      let rest : AreSaid (flat_map (student_lines seed sections) (filter is_in (range_with_len (from + 1) n))) =
      students_said is_in seed sections (from + 1) n (omega arith) (λ i test low high. gives i test (omega arith) (omega arith)) in
      elim (is_in from) as (λ b. is_in from ≡ b → AreSaid (flat_map (student_lines seed sections) (cond b (from ∷ filter is_in (range_with_len (from + 1) n)) (filter is_in (range_with_len (from + 1) n))))) [
        | true ↦ λ test.
            said_append (student_lines seed sections from) (flat_map (student_lines seed sections) (filter is_in (range_with_len (from + 1) n)))
            (student_said seed sections from (gives from test (omega arith) (omega arith)) (omega arith)) rest
        | false ↦ λ test. rest
      ] refl

  -- the commands of lines of such students
  commands_said : (lines : List (List ℕ)) (commands : List Command) → AreSaid lines → AllZip IsCommandOf (filter is_command (map words_of lines)) commands
      → All (λ command. (i : ℕ) × R i × IsSaidOf i command) commands
  commands_said [] [] said are = All-nil (λ command. (i : ℕ) × R i × IsSaidOf i command)
  commands_said [] (command ∷ commands) said are = absurd are
  commands_said (line ∷ lines) commands said are =
      elim (is_command (words_of line)) as (λ b. AllZip IsCommandOf (cond b (words_of line ∷ filter is_command (map words_of lines)) (filter is_command (map words_of lines))) commands → All (λ command. (i : ℕ) × R i × IsSaidOf i command) commands) [
        | true ↦
            λ zipped. one_more R (words_of line) (filter is_command (map words_of lines)) commands said.0 (λ rest zip. commands_said lines rest said.1 zip)
            zipped
        | false ↦ λ zipped. commands_said lines commands said.1 zipped
      ] are

-- ---- the lines of a text

at_least : (least : ℕ) (bytes : List ℕ) (k : ℕ) → AreFrom least bytes → k < length bytes → least ≤ get_or bytes k 0
at_least least [] k from below = absurd (omega arith)
at_least least (b ∷ bs) zero from below = from.0
at_least least (b ∷ bs) (suc k) from below = at_least least bs k from.1 (omega arith)

last_byte : (line : List ℕ) → AreFrom 32 line → get_or line (length line - 1) 0 ≡ 13 → ⊥
last_byte [] from is = absurd (omega arith)
last_byte (b ∷ bs) from is = absurd (omega (arith, at_least 32 (b ∷ bs) (length (b ∷ bs) - 1) from (omega arith)))

unstripped : (line : List ℕ) → AreFrom 32 line → strip_carriage_return line ≡ line
unstripped line from = ap (λ b. cond b (take (length line - 1) line) line) (ne_eqb (get_or line (length line - 1) 0) 13 (last_byte line from))

-- a text of whole lines has these lines
lines_back : (lines : List (List ℕ)) → AreWhole lines → utility.lines_of (text_of lines) ≡ lines
lines_back [] whole = refl
lines_back (line ∷ lines) whole =
    ap utility.lines_of (append_assoc line (10 ∷ []) (text_of lines)) ∙ ended_line line (text_of lines) (one_line line whole.0)
    ∙ ap (λ (l : List ℕ). l ∷ utility.lines_of (text_of lines)) (unstripped line whole.0)
    ∙ ap (λ (more : List (List ℕ)). line ∷ more) (lines_back lines whole.1)

-- what a session of the students of such a number says: each command is of one of them
pub session_said : (is_in : ℕ → Bool) (R : ℕ → Type 0) (seed students sections : ℕ) (commands : List Command) → students ≤ 2000 → 1 ≤ sections → sections ≤ 400
    → ((i : ℕ) → is_in i ≡ true → 1 ≤ i → i ≤ students → R i)
    → AreCommands (text_of (lines_of is_in seed students sections)) commands → All (λ command. (i : ℕ) × R i × IsSaidOf i command) commands
session_said is_in R seed students sections commands few some small gives are =
    commands_said R (lines_of is_in seed students sections) commands
    (students_said R is_in seed sections 1 students (omega arith) (λ i test low high. gives i test low (omega arith)))
    (subst (λ (lines : List (List ℕ)). AllZip IsCommandOf (filter is_command (map words_of lines)) commands)
    (lines_back (lines_of is_in seed students sections) (session_whole is_in seed students sections few some small)) are)
