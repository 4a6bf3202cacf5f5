-- Which commands given words can spell.
use Rattle.std.proofs.Common.{ℕ, ◌≡◌, ◌≢◌, List, [], ◌∷◌, refl, sym, ap, ◌∙◌, inl, inr, get_or, arith}
use Rattle.std.specs.Prelude.{codes}
use Rattle.std.specs.Fmt.{signed_decimal}
use Rattle.market_units.specs.declared.names.Name.{Name}
use Rattle.market_units.specs.Name.{name_bytes}
use Rattle.market_units.specs.EqualNames.{same_name}
use Rattle.utility_language.specs.declared.commands.Command.{Command}
use Rattle.utility_language.specs.declared.commands.Command.TheVariants.{Rate, Pair, Clear, Close, Unreadable}
use Rattle.utility_language.specs.Commands.{Spells, words_by}
use Rattle.utility_language.specs.Laws.{OneCommandALineLaw}
use Rattle.utility_language.proofs.Digits.{same_number}

first_byte : List (List ℕ) → ℕ
first_byte [] = 0
first_byte (word ∷ words) = get_or word 0 0

-- a rating is no adjustment
rate_or_pair : (a b : List (List ℕ)) → codes "rate" ∷ a ≡ codes "pair" ∷ b → ⊥
unfolding first_byte
rate_or_pair a b e = let bytes : ◌≡◌ {A = ℕ} 114 112 = ap first_byte e in omega arith

-- the second name of a rating is no name
pub no_section : (words rest : List (List ℕ)) (student : Name) → words ≡ name_bytes student ∷ rest
    → ((name : Name) (more : List (List ℕ)) → rest ≢ name_bytes name ∷ more)
    → (command : Command) → Spells (codes "rate" ∷ words) command → ⊥
no_section words rest student e none (Rate other section n) spells = none section (signed_decimal n ∷ []) (cc (e, spells.written))
no_section words rest student e none (Pair other first second n) spells = rate_or_pair _ _ spells.written
no_section words rest student e none (Clear other) spells = cc spells.written
no_section words rest student e none Close spells = cc spells.written
no_section words rest student e none Unreadable spells = spells.readable refl

-- the second name of an adjustment is no name
pub no_first : (words rest : List (List ℕ)) (student : Name) → words ≡ name_bytes student ∷ rest
    → ((name : Name) (more : List (List ℕ)) → rest ≢ name_bytes name ∷ more)
    → (command : Command) → Spells (codes "pair" ∷ words) command → ⊥
no_first words rest student e none (Rate other section n) spells = rate_or_pair _ _ (sym spells.written)
no_first words rest student e none (Pair other first second n) spells = none first (name_bytes second ∷ signed_decimal n ∷ []) (cc (e, spells.written))
no_first words rest student e none (Clear other) spells = cc spells.written
no_first words rest student e none Close spells = cc spells.written
no_first words rest student e none Unreadable spells = spells.readable refl

-- the third name of an adjustment is no name
pub no_second : (words middle rest : List (List ℕ)) (student first : Name) → words ≡ name_bytes student ∷ middle → middle ≡ name_bytes first ∷ rest
    → ((name : Name) (more : List (List ℕ)) → rest ≢ name_bytes name ∷ more) → (command : Command) → Spells (codes "pair" ∷ words) command → ⊥
no_second words middle rest student first e e' none (Rate other section n) spells = rate_or_pair _ _ (sym spells.written)
no_second words middle rest student first e e' none (Pair other one second n) spells = none second (signed_decimal n ∷ []) (cc (e, e', spells.written))
no_second words middle rest student first e e' none (Clear other) spells = cc spells.written
no_second words middle rest student first e e' none Close spells = cc spells.written
no_second words middle rest student first e e' none Unreadable spells = spells.readable refl

same_words : (words : List (List ℕ)) (a b : Command) → Spells words a → Spells words b → words_by a ≡ words_by b
same_words words a b first second = sym first.written ∙ second.written

-- words spell one command at most
spell_one : (words : List (List ℕ)) (a b : Command) → Spells words a → Spells words b → a ≡ b
spell_one words (Rate student section n) (Rate student' section' n') a b =
    let e = same_words words _ _ a b in
    let same : student ≡ student' = same_name student student' cc in
    let at : section ≡ section' = same_name section section' cc in
    let number : n ≡ n' = same_number n n' a.short b.short cc in
    cc
spell_one words (Rate student section n) (Pair student' first second n') a b = cc (same_words words _ _ a b)
spell_one words (Rate student section n) (Clear student') a b = cc (same_words words _ _ a b)
spell_one words (Rate student section n) Close a b = cc (same_words words _ _ a b)
spell_one words (Pair student first second n) (Rate student' section' n') a b = cc (same_words words _ _ a b)
spell_one words (Pair student first second n) (Pair student' first' second' n') a b =
    let e = same_words words _ _ a b in
    let same : student ≡ student' = same_name student student' cc in
    let one : first ≡ first' = same_name first first' cc in
    let two : second ≡ second' = same_name second second' cc in
    let number : n ≡ n' = same_number n n' a.short b.short cc in
    cc
spell_one words (Pair student first second n) (Clear student') a b = cc (same_words words _ _ a b)
spell_one words (Pair student first second n) Close a b = cc (same_words words _ _ a b)
spell_one words (Clear student) (Rate student' section' n') a b = cc (same_words words _ _ a b)
spell_one words (Clear student) (Pair student' first second n') a b = cc (same_words words _ _ a b)
spell_one words (Clear student) (Clear student') a b = let e = same_words words _ _ a b in let same : student ≡ student' = same_name student student' cc in cc
spell_one words (Clear student) Close a b = cc (same_words words _ _ a b)
spell_one words Close (Rate student' section' n') a b = cc (same_words words _ _ a b)
spell_one words Close (Pair student' first second n') a b = cc (same_words words _ _ a b)
spell_one words Close (Clear student') a b = cc (same_words words _ _ a b)
spell_one words Close Close a b = refl
spell_one words a Unreadable first second = absurd (second.readable refl)
spell_one words Unreadable b first second = absurd (first.readable refl)

pub one_command_a_line_law : OneCommandALineLaw
one_command_a_line_law words a b (inl first) (inl second) = spell_one words a b first second
one_command_a_line_law words a b (inl first) (inr (e, none)) = absurd (none a first)
one_command_a_line_law words a b (inr (e, none)) (inl second) = absurd (none b second)
one_command_a_line_law words a b (inr (e, none)) (inr (e', none')) = e ∙ sym e'
