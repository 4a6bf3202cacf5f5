-- The sessions of a made market speak for different students.
use Rattle.std.proofs.Common.{ℕ, zero, suc, ◌≡◌, ◌≢◌, ◌<◌, ◌≤◌, ◌+◌, ◌%◌, ◌^◌, ◌∙◌, Bool, true, false, nat_eq, List, [], ◌∷◌, length, map, get_or, refl, ap, sym, subst, arith, cond}
use Rattle.std.specs.Prelude.{◌==◌, All, Ok, codes}
use Rattle.std.specs.Fmt.{decimal}
use Rattle.std.specs.List.{list_any, position_or_len, range_with_len}
use Rattle.std.specs.Str.{bytes_eq}
use Rattle.std.proofs.lemmas.Bool.Decides.{nat_tests}
use Rattle.std.proofs.lemmas.Fmt.{decimal_injective}
use Rattle.std.proofs.lemmas.List.{append_cancel_left, length-map}
use Rattle.std.proofs.lemmas.List.FromFn.{get_or-map-range_with_len, length-range_with_len}
use Rattle.std.proofs.lemmas.Slice.Eq.{bytes_eq-Decides}
use Rattle.plain_facts.proofs.Truths.{and_parts}
use Rattle.utility_language.specs.declared.commands.Command.{Command}
use Rattle.utility_language.specs.declared.commands.Command.TheVariants.{Rate, Pair, Clear, Close, Unreadable}
use Rattle.market_maker.specs.Lines.{numbers_to}
use Rattle.market_maker.specs.Rolls.{student_name}
use Rattle.market_units.specs.declared.names.Name.{Name}
use Rattle.market_units.specs.Name.{name_bytes}
use Rattle.preference_desk.specs.DeskNames.{DeskNames, has_name, ordinal_of}
use Rattle.made_run.specs.Apart.{AreApart, AreSilentOn, LeavesOpen, is_about, is_named}
use Rattle.made_run.specs.Tables.{made_roll, made_student}
use Rattle.made_run.proofs.AllRead.{texts_read}
use Rattle.market_maker.specs.Sessions.{is_even, is_odd}
use Rattle.published_parts.specs.Markets.{Market, names_in}
use Rattle.student_roll.specs.Students.{RollData, Student}
use Rattle.made_run.specs.Laws.{AreNumbers}
use Rattle.made_run.specs.Made.{IsMadeMarket}
use Rattle.made_run.proofs.Saids.{IsSaidOf, session_said}

-- where some item passes, the one at the first such place does
found_there : {A : Type 0} (p : A → Bool) (xs : List A) (d : A) → list_any p xs ≡ true → p (get_or xs (position_or_len p xs) d) ≡ true
found_there p [] d some = cc
found_there p (x ∷ xs) d some =
    elim (p x) as (λ b. p x ≡ b → p (get_or (x ∷ xs) (position_or_len p (x ∷ xs)) d) ≡ true) [
      | true ↦ λ test. rw test test
      | false ↦ λ test. let rest : list_any p xs ≡ true = rw test at some in
          let next : suc (position_or_len p xs) ≡ 1 + position_or_len p xs = omega arith in
          rw test (subst (λ m. p (get_or (x ∷ xs) m d) ≡ true) next (found_there p xs d rest))
    ] refl

-- the names of a made market
abbrev made_names : ℕ → List (List ℕ)
made_names students = map student_name (numbers_to students)

-- the student that is named as the one with this ordinal has its name
named_so : (names : DeskNames) (students k : ℕ) (student : Name) → names.students ≡ made_names students → k < students → is_named names k student ≡ true
    → name_bytes student ≡ student_name (k + 1)
named_so names students k student are below named =
    let parts = and_parts (has_name names.students student) (nat_eq (ordinal_of names.students student) k) named in
    let place : ordinal_of names.students student ≡ k = let test : nat_eq (ordinal_of names.students student) k ≡ true = parts.1 in grind (arith, nat_tests) in
    let there : bytes_eq (name_bytes student) (get_or names.students (ordinal_of names.students student) []) ≡ true =
    found_there (bytes_eq (name_bytes student)) names.students [] parts.0 in
    let name : get_or names.students (ordinal_of names.students student) [] ≡ student_name (k + 1) =
    ap (λ i. get_or names.students i []) place ∙ ap (λ (all : List (List ℕ)). get_or all k []) are
    ∙ get_or-map-range_with_len student_name 1 students k (k + 1) [] below (omega arith) in
    (bytes_eq-Decides (name_bytes student) (student_name (k + 1))).0 (ap (bytes_eq (name_bytes student)) (sym name) ∙ there)

-- names of different numbers are different
one_number : (i j : ℕ) → i < 2 ^ 64 → j < 2 ^ 64 → student_name i ≡ student_name j → i ≡ j
one_number i j low high same = decimal_injective i j low high (append_cancel_left (codes "S") (decimal i) (decimal j) same)

-- a student of another parity is not named
not_named : (names : DeskNames) (students k i r : ℕ) (student : Name) → names.students ≡ made_names students → students ≤ 2000 → k < students → i ≤ students
    → i % 2 ≡ r → (k + 1) % 2 ≢ r → name_bytes student ≡ student_name i
    → is_named names k student ≡ false
not_named names students k i r student are few below within parity other name =
    elim (is_named names k student) as (λ b. is_named names k student ≡ b → is_named names k student ≡ false) [
      | true ↦ λ test.
          let same : i ≡ k + 1 = one_number i (k + 1) (omega arith) (omega arith) (sym name ∙ named_so names students k student are below test) in
          absurd (other (ap (λ n. n % 2) (sym same) ∙ parity))
      | false ↦ λ test. test
    ] refl

-- a command of a student of another parity is not of this one
not_about : (names : DeskNames) (students k i r : ℕ) (command : Command) → names.students ≡ made_names students → students ≤ 2000 → k < students → i ≤ students
    → i % 2 ≡ r → (k + 1) % 2 ≢ r → IsSaidOf i command
    → is_about names k command ≡ false
not_about names students k i r (Rate student section n) are few below within parity other said =
    not_named names students k i r student are few below within parity other said
not_about names students k i r (Pair student first second n) are few below within parity other said =
    not_named names students k i r student are few below within parity other said
not_about names students k i r (Clear student) are few below within parity other said = absurd said
not_about names students k i r Close are few below within parity other said = refl
not_about names students k i r Unreadable are few below within parity other said = refl

-- a command of some student leaves the desk open
leaves_open : (i : ℕ) (command : Command) → IsSaidOf i command → LeavesOpen command
leaves_open i (Rate student section n) said = tt
leaves_open i (Pair student first second n) said = tt
leaves_open i (Clear student) said = absurd said
leaves_open i Close said = absurd said
leaves_open i Unreadable said = tt

-- a number of this parity, of one of so many students
abbrev IsOfParity : ℕ → ℕ → ℕ → Type 0
IsOfParity students r i = (i ≤ students) × (i % 2 ≡ r)

abbrev SaysOnly : ℕ → ℕ → List Command → Type 0
SaysOnly students r commands = All (λ command. (i : ℕ) × IsOfParity students r i × IsSaidOf i command) commands

says_open : (students r : ℕ) (commands : List Command) → SaysOnly students r commands → All LeavesOpen commands
says_open students r commands says k d below = let one = says k d below in leaves_open one.0 (get_or commands k d) one.2

says_silent : (names : DeskNames) (students k r : ℕ) (commands : List Command) → names.students ≡ made_names students → students ≤ 2000 → k < students
    → (k + 1) % 2 ≢ r → SaysOnly students r commands → AreSilentOn names k commands
says_silent names students k r commands are few below other says at d within =
    let one = says at d within in
    not_about names students k one.0 r (get_or commands at d) are few below one.1.0 one.1.1 other one.2

-- one of two streams is the first or the second
of_two : (P : ℕ → List Command → Type 0) (first second : List Command) → P 0 first → P 1 second → (m : ℕ) → m < 2 → P m (get_or (first ∷ second ∷ []) m [])
of_two P first second p q zero below = p
of_two P first second p q (suc zero) below = q
of_two P first second p q (suc (suc m)) below = absurd (omega arith)

-- of two streams, one of students of odd and one of students of even number, one alone speaks for a student
speaks : (names : DeskNames) (students k : ℕ) (first second : List Command) → names.students ≡ made_names students → students ≤ 2000 → k < students
    → SaysOnly students 1 first → SaysOnly students 0 second
    → (n : ℕ) × (n < 2) × ((m : ℕ) → m < 2 → m ≢ n → AreSilentOn names k (get_or (first ∷ second ∷ []) m []))
speaks names students k first second are few below odd even =
    elim (nat_eq ((k + 1) % 2) 1) as (λ b. nat_eq ((k + 1) % 2) 1 ≡ b → (n : ℕ) × (n < 2) × ((m : ℕ) → m < 2 → m ≢ n → AreSilentOn names k (get_or (first ∷ second ∷ []) m []))) [
      | true ↦ λ test.
          let parity : (k + 1) % 2 ≡ 1 = grind (arith, nat_tests) in (
            0,
            omega arith,
            of_two (λ m commands. m ≢ 0 → AreSilentOn names k commands) first second (λ other. absurd (other refl))
                (λ other. says_silent names students k 0 second are few below (λ is. absurd (omega arith)) even),
          )
      | false ↦ λ test.
          let parity : (k + 1) % 2 ≢ 1 = grind (arith, nat_tests) in (
            1,
            omega arith,
            of_two (λ m commands. m ≢ 1 → AreSilentOn names k commands) first second (λ other. says_silent names students k 1 first are few below parity odd)
                (λ other. absurd (other refl)),
          )
    ] refl

two_apart : (names : DeskNames) (students : ℕ) (first second : List Command) → names.students ≡ made_names students → students ≤ 2000
    → SaysOnly students 1 first → SaysOnly students 0 second → AreApart names (first ∷ second ∷ [])
two_apart names students first second are few odd even = record {
  stay_open = of_two (λ m commands. All LeavesOpen commands) first second (says_open students 1 first odd) (says_open students 0 second even);
  apart =
      λ k below. speaks names students k first second are few
      (omega (arith, ap length are, length-map (numbers_to students) student_name, length-range_with_len 1 students)) odd even;
}

names_named : (numbers : List ℕ) → map (λ (student : Student). student.name) (map made_student numbers) ≡ map student_name numbers
names_named [] = refl
names_named (i ∷ numbers) = ap (λ (more : List (List ℕ)). student_name i ∷ more) (names_named numbers)

-- the students that the roll of a made market names
names_made : (seed students sections accept : ℕ) → AreNumbers seed students sections accept → (market : Market) (streams : List (List Command))
    → IsMadeMarket seed students sections accept market streams
    → (names_in market).students ≡ made_names students
names_made seed students sections accept are market streams made =
    let grammars = texts_read seed students sections accept are.seed_fits are.few_students are.some_sections are.few_sections are.accept_fits in
    let rolls : Ok market.roll ≡ Ok (made_roll students) = sym made.roll_says ∙ grammars.roll in
    let roll : market.roll ≡ made_roll students = cc in
    ap (λ (r : RollData). map (λ (student : Student). student.name) r.students) roll ∙ names_named (numbers_to students)

-- the sessions of a made market speak for different students
pub made_apart : (seed students sections accept : ℕ) → AreNumbers seed students sections accept → (market : Market) (streams : List (List Command))
    → IsMadeMarket seed students sections accept market streams → AreApart (names_in market) streams
made_apart seed students sections accept are market (first ∷ second ∷ []) made =
    two_apart (names_in market) students first second (names_made seed students sections accept are market (first ∷ second ∷ []) made) are.few_students
    (session_said is_odd (IsOfParity students 1) seed students sections first are.few_students are.some_sections are.few_sections
    (λ i test low high. (high, let is : nat_eq (i % 2) 1 ≡ true = test in grind (arith, nat_tests))) made.sessions_say.0)
    (session_said is_even (IsOfParity students 0) seed students sections second are.few_students are.some_sections are.few_sections
    (λ i test low high. (high, let is : nat_eq (i % 2) 0 ≡ true = test in grind (arith, nat_tests))) made.sessions_say.1.0)
made_apart seed students sections accept are market [] made = absurd made.sessions_say
made_apart seed students sections accept are market (first ∷ []) made = absurd made.sessions_say.1
made_apart seed students sections accept are market (first ∷ second ∷ third ∷ more) made = absurd made.sessions_say.1.1
