-- Journals that merge streams of which each student has one.
use Rattle.std.proofs.Common.{ℕ, ◌≡◌, ◌≢◌, ◌<◌, ◌≤◌, ◌+◌, ◌-◌, ◌∙◌, true, false, cond, nat_eq, List, [], ◌∷◌, length, map, refl, ap, sym, subst, arith}
use Rattle.std.specs.Prelude.{All, slice_index_or}
use Rattle.std.proofs.lemmas.Bool.Decides.{nat_tests}
use Rattle.std.proofs.lemmas.List.{ext_get_or, length-replicate}
use Rattle.std.proofs.lemmas.List.Elements.{All-cons, All-head, All-nil, All-tail}
use Rattle.utility_language.specs.declared.commands.Command.{Command}
use Rattle.preference_desk.specs.declared.entry.Entry.{Entry}
use Rattle.preference_desk.specs.DeskNames.{DeskNames}
use Rattle.preference_desk.specs.DeskStep.{DeskState, preferences_at, state_after}
use Rattle.preference_desk.specs.Journals.{MergesStreams, closed_preferences, commands_of_session, opening, state_after_all}
use Rattle.preference_desk.specs.StudentPreferences.{no_preferences}
use Rattle.made_run.specs.Apart.{AreApart, AreSilentOn, LeavesOpen, is_about}
use Rattle.made_run.specs.Laws.{OrdersCloseAlike}
use Rattle.made_run.proofs.OneStudent.{after, own, own_alone, own_less}
use Rattle.published_market.proofs.Limited.{rows_after}
use Rattle.published_parts.proofs.OneJournals.{own_first, others_none}

-- the commands of all entries
abbrev said : List Entry → List Command
said journal = map (λ (entry : Entry). entry.command) journal

after_said : (names : DeskNames) (state : DeskState) (journal : List Entry) → state_after_all names state journal ≡ after names state (said journal)
after_said names state [] = refl
after_said names state (entry ∷ more) = after_said names (state_after names state entry.command) more

-- what holds of each command of each session, by the session's number
abbrev OfSessions : ℕ → (ℕ → Command → Type 0) → List Entry → Type 0
OfSessions count P journal = (n : ℕ) → 1 ≤ n → n ≤ count → All (P n) (commands_of_session n journal)

abbrev IsOf : ℕ → Entry → Type 0
IsOf count entry = (1 ≤ entry.session) × (entry.session ≤ count)

-- it holds of the first entry, and of each command of the later ones
first_of_session : (count : ℕ) (P : ℕ → Command → Type 0) (x : Entry) (more : List Entry) → IsOf count x → OfSessions count P (x ∷ more) → P x.session x.command
first_of_session count P x more of each =
    All-head (P x.session) x.command (commands_of_session x.session more)
    (subst (All (P x.session)) (own_first x more x.session refl) (each x.session of.0 of.1))

later_of_session : (count : ℕ) (P : ℕ → Command → Type 0) (x : Entry) (more : List Entry) → OfSessions count P (x ∷ more) → OfSessions count P more
later_of_session count P x more each n low high =
    elim (nat_eq x.session n) as (λ t. nat_eq x.session n ≡ t → All (P n) (commands_of_session n more)) [
      | true ↦ λ test.
          let same : x.session ≡ n = grind (arith, nat_tests) in
          All-tail (P n) x.command (commands_of_session n more) (subst (All (P n)) (own_first x more n same) (each n low high))
      | false ↦ λ test. subst (All (P n)) (others_none x more n test) (each n low high)
    ] refl

-- what holds of each command of each session holds of each entry's
all_said : (count : ℕ) (P : ℕ → Command → Type 0) (Q : Command → Type 0) (journal : List Entry) → ((n : ℕ) (command : Command) → P n command → Q command)
    → All (IsOf count) journal → OfSessions count P journal → All Q (said journal)
all_said count P Q [] gives of each = All-nil Q
all_said count P Q (x ∷ more) gives of each =
    All-cons Q x.command (said more) (gives x.session x.command (first_of_session count P x more (All-head (IsOf count) x more of) each))
    (all_said count P Q more gives (All-tail (IsOf count) x more of) (later_of_session count P x more each))

-- the command is of the student only where its session is this one
abbrev IsSilentBut : DeskNames → ℕ → ℕ → ℕ → Command → Type 0
IsSilentBut names k n m command = m ≢ n → is_about names k command ≡ false

-- the student's own commands are those of the one session that speaks for it
own_session : (names : DeskNames) (k n count : ℕ) (journal : List Entry) → All (IsOf count) journal → OfSessions count (IsSilentBut names k n) journal
    → own names k (said journal) ≡ own names k (commands_of_session n journal)
own_session names k n count [] of each = refl
own_session names k n count (x ∷ more) of each =
    let rest : own names k (said more) ≡ own names k (commands_of_session n more) =
    own_session names k n count more (All-tail (IsOf count) x more of) (later_of_session count (IsSilentBut names k n) x more each) in
    let here : IsSilentBut names k n x.session x.command = first_of_session count (IsSilentBut names k n) x more (All-head (IsOf count) x more of) each in
    elim (nat_eq x.session n) as (λ t. nat_eq x.session n ≡ t → own names k (said (x ∷ more)) ≡ own names k (commands_of_session n (x ∷ more))) [
      | true ↦ λ test.
          let same : x.session ≡ n = grind (arith, nat_tests) in
          ap (λ all. cond (is_about names k x.command) (x.command ∷ all) all) rest ∙ sym (ap (own names k) (own_first x more n same))
      | false ↦ λ test.
          let other : x.session ≢ n = grind (arith, nat_tests) in
          own_less names k x.command (said more) (here other) ∙ rest ∙ sym (ap (own names k) (others_none x more n test))
    ] refl

-- streams that are apart, and a journal that merges them
module _ (names : DeskNames) (streams : List (List Command)) (apart : AreApart names streams) (journal : List Entry)
    (merges : MergesStreams streams journal) where
  -- what a session said is its stream
  stream_of : (n : ℕ) → 1 ≤ n → n ≤ length streams → commands_of_session n journal ≡ slice_index_or streams (n - 1) []
  stream_of n low high =
      let next : n - 1 + 1 ≡ n = omega arith in
      subst (λ m. commands_of_session m journal ≡ slice_index_or streams (n - 1) []) next (merges.whole (n - 1) (omega arith))

  all_open : All LeavesOpen (said journal)
  all_open =
      all_said (length streams) (λ n. LeavesOpen) LeavesOpen journal (λ n command leaves. leaves) merges.given
      (λ n low high. subst (All LeavesOpen) (sym (stream_of n low high)) (apart.stay_open (n - 1) (omega arith)))

  silent : (k n : ℕ) → ((m : ℕ) → m < length streams → m ≢ n → AreSilentOn names k (slice_index_or streams m []))
      → OfSessions (length streams) (IsSilentBut names k (n + 1)) journal
  silent k n each m low high i within below other =
      let says = subst (AreSilentOn names k) (sym (stream_of m low high)) (each (m - 1) (omega arith) (λ same. other (omega arith))) in
      says i within below

  -- the student wants what it wants after the commands of its own stream
  wants : (k : ℕ) → (below : k < length names.students) → preferences_at (state_after_all names (opening names) journal) k
      ≡ preferences_at (after names (opening names) (own names k (commands_of_session ((apart.apart k below).0 + 1) journal))) k
  wants k below =
      let of = apart.apart k below in
      let rows : length (opening names).preferences ≡ length names.students = length-replicate (length names.students) no_preferences in
      ap (λ (s : DeskState). preferences_at s k) (after_said names (opening names) journal)
      ∙ own_alone names k (opening names) (said journal) all_open refl (omega arith)
      ∙ ap (λ all. preferences_at (after names (opening names) all) k)
      (own_session names k (of.0 + 1) (length streams) journal merges.given (silent k of.0 of.2))

-- two journals that merge such streams leave each student wanting the same
wants_alike : (names : DeskNames) (streams : List (List Command)) (one other : List Entry) → (apart : AreApart names streams) → MergesStreams streams one
    → MergesStreams streams other → (k : ℕ) → k < length names.students
    → preferences_at (state_after_all names (opening names) one) k ≡ preferences_at (state_after_all names (opening names) other) k
wants_alike names streams one other apart merges does k below =
    let of = apart.apart k below in
    let same : commands_of_session (of.0 + 1) one ≡ commands_of_session (of.0 + 1) other = merges.whole of.0 of.1 ∙ sym (does.whole of.0 of.1) in
    wants names streams apart one merges k below ∙ ap (λ all. preferences_at (after names (opening names) (own names k all)) k) same
    ∙ sym (wants names streams apart other does k below)

pub orders_close_alike_law : OrdersCloseAlike
orders_close_alike_law names streams one other apart merges does =
    let many : length (opening names).preferences ≡ length names.students = length-replicate (length names.students) no_preferences in
    let rows : length (closed_preferences names one) ≡ length (opening names).preferences = rows_after names (opening names) one in
    let places : length (closed_preferences names other) ≡ length (opening names).preferences = rows_after names (opening names) other in
    ext_get_or no_preferences (closed_preferences names one) (closed_preferences names other) (rows ∙ sym places)
    (λ k within. wants_alike names streams one other apart merges does k (omega arith))
