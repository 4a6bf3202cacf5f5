-- One step of an open desk, as one student sees it.
use Rattle.std.proofs.Common.{ℕ, ◌≡◌, ◌≢◌, ◌∙◌, Bool, true, false, not, cond, nat_eq, length, refl, ap, sym, arith}
use Rattle.std.proofs.lemmas.Bool.Decides.{nat_tests}
use Rattle.std.proofs.lemmas.List.{get_or-set_other}
use Rattle.market_units.specs.declared.names.Name.{Name}
use Rattle.utility_language.specs.declared.commands.Command.{Command}
use Rattle.utility_language.specs.declared.commands.Command.TheVariants.{Rate, Pair, Clear, Close, Unreadable}
use Rattle.preference_desk.specs.declared.reply.Reply.{Reply}
use Rattle.preference_desk.specs.declared.reply.Reply.TheVariants as reply
use Rattle.preference_desk.specs.DeskNames.{DeskNames, has_name, ordinal_of}
use Rattle.preference_desk.specs.DeskStep.{DeskState, changed, is_done, preferences_at, reply_to, state_after, with_preferences}
use Rattle.preference_desk.specs.StudentPreferences.{StudentPreferences, no_preferences}
use Rattle.preference_desk.proofs.JournalLemmas.{step_rows}
use Rattle.made_run.specs.Apart.{LeavesOpen, is_about, is_named}

-- one of two states
either_state : (P : DeskState → Type 0) (b : Bool) (x y : DeskState) → P x → P y → P (cond b x y)
either_state P true x y p q = p
either_state P false x y p q = q

-- a command that leaves the desk open does so
stays_open_changed : (names : DeskNames) (state : DeskState) (command : Command) → LeavesOpen command → (changed names state command).closed ≡ state.closed
stays_open_changed names state (Rate student section n) leaves = refl
stays_open_changed names state (Pair student first second n) leaves = refl
stays_open_changed names state (Clear student) leaves = refl
stays_open_changed names state Close leaves = absurd leaves
stays_open_changed names state Unreadable leaves = refl

pub stays_open : (names : DeskNames) (state : DeskState) (command : Command) → LeavesOpen command → state.closed ≡ false
    → (state_after names state command).closed ≡ false
stays_open names state command leaves is =
    either_state (λ s. s.closed ≡ false) (is_done (reply_to names state command)) (changed names state command) state
    (stays_open_changed names state command leaves ∙ is) is

-- it keeps a place for each student
pub keeps_rows : (names : DeskNames) (state : DeskState) (command : Command) → length (state_after names state command).preferences ≡ length state.preferences
keeps_rows names state command = step_rows names state (state_after names state command) command refl

no_student_first : (b d : Bool) (rest : Reply) → d ≡ true → is_done (cond b reply.Closed (cond d reply.NoStudent rest)) ≡ false
no_student_first true d rest is = refl
no_student_first false true rest is = refl
no_student_first false false rest is = cc

-- what is written for another student leaves this one as it is
others_stay : (state : DeskState) (at k : ℕ) (new : StudentPreferences) → at ≢ k → preferences_at (with_preferences state at new) k ≡ preferences_at state k
others_stay state at k new other = get_or-set_other state.preferences at k new no_preferences (λ same. other (sym same))

other_named : (names : DeskNames) (k : ℕ) (student : Name) → has_name names.students student ≡ true → is_named names k student ≡ false
    → ordinal_of names.students student ≢ k
other_named names k student known other same =
    let test : nat_eq (ordinal_of names.students student) k ≡ true = grind (arith, nat_tests) in
    let both : is_named names k student ≡ true = rw (known, test) refl in
    cc

-- a name that is on the roll, or not
known_or_not : (P : Type 0) (b : Bool) → (b ≡ true → P) → (b ≡ false → P) → P
known_or_not P true yes' no' = yes' refl
known_or_not P false yes' no' = no' refl

-- a command that changes the row of a student whose name is on the roll, or nothing
unless_known : (names : DeskNames) (k : ℕ) (state : DeskState) (command : Command) (student : Name) (new : StudentPreferences)
    → is_named names k student ≡ false
    → (has_name names.students student ≡ false → is_done (reply_to names state command) ≡ false)
    → changed names state command ≡ with_preferences state (ordinal_of names.students student) new
    → preferences_at (state_after names state command) k ≡ preferences_at state k
unless_known names k state command student new other unknown makes =
    known_or_not (preferences_at (state_after names state command) k ≡ preferences_at state k) (has_name names.students student)
    (λ known. either_state (λ s. preferences_at s k ≡ preferences_at state k) (is_done (reply_to names state command)) (changed names state command) state
    (ap (λ (s : DeskState). preferences_at s k) makes ∙ others_stay state (ordinal_of names.students student) k new (other_named names k student known other)) refl)
    (λ none. ap (λ b. preferences_at (cond b (changed names state command) state) k) (unknown none))

-- a command of another student changes nothing for this one
pub other_keeps : (names : DeskNames) (k : ℕ) (state : DeskState) (command : Command) → LeavesOpen command → state.closed ≡ false
    → is_about names k command ≡ false
    → preferences_at (state_after names state command) k ≡ preferences_at state k
other_keeps names k state (Rate student section n) leaves is other =
    unless_known names k state (Rate student section n) student _ other
    (λ none. no_student_first state.closed (not (has_name names.students student)) _ (ap not none)) refl
other_keeps names k state (Pair student first second n) leaves is other =
    unless_known names k state (Pair student first second n) student _ other
    (λ none. no_student_first state.closed (not (has_name names.students student)) _ (ap not none)) refl
other_keeps names k state (Clear student) leaves is other =
    unless_known names k state (Clear student) student _ other (λ none. no_student_first state.closed (not (has_name names.students student)) _ (ap not none))
    refl
other_keeps names k state Close leaves is other = absurd leaves
other_keeps names k state Unreadable leaves is other = refl
