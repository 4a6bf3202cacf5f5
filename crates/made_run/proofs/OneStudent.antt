-- What one student wants after commands: its own commands alone tell.
use Rattle.std.proofs.Common.{ℕ, ◌≡◌, ◌<◌, ◌∙◌, Bool, true, false, cond, nat_eq, List, [], ◌∷◌, length, refl, ap, sym, arith}
use Rattle.std.specs.Prelude.{All, unsigned_abs}
use Rattle.std.specs.List.{filter}
use Rattle.std.proofs.lemmas.Bool.Decides.{nat_tests}
use Rattle.std.proofs.lemmas.Grind.{get_or-set_at}
use Rattle.std.proofs.lemmas.List.Elements.{All-head, All-tail}
use Rattle.plain_facts.proofs.Truths.{and_second}
use Rattle.market_units.specs.declared.names.Name.{Name}
use Rattle.utility_language.specs.declared.commands.Command.{Command}
use Rattle.utility_language.specs.declared.commands.Command.TheVariants.{Rate, Pair, Clear, Close, Unreadable}
use Rattle.preference_desk.specs.DeskNames.{DeskNames, has_name, ordinal_of}
use Rattle.preference_desk.specs.DeskStep.{DeskState, changed, is_done, preferences_at, reply_to, state_after, with_preferences}
use Rattle.preference_desk.specs.StudentPreferences.{StudentPreferences, no_preferences, pair_of, with_pair, with_rating}
use Rattle.made_run.specs.Apart.{LeavesOpen, is_about, is_named}
use Rattle.made_run.proofs.Steps.{keeps_rows, other_keeps, stays_open}

-- the ordinal of the student that is named
named_is : (names : DeskNames) (k : ℕ) (student : Name) → is_named names k student ≡ true → ordinal_of names.students student ≡ k
named_is names k student is =
    let test : nat_eq (ordinal_of names.students student) k ≡ true =
    and_second (has_name names.students student) (nat_eq (ordinal_of names.students student) k) is in
    grind (arith, nat_tests)

-- what is written for a student is there
written_there : (state : DeskState) (at k : ℕ) (new : StudentPreferences) → at ≡ k → k < length state.preferences
    → preferences_at (with_preferences state at new) k ≡ new
written_there state at k new same within = get_or-set_at state.preferences at k new no_preferences (sym same) (omega arith)

-- one of two states, and one of two others that are alike for this student
alike_either : (k : ℕ) (b c : Bool) (x y u v : DeskState) → b ≡ c → preferences_at x k ≡ preferences_at u k → preferences_at y k ≡ preferences_at v k
    → preferences_at (cond b x y) k ≡ preferences_at (cond c u v) k
alike_either k true true x y u v same first second = first
alike_either k false false x y u v same first second = second
alike_either k true false x y u v same first second = cc
alike_either k false true x y u v same first second = cc

-- two desks with the same reply that then write the same for this student
alike_written : (names : DeskNames) (k : ℕ) (one other : DeskState) (command : Command) (student : Name) (here there : StudentPreferences)
    → is_named names k student ≡ true → k < length one.preferences → k < length other.preferences
    → preferences_at one k ≡ preferences_at other k → reply_to names one command ≡ reply_to names other command → here ≡ there
    → changed names one command ≡ with_preferences one (ordinal_of names.students student) here
    → changed names other command ≡ with_preferences other (ordinal_of names.students student) there
    → preferences_at (state_after names one command) k ≡ preferences_at (state_after names other command) k
alike_written names k one other command student here there named within inside alike reply same makes does =
    let place : ordinal_of names.students student ≡ k = named_is names k student named in
    alike_either k (is_done (reply_to names one command)) (is_done (reply_to names other command)) (changed names one command) one (changed names other command)
    other (ap is_done reply)
    (ap (λ (s : DeskState). preferences_at s k) makes ∙ written_there one (ordinal_of names.students student) k here place within ∙ same
    ∙ sym (ap (λ (s : DeskState). preferences_at s k) does ∙ written_there other (ordinal_of names.students student) k there place inside))
    alike

-- a command of this student changes it alike in two open desks in which it wants the same
own_alike : (names : DeskNames) (k : ℕ) (one other : DeskState) (command : Command) → is_about names k command ≡ true → one.closed ≡ other.closed
    → k < length one.preferences → k < length other.preferences
    → preferences_at one k ≡ preferences_at other k → preferences_at (state_after names one command) k ≡ preferences_at (state_after names other command) k
own_alike names k one other (Rate student section n) about closed within inside alike =
    let place : ordinal_of names.students student ≡ k = named_is names k student about in
    let same : preferences_at one (ordinal_of names.students student) ≡ preferences_at other (ordinal_of names.students student) =
    ap (preferences_at one) place ∙ alike ∙ sym (ap (preferences_at other) place) in
    alike_written names k one other (Rate student section n) student _ _ about within inside alike (rw (closed, same) refl)
    (ap (λ (old : StudentPreferences). record { ratings = with_rating old.ratings (ordinal_of names.sections section) (unsigned_abs n); pairs = old.pairs })
    same)
    refl refl
own_alike names k one other (Pair student first second n) about closed within inside alike =
    let place : ordinal_of names.students student ≡ k = named_is names k student about in
    let same : preferences_at one (ordinal_of names.students student) ≡ preferences_at other (ordinal_of names.students student) =
    ap (preferences_at one) place ∙ alike ∙ sym (ap (preferences_at other) place) in
    alike_written names k one other (Pair student first second n) student _ _ about within inside alike (rw (closed, same) refl)
    (ap
    (λ (old : StudentPreferences). record {
      ratings = old.ratings;
      pairs = with_pair old.pairs (pair_of (ordinal_of names.sections first) (ordinal_of names.sections second)) n;
    })
    same)
    refl refl
own_alike names k one other (Clear student) about closed within inside alike =
    alike_written names k one other (Clear student) student no_preferences no_preferences about within inside alike (rw closed refl) refl refl refl
own_alike names k one other Close about closed within inside alike = cc
own_alike names k one other Unreadable about closed within inside alike = cc

-- the state after these commands
abbrev pub after : DeskNames → DeskState → List Command → DeskState
after names state [] = state
after names state (command ∷ more) = after names (state_after names state command) more

-- the commands that are of this student
abbrev pub own : DeskNames → ℕ → List Command → List Command
own names k commands = filter (is_about names k) commands

-- the student's own command is among them, and no other is
pub own_more : (names : DeskNames) (k : ℕ) (command : Command) (more : List Command) → is_about names k command ≡ true
    → own names k (command ∷ more) ≡ command ∷ own names k more
own_more names k command more is = ap (λ b. cond b (command ∷ own names k more) (own names k more)) is

pub own_less : (names : DeskNames) (k : ℕ) (command : Command) (more : List Command) → is_about names k command ≡ false
    → own names k (command ∷ more) ≡ own names k more
own_less names k command more is = ap (λ b. cond b (command ∷ own names k more) (own names k more)) is

-- of two desks in which the student wants the same, it wants the same after all commands of the one, and after its own commands alone of the other
own_tells : (names : DeskNames) (k : ℕ) (one other : DeskState) (commands : List Command) → All LeavesOpen commands → one.closed ≡ false → other.closed ≡ false
    → k < length one.preferences → k < length other.preferences
    → preferences_at one k ≡ preferences_at other k → preferences_at (after names one commands) k ≡ preferences_at (after names other (own names k commands)) k
own_tells names k one other [] leaves here there within inside alike = alike
own_tells names k one other (command ∷ more) leaves here there within inside alike =
    let first : LeavesOpen command = All-head LeavesOpen command more leaves in
    let rest : All LeavesOpen more = All-tail LeavesOpen command more leaves in
    let still : (state_after names one command).closed ≡ false = stays_open names one command first here in
    let rows : length (state_after names one command).preferences ≡ length one.preferences = keeps_rows names one command in
    elim (is_about names k command) as (λ b. is_about names k command ≡ b → preferences_at (after names (state_after names one command) more) k ≡ preferences_at (after names other (own names k (command ∷ more))) k) [
      | true ↦ λ about.
          let also : (state_after names other command).closed ≡ false = stays_open names other command first there in
          let places : length (state_after names other command).preferences ≡ length other.preferences = keeps_rows names other command in
          own_tells names k (state_after names one command) (state_after names other command) more rest still also (omega arith) (omega arith)
          (own_alike names k one other command about (here ∙ sym there) within inside alike)
          ∙ ap (λ all. preferences_at (after names other all) k) (sym (own_more names k command more about))
      | false ↦ λ about.
          own_tells names k (state_after names one command) other more rest still there (omega arith) inside
          (other_keeps names k one command first here about ∙ alike)
          ∙ ap (λ all. preferences_at (after names other all) k) (sym (own_less names k command more about))
    ] refl

-- after all commands a student wants what it wants after its own
pub own_alone : (names : DeskNames) (k : ℕ) (state : DeskState) (commands : List Command) → All LeavesOpen commands → state.closed ≡ false
    → k < length state.preferences
    → preferences_at (after names state commands) k ≡ preferences_at (after names state (own names k commands)) k
own_alone names k state commands leaves here within = own_tells names k state state commands leaves here here within within refl
