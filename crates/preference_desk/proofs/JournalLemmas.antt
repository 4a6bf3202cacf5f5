-- A journal with one entry more.
use Rattle.std.proofs.Common.{◌≡◌, true, false, cond, List, [], ◌∷◌, ◌++◌, length, length-set, refl, ap, sym, ◌∙◌}
use Rattle.utility_language.specs.declared.commands.Command.{Command}
use Rattle.utility_language.specs.declared.commands.Command.TheVariants.{Rate, Pair, Clear, Close, Unreadable}
use Rattle.preference_desk.specs.declared.entry.Entry.{Entry}
use Rattle.preference_desk.specs.DeskNames.{DeskNames}
use Rattle.preference_desk.specs.DeskStep.{DeskState, is_done, changed, reply_to, state_after}
use Rattle.preference_desk.specs.Journals.{IsLegalFrom, opening, state_after_all}
use Rattle.preference_desk.specs.Histories.{IsHistory}

pub state_after_one_more : (names : DeskNames) (state : DeskState) (entries : List Entry) (entry : Entry)
    → state_after_all names state (entries ++ entry ∷ []) ≡ state_after names (state_after_all names state entries) entry.command
state_after_one_more names state [] entry = refl
state_after_one_more names state (first ∷ more) entry = state_after_one_more names (state_after names state first.command) more entry

pub legal_with_one_more : (names : DeskNames) (state : DeskState) (entries : List Entry) (entry : Entry) → IsLegalFrom names state entries
    → entry.reply ≡ reply_to names (state_after_all names state entries) entry.command
    → IsLegalFrom names state (entries ++ entry ∷ [])
legal_with_one_more names state [] entry legal here = (here, tt)
legal_with_one_more names state (first ∷ more) entry legal here =
    (legal.0, legal_with_one_more names (state_after names state first.command) more entry legal.1 here)

-- one step more
pub one_step_more : (names : DeskNames) (old new : DeskState) (entries after : List Entry) (entry : Entry) → IsHistory names old entries
    → entry.reply ≡ reply_to names old entry.command → new ≡ state_after names old entry.command → after ≡ entries ++ entry ∷ [] → IsHistory names new after
one_step_more names old new entries after entry history reply state e = record {
  legal = rw e (legal_with_one_more names (opening names) entries entry history.legal (reply ∙ ap (λ state. reply_to names state entry.command) history.after));
  after = rw e (state ∙ ap (λ state. state_after names state entry.command) history.after ∙ sym (state_after_one_more names (opening names) entries entry));
}

pub changed_rows : (names : DeskNames) (state : DeskState) (command : Command) → length (changed names state command).preferences ≡ length state.preferences
changed_rows names state (Rate student section n) = length-set state.preferences _ _
changed_rows names state (Pair student first second n) = length-set state.preferences _ _
changed_rows names state (Clear student) = length-set state.preferences _ _
changed_rows names state Close = refl
changed_rows names state Unreadable = refl

-- a step keeps a place for each student
pub step_rows : (names : DeskNames) (state new : DeskState) (command : Command) → new ≡ state_after names state command
    → length new.preferences ≡ length state.preferences
step_rows names state new command e =
    ap (λ (state : DeskState). length state.preferences) e
    ∙ elim (is_done (reply_to names state command)) as (λ b. length (cond b (changed names state command) state).preferences ≡ length state.preferences)
    [ true ↦ changed_rows names state command | false ↦ refl ]
