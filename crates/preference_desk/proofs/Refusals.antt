-- Refused commands change nothing.
use Rattle.std.proofs.Common.{◌≡◌, List, [], ◌∷◌, refl, sym, ap, subst, ◌∙◌, inl, inr}
use Rattle.std.proofs.lemmas.Bool.{cases_Bool}
use Rattle.preference_desk.specs.declared.entry.Entry.{Entry}
use Rattle.preference_desk.specs.DeskNames.{DeskNames}
use Rattle.preference_desk.specs.DeskStep.{DeskState, is_done, state_after}
use Rattle.preference_desk.specs.Journals.{IsLegalFrom, opening, state_after_all}
use Rattle.preference_desk.specs.RefusedCommands.{DoneCommandsAreEnough, RefusedCommandsChangeNothing, done_of}

pub refused_commands_change_nothing : RefusedCommandsChangeNothing
refused_commands_change_nothing names state command refused = rw refused refl

-- from one state the entries that were carried out are legal, and lead to where all lead from another
record LeadsTo (names : DeskNames) (state other : DeskState) (more all : List Entry) : Type 0 where
  legal : IsLegalFrom names state more
  state_is : state_after_all names state more ≡ state_after_all names other all

from_any_state : (names : DeskNames) (state : DeskState) (entries : List Entry) → IsLegalFrom names state entries
    → LeadsTo names state state (done_of entries) entries
from_any_state names state [] legal = record { legal = tt; state_is = refl }
from_any_state names state (entry ∷ more) legal =
    let after = state_after names state entry.command in
    let rest : LeadsTo names after after (done_of more) more = from_any_state names after more legal.1 in
    elim (cases_Bool (is_done entry.reply)) [
      | inl done ↦ rw done (record { legal = (legal.0, rest.legal); state_is = rest.state_is })
      | inr refused ↦
          let same : after ≡ state = refused_commands_change_nothing names state entry.command (ap is_done (sym legal.0) ∙ refused) in
          let moved : LeadsTo names state after (done_of more) more = subst (λ from. LeadsTo names from after (done_of more) more) same rest in
          rw refused (record { legal = moved.legal; state_is = moved.state_is })
    ]

pub done_commands_are_enough : DoneCommandsAreEnough
done_commands_are_enough names entries legal =
    let told = from_any_state names (opening names) entries legal in
    record { legal = told.legal; preferences = ap (λ (state : DeskState). state.preferences) told.state_is }
