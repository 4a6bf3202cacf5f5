-- The entries of a closed desk to which all sessions have posted.
use Rattle.std.proofs.Common.{ℕ, ◌≡◌, ◌≤◌, ◌<◌, ◌+◌, ◌==◌, ◌++◌, ◌∙◌, List, [], ◌∷◌, Vec, Global, true, false, arith, length, map, slice_index_or, refl, ap, sym, subst, inl, inr}
use Rattle.std.proofs.lemmas.Bool.{cases_Bool}
use Rattle.std.proofs.lemmas.Bool.Decides.{nat_tests}
use Rattle.std.proofs.lemmas.List.Elements.{All-map}
use Rattle.chronicle.specs.declared.journal.StepOf.{StepOf}
use Rattle.chronicle.specs.History.{IsLegal, calls_by, state_after as state_after_steps}
use Rattle.stream_posting.specs.Streams.{MergesCalls, lists_of, requests}
use Rattle.utility_language.specs.declared.commands.Command.{Command}
use Rattle.preference_desk.specs.declared.entry.Entry.{Entry}
use Rattle.preference_desk.specs.declared.reply.Reply.{Reply}
use Rattle.preference_desk.specs.declared.shared.Known.{Known}
use Rattle.preference_desk.specs.declared.shared.Told.{Told}
use Rattle.preference_desk.specs.DeskNames.{DeskNames}
use Rattle.preference_desk.specs.Journals.{IsLegalFrom, IsLegalJournal, MergesStreams, commands_of_session, opening}
use Rattle.preference_desk.specs.Shared.{is_sound, told_after, told_reply, entry_of_step}
use Rattle.preference_desk.proofs.SharedLemmas.{steps_are_entries_law}
use Rattle.session_hall.specs.Streams.{command_lists}

-- what a session said is what was asked of its seat
pub session_is_seat : (k : ℕ) (history : List (StepOf Command Reply)) → commands_of_session (k + 1) (map entry_of_step history) ≡ requests (calls_by k history)
session_is_seat k [] = refl
session_is_seat k (step ∷ more) =
    let rest = session_is_seat k more in
    elim (cases_Bool (step.seat == k)) [
      | inl own ↦ let theirs : (step.seat + 1 == k + 1) ≡ true = grind (arith, nat_tests) in rw (own, theirs) (ap (λ commands. step.request ∷ commands) rest)
      | inr other ↦ let theirs : (step.seat + 1 == k + 1) ≡ false = grind (arith, nat_tests) in rw (other, theirs) rest
    ]

-- where the steps merge the streams, so do their entries
pub entries_merge : (streams : List (Vec Command Global)) (history : List (StepOf Command Reply)) → MergesCalls (lists_of streams) history
    → MergesStreams (command_lists streams) (map entry_of_step history)
entries_merge streams history merges = record {
  given = All-map (λ (entry : Entry). (1 ≤ entry.session) × (entry.session ≤ length (command_lists streams))) entry_of_step history (λ k d below.
      let step = slice_index_or history k d in
      let low : step.seat < length (command_lists streams) = merges.given k d below in
      ((let goal : 1 ≤ step.seat + 1 = omega arith in goal), (let goal : step.seat + 1 ≤ length (command_lists streams) = omega arith in goal)));
  whole = λ k below. session_is_seat k history ∙ merges.whole k below;
}

-- the entries of the closed desk are the steps
pub entries_are_steps : (known : Known) (opened closed : Told) (history : List (StepOf Command Reply))
    → IsLegal is_sound told_after told_reply known opened history
    → closed ≡ state_after_steps told_after known opened history → opened.entries ≡ [] → closed.entries ≡ map entry_of_step history
entries_are_steps known opened closed history legal last none =
    ap (λ (told : Told). told.entries) last ∙ (steps_are_entries_law known opened history legal).entries
    ∙ ap (λ entries. entries ++ map entry_of_step history) none

-- and they are a legal journal
pub steps_are_legal : (names : DeskNames) (known : Known) (opened : Told) (history : List (StepOf Command Reply))
    → IsLegal is_sound told_after told_reply known opened history
    → known.names ≡ names → opened.state ≡ opening names → IsLegalJournal names (map entry_of_step history)
steps_are_legal names known opened history legal named state =
    let entries = map entry_of_step history in
    subst (λ (n : DeskNames). IsLegalFrom n (opening n) entries) named
    (subst (λ s. IsLegalFrom known.names s entries) (state ∙ ap opening (sym named)) (steps_are_entries_law known opened history legal).legal)
