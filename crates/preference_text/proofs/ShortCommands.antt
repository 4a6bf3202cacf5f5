-- The commands of a journal have short numbers where they were read from texts.
use Rattle.std.proofs.Common.{ℕ, zero, suc, ◌≡◌, ◌+◌, ◌-◌, ◌<◌, true, false, List, [], ◌∷◌, length, get_or, ap, sym, subst, refl, arith, inl, inr, ◌∙◌}
use Rattle.std.specs.Prelude.{All, ◌==◌}
use Rattle.std.specs.List.{AllZip}
use Rattle.std.proofs.lemmas.List.Elements.{All-tail}
use Rattle.std.proofs.lemmas.Bool.{cases_Bool}
use Rattle.std.proofs.lemmas.Bool.Decides.{nat_tests}
use Rattle.utility_language.specs.declared.commands.Command.{Command}
use Rattle.utility_language.specs.Commands.{AreCommands, HasShortNumber, command_lines}
use Rattle.preference_desk.specs.declared.entry.Entry.{Entry}
use Rattle.preference_desk.specs.Journals.{MergesStreams, commands_of_session}
use Rattle.preference_text.specs.Texts.{HasShortCommand}
use Rattle.utility_language.proofs.StreamLemmas.{short_at}

-- the commands of a text have short numbers
pub commands_are_short : (text : List ℕ) (commands : List Command) → AreCommands text commands → All HasShortNumber commands
commands_are_short text commands are = short_at (command_lines text) commands are

with_own : (entry : Entry) (journal : List Entry) (session : ℕ) → (entry.session == session) ≡ true
    → commands_of_session session (entry ∷ journal) ≡ entry.command ∷ commands_of_session session journal
with_own entry journal session own = rw own refl

without : (entry : Entry) (journal : List Entry) (session : ℕ) → (entry.session == session) ≡ false
    → commands_of_session session (entry ∷ journal) ≡ commands_of_session session journal
without entry journal session other = rw other refl

of_session : (journal : List Entry) (session : ℕ) → All HasShortNumber (commands_of_session session journal) → (k : ℕ) (d : Entry) → k < length journal
    → (get_or journal k d).session ≡ session → HasShortCommand (get_or journal k d)
of_session [] session short k d inside is = absurd (omega arith)
of_session (entry ∷ journal) session short zero d inside is =
    let own : (entry.session == session) ≡ true = grind (arith, nat_tests) in
    subst (All HasShortNumber) (with_own entry journal session own) short 0 entry.command (omega arith)
of_session (entry ∷ journal) session short (suc k) d inside is = elim (cases_Bool (entry.session == session)) [
  | inl own ↦
      of_session journal session
      (All-tail HasShortNumber entry.command (commands_of_session session journal) (subst (All HasShortNumber) (with_own entry journal session own) short))
      k d (omega arith) is
  | inr other ↦ of_session journal session (subst (All HasShortNumber) (without entry journal session other) short) k d (omega arith) is
]

-- where a journal merges streams of commands with short numbers, so are the commands of its entries
pub entries_are_short : (streams : List (List Command)) (journal : List Entry) → MergesStreams streams journal
    → All (λ (stream : List Command). All HasShortNumber stream) streams → All HasShortCommand journal
entries_are_short streams journal merges short k d inside =
    let session = (get_or journal k d).session in
    let given = merges.given k d inside in
    let place = session - 1 in
    let below : place < length streams = omega (arith, given.0, given.1) in
    let one : place + 1 ≡ session = omega (arith, given.0) in
    let own = ap (λ n. commands_of_session n journal) (sym one) ∙ merges.whole place below in
    of_session journal session (subst (All HasShortNumber) (sym own) (short place [] below)) k d inside refl

texts_are_short : (texts : List (List ℕ)) (streams : List (List Command)) → AllZip AreCommands texts streams → (k : ℕ) (d : List Command) → k < length streams
    → All HasShortNumber (get_or streams k d)
texts_are_short [] [] are k d inside = absurd (omega arith)
texts_are_short [] (stream ∷ streams) are k d inside = absurd are
texts_are_short (text ∷ texts) [] are k d inside = absurd are
texts_are_short (text ∷ texts) (stream ∷ streams) are zero d inside = commands_are_short text stream are.0
texts_are_short (text ∷ texts) (stream ∷ streams) are (suc k) d inside = texts_are_short texts streams are.1 k d (omega arith)

-- the same where each stream is the commands of a text
pub read_entries_are_short : (texts : List (List ℕ)) (streams : List (List Command)) (journal : List Entry) → AllZip AreCommands texts streams
    → MergesStreams streams journal → All HasShortCommand journal
read_entries_are_short texts streams journal are merges = entries_are_short streams journal merges (texts_are_short texts streams are)
