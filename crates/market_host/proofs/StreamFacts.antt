-- The streams of sessions, and how many items they have.
use Rattle.std.proofs.Common.{ℕ, ◌≡◌, List, [], ◌∷◌, ◌++◌, length, map, arith, sym, ◌∙◌, refl, Global}
use Rattle.std.specs.Prelude.{All, Vec}
use Rattle.std.specs.List.{AllZip}
use Rattle.std.specs.Vec.{vec_len}
use Rattle.std.proofs.lemmas.Slice.Zip.{AllZip-long}
use Rattle.std.proofs.lemmas.List.Elements.{All-cons, All-nil}
use Rattle.market_units.specs.Totals.{total}
use Rattle.preference_desk.specs.declared.entry.Entry.{Entry}
use Rattle.preference_desk.specs.Journals.{MergesStreams}
use Rattle.preference_text.specs.Texts.{HasShortCommand}
use Rattle.preference_text.proofs.ShortCommands.{commands_are_short, entries_are_short}
use Rattle.session_hall.specs.Streams.{command_lists}
use Rattle.utility_language.specs.declared.commands.Command.{Command}
use Rattle.utility_language.specs.Commands.{HasShortNumber, command_lines}
use Rattle.market_host.specs.Sessions.{AreItems, AreStreams, command_count, session_text}

-- a session has as many items as lines that are commands
pub count_of_session : {A : Type 0} (IsItemOf : List (List ℕ) → A → Type 0) (session : List ℕ) (items : List A)
    → AllZip IsItemOf (command_lines (session_text session)) items → length items ≡ command_count session
count_of_session IsItemOf session items are = AllZip-long IsItemOf (command_lines (session_text session)) items are

-- sessions have together as many items as their streams
pub count_of_sessions : {A : Type 0} (IsItemOf : List (List ℕ) → A → Type 0) (sessions : List (List ℕ)) (streams : List (Vec A Global))
    → AreItems IsItemOf sessions (map (λ (stream : Vec A Global). stream.items) streams)
    → total command_count sessions ≡ total vec_len streams
count_of_sessions IsItemOf [] [] are = refl
count_of_sessions IsItemOf [] (stream ∷ streams) are = absurd are
count_of_sessions IsItemOf (session ∷ sessions) [] are = absurd are
count_of_sessions IsItemOf (session ∷ sessions) (stream ∷ streams) are =
    let first : command_count session ≡ vec_len stream = sym (count_of_session IsItemOf session stream.items are.0) ∙ sym stream.ok.0 in
    let rest = count_of_sessions IsItemOf sessions streams are.1 in
    omega (arith, first, rest)

-- as many streams as sessions
pub as_many_streams : {A : Type 0} (IsItemOf : List (List ℕ) → A → Type 0) (sessions : List (List ℕ)) (streams : List (Vec A Global))
    → AreItems IsItemOf sessions (map (λ (stream : Vec A Global). stream.items) streams)
    → length streams ≡ length sessions
as_many_streams IsItemOf [] [] are = refl
as_many_streams IsItemOf [] (stream ∷ streams) are = absurd are
as_many_streams IsItemOf (session ∷ sessions) [] are = absurd are
as_many_streams IsItemOf (session ∷ sessions) (stream ∷ streams) are = omega (arith, as_many_streams IsItemOf sessions streams are.1)

-- one stream more
pub streams_more : {A : Type 0} (IsItemOf : List (List ℕ) → A → Type 0) (sessions : List (List ℕ)) (streams : List (Vec A Global)) (session : List ℕ)
    (stream : Vec A Global)
    → AreItems IsItemOf sessions (map (λ (given : Vec A Global). given.items) streams) → AllZip IsItemOf (command_lines (session_text session)) stream.items
    → AreItems IsItemOf (sessions ++ session ∷ []) (map (λ (given : Vec A Global). given.items) (streams ++ stream ∷ []))
streams_more IsItemOf [] [] session stream are more = (more, tt)
streams_more IsItemOf [] (other ∷ streams) session stream are more = absurd are
streams_more IsItemOf (other ∷ sessions) [] session stream are more = absurd are
streams_more IsItemOf (other ∷ sessions) (first ∷ streams) session stream are more = (are.0, streams_more IsItemOf sessions streams session stream are.1 more)

short_streams : (sessions : List (List ℕ)) (streams : List (List Command)) → AreStreams sessions streams
    → All (λ (stream : List Command). All HasShortNumber stream) streams
short_streams [] [] are = All-nil (λ (stream : List Command). All HasShortNumber stream)
short_streams [] (stream ∷ streams) are = absurd are
short_streams (session ∷ sessions) [] are = absurd are
short_streams (session ∷ sessions) (stream ∷ streams) are =
    All-cons (λ (all : List Command). All HasShortNumber all) stream streams (commands_are_short (session_text session) stream are.0)
    (short_streams sessions streams are.1)

-- the commands of a journal that merges what sessions say have short numbers
pub short_entries : (sessions : List (List ℕ)) (streams : List (Vec Command Global)) (journal : List Entry) → AreStreams sessions (command_lists streams)
    → MergesStreams (command_lists streams) journal
    → All HasShortCommand journal
short_entries sessions streams journal are merges =
    entries_are_short (command_lists streams) journal merges (short_streams sessions (command_lists streams) are)
