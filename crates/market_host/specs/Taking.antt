-- How the inputs of a call are taken from the shelf, one behind another.
use Rattle.std.specs.Prelude.{ℕ, ◌≡◌, ◌+◌, ◌<◌, ◌≤◌, List, [], ◌∷◌, ◌++◌, length, take, Result, MatchResult, Vec}
use Rattle.std.proofs.Common.{Global}
use Rattle.std.specs.List.{AllZip}
use Rattle.market_edge.specs.declared.shelf.Shelf as Shelf
use Rattle.market_edge.specs.Holdings.{IsTextOf}
use Rattle.market_units.specs.declared.limits.TheConstants.{MAX_COMMANDS}
use Rattle.market_words.specs.declared.call.Call.{Call}
use Rattle.market_words.specs.declared.words.Form.{Form}
use Rattle.market_words.specs.Inputs.{names_in}
use Rattle.market_words.specs.Kinds.{Catalog, Kind, OpensPublished, OpensWith, Roll, Settings, front_of, kind_of, limit_of}
use Rattle.session_hall.specs.Streams.{command_lists}
use Rattle.utility_language.specs.Commands.{command_lines}
use Rattle.market_host.specs.declared.cause.Cause.{Cause}
use Rattle.market_host.specs.declared.inputs.Inputs.{Inputs}
use Rattle.market_host.specs.declared.said.Market.{Market}
use Rattle.market_host.specs.declared.said.Published.{Published}
use Rattle.market_host.specs.declared.said.Tables.{Tables}
use Rattle.market_host.specs.declared.trouble.Trouble.{Trouble}
use Rattle.market_host.specs.declared.trouble.Trouble.TheVariants.{OutOfMemory, Refused, TooLong}
use Rattle.market_host.specs.Inputs.{AreRead, HasFault, IsInOrder, commands_among}
use Rattle.market_host.specs.Markets.{IsMarketOf, SayMarket, SayTables}
use Rattle.market_host.specs.Outcomes.{IsLastAtEnd}
use Rattle.market_host.specs.Reading.{IsUnread}
use Rattle.market_host.specs.Said.{market_said}
use Rattle.market_host.specs.Sessions.{session_text}
use Rattle.market_host.specs.Sights.{sight}
use Rattle.market_host.specs.Traces.{AreReadOut, AreReadUntil, trace}
use Rattle.market_host.specs.Troubles.{HasTrouble, IsAtEnd}

-- what a shelf holds stays, and no count of faults falls
pub record Keeps {H : Type 0} (shelf : Shelf.Ghosts H) (old new : H) : Type 0 where
  pub holds : (shelf.shows new).holds ≡ (shelf.shows old).holds
  pub later : (other : List ℕ) → (shelf.shows old).faults other ≤ (shelf.shows new).faults other

-- an input of this name is read whole: it has at most so many bytes, and they are these
pub record IsReadWhole {H : Type 0} (shelf : Shelf.Ghosts H) (limit : ℕ) (name : List ℕ)
    (old new : H) (text : List ℕ) : Type 0 where
  pub whole : IsTextOf (shelf.shows old).holds name text
  pub within : length text ≤ limit
  pub ended : IsAtEnd (sight shelf old new) name
  pub used : AreReadOut (trace shelf old new) (name ∷ [])
  pub kept : Keeps shelf old new

-- an input of this name and number, which may have so many bytes, stops the call: it is not read
pub record InputStops {H : Type 0} (shelf : Shelf.Ghosts H) (limit : ℕ) (name : List ℕ) (number : ℕ)
    (old new : H) (stop : Trouble) : Type 0 where
  pub unread : IsUnread limit (sight shelf old new) name number stop
  pub used : AreReadUntil (trace shelf old new) (name ∷ []) number stop
  pub kept : Keeps shelf old new

-- the text of an input of this name and number, which may have so many bytes, is had, or the input
-- stops the call
abbrev pub Reads : {H : Type 0} → Shelf.Ghosts H → ℕ → List ℕ → ℕ → H → H
    → Result (Vec ℕ Global) Trouble → Type 0
Reads shelf limit name number old new result =
    MatchResult result (λ text. IsReadWhole shelf limit name old new text.items)
    (InputStops shelf limit name number old new)

-- the inputs of a form that have these names were read to their ends, and have these texts
pub record AreTaken {H : Type 0} (shelf : Shelf.Ghosts H) (form : Form)
    (names texts : List (List ℕ)) (old new : H) : Type 0 where
  pub read : AreRead form (shelf.shows old).holds names texts
  pub ended : IsLastAtEnd (sight shelf old new) names
  pub used : AreReadOut (trace shelf old new) names
  pub kept : Keeps shelf old new

-- one of the inputs of a form, which have these names, stops the call
pub record OneStops {H : Type 0} (shelf : Shelf.Ghosts H) (form : Form) (names : List (List ℕ))
    (old new : H) (stop : Trouble) : Type 0 where
  pub trouble : HasTrouble form (sight shelf old new) names stop
  pub used : AreReadUntil (trace shelf old new) names 1 stop
  pub kept : Keeps shelf old new

-- all inputs of a form, which have these names, are taken, and P holds of their texts and what is
-- had; or one of them stops the call
abbrev pub TakesAll : {H A : Type 0} → Shelf.Ghosts H → Form → List (List ℕ)
    → (List (List ℕ) → A → Type 0) → H → H → Result A Trouble → Type 0
TakesAll shelf form names P old new result =
    MatchResult result
    (λ said. (texts : List (List ℕ)) × AreTaken shelf form names texts old new × P texts said)
    (OneStops shelf form names old new)

-- the inputs of a call, none of which was read
abbrev pub unread : Call → Inputs
unread call = record { call = call; read = 0 }

-- the cursor behind so many more inputs
abbrev pub behind : Inputs → ℕ → Inputs
behind inputs count = record inputs { read = inputs.read + count }

-- so many more inputs are named
abbrev pub HasMore : Inputs → ℕ → Type 0
HasMore inputs count =
    inputs.read + count ≤ length inputs.call.front.now + length inputs.call.streams.now

-- What a call of this form, whose inputs have these names, has read so far: as many of them as its
-- cursor counts, and they have these texts. Its shelf was the first as it began, and is the second
-- now.
pub record HasRead {H : Type 0} (shelf : Shelf.Ghosts H) (form : Form) (names : List (List ℕ))
    (inputs : Inputs) (texts : List (List ℕ)) (old new : H) : Type 0 where
  pub named : names ≡ names_in inputs.call
  pub front_long : length inputs.call.front.now ≡ length (front_of form)
  pub count : inputs.read ≡ length texts
  pub taken : AreTaken shelf form (take inputs.read names) texts old new

-- The next input was read to its end, behind those that have these texts, and this is its text. It
-- is taken if it is in order; if not, it stops the call, and so does want of memory.
pub record IsNext {H : Type 0} (shelf : Shelf.Ghosts H) (form : Form) (names : List (List ℕ))
    (inputs : Inputs) (texts : List (List ℕ)) (old new : H) (text : List ℕ) : Type 0 where
  pub within : length text ≤ limit_of (kind_of form (length texts))
  pub taken : IsInOrder form texts text
      → HasRead shelf form names inputs (texts ++ text ∷ []) old new
  pub refused : (row : ℕ) (cause : Cause)
      → HasFault (kind_of form (length texts)) texts row cause text
      → OneStops shelf form names old new (Refused inputs.read row cause)
  pub surplus : MAX_COMMANDS < commands_among form (texts ++ text ∷ [])
      → OneStops shelf form names old new (TooLong inputs.read)
  pub no_memory : OneStops shelf form names old new OutOfMemory

-- the next input, which may have so many bytes, is read to its end, whatever the form is and the
-- texts of the inputs before it are; or it stops the call
abbrev pub ReadsNext : {H : Type 0} → Shelf.Ghosts H → ℕ → Inputs → Inputs → H → H
    → Result (Vec ℕ Global) Trouble → Type 0
ReadsNext shelf limit before after old new result =
    (form : Form) (names texts : List (List ℕ)) (start : _)
    → limit_of (kind_of form (length texts)) ≡ limit
    → HasRead shelf form names before texts start old
    → MatchResult result (λ bytes. IsNext shelf form names after texts start new bytes.items)
    (OneStops shelf form names start new)

-- the next input, which is of this kind and stands in front of the streams, is taken, and P holds of
-- its text and what is had, where Q holds of the texts before it; or it stops the call
abbrev pub TakesNext : {H A : Type 0} → Shelf.Ghosts H → Kind → (List (List ℕ) → Type 0)
    → (List ℕ → A → Type 0) → Inputs → Inputs → H → H → Result A Trouble → Type 0
TakesNext shelf kind Q P before after old new result =
    (form : Form) (names texts : List (List ℕ)) (start : _) → kind_of form (length texts) ≡ kind
    → length texts < length (front_of form) → Q texts
    → HasRead shelf form names before texts start old
    → MatchResult result
    (λ said. (text : List ℕ) × HasRead shelf form names after (texts ++ text ∷ []) start new
    × P text said)
    (OneStops shelf form names start new)

-- a catalogue and a roll are taken, which are the first inputs, or one of them stops the call
abbrev pub TakesTables : {H : Type 0} → Shelf.Ghosts H → Inputs → Inputs → H → H
    → Result Tables Trouble → Type 0
TakesTables shelf before after old new result =
    (form : Form) (names : List (List ℕ)) (start : _) → OpensWith (Catalog ∷ Roll ∷ []) form
    → HasRead shelf form names before [] start old
    → MatchResult result
    (λ said. (catalog : List ℕ) × (roll : List ℕ)
    × HasRead shelf form names after (catalog ∷ roll ∷ []) start new
    × SayTables catalog roll said.catalog said.roll)
    (OneStops shelf form names start new)

-- the same of a catalogue, a roll and settings
abbrev pub TakesMarket : {H : Type 0} → Shelf.Ghosts H → Inputs → Inputs → H → H
    → Result Market Trouble → Type 0
TakesMarket shelf before after old new result =
    (form : Form) (names : List (List ℕ)) (start : _)
    → OpensWith (Catalog ∷ Roll ∷ Settings ∷ []) form
    → HasRead shelf form names before [] start old
    → MatchResult result
    (λ said. (catalog : List ℕ) × (roll : List ℕ) × (settings : List ℕ)
    × HasRead shelf form names after (catalog ∷ roll ∷ settings ∷ []) start new
    × SayMarket catalog roll settings (market_said said))
    (OneStops shelf form names start new)

-- the next stream is taken, and these are its items, where the streams before it leave room for so
-- many; or it stops the call
abbrev pub TakesStream : {H A : Type 0} → Shelf.Ghosts H → (List (List ℕ) → A → Type 0) → ℕ
    → Inputs → Inputs → H → H → Result (Vec A Global) Trouble → Type 0
TakesStream shelf IsItemOf room before after old new result =
    (form : Form) (names texts : List (List ℕ)) (start : _)
    → length (front_of form) ≤ length texts → commands_among form texts + room ≡ MAX_COMMANDS
    → HasRead shelf form names before texts start old
    → MatchResult result
    (λ stream. (text : List ℕ) × HasRead shelf form names after (texts ++ text ∷ []) start new
    × AllZip IsItemOf (command_lines (session_text text)) stream.items)
    (OneStops shelf form names start new)

-- all streams are taken, which are what is left of the inputs, and P holds of their texts and what
-- is had; or one of them stops the call
abbrev pub TakesRest : {H A : Type 0} → Shelf.Ghosts H → (List (List ℕ) → A → Type 0) → Inputs → H
    → H → Result A Trouble → Type 0
TakesRest shelf P before old new result =
    (form : Form) (names texts : List (List ℕ)) (start : _) → length texts ≡ length (front_of form)
    → HasRead shelf form names before texts start old
    → MatchResult result
    (λ said. (sessions : List (List ℕ)) × AreTaken shelf form names (texts ++ sessions) start new
    × P sessions said)
    (OneStops shelf form names start new)

-- all inputs of a call are taken that looks at a published text, or one of them stops the call
abbrev pub TakesPublished : {H : Type 0} → Shelf.Ghosts H → Inputs → H → H
    → Result Published Trouble → Type 0
TakesPublished shelf before old new result =
    (form : Form) (names : List (List ℕ)) (start : _) → OpensPublished form
    → HasRead shelf form names before [] start old
    → MatchResult result
    (λ said. (catalog : List ℕ) × (roll : List ℕ) × (settings : List ℕ) × (sessions : List (List ℕ))
    × AreTaken shelf form names (catalog ∷ roll ∷ settings ∷ said.text.items ∷ sessions) start new
    × IsMarketOf catalog roll settings sessions (market_said said.market)
    (command_lists said.streams.lists.items))
    (OneStops shelf form names start new)
