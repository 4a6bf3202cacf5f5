-- The kinds of inputs. Limits, grammars and faults go by kind; a form says which kinds its inputs
-- have.
use Rattle.std.specs.Prelude.{ℕ, ◌≡◌, zero, suc, List, [], ◌∷◌, ◌++◌}
use Rattle.market_units.specs.declared.limits.TheConstants.{MAX_INPUT_BYTES, MAX_TEXT_BYTES}
use Rattle.market_words.specs.declared.words.Form.{Form}
use Rattle.market_words.specs.declared.words.Form.TheVariants.{Audit, Check, Demand, Explain, Hall, Make, Prefer, Quote, Run}

pub data Kind : Type 0 where
  Catalog : Kind
  Roll : Kind
  Settings : Kind
  Prices : Kind
  Published : Kind
  Session : Kind

-- the kinds of a form's inputs in front of its streams of commands
abbrev pub front_of : Form → List Kind
front_of (Quote name credits courses) = Catalog ∷ []
front_of Prefer = Catalog ∷ Roll ∷ []
front_of (Demand workers) = Catalog ∷ Roll ∷ Settings ∷ Prices ∷ []
front_of (Run workers) = Catalog ∷ Roll ∷ Settings ∷ []
front_of (Make workers seed students sections accept) = []
front_of Check = Catalog ∷ Roll ∷ Settings ∷ Published ∷ []
front_of (Explain student section) = Catalog ∷ Roll ∷ Settings ∷ Published ∷ []
front_of Hall = Catalog ∷ Roll ∷ Published ∷ []
front_of (Audit workers) = Catalog ∷ Roll ∷ Settings ∷ Published ∷ []

-- the first inputs of a form have these kinds
abbrev pub OpensWith : List Kind → Form → Type 0
OpensWith kinds form = (more : List Kind) × (front_of form ≡ kinds ++ more)

-- the kind of a form's streams of commands; a stream of requests is read as a session is
abbrev pub streams_of : Form → Kind
streams_of (Quote name credits courses) = Session
streams_of Prefer = Session
streams_of (Demand workers) = Session
streams_of (Run workers) = Session
streams_of (Make workers seed students sections accept) = Session
streams_of Check = Session
streams_of (Explain student section) = Session
streams_of Hall = Session
streams_of (Audit workers) = Session

-- the inputs of a form are a catalogue, a roll, settings, a published text, and sessions
abbrev pub OpensPublished : Form → Type 0
OpensPublished form =
    (front_of form ≡ Catalog ∷ Roll ∷ Settings ∷ Published ∷ []) × (streams_of form ≡ Session)

-- the kind of the input that stands behind so many others, where these kinds stand in front of
-- streams of that kind
abbrev pub kind_behind : List Kind → Kind → ℕ → Kind
kind_behind [] streams count = streams
kind_behind (kind ∷ kinds) streams zero = kind
kind_behind (kind ∷ kinds) streams (suc count) = kind_behind kinds streams count

-- the kind of a form's input that stands behind so many others
abbrev pub kind_of : Form → ℕ → Kind
kind_of form count = kind_behind (front_of form) (streams_of form) count

-- the most bytes that an input of this kind may have
abbrev pub limit_of : Kind → ℕ
limit_of Catalog = MAX_INPUT_BYTES
limit_of Roll = MAX_INPUT_BYTES
limit_of Settings = MAX_INPUT_BYTES
limit_of Prices = MAX_INPUT_BYTES
limit_of Published = MAX_TEXT_BYTES
limit_of Session = MAX_INPUT_BYTES
