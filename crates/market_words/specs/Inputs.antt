-- The words of a call that name its inputs.
use Rattle.std.specs.Prelude.{ℕ, ◌≡◌, ◌≤◌, List, ◌++◌, length, map, ⊤}
use Rattle.std.specs.String.{string_bytes}
use Rattle.market_words.specs.declared.call.Call.{Call}
use Rattle.market_words.specs.declared.words.Form.{Form}
use Rattle.market_words.specs.declared.words.Form.TheVariants.{Make}
use Rattle.market_words.specs.Forms.{HasForm, inputs_of}
use Rattle.market_words.specs.Kinds.{front_of}

-- the names of the inputs of a call: those in front of its streams, and behind them the streams'
abbrev pub names_in : Call → List (List ℕ)
names_in call = map string_bytes call.front.now ++ map string_bytes call.streams.now

-- a form has inputs: all but `make` have
abbrev pub HasInputs : Form → Type 0
HasInputs (Make workers seed students sections accept) = ⊥
HasInputs form = ⊤

-- The words ask for this form, and the names that the call has are those of its inputs: as many as
-- the form has in front of its streams, and behind them those of the streams.
pub record IsCall (words : List (List ℕ)) (form : Form) (call : Call) : Type 0 where
  pub has : HasForm words form
  pub named : inputs_of form words ≡ names_in call
  pub front_long : length call.front.now ≡ length (front_of form)
  pub some : HasInputs form → 1 ≤ length call.streams.now

-- these words name the inputs of a call of this form: so many, and behind them the streams
pub record NamesInputs (words : List (List ℕ)) (form : Form) (before : ℕ) (call : Call) : Type 0 where
  pub form_is : call.form ≡ form
  pub named : words ≡ names_in call
  pub front_long : length call.front.now ≡ before
  pub some : 1 ≤ length call.streams.now
