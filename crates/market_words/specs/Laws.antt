-- The law of forms.
use Rattle.std.specs.Prelude.{ℕ, ◌≡◌, List}
use Rattle.market_words.specs.declared.words.Form.{Form}
use Rattle.market_words.specs.Forms.{HasForm}

-- one list of words asks for one thing at most
abbrev pub WordsHaveOneForm : Type 0
WordsHaveOneForm =
    (words : List (List ℕ)) (one other : Form) → HasForm words one → HasForm words other
    → one ≡ other
