-- Which input was read to its end, by the status alone.
use Rattle.std.specs.Prelude.{ℕ, ◌≡◌, ◌+◌, List, ◌∷◌, ◌++◌, length, ⊤}
use Rattle.market_words.specs.declared.words.Form.{Form}
use Rattle.market_words.specs.Forms.{HasForm, inputs_of}
use Rattle.market_host.specs.declared.status.Status.{Status}
use Rattle.market_host.specs.declared.status.Status.TheVariants.{Done, Usage, ShelfFault, Refused, TooLong, NoPrices, Found, Unknown, SinkFault, OutOfMemory}
use Rattle.market_host.specs.Outcomes.{IsLastAtEnd}
use Rattle.market_host.specs.Sights.{Sight}
use Rattle.market_host.specs.Troubles.{IsAtEnd}

-- the last input, where there is one, was read to its end
abbrev pub IsWhollyRead : List (List ℕ) → Sight → Type 0
IsWhollyRead words seen =
    (form : Form) → HasForm words form → IsLastAtEnd seen (inputs_of form words)

-- Where the work is ended, the shelf serves the last input's name and nothing is left to read;
-- where an input is refused, the same of that input. A clause on the shelf before and after the
-- call can say no more: what was left of an earlier text when the next was begun is not to be seen
-- in either.
abbrev pub IsReadOutAt : List (List ℕ) → Sight → Status → Type 0
IsReadOutAt words seen Done = IsWhollyRead words seen
IsReadOutAt words seen (NoPrices least) = IsWhollyRead words seen
IsReadOutAt words seen (Found finding) = IsWhollyRead words seen
IsReadOutAt words seen (Unknown word) = IsWhollyRead words seen
IsReadOutAt words seen (Refused number row cause) =
    (form : Form) → HasForm words form
    → (earlier : List (List ℕ)) (name : List ℕ) (later : List (List ℕ))
    → inputs_of form words ≡ earlier ++ name ∷ later
    → number ≡ length earlier + 1 → IsAtEnd seen name
IsReadOutAt words seen Usage = ⊤
IsReadOutAt words seen (ShelfFault number) = ⊤
IsReadOutAt words seen (TooLong number) = ⊤
IsReadOutAt words seen SinkFault = ⊤
IsReadOutAt words seen OutOfMemory = ⊤
