-- The outcome of a call: a status and the text that it writes, with all that must hold of them, by
-- cases of the status.
use Rattle.std.specs.Prelude.{ℕ, ◌≡◌, List, [], ◌∷◌, ◌++◌}
use Rattle.made_run.specs.Made.{IsMadeSummary}
use Rattle.market_units.specs.Name.{name_bytes}
use Rattle.market_words.specs.declared.words.Form.{Form}
use Rattle.market_words.specs.declared.words.Form.TheVariants.{Audit, Check, Demand, Explain, Hall, Make, Prefer, Quote, Run}
use Rattle.market_words.specs.Forms.{HasForm, HasNoForm, inputs_of}
use Rattle.market_host.specs.declared.status.Status.{Status}
use Rattle.market_host.specs.declared.status.Status.TheVariants.{Done, Usage, ShelfFault, Refused, TooLong, NoPrices, Found, Unknown, SinkFault, OutOfMemory}
use Rattle.market_host.specs.declared.trouble.Trouble.{Trouble}
use Rattle.market_host.specs.declared.trouble.Trouble.TheVariants as trouble
use Rattle.market_host.specs.declared.ended.Ended.{Ended}
use Rattle.certificate_checker.specs.declared.findings.Finding.{Finding}
use Rattle.market_host.specs.Audits.{PrintsAudit}
use Rattle.market_host.specs.Checks.{PrintsAccepted, TellsFound}
use Rattle.market_host.specs.Demands.{PrintsDemand}
use Rattle.market_host.specs.Endings.{bytes_of}
use Rattle.market_host.specs.Explains.{PrintsReason, TellsFoundOfKnown, TellsUnknown}
use Rattle.market_host.specs.Halls.{PrintsHall, TellsNoHall}
use Rattle.market_host.specs.Inputs.{AreRead}
use Rattle.market_host.specs.Lines.{line_of, usage_line}
use Rattle.market_host.specs.Makes.{TellsMadeUnpriced}
use Rattle.market_host.specs.Preferences.{PrintsPreferences}
use Rattle.market_host.specs.Quotes.{PrintsQuote}
use Rattle.market_host.specs.Runs.{PrintsRun, TellsUnpriced}
use Rattle.market_host.specs.Sights.{Sight}
use Rattle.market_host.specs.Troubles.{HasTrouble, IsAtEnd}

-- the text that a form prints, where its inputs have these texts
abbrev pub Prints : Form → List (List ℕ) → List ℕ → Type 0
Prints (Quote name credits courses) texts text =
    PrintsQuote (name_bytes name) credits courses texts text
Prints Prefer texts text = PrintsPreferences texts text
Prints (Demand workers) texts text = PrintsDemand texts text
Prints (Run workers) texts text = PrintsRun texts text
Prints (Make workers seed students sections accept) texts text =
    IsMadeSummary seed students sections accept text
Prints Check texts text = PrintsAccepted texts text
Prints (Explain student section) texts text =
    PrintsReason (name_bytes student) (name_bytes section) texts text
Prints Hall texts text = PrintsHall texts text
Prints (Audit workers) texts text = PrintsAudit texts text

-- the text that a form writes that finds no prices, where its inputs have these texts and this is
-- the least error
abbrev pub TellsNoPrices : Form → List (List ℕ) → ℕ → List ℕ → Type 0
TellsNoPrices (Quote name credits courses) texts least text = ⊥
TellsNoPrices Prefer texts least text = ⊥
TellsNoPrices (Demand workers) texts least text = ⊥
TellsNoPrices (Run workers) texts least text = TellsUnpriced texts least text
TellsNoPrices (Make workers seed students sections accept) texts least text =
    TellsMadeUnpriced seed students sections accept least text
TellsNoPrices Check texts least text = ⊥
TellsNoPrices (Explain student section) texts least text = ⊥
TellsNoPrices Hall texts least text = ⊥
TellsNoPrices (Audit workers) texts least text = ⊥

-- the line that a form writes that finds a published text not accepted, or no hall that opens with
-- it, where its inputs have these texts and this is the first finding
abbrev pub TellsFinding : Form → List (List ℕ) → Finding → List ℕ → Type 0
TellsFinding (Quote name credits courses) texts finding text = ⊥
TellsFinding Prefer texts finding text = ⊥
TellsFinding (Demand workers) texts finding text = ⊥
TellsFinding (Run workers) texts finding text = ⊥
TellsFinding (Make workers seed students sections accept) texts finding text = ⊥
TellsFinding Check texts finding text = TellsFound texts finding text
TellsFinding (Explain student section) texts finding text =
    TellsFoundOfKnown (name_bytes student) (name_bytes section) texts finding text
TellsFinding Hall texts finding text = TellsNoHall texts finding text
TellsFinding (Audit workers) texts finding text = TellsFound texts finding text

-- the line that a form writes one of whose words names nothing, where its inputs have these texts
-- and this is the first such word
abbrev pub TellsNoName : Form → List (List ℕ) → ℕ → List ℕ → Type 0
TellsNoName (Quote name credits courses) texts word text = ⊥
TellsNoName Prefer texts word text = ⊥
TellsNoName (Demand workers) texts word text = ⊥
TellsNoName (Run workers) texts word text = ⊥
TellsNoName (Make workers seed students sections accept) texts word text = ⊥
TellsNoName Check texts word text = ⊥
TellsNoName (Explain student section) texts word text =
    TellsUnknown (name_bytes student) (name_bytes section) texts word text
TellsNoName Hall texts word text = ⊥
TellsNoName (Audit workers) texts word text = ⊥

-- the last of these inputs, where there is one, was read to its end
abbrev pub IsLastAtEnd : Sight → List (List ℕ) → Type 0
IsLastAtEnd seen inputs =
    (earlier : List (List ℕ)) (last : List ℕ) → inputs ≡ earlier ++ last ∷ [] → IsAtEnd seen last

-- the words have a form, all its inputs were read, and P holds of the form and their texts
abbrev pub IsWorkedOut : List (List ℕ) → Sight → (Form → List (List ℕ) → Type 0) → Type 0
IsWorkedOut words seen P =
    (form : Form) × HasForm words form
    × (texts : List (List ℕ)) × AreRead form seen.held (inputs_of form words) texts
    × IsLastAtEnd seen (inputs_of form words) × P form texts

-- the words have a form, this stops its call, and the text is the line that says so
abbrev pub IsStopped : List (List ℕ) → Sight → Trouble → List ℕ → Type 0
IsStopped words seen stop text =
    (form : Form) × HasForm words form × HasTrouble form seen (inputs_of form words) stop
    × (text ≡ line_of stop)

-- The outcome of a call with these words, of which this is seen of the shelf. A sink fault is no
-- outcome, but stands for one.
abbrev pub IsOutcome : List (List ℕ) → Sight → Status → List ℕ → Type 0
IsOutcome words seen Done text = IsWorkedOut words seen (λ form texts. Prints form texts text)
IsOutcome words seen (NoPrices least) text =
    IsWorkedOut words seen (λ form texts. TellsNoPrices form texts least text)
IsOutcome words seen (Found finding) text =
    IsWorkedOut words seen (λ form texts. TellsFinding form texts finding text)
IsOutcome words seen (Unknown word) text =
    IsWorkedOut words seen (λ form texts. TellsNoName form texts word text)
IsOutcome words seen Usage text = HasNoForm words × (text ≡ usage_line)
IsOutcome words seen (ShelfFault number) text =
    IsStopped words seen (trouble.ShelfFault number) text
IsOutcome words seen (Refused number row cause) text =
    IsStopped words seen (trouble.Refused number row cause) text
IsOutcome words seen (TooLong number) text = IsStopped words seen (trouble.TooLong number) text
IsOutcome words seen OutOfMemory text = IsStopped words seen trouble.OutOfMemory text
IsOutcome words seen SinkFault text = ⊥

-- the outcome of a call whose inputs were read and are in order
abbrev pub IsEnded : List (List ℕ) → Sight → Ended → Type 0
IsEnded words seen ended = IsOutcome words seen ended.status (bytes_of ended.output)
