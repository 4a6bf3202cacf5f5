-- Blocks of lines, one for each name, and their first defect.
use Rattle.std.proofs.Common.{ℕ, map, ◌<◌, ◌+◌, ◌≡◌, List, [], ◌∷◌, ◌++◌, length, take, drop, get_or, refl, ap, sym, ◌∙◌, arith, append_assoc, subst}
use Rattle.std.specs.Prelude.{All}
use Rattle.std.proofs.lemmas.List.{drop_more, length-append, map-append, take-append-drop, take_more}
use Rattle.std.proofs.lemmas.List.Elements.{All-push}
use Rattle.std.proofs.Math.Seq.{take-length}
use Rattle.market_units.specs.declared.names.Name.{Name}
use Rattle.market_units.specs.Name.{name_bytes}
use Rattle.market_certificate.specs.declared.refusals.TextRefusal.{TextRefusal}
use Rattle.market_certificate.specs.declared.refusals.LineFault.TheVariants as faults
use Rattle.market_certificate.specs.Lines.{Lacks, joined}
use Rattle.market_certificate.specs.Tables.{Tables}
use Rattle.market_certificate.specs.Publications.{ProvedTurn, AreFor, IsTurn}
use Rattle.market_certificate.specs.Texts.{each_line, turn_line}
use Rattle.market_certificate.specs.Due.{Form, Due, One, Turns, HasForm, IsTurnLine, StartsTurn, AreDue, Takes, each_due}
use Rattle.market_certificate.specs.Finding.{StopsAt, Finds, OnDefect}
use Rattle.market_certificate.proofs.Joins.{each_last}
use Rattle.market_certificate.proofs.Steps.{AreRead, HasPassed, bad_turn, behind_each, behind_turns, finds_behind, joined_both, length_both, on_defect, stops_here}

-- lines behind lines
pub takes_both : (xs ys : List (List ℕ)) (number : ℕ) (text : List ℕ) (next : ℕ) (rest : List ℕ) (after : ℕ) (behind : List ℕ) → Takes xs number text next rest
    → Takes ys next rest after behind → Takes (xs ++ ys) number text after behind
takes_both xs ys number text next rest after behind a b =
    record { ahead = a.ahead ∙ ap (λ t. joined xs ++ t) b.ahead ∙ joined_both xs ys behind; count = omega (arith, a.count, b.count, length_both xs ys) }

-- no name's value was read yet
pub none_read : {V : Type 0} (line : List ℕ → V → List ℕ) (P : V → Type 0) (names : List (List ℕ)) (number : ℕ) (text : List ℕ)
    → AreRead line P (take 0 names) [] number text number text
none_read line P names number text =
    record { range = record { count = refl; each = λ k d inside. absurd (omega arith) }; takes = record { ahead = refl; count = omega arith } }

-- one more name's value was read
pub read_more : {V : Type 0} (line : List ℕ → V → List ℕ) (P : V → Type 0) (names : List (List ℕ)) (values new : List V) (k next_k : ℕ) (name : List ℕ)
    (value : V) (number : ℕ) (text : List ℕ) (next : ℕ) (rest : List ℕ) (after : ℕ) (behind : List ℕ)
    → AreRead line P (take k names) values number text next rest → k < length names → name ≡ get_or names k [] → P value
    → Takes (line name value ∷ []) next rest after behind → new ≡ values ++ value ∷ [] → next_k ≡ k + 1
    → AreRead line P (take next_k names) new number text after behind
read_more line P names values new k next_k name value number text next rest after behind read inside named is takes pushed e =
    let now : take next_k names ≡ take k names ++ name ∷ [] =
    ap (λ n. take n names) e ∙ take_more names k [] inside ∙ ap (λ n. take k names ++ n ∷ []) (sym named) in
    let long : length (take k names) ≡ length values = sym read.range.count in
    let lines : each_line line (take next_k names) new ≡ each_line line (take k names) values ++ line name value ∷ [] =
    ap (λ ns. each_line line ns new) now ∙ ap (λ vs. each_line line (take k names ++ name ∷ []) vs) pushed
    ∙ each_last line (take k names) values name value long in
    record {
      range = record {
        count = omega (arith, ap length now, ap length pushed, length_both (take k names) (name ∷ []), length_both values (value ∷ []), long);
        each = subst (All P) (sym pushed) (All-push P values value read.range.each is);
      };
      takes =
          subst (λ ls. Takes ls number text after behind) (sym lines)
          (takes_both (each_line line (take k names) values) (line name value ∷ []) number text next rest after behind read.takes takes);
    }

-- each name's value was read
pub all_read : {V : Type 0} (line : List ℕ → V → List ℕ) (P : V → Type 0) (names : List (List ℕ)) (values : List V) (k number : ℕ) (text : List ℕ) (next : ℕ)
    (rest : List ℕ)
    → k ≡ length names
    → AreRead line P (take k names) values number text next rest → AreRead line P names values number text next rest
all_read line P names values k number text next rest e =
    subst (λ ns. AreRead line P ns values number text next rest) (ap (λ n. take n names) e ∙ take-length names)

due_split : (form : List ℕ → Form) (names : List (List ℕ)) (k : ℕ) (name : List ℕ) (more : List Due) → k < length names → name ≡ get_or names k []
    → each_due form names ++ more ≡ each_due form (take k names) ++ (One (form name) ∷ (each_due form (drop (k + 1) names) ++ more))
due_split form names k name more inside named =
    let split : names ≡ take k names ++ name ∷ drop (k + 1) names =
    sym (take-append-drop k names) ∙ ap (λ tail. take k names ++ tail) (drop_more names k [] inside ∙ ap (λ n. n ∷ drop (k + 1) names) (sym named)) in
    ap (λ ns. each_due form ns ++ more) split
    ∙ ap (λ due. due ++ more) (map-append (λ n. One (form n)) (take k names) (name ∷ drop (k + 1) names))
    ∙ append_assoc (each_due form (take k names)) (One (form name) ∷ each_due form (drop (k + 1) names)) more

-- the next name's line is missing or out of form
pub read_defect : {V : Type 0} (tables : Tables) (form : List ℕ → Form) (line : List ℕ → V → List ℕ) (P : V → Type 0)
    → ((name : List ℕ) (value : V) → P value → HasForm tables (form name) (line name value))
    → (names : List (List ℕ)) (values : List V) (k : ℕ) (name : List ℕ) (number : ℕ) (text : List ℕ) (next : ℕ) (rest : List ℕ) (refusal : TextRefusal)
    → AreRead line P (take k names) values number text next rest → k < length names → name ≡ get_or names k []
    → OnDefect refusal (StopsAt (HasForm tables (form name)) next rest) → (more : List Due)
    → OnDefect refusal (Finds (AreDue tables (each_due form names ++ more)) number text)
read_defect tables form line P has names values k name number text next rest refusal read inside named stops more =
    let behind = One (form name) ∷ (each_due form (drop (k + 1) names) ++ more) in
    on_defect refusal _ _ (
    λ at fault stop.
    subst (λ due. Finds (AreDue tables due) number text at fault) (sym (due_split form names k name more inside named)) (
    finds_behind (AreDue tables (each_due form (take k names) ++ behind)) (AreDue tables behind) (each_line line (take k names) values) number text next rest at
    fault
    (behind_each tables form line P has (take k names) values behind read.range) read.takes
    (stops_here tables (form name) (each_due form (drop (k + 1) names) ++ more) next rest at fault stop)
    )
    ) stops

-- behind the lines of all names, the first defect is that of the text
pub passes_each : {V : Type 0} (tables : Tables) (form : List ℕ → Form) (line : List ℕ → V → List ℕ) (P : V → Type 0)
    → ((name : List ℕ) (value : V) → P value → HasForm tables (form name) (line name value))
    → {names : List (List ℕ)} {values : List V} {number next : ℕ} {text rest : List ℕ} (more : List Due)
    → AreRead line P names values number text next rest → HasPassed tables (each_due form names ++ more) more number text next rest
passes_each tables form line P has {names} {values} {number} {next} {text} {rest} more read = record {
  passed = λ at fault.
      finds_behind (AreDue tables (each_due form names ++ more)) (AreDue tables more) (each_line line names values) number text next rest at fault
      (behind_each tables form line P has names values more read.range) read.takes;
}

-- Turns were read, and their lines stand in front of the rest.
pub record AreTurnsRead (tables : Tables) (turns : List ProvedTurn) (number : ℕ) (text : List ℕ) (next : ℕ) (rest : List ℕ) : Type 0 where
  pub range : All (IsTurn tables.students tables.sections) turns
  pub takes : Takes (map (turn_line tables.students tables.sections) turns) number text next rest

pub no_turns_read : (tables : Tables) (number : ℕ) (text : List ℕ) → AreTurnsRead tables [] number text number text
no_turns_read tables number text = record { range = λ k d inside. absurd (omega arith); takes = record { ahead = refl; count = omega arith } }

pub turns_more : (tables : Tables) (turns new : List ProvedTurn) (turn : ProvedTurn) (number : ℕ) (text : List ℕ) (next : ℕ) (rest : List ℕ) (after : ℕ)
    (behind : List ℕ)
    → AreTurnsRead tables turns number text next rest
    → IsTurn tables.students tables.sections turn → Takes (turn_line tables.students tables.sections turn ∷ []) next rest after behind
    → new ≡ turns ++ turn ∷ [] → AreTurnsRead tables new number text after behind
turns_more tables turns new turn number text next rest after behind read is takes pushed =
    subst (λ ts. AreTurnsRead tables ts number text after behind) (sym pushed) (record {
      range = All-push (IsTurn tables.students tables.sections) turns turn read.range is;
      takes = subst (λ ls. Takes ls number text after behind) (sym (map-append (turn_line tables.students tables.sections) turns (turn ∷ []))) (
          takes_both (map (turn_line tables.students tables.sections) turns) (turn_line tables.students tables.sections turn ∷ []) number text next rest after
          behind read.takes takes
          );
    })

-- the next line begins as a turn does, and is none
pub turns_defect : (tables : Tables) (turns : List ProvedTurn) (number : ℕ) (text : List ℕ) (next : ℕ) (rest line : List ℕ) (after : ℕ) (behind : List ℕ)
    → AreTurnsRead tables turns number text next rest
    → Takes (line ∷ []) next rest after behind → Lacks 10 line → StartsTurn line → ¬ IsTurnLine tables line → (form : Form) (more : List Due)
    → Finds (AreDue tables (Turns ∷ One form ∷ more)) number text next faults.Form
turns_defect tables turns number text next rest line after behind read takes whole begun other form more =
    finds_behind (AreDue tables (Turns ∷ One form ∷ more)) (AreDue tables (Turns ∷ One form ∷ more)) (map (turn_line tables.students tables.sections) turns)
    number text next rest next faults.Form
    (behind_turns tables turns (One form ∷ more) read.range) read.takes
    (bad_turn tables form more next rest line behind (takes.ahead ∙ append_assoc line (10 ∷ []) behind) whole begun other)

-- the values of names, by another name of the list
pub of_names : {V : Type 0} (line : List ℕ → V → List ℕ) (P : V → Type 0)
    → {items names : List Name} {values : List V} {number next : ℕ} {text rest : List ℕ}
    → items ≡ names → AreFor (map name_bytes items) P values
    → Takes (each_line line (map name_bytes items) values) number text next rest → AreRead line P (map name_bytes names) values number text next rest
of_names line P {items} {names} {values} {number} {next} {text} {rest} e range takes =
    subst (λ (ns : List Name). AreRead line P (map name_bytes ns) values number text next rest) e (record { range = range; takes = takes })

-- a defect at the names, by another name of the list
pub defect_of_names : {items names : List Name} (number : ℕ) (text : List ℕ) (tables : Tables) (form : List ℕ → Form) (more : List Due) (refusal : TextRefusal)
    → items ≡ names → OnDefect refusal (Finds (AreDue tables (each_due form (map name_bytes items) ++ more)) number text)
    → OnDefect refusal (Finds (AreDue tables (each_due form (map name_bytes names) ++ more)) number text)
defect_of_names number text tables form more refusal e =
    subst (λ (ns : List Name). OnDefect refusal (Finds (AreDue tables (each_due form (map name_bytes ns) ++ more)) number text)) e

-- what stands behind a line is shorter
pub shorter : (line : List ℕ) (number : ℕ) (text : List ℕ) (next : ℕ) (rest : List ℕ) → Takes (line ∷ []) number text next rest → length rest < length text
shorter line number text next rest takes = omega (arith, ap length takes.ahead, length-append (line ++ 10 ∷ []) rest, length-append line (10 ∷ []))
