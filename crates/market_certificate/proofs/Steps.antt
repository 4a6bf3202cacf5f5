-- The first defect of a text, line by line.
use Rattle.std.proofs.Common.{ℕ, map, ◌<◌, ◌+◌, ◌≡◌, List, [], ◌∷◌, ◌++◌, length, refl, ap, sym, ◌∙◌, inl, inr, arith, append_assoc, subst}
use Rattle.std.specs.Prelude.{All}
use Rattle.std.proofs.lemmas.List.Elements.{All-head, All-tail}
use Rattle.market_certificate.specs.declared.refusals.TextRefusal.{TextRefusal}
use Rattle.market_certificate.specs.declared.refusals.TextRefusal.TheVariants as refusals
use Rattle.market_certificate.specs.declared.refusals.LineFault.{LineFault}
use Rattle.market_certificate.specs.declared.refusals.LineFault.TheVariants as faults
use Rattle.market_certificate.specs.Lines.{Lacks, joined}
use Rattle.market_certificate.specs.Tables.{Tables}
use Rattle.market_certificate.specs.Publications.{ProvedTurn, AreFor, IsTurn}
use Rattle.market_certificate.specs.Texts.{each_line, turn_line}
use Rattle.market_certificate.specs.Due.{Form, Due, One, Turns, HasForm, IsTurnLine, StartsTurn, AreDue, NoTurnNext, Takes, each_due}
use Rattle.market_certificate.specs.Finding.{GoesOn, IsOtherLine, Stops, StopsAt, Finds, OnDefect}
use Rattle.market_certificate.proofs.Cuts.{cut_once, lacks_not}
use Rattle.market_certificate.proofs.Forms.{no_form_is_turn, some_line, some_lines}

-- the line that is left is of no such form
pub other_line : (P : List ℕ → Type 0) (text line rest : List ℕ) → text ≡ line ++ 10 ∷ rest → Lacks 10 line → ¬ P line → IsOtherLine P text
other_line P text line rest next whole form = record { line = line; rest = rest; next = next; whole = whole; form = form }

-- lines of one form, and what can stand there
can_stand : (tables : Tables) (form : Form) (more : List Due) → GoesOn (AreDue tables (One form ∷ more)) []
can_stand tables form more = let line = some_line tables form in let lines = some_lines tables more in (line.0, lines.lines, (line.1, lines.are_due))

-- a defect at a line that is due is the first defect
pub stops_here : (tables : Tables) (form : Form) (more : List Due) (number : ℕ) (text : List ℕ) (at : ℕ) (fault : LineFault)
    → StopsAt (HasForm tables form) number text at fault → Finds (AreDue tables (One form ∷ more)) number text at fault
stops_here tables form more number text at faults.Missing stops =
    record { front = []; tail = text; ahead = refl; line = omega (arith, stops.0); stop = (can_stand tables form more, stops.1) }
stops_here tables form more number text at faults.Form stops =
    let other = stops.1 in record {
      front = [];
      tail = text;
      ahead = refl;
      line = omega (arith, stops.0);
      stop = (
        can_stand tables form more,
        record { line = other.line; rest = other.rest; next = other.next; whole = other.whole; form = λ begins. other.form begins.1.0 },
      );
    }
stops_here tables form more number text at faults.Rest stops = absurd stops

-- One language is another behind these lines: a text of the one is these lines with a text of the other.
pub record IsBehind (Is Behind : List (List ℕ) → Type 0) (lines : List (List ℕ)) : Type 0 where
  pub to : (tail : List (List ℕ)) → Behind tail → Is (lines ++ tail)
  pub from : (tail : List (List ℕ)) → Is (lines ++ tail) → Behind tail

stop_behind : (Is Behind : List (List ℕ) → Type 0) (lines front : List (List ℕ)) (tail : List ℕ) (fault : LineFault) → IsBehind Is Behind lines
    → Stops Behind front tail fault → Stops Is (lines ++ front) tail fault
stop_behind Is Behind lines front tail faults.Missing is stop =
    ((stop.0.0, stop.0.1, subst Is (sym (append_assoc lines front (stop.0.0 ∷ stop.0.1))) (is.to _ stop.0.2)), stop.1)
stop_behind Is Behind lines front tail faults.Form is stop =
    let out = stop.1 in (
      (stop.0.0, stop.0.1, subst Is (sym (append_assoc lines front (stop.0.0 ∷ stop.0.1))) (is.to _ stop.0.2)),
      record {
        line = out.line;
        rest = out.rest;
        next = out.next;
        whole = out.whole;
        form = λ begins.
            out.form (
              begins.0,
              is.from ((front ++ out.line ∷ []) ++ begins.0) (
                  subst Is
                  (ap (λ (ls : List (List ℕ)). ls ++ begins.0) (append_assoc lines front (out.line ∷ []))
                  ∙ append_assoc lines (front ++ out.line ∷ []) begins.0)
                  begins.1
                  ),
            );
      },
    )
stop_behind Is Behind lines front tail faults.Rest is stop = (is.to front stop.0, stop.1)

pub joined_both : (xs ys : List (List ℕ)) (rest : List ℕ) → joined xs ++ (joined ys ++ rest) ≡ joined (xs ++ ys) ++ rest
joined_both [] ys rest = refl
joined_both (x ∷ xs) ys rest =
    append_assoc x (10 ∷ joined xs) (joined ys ++ rest) ∙ ap (λ t. x ++ 10 ∷ t) (joined_both xs ys rest) ∙ sym (append_assoc x (10 ∷ joined (xs ++ ys)) rest)

pub length_both : {A : Type 0} (xs ys : List A) → length (xs ++ ys) ≡ length xs + length ys
length_both [] ys = omega arith
length_both (x ∷ xs) ys = let h = length_both xs ys in omega (arith, h)

-- the first defect behind lines is that of the text
pub finds_behind : (Is Behind : List (List ℕ) → Type 0) (lines : List (List ℕ)) (number : ℕ) (text : List ℕ) (next : ℕ) (rest : List ℕ) (at : ℕ)
    (fault : LineFault)
    → IsBehind Is Behind lines → Takes lines number text next rest
    → Finds Behind next rest at fault → Finds Is number text at fault
finds_behind Is Behind lines number text next rest at fault is takes finds = record {
  front = lines ++ finds.front;
  tail = finds.tail;
  ahead = takes.ahead ∙ ap (λ t. joined lines ++ t) finds.ahead ∙ joined_both lines finds.front finds.tail;
  line = omega (arith, finds.line, takes.count, length_both lines finds.front);
  stop = stop_behind Is Behind lines finds.front finds.tail fault is finds.stop;
}

-- one line of a form
pub behind_one : (tables : Tables) (form : Form) (more : List Due) (line : List ℕ) → HasForm tables form line
    → IsBehind (AreDue tables (One form ∷ more)) (AreDue tables more) (line ∷ [])
behind_one tables form more line has = record { to = λ tail are. (has, are); from = λ tail are. are.1 }

-- a line of a form for each name
pub behind_each : {V : Type 0} (tables : Tables) (form : List ℕ → Form) (line : List ℕ → V → List ℕ) (P : V → Type 0)
    → ((name : List ℕ) (value : V) → P value → HasForm tables (form name) (line name value))
    → (names : List (List ℕ)) (values : List V) (more : List Due) → AreFor names P values
    → IsBehind (AreDue tables (each_due form names ++ more)) (AreDue tables more) (each_line line names values)
behind_each tables form line P has [] [] more are = record { to = λ tail is. is; from = λ tail is. is }
behind_each tables form line P has [] (v ∷ values) more are = absurd (omega (arith, are.count))
behind_each tables form line P has (name ∷ names) [] more are = absurd (omega (arith, are.count))
behind_each tables form line P has (name ∷ names) (v ∷ values) more are =
    let behind = behind_each tables form line P has names values more (record { count = omega (arith, are.count); each = All-tail P v values are.each }) in
    record { to = λ tail is. (has name v (All-head P v values are.each), behind.to tail is); from = λ tail is. behind.from tail is.1 }

starts : (tables : Tables) (line : List ℕ) → IsTurnLine tables line → StartsTurn line
starts tables line is = (_, is.2)

-- the lines of turns
pub behind_turns : (tables : Tables) (turns : List ProvedTurn) (more : List Due) → All (IsTurn tables.students tables.sections) turns
    → IsBehind (AreDue tables (Turns ∷ more)) (AreDue tables (Turns ∷ more)) (map (turn_line tables.students tables.sections) turns)
behind_turns tables [] more are = record { to = λ tail is. is; from = λ tail is. is }
behind_turns tables (turn ∷ turns) more are =
    let behind = behind_turns tables turns more (All-tail (IsTurn tables.students tables.sections) turn turns are) in
    let is : IsTurnLine tables (turn_line tables.students tables.sections turn) =
    (turn, All-head (IsTurn tables.students tables.sections) turn turns are, refl) in
    record {
      to = λ tail are. inl (is, behind.to tail are);
      from = λ tail are. elim are [ inl both ↦ behind.from tail both.1 | inr both ↦ absurd (both.0 (starts tables _ is)) ];
    }

-- a line that begins as a turn and is none
pub bad_turn : (tables : Tables) (form : Form) (more : List Due) (number : ℕ) (text line rest : List ℕ) → text ≡ line ++ 10 ∷ rest → Lacks 10 line
    → StartsTurn line → ¬ IsTurnLine tables line
    → Finds (AreDue tables (Turns ∷ One form ∷ more)) number text number faults.Form
bad_turn tables form more number text line rest next whole begun other =
    let some = some_line tables form in
    let lines = some_lines tables more in record {
      front = [];
      tail = text;
      ahead = refl;
      line = omega arith;
      stop = (
        (some.0, lines.lines, inr (no_form_is_turn tables form some.0 some.1, (some.1, lines.are_due))),
        record { line = line; rest = rest; next = next; whole = whole; form = λ begins. elim begins.1 [ inl both ↦ other both.0 | inr both ↦ both.0 begun ] },
      );
    }

pub into_turns : (tables : Tables) (form : Form) (more : List Due) (lines : List (List ℕ)) → AreDue tables (One form ∷ more) lines
    → AreDue tables (Turns ∷ One form ∷ more) lines
into_turns tables form more [] are = absurd are
into_turns tables form more (line ∷ lines) are = inr (no_form_is_turn tables form line are.0, are)

no_turn_stop : (tables : Tables) (form : Form) (more : List Due) (front : List (List ℕ)) (tail text : List ℕ) (fault : LineFault) → NoTurnNext text
    → text ≡ joined front ++ tail
    → Stops (AreDue tables (One form ∷ more)) front tail fault → Stops (AreDue tables (Turns ∷ One form ∷ more)) front tail fault
no_turn_stop tables form more front tail text faults.Missing none ahead stop =
    ((stop.0.0, stop.0.1, into_turns tables form more (front ++ stop.0.0 ∷ stop.0.1) stop.0.2), stop.1)
no_turn_stop tables form more [] tail text faults.Form none ahead stop =
    let out = stop.1 in (
      (stop.0.0, stop.0.1, into_turns tables form more (stop.0.0 ∷ stop.0.1) stop.0.2),
      record {
        line = out.line;
        rest = out.rest;
        next = out.next;
        whole = out.whole;
        form =
            λ goes. elim goes.1
            [ inl both ↦ none out.line out.rest (ahead ∙ out.next) out.whole (starts tables out.line both.0) | inr both ↦ out.form (goes.0, both.1) ];
      },
    )
no_turn_stop tables form more (y ∷ front) tail text faults.Form none ahead stop =
    let out = stop.1 in (
      (stop.0.0, stop.0.1, into_turns tables form more ((y ∷ front) ++ stop.0.0 ∷ stop.0.1) stop.0.2),
      record {
        line = out.line;
        rest = out.rest;
        next = out.next;
        whole = out.whole;
        form = λ goes. elim goes.1 [ inl both ↦ no_form_is_turn tables form y stop.0.2.0 (starts tables y both.0) | inr both ↦ out.form (goes.0, both.1) ];
      },
    )
no_turn_stop tables form more front tail text faults.Rest none ahead stop = (into_turns tables form more front stop.0, stop.1)

-- where no turn is next, the first defect is that of the lines behind the turns
pub finds_behind_turns : (tables : Tables) (form : Form) (more : List Due) (number : ℕ) (text : List ℕ) (at : ℕ) (fault : LineFault) → NoTurnNext text
    → Finds (AreDue tables (One form ∷ more)) number text at fault → Finds (AreDue tables (Turns ∷ One form ∷ more)) number text at fault
finds_behind_turns tables form more number text at fault none finds = record {
  front = finds.front;
  tail = finds.tail;
  ahead = finds.ahead;
  line = finds.line;
  stop = no_turn_stop tables form more finds.front finds.tail text fault none finds.ahead finds.stop;
}

-- bytes behind the last line
pub rest_behind : (tables : Tables) (number : ℕ) (rest : List ℕ) → 0 < length rest → Finds (AreDue tables []) number rest number faults.Rest
rest_behind tables number rest some = record { front = []; tail = rest; ahead = refl; line = omega arith; stop = (refl, some) }

-- a text without a line feed has no line
pub lacks_turn : (text : List ℕ) → Lacks 10 text → NoTurnNext text
lacks_turn text lacks line rest next whole = absurd (lacks_not 10 line rest (subst (Lacks 10) next lacks))

-- the next line is one
pub other_next : (text line rest : List ℕ) → text ≡ line ++ 10 ∷ rest → Lacks 10 line → ¬ StartsTurn line → NoTurnNext text
other_next text line rest e lacks other line' rest' e' lacks' =
    let same : line ≡ line' = (cut_once 10 line line' rest rest' lacks lacks' (sym e ∙ e')).0 in
    subst (λ (l : List ℕ). ¬ StartsTurn l) same other

-- what is said of a refusal's defect
pub on_defect : (refusal : TextRefusal) (P Q : ℕ → LineFault → Type 0) → ((at : ℕ) (fault : LineFault) → P at fault → Q at fault) → OnDefect refusal P
    → OnDefect refusal Q
on_defect (refusals.Defect at fault) P Q each is = each at fault is
on_defect refusals.NoMemory P Q each is = tt

-- What is left is due behind what was read: the first defect of the rest is that of the text.
pub record HasPassed (tables : Tables) (due left : List Due) (number : ℕ) (text : List ℕ) (next : ℕ) (rest : List ℕ) : Type 0 where
  pub passed : (at : ℕ) (fault : LineFault) → Finds (AreDue tables left) next rest at fault → Finds (AreDue tables due) number text at fault

pub pass_both : {tables : Tables} {due left more : List Due} {number next after : ℕ} {text rest behind : List ℕ}
    → HasPassed tables due left number text next rest → HasPassed tables left more next rest after behind → HasPassed tables due more number text after behind
pass_both a b = record { passed = λ at fault finds. a.passed at fault (b.passed at fault finds) }

-- a defect of what is left
pub defect_passed : {tables : Tables} {due left : List Due} {number next : ℕ} {text rest : List ℕ} (refusal : TextRefusal)
    → HasPassed tables due left number text next rest → OnDefect refusal (Finds (AreDue tables left) next rest)
    → OnDefect refusal (Finds (AreDue tables due) number text)
defect_passed refusal has = on_defect refusal _ _ has.passed

-- no line of the form that is due is next
pub stop_passed : {tables : Tables} {due : List Due} {number next : ℕ} {text rest : List ℕ} (refusal : TextRefusal) (form : Form) (more : List Due)
    → HasPassed tables due (One form ∷ more) number text next rest → OnDefect refusal (StopsAt (HasForm tables form) next rest)
    → OnDefect refusal (Finds (AreDue tables due) number text)
stop_passed {tables} {due} {number} {next} {text} {rest} refusal form more has =
    on_defect refusal _ _ (λ at fault stop. has.passed at fault (stops_here tables form more next rest at fault stop))

-- one line of the form that is due
pub passes_one : {number next : ℕ} {text rest : List ℕ} (tables : Tables) (form : Form) (more : List Due) (line : List ℕ) → HasForm tables form line
    → Takes (line ∷ []) number text next rest → HasPassed tables (One form ∷ more) more number text next rest
passes_one {number} {next} {text} {rest} tables form more line has takes = record {
  passed = λ at fault.
      finds_behind (AreDue tables (One form ∷ more)) (AreDue tables more) (line ∷ []) number text next rest at fault
      (behind_one tables form more line has) takes;
}

-- Values were read for these names, and their lines stand in front of the rest.
pub record AreRead {V : Type 0} (line : List ℕ → V → List ℕ) (P : V → Type 0) (names : List (List ℕ)) (values : List V) (number : ℕ) (text : List ℕ) (next : ℕ)
    (rest : List ℕ) : Type 0 where
  pub range : AreFor names P values
  pub takes : Takes (each_line line names values) number text next rest

-- a line was cut off the front
pub takes_line : (line : List ℕ) (number : ℕ) (text : List ℕ) (next : ℕ) (rest : List ℕ) → text ≡ line ++ 10 ∷ rest → next ≡ number + 1
    → Takes (line ∷ []) number text next rest
takes_line line number text next rest e count = record { ahead = e ∙ sym (append_assoc line (10 ∷ []) rest); count = count }

-- the line that was cut off is of no such form
pub defect_form : (P : List ℕ → Type 0) (line : List ℕ) (number : ℕ) (text : List ℕ) (next : ℕ) (rest : List ℕ) (refusal : TextRefusal)
    → refusal ≡ refusals.Defect number faults.Form → Takes (line ∷ []) number text next rest → Lacks 10 line → ¬ P line
    → OnDefect refusal (StopsAt P number text)
defect_form P line number text next rest refusal e takes whole form =
    subst (λ (r : TextRefusal). OnDefect r (StopsAt P number text)) (sym e)
    (refl, other_line P text line rest (takes.ahead ∙ append_assoc line (10 ∷ []) rest) whole form)

-- the line that was cut off is this one
pub takes_same : (line other : List ℕ) (number : ℕ) (text : List ℕ) (next : ℕ) (rest : List ℕ) → line ≡ other → Takes (line ∷ []) number text next rest
    → Takes (other ∷ []) number text next rest
takes_same line other number text next rest e takes = subst (λ (l : List ℕ). Takes (l ∷ []) number text next rest) e takes

-- want of memory is no defect
pub no_memory : (P : ℕ → LineFault → Type 0) (refusal : TextRefusal) → refusal ≡ refusals.NoMemory → OnDefect refusal P
no_memory P refusal e = subst (λ (r : TextRefusal). OnDefect r P) (sym e) tt
