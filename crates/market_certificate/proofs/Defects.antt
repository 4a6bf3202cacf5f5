-- The text of a publication has no defect.
use Rattle.std.proofs.Common.{ℕ, ◌≡◌, ◌≢◌, ◌<◌, ◌++◌, ◌∷◌, [], List, length, length-append, ap, sym, subst, arith, refl, inl, inr, ◌∙◌, append_assoc}
use Rattle.std.specs.List.{AllByRecursion}
use Rattle.std.proofs.lemmas.List.{append-nil}
use Rattle.market_certificate.specs.declared.amounts.Amount.TheVariants as kinds
use Rattle.market_certificate.specs.declared.refusals.LineFault.{LineFault}
use Rattle.market_certificate.specs.declared.refusals.LineFault.TheVariants as faults
use Rattle.market_certificate.specs.Lines.{Lacks, joined}
use Rattle.market_certificate.specs.Tables.{Tables, AreTables}
use Rattle.market_certificate.specs.Texts.{ArePublished}
use Rattle.market_certificate.specs.Due.{AmountForm, AreDue, BundleForm, Due, EndForm, ErrorForm, FinalForm, Form, HeadForm, One, OrderForm, Turns, UsedForm, due_of, each_due, outcome_due, prices_due}
use Rattle.market_certificate.specs.Finding.{Finds, IsOutOfForm, Stops}
use Rattle.market_certificate.specs.Laws.{NoDefectInPublished}
use Rattle.market_certificate.proofs.Cuts.{cut_once, lacks_not}
use Rattle.market_certificate.proofs.DueLemmas.{published_from, published_to}
use Rattle.market_certificate.proofs.OneText.{lines_lack}

-- one language in two spellings
stops_same : (P Q : List (List ℕ) → Type 0) (front : List (List ℕ)) (tail : List ℕ) (fault : LineFault) → ((lines : List (List ℕ)) → P lines → Q lines)
    → ((lines : List (List ℕ)) → Q lines → P lines) → Stops P front tail fault → Stops Q front tail fault
stops_same P Q front tail faults.Missing to from stop = ((stop.0.0, stop.0.1, to _ stop.0.2), stop.1)
stops_same P Q front tail faults.Form to from stop =
    let out = stop.1 in (
      (stop.0.0, stop.0.1, to _ stop.0.2),
      record { line = out.line; rest = out.rest; next = out.next; whole = out.whole; form = λ begins. out.form (begins.0, from _ begins.1) },
    )
stops_same P Q front tail faults.Rest to from stop = (to _ stop.0, stop.1)

finds_same : (P Q : List (List ℕ) → Type 0) (number : ℕ) (text : List ℕ) (at : ℕ) (fault : LineFault) → ((lines : List (List ℕ)) → P lines → Q lines)
    → ((lines : List (List ℕ)) → Q lines → P lines) → Finds P number text at fault → Finds Q number text at fault
finds_same P Q number text at fault to from finds =
    record {
      front = finds.front;
      tail = finds.tail;
      ahead = finds.ahead;
      line = finds.line;
      stop = stops_same P Q finds.front finds.tail fault to from finds.stop;
    }

-- the first defect by the lines that are due is that by the lines that publications have
pub finds_published : (tables : Tables) (number : ℕ) (text : List ℕ) (at : ℕ) (fault : LineFault) → Finds (AreDue tables (due_of tables)) number text at fault
    → Finds (ArePublished tables) number text at fault
finds_published tables number text at fault =
    finds_same (AreDue tables (due_of tables)) (ArePublished tables) number text at fault (published_from tables) (published_to tables)

-- lines in front of a text of lines are its first lines
split_lines : (front lines : List (List ℕ)) (tail : List ℕ) → AllByRecursion (Lacks 10) front → AllByRecursion (Lacks 10) lines
    → joined front ++ tail ≡ joined lines → (rest : List (List ℕ)) × (lines ≡ front ++ rest) × (tail ≡ joined rest)
split_lines [] lines tail free free' e = (lines, refl, e)
split_lines (x ∷ front) [] tail free free' e =
    absurd (omega (arith, ap length (sym (append_assoc x (10 ∷ joined front) tail) ∙ e), length-append x (10 ∷ (joined front ++ tail))))
split_lines (x ∷ front) (y ∷ lines) tail free free' e =
    let cut = cut_once 10 x y (joined front ++ tail) (joined lines) free.0 free'.0 (sym (append_assoc x (10 ∷ joined front) tail) ∙ e) in
    let more = split_lines front lines tail free.1 free'.1 cut.1 in
    (more.0, ap (λ l. l ∷ lines) (sym cut.0) ∙ ap (λ ls. x ∷ ls) more.1, more.2)

pub front_of : (front : List (List ℕ)) (rest : List (List ℕ)) → AllByRecursion (Lacks 10) (front ++ rest) → AllByRecursion (Lacks 10) front
front_of [] rest free = tt
front_of (x ∷ front) rest free = (free.0, front_of front rest free.1)

back_of : (front : List (List ℕ)) (rest : List (List ℕ)) → AllByRecursion (Lacks 10) (front ++ rest) → AllByRecursion (Lacks 10) rest
back_of [] rest free = free
back_of (x ∷ front) rest free = back_of front rest free.1

-- what is asked of a language: no line has a line feed, and no text of lines begins another
record IsPlain (P : List (List ℕ) → Type 0) : Type 0 where
  lacks : (lines : List (List ℕ)) → P lines → AllByRecursion (Lacks 10) lines
  alone : (lines : List (List ℕ)) (line : List ℕ) (more : List (List ℕ)) → P lines → ¬ P (lines ++ line ∷ more)

nothing_left : (rest : List (List ℕ)) (tail : List ℕ) → tail ≡ joined rest → Lacks 10 tail → rest ≡ []
nothing_left [] tail e free = refl
nothing_left (x ∷ rest) tail e free = absurd (lacks_not 10 x (joined rest) (subst (Lacks 10) e free))

one_left : (P : List (List ℕ) → Type 0) (front rest : List (List ℕ)) (tail : List ℕ) → IsPlain P → P front → P (front ++ rest) → tail ≡ joined rest
    → 0 < length tail → ⊥
one_left P front [] tail plain is is' e some = absurd (omega (arith, ap length e))
one_left P front (x ∷ rest) tail plain is is' e some = plain.alone front x rest is is'

out_of : (P : List (List ℕ) → Type 0) (front rest : List (List ℕ)) (tail : List ℕ) → AllByRecursion (Lacks 10) rest → P (front ++ rest) → tail ≡ joined rest
    → IsOutOfForm P front tail → ⊥
out_of P front [] tail free is e out = absurd (omega (arith, ap length (sym out.next ∙ e), length-append out.line (10 ∷ out.rest)))
out_of P front (x ∷ rest) tail free is e out =
    let cut = cut_once 10 out.line x out.rest (joined rest) out.whole free.0 (sym out.next ∙ e) in
    out.form (rest, subst P (sym (append_assoc front (out.line ∷ []) rest)) (subst (λ (l : List ℕ). P (front ++ l ∷ rest)) (sym cut.0) is))

no_stop : (P : List (List ℕ) → Type 0) (front lines : List (List ℕ)) (tail : List ℕ) (fault : LineFault) → IsPlain P → P lines
    → joined front ++ tail ≡ joined lines → Stops P front tail fault → ⊥
no_stop P front lines tail faults.Missing plain is e stop =
    let free = front_of front _ (plain.lacks _ stop.0.2) in
    let cut = split_lines front lines tail free (plain.lacks lines is) e in
    let none = nothing_left cut.0 tail cut.2 stop.1 in
    plain.alone front stop.0.0 stop.0.1 (subst P (cut.1 ∙ ap (λ rest. front ++ rest) none ∙ append-nil front) is) stop.0.2
no_stop P front lines tail faults.Form plain is e stop =
    let free = front_of front _ (plain.lacks _ stop.0.2) in
    let cut = split_lines front lines tail free (plain.lacks lines is) e in
    out_of P front cut.0 tail (back_of front cut.0 (subst (AllByRecursion (Lacks 10)) cut.1 (plain.lacks lines is))) (subst P cut.1 is) cut.2 stop.1
no_stop P front lines tail faults.Rest plain is e stop =
    let free = plain.lacks front stop.0 in
    let cut = split_lines front lines tail free (plain.lacks lines is) e in
    one_left P front cut.0 tail plain stop.0 (subst P cut.1 is) cut.2 stop.1

no_finding : (P : List (List ℕ) → Type 0) (number : ℕ) (text : List ℕ) (at : ℕ) (fault : LineFault) → IsPlain P → Finds P number text at fault
    → (lines : List (List ℕ)) → P lines → text ≢ joined lines
no_finding P number text at fault plain finds lines is e = no_stop P finds.front lines finds.tail fault plain is (sym finds.ahead ∙ e) finds.stop

-- no lines that are due begin longer ones
abbrev Alone : Tables → List Due → Type 0
Alone tables due = (lines : List (List ℕ)) (line : List ℕ) (more : List (List ℕ)) → AreDue tables due lines → ¬ AreDue tables due (lines ++ line ∷ more)

alone_none : (tables : Tables) → Alone tables []
alone_none tables [] line more due due' = cc due'
alone_none tables (x ∷ lines) line more due due' = cc due

alone_one : (tables : Tables) (form : Form) (due : List Due) → Alone tables due → Alone tables (One form ∷ due)
alone_one tables form due alone [] line more are are' = are
alone_one tables form due alone (x ∷ lines) line more are are' = alone lines line more are.1 are'.1

alone_each : (tables : Tables) (form : List ℕ → Form) (names : List (List ℕ)) (due : List Due) → Alone tables due → Alone tables (each_due form names ++ due)
alone_each tables form [] due alone = alone
alone_each tables form (name ∷ names) due alone = alone_one tables (form name) (each_due form names ++ due) (alone_each tables form names due alone)

alone_turns : (tables : Tables) (form : Form) (due : List Due) → Alone tables (One form ∷ due) → Alone tables (Turns ∷ One form ∷ due)
alone_turns tables form due alone [] line more are are' = are
alone_turns tables form due alone (x ∷ lines) line more (inl both) (inl both') = alone_turns tables form due alone lines line more both.1 both'.1
alone_turns tables form due alone (x ∷ lines) line more (inl both) (inr both') = both'.0 (_, both.0.2)
alone_turns tables form due alone (x ∷ lines) line more (inr both) (inl both') = both.0 (_, both'.0.2)
alone_turns tables form due alone (x ∷ lines) line more (inr both) (inr both') = alone (x ∷ lines) line more both.1 both'.1

alone_behind : (tables : Tables) (students sections : List (List ℕ))
    → Alone tables (Turns ∷ (each_due FinalForm students ++ (each_due UsedForm sections ++ One EndForm ∷ [])))
alone_behind tables [] [] = alone_turns tables EndForm [] (alone_one tables EndForm [] (alone_none tables))
alone_behind tables [] (section ∷ sections) =
    alone_turns tables (UsedForm section) (each_due UsedForm sections ++ One EndForm ∷ [])
    (alone_each tables UsedForm (section ∷ sections) (One EndForm ∷ []) (alone_one tables EndForm [] (alone_none tables)))
alone_behind tables (student ∷ students) sections =
    alone_turns tables (FinalForm student) (each_due FinalForm students ++ (each_due UsedForm sections ++ One EndForm ∷ [])) (
    alone_each tables FinalForm (student ∷ students) (each_due UsedForm sections ++ One EndForm ∷ [])
    (alone_each tables UsedForm sections (One EndForm ∷ []) (alone_one tables EndForm [] (alone_none tables)))
    )

alone_all : (tables : Tables) → Alone tables (due_of tables)
alone_all tables =
    alone_one tables HeadForm (One OrderForm ∷ prices_due tables (outcome_due tables)) (
    alone_one tables OrderForm (prices_due tables (outcome_due tables)) (
    alone_each tables (AmountForm kinds.Budget) tables.students (each_due (AmountForm kinds.Start) tables.sections ++ (One ErrorForm ∷ (each_due (AmountForm kinds.Price) tables.sections ++ outcome_due tables))) (
    alone_each tables (AmountForm kinds.Start) tables.sections (One ErrorForm ∷ (each_due (AmountForm kinds.Price) tables.sections ++ outcome_due tables)) (
    alone_one tables ErrorForm (each_due (AmountForm kinds.Price) tables.sections ++ outcome_due tables) (
    alone_each tables (AmountForm kinds.Price) tables.sections (outcome_due tables) (
    alone_each tables BundleForm tables.students (Turns ∷ (each_due FinalForm tables.students ++ (each_due UsedForm tables.sections ++ One EndForm ∷ [])))
    (alone_behind tables tables.students tables.sections)
    )
    )
    )
    )
    )
    )

plain : (tables : Tables) → AreTables tables → IsPlain (ArePublished tables)
plain tables are = record {
  lacks = λ lines published. subst (AllByRecursion (Lacks 10)) (sym published.2) (lines_lack tables are published.0 published.1);
  alone =
      λ lines line more published published'. alone_all tables lines line more (published_to tables lines published)
      (published_to tables (lines ++ line ∷ more) published');
}

pub no_defect : NoDefectInPublished
no_defect tables are text published at fault finds =
    no_finding (ArePublished tables) 1 text at fault (plain tables are) finds _ (published.0, published.1, refl) published.2
