-- A text is that of a publication, or has a first defect.
use Rattle.std.proofs.Common.{ℕ, zero, suc, ◌≡◌, ◌<◌, ◌+◌, ◌⊎◌, ◌==◌, ◌++◌, ◌∙◌, false, List, [], ◌∷◌, length, length-append, refl, ap, sym, subst, inl, inr, arith}
use Rattle.std.specs.Prelude.{⊤}
use Rattle.std.proofs.lemmas.Bool.{cases_Bool}
use Rattle.std.proofs.lemmas.Bool.Decides.{Decides-eqb}
use Rattle.std.proofs.lemmas.List.Elements.{All-cons, All-nil}
use Rattle.market_certificate.specs.declared.refusals.LineFault.{LineFault}
use Rattle.market_certificate.specs.declared.refusals.LineFault.TheVariants as faults
use Rattle.market_certificate.specs.Due.{AreDue, BundleForm, Due, EndForm, FinalForm, Form, HasForm, IsTurnLine, One, StartsTurn, Turns, UsedForm, due_of, each_due, outcome_due}
use Rattle.market_certificate.specs.Finding.{Finds}
use Rattle.market_certificate.specs.Lines.{Lacks, joined}
use Rattle.market_certificate.specs.Tables.{Tables}
use Rattle.market_certificate.specs.Texts.{ArePublished, IsPublished}
use Rattle.market_certificate.proofs.Defects.{finds_published}
use Rattle.market_certificate.proofs.DueLemmas.{published_from}
use Rattle.market_certificate.proofs.Steps.{IsBehind, bad_turn, behind_one, finds_behind, finds_behind_turns, into_turns, lacks_turn, other_line, other_next, rest_behind, stops_here, takes_line}
use Rattle.accepted_publications.proofs.Cases.{by_cases}

-- the next line of a text, where it has one
next_line : (text : List ℕ) → Lacks 10 text ⊎ ((line : List ℕ) × (rest : List ℕ) × (text ≡ line ++ 10 ∷ rest) × Lacks 10 line)
next_line [] = inl (All-nil (λ byte. (byte == 10) ≡ false))
next_line (byte ∷ text) = elim (cases_Bool (byte == 10)) [
  | inl same ↦ inr ([], text, ap (λ b. b ∷ text) ((Decides-eqb byte 10).0 same), All-nil (λ b. (b == 10) ≡ false))
  | inr other ↦ elim (next_line text) [
    | inl none ↦ inl (All-cons (λ b. (b == 10) ≡ false) byte text other none)
    | inr found ↦
        inr (
          byte ∷ found.0,
          found.1,
          ap (λ more. byte ∷ more) found.2,
          All-cons (λ b. (b == 10) ≡ false) byte found.0 other found.3,
        )
  ]
]

-- turns are due in front of a line of a form
AreWell : List Due → Type 0
AreWell [] = ⊤
AreWell (One form ∷ due) = AreWell due
AreWell (Turns ∷ due) = (form : Form) × (more : List Due) × (due ≡ One form ∷ more) × AreWell due

well_each : (form : List ℕ → Form) (names : List (List ℕ)) (more : List Due) → AreWell more → AreWell (each_due form names ++ more)
unfolding AreWell
well_each form [] more well = well
well_each form (name ∷ names) more well = well_each form names more well

behind_turns : (students sections : List (List ℕ))
    → (form : Form) × (more : List Due) × (each_due FinalForm students ++ (each_due UsedForm sections ++ One EndForm ∷ []) ≡ One form ∷ more)
behind_turns [] [] = (EndForm, [], refl)
behind_turns [] (section ∷ sections) = (UsedForm section, each_due UsedForm sections ++ One EndForm ∷ [], refl)
behind_turns (student ∷ students) sections =
    (FinalForm student, each_due FinalForm students ++ (each_due UsedForm sections ++ One EndForm ∷ []), refl)

well_outcome : (tables : Tables) → AreWell (outcome_due tables)
unfolding AreWell
well_outcome tables =
    let first = behind_turns tables.students tables.sections in
    well_each BundleForm tables.students (Turns ∷ (each_due FinalForm tables.students ++ (each_due UsedForm tables.sections ++ One EndForm ∷ []))) (
      first.0,
      first.1,
      first.2,
      well_each FinalForm tables.students (each_due UsedForm tables.sections ++ One EndForm ∷ [])
          (well_each UsedForm tables.sections (One EndForm ∷ []) tt),
    )

well_due : (tables : Tables) → AreWell (due_of tables)
unfolding AreWell
well_due tables =
    well_each _ tables.students _ (well_each _ tables.sections _ (well_each _ tables.sections (outcome_due tables) (well_outcome tables)))

-- a text cannot be neither the lines that are due nor one with a first defect
abbrev IsDueOrNot : Tables → List Due → Type 0
IsDueOrNot tables due =
    (number : ℕ) (text : List ℕ) → ((lines : List (List ℕ)) → AreDue tables due lines → text ≡ joined lines → ⊥)
    → ((at : ℕ) (fault : LineFault) → Finds (AreDue tables due) number text at fault → ⊥) → ⊥

turn_in_front : (tables : Tables) (more : List Due) (line : List ℕ) → StartsTurn line → IsTurnLine tables line
    → IsBehind (AreDue tables (Turns ∷ more)) (AreDue tables (Turns ∷ more)) (line ∷ [])
turn_in_front tables more line starts is =
    record { to = λ tail are. inl (is, are); from = λ tail are. elim are [ inl both ↦ both.1 | inr both ↦ absurd (both.0 starts) ] }

shorter : (line rest text : List ℕ) (fuel : ℕ) → text ≡ line ++ 10 ∷ rest → length text < suc fuel → length rest < fuel
shorter line rest text fuel is small = omega (arith, small, ap length is, length-append line (10 ∷ rest))

turns_or_defect : (tables : Tables) (form : Form) (more : List Due) → IsDueOrNot tables (One form ∷ more)
    → (fuel number : ℕ) (text : List ℕ) → length text < fuel
    → ((lines : List (List ℕ)) → AreDue tables (Turns ∷ One form ∷ more) lines → text ≡ joined lines → ⊥)
    → ((at : ℕ) (fault : LineFault) → Finds (AreDue tables (Turns ∷ One form ∷ more)) number text at fault → ⊥) → ⊥
turns_or_defect tables form more behind zero number text small due wrong = absurd (omega (arith, small))
turns_or_defect tables form more behind (suc fuel) number text small due wrong = elim (next_line text) [
  | inl none ↦
      behind number text (λ lines are same. due lines (into_turns tables form more lines are) same)
      (λ at fault finds. wrong at fault (finds_behind_turns tables form more number text at fault (lacks_turn text none) finds))
  | inr (line, rest, is, whole) ↦
      by_cases {A = StartsTurn line}
      (λ starts. by_cases {A = IsTurnLine tables line}
      (λ turn. turns_or_defect tables form more behind fuel (number + 1) rest (shorter line rest text fuel is small)
      (λ lines are same. due (line ∷ lines) (inl (turn, are)) (is ∙ ap (λ t. line ++ 10 ∷ t) same))
      (λ at fault finds. wrong at fault
      (finds_behind (AreDue tables (Turns ∷ One form ∷ more)) (AreDue tables (Turns ∷ One form ∷ more)) (line ∷ []) number text (number + 1) rest at fault
      (turn_in_front tables (One form ∷ more) line starts turn) (takes_line line number text (number + 1) rest is refl) finds)))
      (λ other. wrong number faults.Form (bad_turn tables form more number text line rest is whole starts other)))
      (λ other. behind number text (λ lines are same. due lines (into_turns tables form more lines are) same)
      (λ at fault finds. wrong at fault (finds_behind_turns tables form more number text at fault (other_next text line rest is whole other) finds)))
]

due_or_defect : (tables : Tables) (due : List Due) → AreWell due → IsDueOrNot tables due
unfolding AreWell
due_or_defect tables [] well number [] due wrong = due [] refl refl
due_or_defect tables [] well number (byte ∷ text) due wrong = wrong number faults.Rest (rest_behind tables number (byte ∷ text) (omega arith))
due_or_defect tables (One form ∷ more) well number text due wrong = elim (next_line text) [
  | inl none ↦ wrong number faults.Missing (stops_here tables form more number text number faults.Missing (refl, none))
  | inr (line, rest, is, whole) ↦
      by_cases {A = HasForm tables form line}
      (λ has. due_or_defect tables more well (number + 1) rest
      (λ lines are same. due (line ∷ lines) (has, are) (is ∙ ap (λ t. line ++ 10 ∷ t) same))
      (λ at fault finds. wrong at fault
      (finds_behind (AreDue tables (One form ∷ more)) (AreDue tables more) (line ∷ []) number text (number + 1) rest at fault
      (behind_one tables form more line has) (takes_line line number text (number + 1) rest is refl) finds)))
      (λ other. wrong number faults.Form
      (stops_here tables form more number text number faults.Form (refl, other_line (HasForm tables form) text line rest is whole other)))
]
due_or_defect tables (Turns ∷ more) (form, later, is, well) number text due wrong =
    subst (λ d. IsDueOrNot tables (Turns ∷ d)) (sym is)
    (λ first all. turns_or_defect tables form later (subst (IsDueOrNot tables) is (due_or_defect tables more well)) (suc (length all)) first all (omega arith))
    number text due wrong

pub text_or_defect : (tables : Tables) (text : List ℕ) → (IsPublished tables text → ⊥)
    → ((at : ℕ) (fault : LineFault) → Finds (ArePublished tables) 1 text at fault → ⊥) → ⊥
text_or_defect tables text published wrong =
    due_or_defect tables (due_of tables) (well_due tables) 1 text
    (λ lines are same. let is = published_from tables lines are in published (is.0, is.1, same ∙ ap joined is.2))
    (λ at fault finds. wrong at fault (finds_published tables 1 text at fault finds))
