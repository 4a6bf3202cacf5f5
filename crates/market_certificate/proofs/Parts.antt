-- The parts of a text behind its order, put together.
use Rattle.std.proofs.Common.{ℕ, ◌≡◌, ◌<◌, ◌≤◌, ◌^◌, List, [], ◌∷◌, ◌++◌, length, map, ap, sym, refl, subst, ◌∙◌}
use Rattle.market_certificate.specs.declared.amounts.Amount.{Amount}
use Rattle.market_certificate.specs.declared.amounts.Amount.TheVariants as kinds
use Rattle.market_certificate.specs.declared.refusals.LineFault.TheVariants as faults
use Rattle.market_certificate.specs.Finding.{Finds}
use Rattle.market_certificate.specs.Lines.{joined}
use Rattle.market_certificate.specs.Tables.{Tables}
use Rattle.market_certificate.specs.Publications.{Proved, ProvedTurn, IsBundleOf, IsProved, IsUsed}
use Rattle.market_certificate.specs.Texts.{amount_line, bundle_line, each_line, end_line, error_line, final_line, most_of, turn_line, used_line}
use Rattle.market_certificate.specs.Due.{AmountForm, ArePrices, AreOutcome, AreDue, BundleForm, Due, EndForm, ErrorForm, FinalForm, Form, NoTurnNext, One, Takes, Turns, UsedForm, each_due}
use Rattle.market_certificate.proofs.Blocks.{AreTurnsRead, passes_each}
use Rattle.market_certificate.proofs.Joins.{joined_append}
use Rattle.market_certificate.proofs.Steps.{AreRead, HasPassed, behind_one, behind_turns, finds_behind, finds_behind_turns, passes_one, rest_behind}

-- what is due behind the first prices, and behind the budgets
abbrev pub error_due : Tables → List Due → List Due
error_due tables more = One ErrorForm ∷ (each_due (AmountForm kinds.Price) tables.sections ++ more)

abbrev pub start_due : Tables → List Due → List Due
start_due tables more = each_due (AmountForm kinds.Start) tables.sections ++ error_due tables more

-- what is due behind the final bundles, and behind the turns
abbrev pub used_due : Tables → List Due
used_due tables = each_due UsedForm tables.sections ++ One EndForm ∷ []

abbrev pub finals_due : Tables → List Due
finals_due tables = each_due FinalForm tables.students ++ used_due tables

-- amounts of one kind behind which the first defect is the text's
pub passes_amounts : {names : List (List ℕ)} {values : List ℕ} {number next : ℕ} {text rest : List ℕ} (tables : Tables) (kind : Amount) (more : List Due)
    → AreRead (amount_line kind) (λ tokens. tokens ≤ most_of kind) names values number text next rest
    → HasPassed tables (each_due (AmountForm kind) names ++ more) more number text next rest
passes_amounts tables kind more read =
    passes_each tables (AmountForm kind) (amount_line kind) (λ tokens. tokens ≤ most_of kind) (λ name value is. (value, is, refl)) more read

-- the text that lines and a text of lines are
both_are : (lines more : List (List ℕ)) (text rest : List ℕ) → text ≡ joined lines ++ rest → rest ≡ joined more → text ≡ joined (lines ++ more)
both_are lines more text rest e e' = e ∙ ap (λ t. joined lines ++ t) e' ∙ sym (joined_append lines more)

pub prices_read : {budgets start prices : List ℕ} {n1 n2 n3 n4 n5 : ℕ} {t1 t2 t3 t4 t5 : List ℕ} (tables : Tables) (error : ℕ)
    → AreRead (amount_line kinds.Budget) (λ tokens. tokens ≤ most_of kinds.Budget) tables.students budgets n1 t1 n2 t2
    → AreRead (amount_line kinds.Start) (λ tokens. tokens ≤ most_of kinds.Start) tables.sections start n2 t2 n3 t3
    → error < 2 ^ 64 → Takes (error_line error ∷ []) n3 t3 n4 t4
    → AreRead (amount_line kinds.Price) (λ tokens. tokens ≤ most_of kinds.Price) tables.sections prices n4 t4 n5 t5
    → ArePrices tables budgets start error prices n1 t1 n5 t5
prices_read {budgets} {start} {prices} {n1} {n2} {n3} {n4} {n5} {t1} {t2} {t3} {t4} {t5} tables error b s small e p = record {
  each_budget = b.range;
  each_start = s.range;
  small_error = small;
  each_price = p.range;
  whole = λ more is.
      both_are (each_line (amount_line kinds.Budget) tables.students budgets) _ t1 t2 b.takes.ahead (
      both_are (each_line (amount_line kinds.Start) tables.sections start) _ t2 t3 s.takes.ahead (
      both_are (error_line error ∷ []) _ t3 t4 e.ahead (both_are (each_line (amount_line kinds.Price) tables.sections prices) more t4 t5 p.takes.ahead is)
      )
      );
  passed = λ more at fault finds.
      (passes_amounts tables kinds.Budget (start_due tables more) b).passed at fault (
      (passes_amounts tables kinds.Start (error_due tables more) s).passed at fault (
      (passes_one tables ErrorForm _ (error_line error) (error, small, refl) e).passed at fault (
      (passes_amounts tables kinds.Price more p).passed at fault finds
      )
      )
      );
}

pub passes_bundles : {values : List Proved} {number next : ℕ} {text rest : List ℕ} (tables : Tables) (more : List Due)
    → AreRead (bundle_line tables.sections) (IsProved tables.sections) tables.students values number text next rest
    → HasPassed tables (each_due BundleForm tables.students ++ more) more number text next rest
passes_bundles tables more read =
    passes_each tables BundleForm (bundle_line tables.sections) (IsProved tables.sections) (λ name value is. (value, is, refl)) more read

pub passes_finals : {values : List (List ℕ)} {number next : ℕ} {text rest : List ℕ} (tables : Tables) (more : List Due)
    → AreRead (final_line tables.sections) (IsBundleOf tables.sections) tables.students values number text next rest
    → HasPassed tables (each_due FinalForm tables.students ++ more) more number text next rest
passes_finals tables more read =
    passes_each tables FinalForm (final_line tables.sections) (IsBundleOf tables.sections) (λ name value is. (value, is, refl)) more read

pub passes_seats : {values : List (ℕ × ℕ)} {number next : ℕ} {text rest : List ℕ} (tables : Tables) (more : List Due)
    → AreRead used_line IsUsed tables.sections values number text next rest
    → HasPassed tables (each_due UsedForm tables.sections ++ more) more number text next rest
passes_seats tables more read = passes_each tables UsedForm used_line IsUsed (λ name value is. (value, is, refl)) more read

-- some line is due behind the turns
record BeginsWith (due : List Due) : Type 0 where
  form : Form
  more : List Due
  is : due ≡ One form ∷ more

begins_with : (students sections : List (List ℕ)) → BeginsWith (each_due FinalForm students ++ (each_due UsedForm sections ++ One EndForm ∷ []))
begins_with [] [] = record { form = EndForm; more = []; is = refl }
begins_with [] (section ∷ sections) = record { form = UsedForm section; more = each_due UsedForm sections ++ One EndForm ∷ []; is = refl }
begins_with (student ∷ students) sections =
    record { form = FinalForm student; more = each_due FinalForm students ++ (each_due UsedForm sections ++ One EndForm ∷ []); is = refl }

-- what is said of a text for each form that may be due behind the turns
pub at_turns : (tables : Tables) (P : List Due → Type 0) → ((form : Form) (more : List Due) → P (Turns ∷ One form ∷ more)) → P (Turns ∷ finals_due tables)
at_turns tables P each = let begun = begins_with tables.students tables.sections in subst (λ due. P (Turns ∷ due)) (sym begun.is) (each begun.form begun.more)

-- behind the turns, the first defect is the text's
pub passes_turns : {turns : List ProvedTurn} {number next : ℕ} {text rest : List ℕ} (tables : Tables) → AreTurnsRead tables turns number text next rest
    → NoTurnNext rest → HasPassed tables (Turns ∷ finals_due tables) (finals_due tables) number text next rest
passes_turns {turns} {number} {next} {text} {rest} tables read none =
    let begun = begins_with tables.students tables.sections in
    let due = Turns ∷ One begun.form ∷ begun.more in
    record {
      passed = λ at fault finds.
          subst (λ behind. Finds (AreDue tables (Turns ∷ behind)) number text at fault) (sym begun.is) (
          finds_behind (AreDue tables due) (AreDue tables due) (map (turn_line tables.students tables.sections) turns) number text next rest at fault
          (behind_turns tables turns (One begun.form ∷ begun.more) read.range) read.takes
          (finds_behind_turns tables begun.form begun.more next rest at fault none
          (subst (λ behind. Finds (AreDue tables behind) next rest at fault) begun.is finds))
          );
    }

-- bytes behind the last line
pub behind_end : (tables : Tables) (number : ℕ) (text : List ℕ) (next : ℕ) (rest : List ℕ) → Takes (end_line ∷ []) number text next rest → 0 < length rest
    → Finds (AreDue tables (One EndForm ∷ [])) number text next faults.Rest
behind_end tables number text next rest takes some =
    finds_behind (AreDue tables (One EndForm ∷ [])) (AreDue tables []) (end_line ∷ []) number text next rest next faults.Rest
    (behind_one tables EndForm [] end_line refl) takes (rest_behind tables next rest some)

pub outcome_read : {bundles : List Proved} {turns : List ProvedTurn} {allocation : List (List ℕ)} {used : List (ℕ × ℕ)} {n1 n2 n3 n4 n5 n6 : ℕ}
    {t1 t2 t3 t4 t5 t6 : List ℕ} (tables : Tables)
    → AreRead (bundle_line tables.sections) (IsProved tables.sections) tables.students bundles n1 t1 n2 t2
    → AreTurnsRead tables turns n2 t2 n3 t3
    → AreRead (final_line tables.sections) (IsBundleOf tables.sections) tables.students allocation n3 t3 n4 t4
    → AreRead used_line IsUsed tables.sections used n4 t4 n5 t5 → Takes (end_line ∷ []) n5 t5 n6 t6 → t6 ≡ []
    → AreOutcome tables bundles turns allocation used t1
outcome_read {bundles} {turns} {allocation} {used} {n1} {n2} {n3} {n4} {n5} {n6} {t1} {t2} {t3} {t4} {t5} {t6} tables b t f u e none = record {
  each_bundle = b.range;
  each_turn = t.range;
  each_final = f.range;
  each_seats = u.range;
  whole =
      both_are (each_line (bundle_line tables.sections) tables.students bundles) _ t1 t2 b.takes.ahead (
      both_are (map (turn_line tables.students tables.sections) turns) _ t2 t3 t.takes.ahead (
      both_are (each_line (final_line tables.sections) tables.students allocation) _ t3 t4 f.takes.ahead (
      both_are (each_line used_line tables.sections used) _ t4 t5 u.takes.ahead (both_are (end_line ∷ []) [] t5 t6 e.ahead none)
      )
      )
      );
}
