-- Each form has a line, and no form's line begins as a turn does.
use Rattle.std.proofs.Common.{ℕ, ◌≡◌, ◌≢◌, ◌<◌, ◌≤◌, List, [], ◌∷◌, length, refl, ap, sym, ◌∙◌, inr, arith}
use Rattle.std.specs.Prelude.{IsTrue}
use Rattle.std.specs.List.{AllByRecursion}
use Rattle.std.proofs.lemmas.List.Elements.{All-cons, All-nil}
use Rattle.market_certificate.specs.declared.amounts.Amount.{Amount}
use Rattle.market_certificate.specs.declared.amounts.Amount.TheVariants as kinds
use Rattle.market_certificate.specs.Tables.{Tables}
use Rattle.market_certificate.specs.Publications.{Proved, IsBundleOf, IsProved, IsSession}
use Rattle.proof_tree.specs.Alphabets.{is_tree_byte}
use Rattle.market_certificate.specs.Texts.{amount_line, bundle_line, end_line, error_line, final_line, head_line, most_of, order_line, used_line}
use Rattle.market_certificate.specs.Due.{Form, HeadForm, OrderForm, AmountForm, ErrorForm, BundleForm, FinalForm, UsedForm, EndForm, Due, One, Turns, HasForm, StartsTurn, AreDue}

no_sections : (sections : List (List ℕ)) → IsBundleOf sections []
no_sections sections = record { is_bundle = record { few = omega arith; ascending = tt }; of_catalog = All-nil (λ section. section < length sections) }

least_proved : Proved
least_proved = record { bundle = []; tree = 42 ∷ [] }

least_is_proved : (sections : List (List ℕ)) → IsProved sections least_proved
unfolding least_proved
least_is_proved sections =
    record {
      bundle = no_sections sections;
      tree = record { some = omega arith; each = All-cons (λ byte. IsTrue (is_tree_byte byte)) 42 [] refl (All-nil (λ byte. IsTrue (is_tree_byte byte))) };
    }

none_is_small : (kind : Amount) → 0 ≤ most_of kind
none_is_small kinds.Budget = omega arith
none_is_small kinds.Start = omega arith
none_is_small kinds.Price = omega arith

-- a line of this form
pub some_line : (tables : Tables) (form : Form) → (line : List ℕ) × HasForm tables form line
some_line tables HeadForm = (head_line tables, refl)
some_line tables OrderForm = (order_line [], ([], All-nil IsSession, refl))
some_line tables (AmountForm kind name) = (amount_line kind name 0, (0, none_is_small kind, refl))
some_line tables ErrorForm = (error_line 0, (0, omega arith, refl))
some_line tables (BundleForm name) = (bundle_line tables.sections name least_proved, (least_proved, least_is_proved tables.sections, refl))
some_line tables (FinalForm name) = (final_line tables.sections name [], ([], no_sections tables.sections, refl))
some_line tables (UsedForm name) = (used_line name (0, 0), ((0, 0), record { used = omega arith; all = omega arith }, refl))
some_line tables EndForm = (end_line, refl)

-- the first byte of a line tells it
first : List ℕ → ℕ
first [] = 0
first (byte ∷ bytes) = byte

begins_other : (line other : List ℕ) → line ≡ other → first other ≢ 116 → ¬ StartsTurn line
unfolding first
begins_other line other e differs begun = differs (ap first (sym e) ∙ ap first begun.1)

order_begins : (order : List ℕ) → first (order_line order) ≢ 116
unfolding first
order_begins [] e = absurd (omega (arith, e))
order_begins (n ∷ order) e = absurd (omega (arith, e))

amount_begins : (kind : Amount) (name : List ℕ) (tokens : ℕ) → first (amount_line kind name tokens) ≢ 116
unfolding first
amount_begins kinds.Budget name tokens e = absurd (omega (arith, e))
amount_begins kinds.Start name tokens e = absurd (omega (arith, e))
amount_begins kinds.Price name tokens e = absurd (omega (arith, e))

pub no_form_is_turn : (tables : Tables) (form : Form) (line : List ℕ) → HasForm tables form line → ¬ StartsTurn line
unfolding first
no_form_is_turn tables HeadForm line has = begins_other line (head_line tables) has (λ (e : 99 ≡ 116). omega (arith, e))
no_form_is_turn tables OrderForm line has = begins_other line (order_line has.0) has.2 (order_begins has.0)
no_form_is_turn tables (AmountForm kind name) line has = begins_other line (amount_line kind name has.0) has.2 (amount_begins kind name has.0)
no_form_is_turn tables ErrorForm line has = begins_other line (error_line has.0) has.2 (λ (e : 101 ≡ 116). omega (arith, e))
no_form_is_turn tables (BundleForm name) line has = begins_other line (bundle_line tables.sections name has.0) has.2 (λ (e : 98 ≡ 116). omega (arith, e))
no_form_is_turn tables (FinalForm name) line has = begins_other line (final_line tables.sections name has.0) has.2 (λ (e : 102 ≡ 116). omega (arith, e))
no_form_is_turn tables (UsedForm name) line has = begins_other line (used_line name has.0) has.2 (λ (e : 117 ≡ 116). omega (arith, e))
no_form_is_turn tables EndForm line has = begins_other line end_line has (λ (e : 101 ≡ 116). omega (arith, e))

-- lines that are due, of which none begins as a turn does
pub record SomeLines (tables : Tables) (due : List Due) : Type 0 where
  pub lines : List (List ℕ)
  pub are_due : AreDue tables due lines
  pub no_turns : AllByRecursion (λ line. ¬ StartsTurn line) lines

behind_no_turns : (tables : Tables) (due : List Due) (lines : List (List ℕ)) → AreDue tables due lines → AllByRecursion (λ line. ¬ StartsTurn line) lines
    → AreDue tables (Turns ∷ due) lines
behind_no_turns tables due [] are none = are
behind_no_turns tables due (line ∷ lines) are none = inr (none.0, are)

pub some_lines : (tables : Tables) (due : List Due) → SomeLines tables due
some_lines tables [] = record { lines = []; are_due = refl; no_turns = tt }
some_lines tables (One form ∷ due) =
    let line = some_line tables form in
    let more = some_lines tables due in
    record { lines = line.0 ∷ more.lines; are_due = (line.1, more.are_due); no_turns = (no_form_is_turn tables form line.0 line.1, more.no_turns) }
some_lines tables (Turns ∷ due) =
    let more = some_lines tables due in
    record { lines = more.lines; are_due = behind_no_turns tables due more.lines more.are_due more.no_turns; no_turns = more.no_turns }
