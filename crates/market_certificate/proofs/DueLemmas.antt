-- The lines that are due are those of a publication.
use Rattle.std.proofs.Common.{ℕ, suc, ◌≡◌, ◌≤◌, List, [], ◌∷◌, ◌++◌, map, ap, sym, refl, subst, ◌∙◌, inl, inr}
use Rattle.std.specs.Prelude.{All}
use Rattle.std.proofs.lemmas.List.Elements.{All-cons, All-nil}
use Rattle.market_certificate.specs.declared.amounts.Amount.TheVariants as kinds
use Rattle.market_certificate.specs.Tables.{Tables}
use Rattle.market_certificate.specs.Publications.{ProvedTurn, AreFor, IsBundleOf, IsProved, IsTurn, IsUsed}
use Rattle.market_certificate.specs.Texts.{ArePublished, amount_line, bundle_line, each_line, end_line, error_line, final_line, head_line, most_of, order_line, turn_line, used_line}
use Rattle.market_certificate.specs.Due.{AmountForm, AreDue, BundleForm, Due, EndForm, ErrorForm, FinalForm, Form, HasForm, HeadForm, OrderForm, One, Turns, TurnsThen, UsedForm, due_of, each_due, outcome_due, prices_due}
use Rattle.market_certificate.proofs.Steps.{behind_each, behind_turns, into_turns}

-- values at the front, and what stands behind their lines
record EachThen {V : Type 0} (tables : Tables) (line : List ℕ → V → List ℕ) (P : V → Type 0) (names : List (List ℕ)) (more : List Due) (lines : List (List ℕ)) :
    Type 0 where
  values : List V
  tail : List (List ℕ)
  range : AreFor names P values
  ahead : lines ≡ each_line line names values ++ tail
  then : AreDue tables more tail

each_from : {V : Type 0} (tables : Tables) (form : List ℕ → Form) (line : List ℕ → V → List ℕ) (P : V → Type 0)
    → ((name l : List ℕ) → HasForm tables (form name) l → (value : V) × P value × (l ≡ line name value))
    → (names : List (List ℕ)) (more : List Due) (lines : List (List ℕ)) → AreDue tables (each_due form names ++ more) lines
    → EachThen tables line P names more lines
each_from tables form line P has [] more lines due =
    record { values = []; tail = lines; range = record { count = refl; each = All-nil P }; ahead = refl; then = due }
each_from tables form line P has (name ∷ names) more [] due = absurd due
each_from tables form line P has (name ∷ names) more (l ∷ lines) due =
    let here = has name l due.0 in
    let next = each_from tables form line P has names more lines due.1 in record {
      values = here.0 ∷ next.values;
      tail = next.tail;
      range = record { count = ap suc next.range.count; each = All-cons P here.0 next.values here.1 next.range.each };
      ahead = ap (λ l. l ∷ lines) here.2 ∙ ap (λ ls. line name here.0 ∷ ls) next.ahead;
      then = next.then;
    }

-- turns at the front, and what stands behind their lines
record TurnsFront (tables : Tables) (more : List Due) (lines : List (List ℕ)) : Type 0 where
  turns : List ProvedTurn
  tail : List (List ℕ)
  range : All (IsTurn tables.students tables.sections) turns
  ahead : lines ≡ map (turn_line tables.students tables.sections) turns ++ tail
  then : AreDue tables more tail

turns_from : (tables : Tables) (more : List Due) (lines : List (List ℕ)) → TurnsThen tables (AreDue tables more) lines → TurnsFront tables more lines
turns_from tables more [] due = record { turns = []; tail = []; range = All-nil (IsTurn tables.students tables.sections); ahead = refl; then = due }
turns_from tables more (line ∷ lines) (inl both) =
    let next = turns_from tables more lines both.1 in record {
      turns = both.0.0 ∷ next.turns;
      tail = next.tail;
      range = All-cons (IsTurn tables.students tables.sections) both.0.0 next.turns both.0.1 next.range;
      ahead = ap (λ l. l ∷ lines) both.0.2 ∙ ap (λ ls. turn_line tables.students tables.sections both.0.0 ∷ ls) next.ahead;
      then = next.then;
    }
turns_from tables more (line ∷ lines) (inr both) =
    record { turns = []; tail = line ∷ lines; range = All-nil (IsTurn tables.students tables.sections); ahead = refl; then = both.1 }

-- one line at the front
record OneThen (tables : Tables) (form : Form) (more : List Due) (lines : List (List ℕ)) : Type 0 where
  line : List ℕ
  tail : List (List ℕ)
  has : HasForm tables form line
  ahead : lines ≡ line ∷ tail
  then : AreDue tables more tail

one_from : (tables : Tables) (form : Form) (more : List Due) (lines : List (List ℕ)) → AreDue tables (One form ∷ more) lines → OneThen tables form more lines
one_from tables form more [] due = absurd due
one_from tables form more (line ∷ lines) due = record { line = line; tail = lines; has = due.0; ahead = refl; then = due.1 }

pub published_from : (tables : Tables) (lines : List (List ℕ)) → AreDue tables (due_of tables) lines → ArePublished tables lines
published_from tables lines due =
    let head = one_from tables HeadForm (One OrderForm ∷ prices_due tables (outcome_due tables)) lines due in
    let order = one_from tables OrderForm (prices_due tables (outcome_due tables)) head.tail head.then in
    let budgets =
    each_from tables (AmountForm kinds.Budget) (amount_line kinds.Budget) (λ tokens. tokens ≤ most_of kinds.Budget) (λ name l has. has) tables.students
    (each_due (AmountForm kinds.Start) tables.sections ++ (One ErrorForm ∷ (each_due (AmountForm kinds.Price) tables.sections ++ outcome_due tables)))
    order.tail order.then in
    let start =
    each_from tables (AmountForm kinds.Start) (amount_line kinds.Start) (λ tokens. tokens ≤ most_of kinds.Start) (λ name l has. has) tables.sections
    (One ErrorForm ∷ (each_due (AmountForm kinds.Price) tables.sections ++ outcome_due tables)) budgets.tail budgets.then in
    let error = one_from tables ErrorForm (each_due (AmountForm kinds.Price) tables.sections ++ outcome_due tables) start.tail start.then in
    let prices =
    each_from tables (AmountForm kinds.Price) (amount_line kinds.Price) (λ tokens. tokens ≤ most_of kinds.Price) (λ name l has. has) tables.sections
    (outcome_due tables) error.tail error.then in
    let bundles =
    each_from tables BundleForm (bundle_line tables.sections) (IsProved tables.sections) (λ name l has. has) tables.students
    (Turns ∷ (each_due FinalForm tables.students ++ (each_due UsedForm tables.sections ++ One EndForm ∷ []))) prices.tail prices.then in
    let turns = turns_from tables (each_due FinalForm tables.students ++ (each_due UsedForm tables.sections ++ One EndForm ∷ [])) bundles.tail bundles.then in
    let finals =
    each_from tables FinalForm (final_line tables.sections) (IsBundleOf tables.sections) (λ name l has. has) tables.students
    (each_due UsedForm tables.sections ++ One EndForm ∷ []) turns.tail turns.then in
    let used = each_from tables UsedForm used_line IsUsed (λ name l has. has) tables.sections (One EndForm ∷ []) finals.tail finals.then in
    let last = one_from tables EndForm [] used.tail used.then in (
      record {
        order = order.has.0;
        budgets = budgets.values;
        start = start.values;
        error = error.has.0;
        prices = prices.values;
        bundles = bundles.values;
        turns = turns.turns;
        allocation = finals.values;
        used = used.values;
      },
      record {
        order = order.has.1;
        budgets = budgets.range;
        start = start.range;
        error = error.has.1;
        prices = prices.range;
        bundles = bundles.range;
        turns = turns.range;
        allocation = finals.range;
        used = used.range;
      },
      head.ahead
          ∙ ap (λ l. l ∷ head.tail) head.has
          ∙ ap (λ ls. head_line tables ∷ ls) (
          order.ahead
          ∙ ap (λ l. l ∷ order.tail) order.has.2
          ∙ ap (λ ls. order_line order.has.0 ∷ ls) (
          budgets.ahead
          ∙ ap (λ ls. each_line (amount_line kinds.Budget) tables.students budgets.values ++ ls) (
          start.ahead
          ∙ ap (λ ls. each_line (amount_line kinds.Start) tables.sections start.values ++ ls) (
          error.ahead
          ∙ ap (λ l. l ∷ error.tail) error.has.2
          ∙ ap (λ ls. error_line error.has.0 ∷ ls) (
          prices.ahead
          ∙ ap (λ ls. each_line (amount_line kinds.Price) tables.sections prices.values ++ ls) (
          bundles.ahead
          ∙ ap (λ ls. each_line (bundle_line tables.sections) tables.students bundles.values ++ ls) (
          turns.ahead
          ∙ ap (λ ls. map (turn_line tables.students tables.sections) turns.turns ++ ls) (
          finals.ahead
          ∙ ap (λ ls. each_line (final_line tables.sections) tables.students finals.values ++ ls) (
          used.ahead
          ∙ ap (λ ls. each_line used_line tables.sections used.values ++ ls)
          (last.ahead ∙ ap (λ l. l ∷ last.tail) last.has ∙ ap (λ ls. end_line ∷ ls) last.then)
          )
          )
          )
          )
          )
          )
          )
          )
          ),
    )

pub each_to : {V : Type 0} (tables : Tables) (form : List ℕ → Form) (line : List ℕ → V → List ℕ) (P : V → Type 0)
    → ((name : List ℕ) (value : V) → P value → HasForm tables (form name) (line name value))
    → (names : List (List ℕ)) (values : List V) (more : List Due) (tail : List (List ℕ)) → AreFor names P values → AreDue tables more tail
    → AreDue tables (each_due form names ++ more) (each_line line names values ++ tail)
each_to tables form line P has names values more tail range due = let behind = behind_each tables form line P has names values more range in behind.to tail due

no_turn_to : (tables : Tables) (students sections tail : List (List ℕ))
    → AreDue tables (each_due FinalForm students ++ (each_due UsedForm sections ++ One EndForm ∷ [])) tail
    → AreDue tables (Turns ∷ (each_due FinalForm students ++ (each_due UsedForm sections ++ One EndForm ∷ []))) tail
no_turn_to tables [] [] tail due = into_turns tables EndForm [] tail due
no_turn_to tables [] (section ∷ sections) tail due = into_turns tables (UsedForm section) (each_due UsedForm sections ++ One EndForm ∷ []) tail due
no_turn_to tables (student ∷ students) sections tail due =
    into_turns tables (FinalForm student) (each_due FinalForm students ++ (each_due UsedForm sections ++ One EndForm ∷ [])) tail due

turns_to : (tables : Tables) (turns : List ProvedTurn) (tail : List (List ℕ)) → All (IsTurn tables.students tables.sections) turns
    → AreDue tables (each_due FinalForm tables.students ++ (each_due UsedForm tables.sections ++ One EndForm ∷ [])) tail
    → AreDue tables (Turns ∷ (each_due FinalForm tables.students ++ (each_due UsedForm tables.sections ++ One EndForm ∷ [])))
    (map (turn_line tables.students tables.sections) turns ++ tail)
turns_to tables turns tail range due =
    let behind = behind_turns tables turns (each_due FinalForm tables.students ++ (each_due UsedForm tables.sections ++ One EndForm ∷ [])) range in
    behind.to tail (no_turn_to tables tables.students tables.sections tail due)

pub published_to : (tables : Tables) (lines : List (List ℕ)) → ArePublished tables lines → AreDue tables (due_of tables) lines
published_to tables lines published =
    let p = published.0 in
    let is = published.1 in
    subst (AreDue tables (due_of tables)) (sym published.2) (
      refl,
      (
        (p.order, is.order, refl),
        each_to tables (AmountForm kinds.Budget) (amount_line kinds.Budget) (λ tokens. tokens ≤ most_of kinds.Budget) (λ name value is. (value, is, refl)) tables.students p.budgets _ _ is.budgets (
            each_to tables (AmountForm kinds.Start) (amount_line kinds.Start) (λ tokens. tokens ≤ most_of kinds.Start) (λ name value is. (value, is, refl)) tables.sections p.start _ _ is.start (
              (p.error, is.error, refl),
              each_to tables (AmountForm kinds.Price) (amount_line kinds.Price) (λ tokens. tokens ≤ most_of kinds.Price) (λ name value is. (value, is, refl)) tables.sections p.prices _ _ is.prices (
                  each_to tables BundleForm (bundle_line tables.sections) (IsProved tables.sections) (λ name value is. (value, is, refl)) tables.students p.bundles _ _ is.bundles (
                  turns_to tables p.turns _ is.turns (
                  each_to tables FinalForm (final_line tables.sections) (IsBundleOf tables.sections) (λ name value is. (value, is, refl)) tables.students p.allocation _ _ is.allocation (
                  each_to tables UsedForm used_line IsUsed (λ name value is. (value, is, refl)) tables.sections p.used (One EndForm ∷ []) (end_line ∷ [])
                  is.used (refl, refl)
                  )
                  )
                  )
                  ),
            )
            ),
      ),
    )
