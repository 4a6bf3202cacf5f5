-- The crowd of the code and its turns.
use Rattle.std.proofs.Common.{ℕ, zero, suc, ◌≡◌, ◌<◌, ◌≤◌, ◌+◌, ◌⊎◌, ◌||◌, ◌∷◌, ◌++◌, Bool, true, false, List, [], length, map, Some, All, arith, refl, sym, ◌∙◌, ap, subst, inl, inr, append_assoc, take, not, ◌==◌, true≢false, Result, Ok, Err}
use Rattle.std.specs.Prelude.{slice_get, slice_index_or, slice_set, if◌then◌else◌, IfOk}
use Rattle.std.specs.FinSet as set
use Rattle.std.proofs.lemmas.Bool.Decides.{nat_tests}
use Rattle.std.proofs.lemmas.List.{map-append, length-append, length-map, append-nil, take_more, get_or-map}
use Rattle.std.proofs.lemmas.Option.{slice_get-get_or, get_or_from_slice_get}
use Rattle.market_units.specs.declared.units.Tokens.{Tokens}
use Rattle.market_units.specs.declared.units.StudentNo.{StudentNo}
use Rattle.bundle_rules.specs.declared.bundle.Bundle.{Bundle}
use Rattle.bundle_rules.specs.Bundles.{sections_of}
use Rattle.market_units.specs.Members.{has}
use Rattle.bundle_rules.specs.Menus.{MenuData, wishes_of}
use Rattle.bundle_rules.specs.Demand.{price_in, IsBest, HasPrices}
use Rattle.budget_draw.specs.AfterOrder.{after_order_of}
use Rattle.budget_draw.specs.Budgets.{amounts, raised_by}
use Rattle.demand_api.specs.Crowds.{Student, IsCrowd}
use Rattle.demand_api.specs.Parts.{students_of}
use Rattle.demand_api.specs.Views.{data_of}
use Rattle.demand_api.specs.declared.crowd.Crowd.{Crowd}
use Rattle.demand_api.proofs.Parts.{menus_within, students_length}
use Rattle.demand_api.proofs.Halving.{price_at}
use Rattle.aftermarket_stage.specs.declared.turns.Turn.{Turn}
use Rattle.held_seats.specs.Choices.{AreHeldWithin, may_choose}
use Rattle.aftermarket_stage.specs.Turns.{Terms, TurnData, IsTurn, after_turn, after_turns, EachTurn, IsQuiet}
use Rattle.aftermarket_stage.specs.Passes.{due_of, IsPass, IsAftermarket}
use Rattle.demand_api.specs.Asking.{AreSectionPrices}
use Rattle.aftermarket_stage.specs.After.{terms_of, turn_of, turns_of}
use Rattle.held_seats.specs.Floors.{AreBelow}
use Rattle.aftermarket_stage.specs.HeldChoices.{AreChoices}
use Rattle.aftermarket_stage.specs.Runs.{IsBestAt, HasTurned, HaveTurned}
use Rattle.aftermarket_stage.proofs.Ranks.{left, bit-le}
use Rattle.aftermarket_stage.proofs.Turning.{comes, choices_after, within_stays, choice_below, each_append, each_front, each_later, after_append}
use Rattle.aftermarket_stage.proofs.Passing.{AreBusy, busy_more, busy_end, busy_long, order_low, made_each, joined, joined_more}

-- the student at a place
pub student_here : (menus : List MenuData) (budgets : List Tokens) (i : ℕ) (menu : MenuData) (budget : Tokens) → length budgets ≡ length menus
    → i < length menus → menu ≡ slice_index_or menus i menu → budget ≡ slice_index_or budgets i budget
    → slice_get (students_of menus budgets) i ≡ Some (record { menu = menu; budget = budget.0 })
student_here [] budgets i menu budget same low is has_it = absurd (omega arith)
student_here (m ∷ ms) [] i menu budget same low is has_it = absurd (omega arith)
student_here (m ∷ ms) (b ∷ bs) zero menu budget same low is has_it =
    let one : m ≡ menu = sym is in
    let two : b ≡ budget = sym has_it in
    ap (λ x. Some (record { menu = x; budget = b.0 })) one ∙ ap (λ y. Some (record { menu = menu; budget = y.0 })) two
student_here (m ∷ ms) (b ∷ bs) (suc i) menu budget same low is has_it = student_here ms bs i menu budget (omega arith) (omega arith) is has_it

-- each section of a menu has a price
pub menu_priced : (crowd : Crowd) (prices : List Tokens) (i : ℕ) (menu : MenuData)
    → AreSectionPrices crowd.sections prices → i < length crowd.menus.items → menu ≡ slice_index_or crowd.menus.items i menu → HasPrices menu prices
menu_priced crowd prices i menu are low is =
    rw is λ k d inside.
    let below : (slice_index_or (slice_index_or crowd.menus.items i menu).places k d).section.0 < crowd.sections = menus_within crowd i menu low k d inside in
    let size : length prices ≡ crowd.sections = are.same in
    let s : ℕ = (slice_index_or (slice_index_or crowd.menus.items i menu).places k d).section.0 in
    let none : Tokens = record { 0 = 0 } in
    let high : (slice_index_or prices s none).0 ≤ 1000001 = are.high s none (omega arith) in
    let same = price_at prices s none (omega arith) in
    record { listed = omega arith; high = omega (arith, high, same) }

-- a found bundle is the best at its place
pub best_found : (crowd : Crowd) (seats : List ℕ) (prices : List Tokens) (raise i raised : ℕ) (menu : MenuData) (budget : Tokens) (allowed : ℕ → Bool)
    (bundle : List ℕ)
    → i < length crowd.menus.items
    → menu ≡ slice_index_or crowd.menus.items i menu → budget ≡ slice_index_or crowd.budgets.items i budget → raised ≡ raised_by raise budget.0
    → IsBest (wishes_of menu) (price_in prices) raised allowed bundle → IsBestAt (terms_of crowd seats prices raise) i allowed bundle
best_found crowd seats prices raise i raised menu budget allowed bundle low is has_it by best = record {
  who = record { menu = menu; budget = budget.0 };
  listed = student_here crowd.menus.items crowd.budgets.items i menu budget crowd.same low is has_it;
  best = subst (λ b. IsBest (wishes_of menu) (price_in prices) b allowed bundle) by best;
}

-- what each student holds is of the crowd's sections
pub choices_low : (crowd : Crowd) (seats : List ℕ) (prices : List Tokens) (raise : ℕ) (held : List (List ℕ)) → length seats ≡ crowd.sections
    → AreChoices (terms_of crowd seats prices raise) held → AreBelow (length seats) held
choices_low crowd seats prices raise held seats_each choices k d low s in_it =
    let known = crowd.whole in
    let size = choices.each in
    let nobody : Student = record { menu = record { places = []; pairs = []; clashes = []; credits = 0; courses = 0 }; budget = 0 } in
    let listed = slice_get-get_or (students_of crowd.menus.items crowd.budgets.items) k nobody (omega (arith, low, size)) in
    let holds = choices.choices k (slice_index_or (students_of crowd.menus.items crowd.budgets.items) k nobody) listed in
    let here : slice_index_or held k d ≡ holds.bundle = get_or_from_slice_get held k holds.bundle d holds.there in
    let below =
    choice_below (data_of crowd) (price_in prices) _ k _ (λ t. true) holds.bundle known listed holds.choice s
    (ap (λ b. has b s) (sym here) ∙ in_it) in
    omega (arith, below, seats_each)

pub choices_length : (crowd : Crowd) (seats : List ℕ) (prices : List Tokens) (raise : ℕ) (held : List (List ℕ))
    → AreChoices (terms_of crowd seats prices raise) held → length held ≡ length crowd.menus.items
choices_length crowd seats prices raise held choices = choices.each ∙ students_length crowd

-- a turn that was made
pub turned : (terms : Terms) (pass : ℕ) (held later : List (List ℕ)) (before after : List Turn) (changed : Bool) (turn : Turn) → after ≡ before ++ turn ∷ []
    → turn.pass ≡ pass → ((s : ℕ) → set.contains turn.allowed s ≡ may_choose terms.seats held turn.student.0 s)
    → IsBestAt terms turn.student.0 (set.contains turn.allowed) (turn_of turn).bundle → later ≡ slice_set held turn.student.0 (turn_of turn).bundle
    → (changed ≡ false → IsQuiet held (turn_of turn)) → (changed ≡ true → ¬ IsQuiet held (turn_of turn))
    → HasTurned terms pass turn.student.0 held later before after changed
turned terms pass held later before after changed turn made number may best holds quiet moved = record {
  turn = turn;
  made = made;
  number = number;
  whose = refl;
  is = record { who = best.who; listed = best.listed; choices = λ i s. may s i; best = best.best };
  holds = holds;
  quiet = quiet;
  moved = moved;
}

-- no turn yet
pub none_turned : (terms : Terms) (pass : ℕ) (held : List (List ℕ)) (turns : List Turn) → HaveTurned terms pass [] held held turns turns false
none_turned terms pass held turns = record {
  turns = [];
  made = sym (append-nil turns);
  due = refl;
  each = tt;
  holds = refl;
  quiet = λ e. tt;
  moved = λ e. absurd (cc e);
}

-- one turn more
pub have_turned : (terms : Terms) (pass student : ℕ) (students : List ℕ) (held between later : List (List ℕ)) (before now after : List Turn)
    (changed moves : Bool)
    → HaveTurned terms pass students held between before now changed → HasTurned terms pass student between later now after moves
    → HaveTurned terms pass (students ++ student ∷ []) held later before after (changed || moves)
have_turned terms pass student students held between later before now after changed moves so_far one = record {
  turns = so_far.turns ++ one.turn ∷ [];
  made = one.made ∙ ap (λ ts. ts ++ one.turn ∷ []) so_far.made ∙ append_assoc before so_far.turns (one.turn ∷ []);
  due =
      ap (map due_of) last_turns
      ∙ map-append due_of (turns_of so_far.turns) (turn_of one.turn ∷ [])
      ∙ ap (λ ds. ds ++ due_of (turn_of one.turn) ∷ []) so_far.due
      ∙ last_due
      ∙ sym (map-append due_at students (student ∷ []));
  each =
      subst (EachTurn (IsTurn terms) held) (sym last_turns)
      (each_append (IsTurn terms) held (turns_of so_far.turns) (turn_of one.turn ∷ []) so_far.each
      (subst (λ h. IsTurn terms h (turn_of one.turn)) so_far.holds one.is, tt));
  holds =
      one.holds ∙ ap (λ h. after_turn h (turn_of one.turn)) so_far.holds
      ∙ sym (ap (after_turns held) last_turns ∙ after_append held (turns_of so_far.turns) (turn_of one.turn ∷ []));
  quiet =
      λ e. subst (EachTurn IsQuiet held) (sym last_turns)
      (each_append IsQuiet held (turns_of so_far.turns) (turn_of one.turn ∷ []) (so_far.quiet (none_left changed moves e))
      (subst (λ h. IsQuiet h (turn_of one.turn)) so_far.holds (one.quiet (none_right changed moves e)), tt));
  moved = λ e all. some_moved e (subst (EachTurn IsQuiet held) last_turns all);
}
  where
    last_turns : turns_of (so_far.turns ++ one.turn ∷ []) ≡ turns_of so_far.turns ++ turn_of one.turn ∷ []
    last_turns = map-append turn_of so_far.turns (one.turn ∷ [])

    due_at : ℕ → ℕ × ℕ
    due_at s = (pass, s)

    last_due : map due_at students ++ due_of (turn_of one.turn) ∷ [] ≡ map due_at students ++ due_at student ∷ []
    last_due = ap (λ p. map due_at students ++ (p, one.turn.student.0) ∷ []) one.number ∙ ap (λ s. map due_at students ++ (pass, s) ∷ []) one.whose

    none_left : (a b : Bool) → (a || b) ≡ false → a ≡ false
    none_left true b e = e
    none_left false b e = refl

    none_right : (a b : Bool) → (a || b) ≡ false → b ≡ false
    none_right true b e = absurd (cc e)
    none_right false b e = e

    one_of : (a b : Bool) → (a || b) ≡ true → (a ≡ true) ⊎ (b ≡ true)
    one_of true b e = inl refl
    one_of false b e = inr e

    some_moved : (changed || moves) ≡ true → EachTurn IsQuiet held (turns_of so_far.turns ++ turn_of one.turn ∷ []) → ⊥
    some_moved e all = elim (one_of changed moves e) [
      | inl earlier ↦ so_far.moved earlier (each_front IsQuiet held (turns_of so_far.turns) (turn_of one.turn ∷ []) all)
      | inr now_it ↦
          one.moved now_it
          (subst (λ h. IsQuiet h (turn_of one.turn)) (sym so_far.holds) (each_later IsQuiet held (turns_of so_far.turns) (turn_of one.turn ∷ []) all).0)
    ]

-- the passes so far, each of which changed something
pub record IsUnderWay (terms : Terms) (start held : List (List ℕ)) (turns : List Turn) (number : ℕ) : Type 0 where
  pub by_pass : List (List TurnData)
  pub busy : AreBusy (IsTurn terms) terms.crowd 1 start by_pass
  pub all : joined by_pass ≡ turns_of turns
  pub counted : length by_pass ≡ number
  pub holds : held ≡ after_turns start (turns_of turns)
  pub someone : 0 < length terms.crowd.students

-- the aftermarket is made
pub record IsMade (terms : Terms) (start held : List (List ℕ)) (turns : List Turn) (number : ℕ) : Type 0 where
  pub whole : IsAftermarket terms start (turns_of turns) number
  pub holds : held ≡ after_turns start (turns_of turns)

-- it goes on where the last pass changed something, and else it is made
abbrev pub GoesOn : Bool → Terms → List (List ℕ) → List (List ℕ) → List Turn → ℕ → Type 0
GoesOn true terms start held turns number = IsUnderWay terms start held turns number
GoesOn false terms start held turns number = IsMade terms start held turns number

-- before any turn
pub begins : (terms : Terms) (start held : List (List ℕ)) (turns : List Turn) (some : Bool) → held ≡ start → turns ≡ []
    → (some ≡ true → 0 < length terms.crowd.students) → (some ≡ false → terms.crowd.students ≡ []) → GoesOn some terms start held turns 0
begins terms start held turns true same none more less =
    record {
      by_pass = [];
      busy = first_busy;
      all = sym (ap turns_of none);
      counted = refl;
      holds = same ∙ sym (ap (λ ts. after_turns start (turns_of ts)) none);
      someone = more refl;
    }
  where
    first_busy : AreBusy (IsTurn terms) terms.crowd 1 start []
    first_busy = tt
begins terms start held turns false same none more less = record {
  whole = record { by_pass = []; whole = tt; some = (λ e. less refl, λ e. refl); joined = sym (ap turns_of none); number = refl };
  holds = same ∙ sym (ap (λ ts. after_turns start (turns_of ts)) none);
}

-- one pass more
pub goes_on : (terms : Terms) (start held later : List (List ℕ)) (before after : List Turn) (number : ℕ) (changed : Bool)
    → IsUnderWay terms start held before number
    → HaveTurned terms (number + 1) (after_order_of (map (λ student. student.budget) terms.crowd.students)) held later before after changed
    → GoesOn changed terms start later after (number + 1)
goes_on terms start held later before after number changed is run = told changed run.quiet run.moved
  where
    turns : List TurnData
    turns = turns_of run.turns

    at : after_turns start (joined is.by_pass) ≡ held
    at = ap (after_turns start) is.all ∙ sym is.holds

    pass : IsPass (IsTurn terms) terms.crowd (number + 1) (after_turns start (joined is.by_pass)) (turns_of run.turns)
    pass = subst (λ h. IsPass (IsTurn terms) terms.crowd (number + 1) h (turns_of run.turns)) (sym at) (record { due = run.due; each = run.each })

    next : number + 1 ≡ 1 + length is.by_pass
    next = let counted = is.counted in omega arith

    all_turns : joined (is.by_pass ++ turns_of run.turns ∷ []) ≡ turns_of after
    all_turns =
        joined_more is.by_pass (turns_of run.turns) ∙ ap (λ ts. ts ++ turns_of run.turns) is.all
        ∙ sym (ap turns_of run.made ∙ map-append turn_of before run.turns)

    passes : length (is.by_pass ++ turns_of run.turns ∷ []) ≡ number + 1
    passes = let counted = is.counted in omega (arith, length-append is.by_pass (turns_of run.turns ∷ []))

    held_then : later ≡ after_turns start (turns_of after)
    held_then =
        run.holds
        ∙ ap (λ h. after_turns h (turns_of run.turns)) is.holds
        ∙ sym (ap (after_turns start) (ap turns_of run.made ∙ map-append turn_of before run.turns) ∙ after_append start (turns_of before) (turns_of run.turns))

    more_than_none : (ps : List (List TurnData)) → ps ++ turns_of run.turns ∷ [] ≡ [] → ⊥
    more_than_none [] e = cc
    more_than_none (p ∷ ps) e = cc

    no_students : (students : List Student) → 0 < length students → students ≡ [] → ⊥
    no_students [] some e = absurd (omega arith)
    no_students (x ∷ xs) some e = cc

    told : (flag : Bool) → (flag ≡ false → EachTurn IsQuiet held (turns_of run.turns)) → (flag ≡ true → ¬ EachTurn IsQuiet held (turns_of run.turns))
        → GoesOn flag terms start later after (number + 1)
    told true quiet moved = record {
      by_pass = is.by_pass ++ turns_of run.turns ∷ [];
      busy =
          busy_more (IsTurn terms) terms.crowd 1 (number + 1) start is.by_pass (turns_of run.turns) next is.busy pass
          (subst (λ h. ¬ EachTurn IsQuiet h (turns_of run.turns)) (sym at) (moved refl));
      all = all_turns;
      counted = passes;
      holds = held_then;
      someone = is.someone;
    }
    told false quiet moved = record {
      whole = record {
        by_pass = is.by_pass ++ turns_of run.turns ∷ [];
        whole =
            busy_end (IsTurn terms) terms.crowd 1 (number + 1) start is.by_pass (turns_of run.turns) next is.busy pass
            (subst (λ h. EachTurn IsQuiet h (turns_of run.turns)) (sym at) (quiet refl));
        some = (λ e. absurd (more_than_none is.by_pass e), λ e. absurd (no_students terms.crowd.students is.someone e));
        joined = all_turns;
        number = passes;
      };
      holds = held_then;
    }

-- what is left, and whether it goes on
pub measure : Terms → List (List ℕ) → Bool → ℕ
measure terms held changed = left terms.crowd.sections terms.crowd.students held + (if changed then 1 else 0)

-- falls with each pass
pub measure_falls : (terms : Terms) (pass : ℕ) (order : List ℕ) (held later : List (List ℕ)) (before after : List Turn) (changed : Bool) → IsCrowd terms.crowd
    → AreChoices terms held → HaveTurned terms pass order held later before after changed
    → measure terms later changed < measure terms held true
unfolding measure
measure_falls terms pass order held later before after changed known choices run =
    let same = ap (left terms.crowd.sections terms.crowd.students) run.holds in
    elim (comes terms held (turns_of run.turns) known choices run.each).told [
      | inl none ↦
          let even = ap (left terms.crowd.sections terms.crowd.students) none.1 in
          let flag : changed ≡ false = not_moved changed (λ e. run.moved e none.0) in
          rw flag (omega (arith, same, even))
      | inr some ↦ let less = some.1 in let bit = bit-le changed in omega (arith, same, less, bit)
    ]
  where
    not_moved : (b : Bool) → (b ≡ true → ⊥) → b ≡ false
    not_moved true none = absurd (none refl)
    not_moved false none = refl

-- there are no more passes than turns
pub passes_few : (terms : Terms) (start held : List (List ℕ)) (turns : List Turn) (number : ℕ) → IsUnderWay terms start held turns number
    → number ≤ length turns
passes_few terms start held turns number is =
    let few = busy_long (IsTurn terms) terms.crowd 1 start is.by_pass is.busy in
    let counted = is.counted in
    let same : length (joined is.by_pass) ≡ length turns = ap length is.all ∙ length-map turns turn_of in
    omega (arith, few, counted, same)

-- a best bundle is of the crowd's sections
pub best_low : (crowd : Crowd) (seats : List ℕ) (prices : List Tokens) (raise i : ℕ) (allowed : ℕ → Bool) (bundle : List ℕ) → length seats ≡ crowd.sections
    → IsBestAt (terms_of crowd seats prices raise) i allowed bundle → (s : ℕ) → has bundle s ≡ true → s < length seats
best_low crowd seats prices raise i allowed bundle seats_each is s in_it =
    let known = crowd.whole in
    let below =
    choice_below (data_of crowd) (price_in prices) (raised_by raise is.who.budget) i is.who allowed bundle
    known is.listed is.best.choice s in_it in
    omega (arith, below, seats_each)

-- choices after a turn that was made
pub choices_turned : (terms : Terms) (pass student : ℕ) (held later : List (List ℕ)) (before after : List Turn) (changed : Bool) → AreChoices terms held
    → HasTurned terms pass student held later before after changed → AreChoices terms later
choices_turned terms pass student held later before after changed are one =
    subst (AreChoices terms) (sym one.holds) (choices_after terms held (turn_of one.turn) are one.is)

-- one student more of the order
pub students_more : (order : List StudentNo) (i : ℕ) (d : StudentNo) → i < length order
    → map (λ student. student.0) (take (i + 1) order) ≡ map (λ student. student.0) (take i order) ++ (slice_index_or order i d).0 ∷ []
students_more order i d low =
    ap (map (λ (student : StudentNo). student.0)) (take_more order i d low)
    ∙ map-append (λ (student : StudentNo). student.0) (take i order) (slice_index_or order i d ∷ [])

-- the order is of the crowd's students
pub order_within : (order : List StudentNo) (menus : List MenuData) (budgets : List Tokens) → length budgets ≡ length menus
    → map (λ student. student.0) order ≡ after_order_of (amounts budgets) → All (λ student. student.0 < length menus) order
order_within order menus budgets same is k d low =
    let size : length (amounts budgets) ≡ length menus = length-map budgets (λ (one : Tokens). one.0) ∙ same in
    let many = length-map order (λ (student : StudentNo). student.0) in
    let long = ap length is in
    let inside : slice_index_or (after_order_of (amounts budgets)) k 0 < length (amounts budgets) =
    order_low (amounts budgets) k 0 (omega (arith, low, many, long)) in
    let read : slice_index_or (map (λ (student : StudentNo). student.0) order) k 0 ≡ (slice_index_or order k d).0 =
    get_or-map (λ (student : StudentNo). student.0) order k d 0 low in
    let there = ap (λ ns. slice_index_or ns k 0) is in
    omega (arith, inside, read, there, size)

-- the budgets of the crowd's students
pub budgets_same : (menus : List MenuData) (budgets : List Tokens) → length budgets ≡ length menus
    → amounts budgets ≡ map (λ student. student.budget) (students_of menus budgets)
budgets_same [] [] same = refl
budgets_same [] (b ∷ bs) same = absurd (omega arith)
budgets_same (m ∷ ms) [] same = absurd (omega arith)
budgets_same (m ∷ ms) (b ∷ bs) same = ap (λ bs'. b.0 ∷ bs') (budgets_same ms bs (omega arith))

-- whether there are students
pub some_or_none : (menus : List MenuData) (budgets : List Tokens) (empty : Bool) → length budgets ≡ length menus → empty ≡ (length menus == 0)
    → (not empty ≡ true → 0 < length (students_of menus budgets)) × (not empty ≡ false → students_of menus budgets ≡ [])
some_or_none [] budgets empty same is = (λ e. absurd (let clash : not empty ≡ false = ap not is in true≢false (sym e ∙ clash)), λ e. refl)
some_or_none (m ∷ ms) [] empty same is = absurd (omega arith)
some_or_none (m ∷ ms) (b ∷ bs) empty same is =
    (λ e. omega arith, λ e. absurd (let told : not empty ≡ true = ap not (is ∙ not_zero (length ms)) in true≢false (sym told ∙ e)))
  where
    not_zero : (n : ℕ) → (suc n == 0) ≡ false
    not_zero n = grind (arith, nat_tests)

-- where it goes on the passes are under way, and else they are made
pub under_way : (changed : Bool) (terms : Terms) (start held : List (List ℕ)) (turns : List Turn) (number : ℕ) → changed ≡ true
    → GoesOn changed terms start held turns number → IsUnderWay terms start held turns number
under_way changed terms start held turns number is so = subst (λ b. GoesOn b terms start held turns number) is so

pub is_made : (changed : Bool) (terms : Terms) (start held : List (List ℕ)) (turns : List Turn) (number : ℕ) → changed ≡ false
    → GoesOn changed terms start held turns number → IsMade terms start held turns number
is_made changed terms start held turns number is so = subst (λ b. GoesOn b terms start held turns number) is so

-- what is held at the end keeps within seats
pub made_within : (terms : Terms) (start held : List (List ℕ)) (turns : List Turn) (number : ℕ) → IsMade terms start held turns number
    → AreHeldWithin terms.crowd.sections terms.seats start → AreHeldWithin terms.crowd.sections terms.seats held
made_within terms start held turns number is within =
    subst (AreHeldWithin terms.crowd.sections terms.seats) (sym is.holds)
    (within_stays terms terms.crowd.sections start (turns_of turns) within (made_each (IsTurn terms) terms.crowd start (turns_of turns) number is.whole))

-- a fact of an answer that follows from two others
pub if_both : {A E : Type 0} (answer : Result A E) (P Q R : A → Type 0) → ((value : A) → P value → Q value → R value) → IfOk answer P → IfOk answer Q
    → IfOk answer R
if_both (Ok value) P Q R so one two = so value one two
if_both (Err e) P Q R so one two = tt

-- one more student's bundle
pub demands_more : (bundles later : List Bundle) (bundle : Bundle) (all : List (List ℕ)) (i : ℕ) → i < length all → map sections_of bundles ≡ take i all
    → later ≡ bundles ++ bundle ∷ [] → sections_of bundle ≡ slice_index_or all i [] → map sections_of later ≡ take (i + 1) all
demands_more bundles later bundle all i low so_far more is =
    ap (map sections_of) more
    ∙ map-append sections_of bundles (bundle ∷ [])
    ∙ ap (λ front. front ++ sections_of bundle ∷ []) so_far
    ∙ ap (λ last. take i all ++ last ∷ []) is
    ∙ sym (take_more all i [] low)
