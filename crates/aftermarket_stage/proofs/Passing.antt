-- Passes: what they are so far, that they end, and that they are one.
use Rattle.std.proofs.Common.{ℕ, zero, suc, ◌≡◌, ◌≢◌, ◌<◌, ◌≤◌, ◌+◌, ◌⊎◌, ◌↔◌, ◌∷◌, ◌++◌, List, [], length, map, Some, All, arith, refl, sym, ◌∙◌, ap, subst, inl, inr}
use Rattle.std.specs.Prelude.{slice_get, slice_index_or}
use Rattle.std.specs.List.{flat_map, range_with_len}
use Rattle.std.proofs.lemmas.List.{length-append, length-map, append-nil}
use Rattle.std.proofs.lemmas.List.Elements.{All-cons, All-append}
use Rattle.std.proofs.lemmas.List.Concat.{flat_map-append, flat_map-cons}
use Rattle.std.proofs.lemmas.List.FromFn.{get_or-range_with_len, length-range_with_len}
use Rattle.std.proofs.lemmas.List.Sorted.{All-permutation}
use Rattle.std.proofs.lemmas.Option.{slice_get-get_or}
use Rattle.bundle_rules.specs.Demand.{price_in}
use Rattle.bundle_rules.specs.Best.{best}
use Rattle.bundle_rules.proofs.BestValue.{best-is, best-only}
use Rattle.budget_draw.specs.AfterOrder.{after_order_of}
use Rattle.budget_draw.specs.Budgets.{raised_by}
use Rattle.budget_draw.proofs.OrderLaw.{after_order_law}
use Rattle.demand_api.specs.Crowds.{Student, CrowdData, IsCrowd}
use Rattle.held_seats.specs.Choices.{may_choose}
use Rattle.aftermarket_stage.specs.Turns.{Terms, TurnData, IsTurn, after_turn, after_turns, EachTurn, IsQuiet}
use Rattle.aftermarket_stage.specs.Passes.{due_of, IsPass, ArePasses, IsMadeOf}
use Rattle.aftermarket_stage.specs.HeldChoices.{AreChoices}
use Rattle.aftermarket_stage.specs.Laws.{start_of, ChangesArePreferred, AftermarketEnds, OneAftermarket, StaysWithinSeats}
use Rattle.aftermarket_stage.proofs.Ranks.{left}
use Rattle.aftermarket_stage.proofs.Turning.{Comes, comes, start_choices, turn_told, choices_stay, within_stays, each_append, each_front, each_later, after_append}

-- the turns of all passes
abbrev pub joined : List (List TurnData) → List TurnData
joined by_pass = flat_map (λ pass. pass) by_pass

pub joined_more : (passes : List (List TurnData)) (turns : List TurnData) → joined (passes ++ turns ∷ []) ≡ joined passes ++ turns
joined_more passes turns = flat_map-append (λ (pass : List TurnData). pass) passes (turns ∷ []) ∙ ap (λ last. joined passes ++ last) (append-nil turns)

-- passes each of which changes something, the first with this number
abbrev pub AreBusy : (List (List ℕ) → TurnData → Type 0) → CrowdData → ℕ → List (List ℕ) → List (List TurnData) → Type 0
AreBusy Wanted crowd number held [] = Unit {0}
AreBusy Wanted crowd number held (turns ∷ later) =
    IsPass Wanted crowd number held turns × (¬ EachTurn IsQuiet held turns) × AreBusy Wanted crowd (number + 1) (after_turns held turns) later

-- one more that changes something
pub busy_more : (Wanted : List (List ℕ) → TurnData → Type 0) (crowd : CrowdData) (number next : ℕ) (held : List (List ℕ)) (passes : List (List TurnData))
    (turns : List TurnData)
    → next ≡ number + length passes → AreBusy Wanted crowd number held passes
    → IsPass Wanted crowd next (after_turns held (joined passes)) turns → (¬ EachTurn IsQuiet (after_turns held (joined passes)) turns)
    → AreBusy Wanted crowd number held (passes ++ turns ∷ [])
busy_more Wanted crowd number next held [] turns at busy pass moved =
    (subst (λ n. IsPass Wanted crowd n held turns) (let e : next ≡ number = omega arith in e) pass, moved, tt)
busy_more Wanted crowd number next held (x ∷ xs) turns at busy pass moved =
    let split : after_turns held (joined (x ∷ xs)) ≡ after_turns (after_turns held x) (joined xs) = ap (after_turns held) (flat_map-cons (λ (pass : List TurnData). pass) x xs) ∙ after_append held x (joined xs) in (
      busy.0,
      busy.1,
      busy_more Wanted crowd (number + 1) next (after_turns held x) xs turns (omega arith) busy.2 (subst (λ h. IsPass Wanted crowd next h turns) split pass)
          (subst (λ h. ¬ EachTurn IsQuiet h turns) split moved),
    )

-- one more that changes nothing: the passes are whole
pub busy_end : (Wanted : List (List ℕ) → TurnData → Type 0) (crowd : CrowdData) (number next : ℕ) (held : List (List ℕ)) (passes : List (List TurnData))
    (turns : List TurnData)
    → next ≡ number + length passes → AreBusy Wanted crowd number held passes
    → IsPass Wanted crowd next (after_turns held (joined passes)) turns → EachTurn IsQuiet (after_turns held (joined passes)) turns
    → ArePasses Wanted crowd number held (passes ++ turns ∷ [])
busy_end Wanted crowd number next held [] turns at busy pass quiet =
    (subst (λ n. IsPass Wanted crowd n held turns) (let e : next ≡ number = omega arith in e) pass, (λ q. refl, λ e. quiet), tt)
busy_end Wanted crowd number next held (x ∷ xs) turns at busy pass quiet =
    let split : after_turns held (joined (x ∷ xs)) ≡ after_turns (after_turns held x) (joined xs) = ap (after_turns held) (flat_map-cons (λ (pass : List TurnData). pass) x xs) ∙ after_append held x (joined xs) in (
      busy.0,
      (λ q. absurd (busy.1 q), λ e. absurd (not_done xs e)),
      busy_end Wanted crowd (number + 1) next (after_turns held x) xs turns (omega arith) busy.2 (subst (λ h. IsPass Wanted crowd next h turns) split pass)
          (subst (λ h. EachTurn IsQuiet h turns) split quiet),
    )
  where
    not_done : (ys : List (List TurnData)) → ys ++ turns ∷ [] ≡ [] → ⊥
    not_done [] e = cc
    not_done (y ∷ ys) e = cc

-- a pass that changes something has a turn
pub busy_long : (Wanted : List (List ℕ) → TurnData → Type 0) (crowd : CrowdData) (number : ℕ) (held : List (List ℕ)) (passes : List (List TurnData))
    → AreBusy Wanted crowd number held passes → length passes ≤ length (joined passes)
busy_long Wanted crowd number held [] busy = omega arith
busy_long Wanted crowd number held (x ∷ xs) busy =
    let rest = busy_long Wanted crowd (number + 1) (after_turns held x) xs busy.2 in
    let some = has_turn x busy.1 in
    let long : length (joined (x ∷ xs)) ≡ length x + length (joined xs) =
    ap length (flat_map-cons (λ (pass : List TurnData). pass) x xs) ∙ length-append x (joined xs) in
    omega (arith, rest, some, long)
  where
    has_turn : (turns : List TurnData) → (¬ EachTurn IsQuiet held turns) → 1 ≤ length turns
    has_turn [] moved = absurd (moved tt)
    has_turn (turn ∷ turns) moved = omega arith

-- all turns of passes are as wanted where they stand
pub passes_each : (Wanted : List (List ℕ) → TurnData → Type 0) (crowd : CrowdData) (number : ℕ) (held : List (List ℕ)) (passes : List (List TurnData))
    → ArePasses Wanted crowd number held passes → EachTurn Wanted held (joined passes)
passes_each Wanted crowd number held [] are = tt
passes_each Wanted crowd number held (x ∷ xs) are =
    subst (EachTurn Wanted held) (sym (flat_map-cons (λ (pass : List TurnData). pass) x xs))
    (each_append Wanted held x (joined xs) are.0.each (passes_each Wanted crowd (number + 1) (after_turns held x) xs are.2))

pub made_each : (Wanted : List (List ℕ) → TurnData → Type 0) (crowd : CrowdData) (start : List (List ℕ)) (turns : List TurnData) (passes : ℕ)
    → IsMadeOf Wanted crowd start turns passes → EachTurn Wanted start turns
made_each Wanted crowd start turns passes is = subst (EachTurn Wanted start) is.joined (passes_each Wanted crowd 1 start is.by_pass is.whole)

-- passes are numbered from their first number on
numbered : (least pass : ℕ) (turns : List TurnData) (order : List ℕ) → least ≤ pass → map due_of turns ≡ map (λ student. (pass, student)) order
    → All (λ turn. least ≤ turn.pass) turns
numbered least pass [] order up due = λ k d low. absurd (omega arith)
numbered least pass (turn ∷ turns) [] up due = absurd (cc due)
numbered least pass (turn ∷ turns) (student ∷ order) up due =
    let head : due_of turn ≡ (pass, student) = cc due in
    let tail : map due_of turns ≡ map (λ student. (pass, student)) order = cc due in
    let here : turn.pass ≡ pass = ap (λ (key : ℕ × ℕ). key.0) head in
    All-cons (λ turn. least ≤ turn.pass) turn turns (omega arith) (numbered least pass turns order up tail)

passes_numbered : (Wanted : List (List ℕ) → TurnData → Type 0) (crowd : CrowdData) (least number : ℕ) (held : List (List ℕ)) (passes : List (List TurnData))
    → least ≤ number → ArePasses Wanted crowd number held passes → All (λ turn. least ≤ turn.pass) (joined passes)
passes_numbered Wanted crowd least number held [] up are = λ k d low. absurd (omega arith)
passes_numbered Wanted crowd least number held (x ∷ xs) up are =
    subst (All (λ turn. least ≤ turn.pass)) (sym (flat_map-cons (λ (pass : List TurnData). pass) x xs))
    (All-append (λ turn. least ≤ turn.pass) x (joined xs)
    (numbered least number x (after_order_of (map (λ student. student.budget) crowd.students)) up are.0.due)
    (passes_numbered Wanted crowd least (number + 1) (after_turns held x) xs (omega arith) are.2))

pub made_numbered : (Wanted : List (List ℕ) → TurnData → Type 0) (crowd : CrowdData) (start : List (List ℕ)) (turns : List TurnData) (passes : ℕ)
    → IsMadeOf Wanted crowd start turns passes → All (λ turn. 1 ≤ turn.pass) turns
made_numbered Wanted crowd start turns passes is =
    subst (All (λ turn. 1 ≤ turn.pass)) is.joined (passes_numbered Wanted crowd 1 1 start is.by_pass (omega arith) is.whole)

-- a turn is known by its parts
same_turn : (x y : TurnData) → x.pass ≡ y.pass → x.student ≡ y.student → x.allowed ≡ y.allowed → x.bundle ≡ y.bundle → x ≡ y
same_turn x y pass student allowed bundle = λ i. record { pass = pass i; student = student i; allowed = allowed i; bundle = bundle i }

-- of one pass and student there is one turn
one_turn : (terms : Terms) (held : List (List ℕ)) (x y : TurnData) → IsTurn terms held x → IsTurn terms held y → due_of x ≡ due_of y → x ≡ y
one_turn terms held x y is also due =
    let pass : x.pass ≡ y.pass = ap (λ (key : ℕ × ℕ). key.0) due in
    let student : x.student ≡ y.student = ap (λ (key : ℕ × ℕ). key.1) due in
    let allowed : x.allowed ≡ y.allowed = is.choices ∙ ap (may_choose terms.seats held) student ∙ sym also.choices in
    let both : Some is.who ≡ Some also.who = sym is.listed ∙ ap (slice_get terms.crowd.students) student ∙ also.listed in
    let who : is.who ≡ also.who = cc both in
    let mine : x.bundle ≡ best is.who.menu (price_in terms.prices) (raised_by terms.raise is.who.budget) x.allowed =
    best-only is.who.menu (price_in terms.prices) (raised_by terms.raise is.who.budget) x.allowed x.bundle is.best in
    let yours : y.bundle ≡ best also.who.menu (price_in terms.prices) (raised_by terms.raise also.who.budget) y.allowed =
    best-only also.who.menu (price_in terms.prices) (raised_by terms.raise also.who.budget) y.allowed y.bundle also.best in
    let bundle : x.bundle ≡ y.bundle =
    mine ∙ ap (λ w. best w.menu (price_in terms.prices) (raised_by terms.raise w.budget) x.allowed) who
    ∙ ap (best also.who.menu (price_in terms.prices) (raised_by terms.raise also.who.budget)) allowed ∙ sym yours in
    same_turn x y pass student allowed bundle

one_list : (terms : Terms) (held : List (List ℕ)) (xs ys : List TurnData) → EachTurn (IsTurn terms) held xs → EachTurn (IsTurn terms) held ys
    → map due_of xs ≡ map due_of ys → xs ≡ ys
one_list terms held [] [] are also due = refl
one_list terms held [] (y ∷ ys) are also due = absurd (cc due)
one_list terms held (x ∷ xs) [] are also due = absurd (cc due)
one_list terms held (x ∷ xs) (y ∷ ys) are also due =
    let head : due_of x ≡ due_of y = cc due in
    let tail : map due_of xs ≡ map due_of ys = cc due in
    let first : x ≡ y = one_turn terms held x y are.0 also.0 head in
    let rest : xs ≡ ys = one_list terms (after_turn held x) xs ys are.1 (subst (λ t. EachTurn (IsTurn terms) (after_turn held t) ys) (sym first) also.1) tail in
    ap (λ t. t ∷ xs) first ∙ ap (λ ts. y ∷ ts) rest

-- a pass is one
one_pass : (terms : Terms) (number : ℕ) (held : List (List ℕ)) (x y : List TurnData) → IsPass (IsTurn terms) terms.crowd number held x
    → IsPass (IsTurn terms) terms.crowd number held y → x ≡ y
one_pass terms number held x y is also = one_list terms held x y is.each also.each (is.due ∙ sym also.due)

-- passes that begin are one list
one_passes : (terms : Terms) (number : ℕ) (held : List (List ℕ)) (x y : List TurnData) (xs ys : List (List TurnData))
    → ArePasses (IsTurn terms) terms.crowd number held (x ∷ xs) → ArePasses (IsTurn terms) terms.crowd number held (y ∷ ys) → x ∷ xs ≡ y ∷ ys
one_passes terms number held x y [] [] are also = ap (λ t. t ∷ []) (one_pass terms number held x y are.0 also.0)
one_passes terms number held x y [] (v ∷ vs) are also =
    let none : v ∷ vs ≡ [] = also.1.0 (subst (EachTurn IsQuiet held) (one_pass terms number held x y are.0 also.0) (are.1.1 refl)) in
    absurd (cc none)
one_passes terms number held x y (u ∷ us) [] are also =
    let none : u ∷ us ≡ [] = are.1.0 (subst (EachTurn IsQuiet held) (sym (one_pass terms number held x y are.0 also.0)) (also.1.1 refl)) in
    absurd (cc none)
one_passes terms number held x y (u ∷ us) (v ∷ vs) are also =
    let first : x ≡ y = one_pass terms number held x y are.0 also.0 in
    let rest : u ∷ us ≡ v ∷ vs =
    one_passes terms (number + 1) (after_turns held x) u v us vs are.2
    (subst (λ t. ArePasses (IsTurn terms) terms.crowd (number + 1) (after_turns held t) (v ∷ vs)) (sym first) also.2) in
    ap (λ t. t ∷ u ∷ us) first ∙ ap (λ ts. y ∷ ts) rest

one_by_pass : (terms : Terms) (start : List (List ℕ)) (xs ys : List (List TurnData)) → ArePasses (IsTurn terms) terms.crowd 1 start xs
    → ArePasses (IsTurn terms) terms.crowd 1 start ys → ((xs ≡ []) ↔ (ys ≡ [])) → xs ≡ ys
one_by_pass terms start [] ys are also none = sym (none.0 refl)
one_by_pass terms start (x ∷ xs) [] are also none = none.1 refl
one_by_pass terms start (x ∷ xs) (y ∷ ys) are also none = one_passes terms 1 start x y xs ys are also

pub one_aftermarket : OneAftermarket
one_aftermarket terms start one other m n is also =
    let same : is.by_pass ≡ also.by_pass =
    one_by_pass terms start is.by_pass also.by_pass is.whole also.whole (λ e. also.some.1 (is.some.0 e), λ e. is.some.1 (also.some.0 e)) in
    (sym is.joined ∙ ap joined same ∙ also.joined, sym is.number ∙ ap length same ∙ also.number)

-- a turn of each of these students can be made
record SomeTurns (terms : Terms) (pass : ℕ) (order : List ℕ) (held : List (List ℕ)) : Type 0 where
  turns : List TurnData
  due : map due_of turns ≡ map (λ student. (pass, student)) order
  each : EachTurn (IsTurn terms) held turns

some_turns : (terms : Terms) (pass : ℕ) (order : List ℕ) (held : List (List ℕ)) → All (λ student. student < length terms.crowd.students) order
    → SomeTurns terms pass order held
some_turns terms pass [] held low = record { turns = []; due = refl; each = tt }
some_turns terms pass (student ∷ order) held low =
    let who = slice_index_or terms.crowd.students student nobody in
    let listed : slice_get terms.crowd.students student ≡ Some who = slice_get-get_or terms.crowd.students student nobody (low 0 0 (omega arith)) in
    let allowed = may_choose terms.seats held student in
    let turn : TurnData =
    record { pass = pass; student = student; allowed = allowed; bundle = best who.menu (price_in terms.prices) (raised_by terms.raise who.budget) allowed } in
    let is : IsTurn terms held turn =
    record { who = who; listed = listed; choices = refl; best = best-is who.menu (price_in terms.prices) (raised_by terms.raise who.budget) allowed } in
    let rest = some_turns terms pass order (after_turn held turn) (λ k d within. low (suc k) d (let h : suc k < suc (length order) = omega arith in h)) in
    record { turns = turn ∷ rest.turns; due = ap (λ more. (pass, student) ∷ more) rest.due; each = (is, rest.each) }
  where
    nobody : Student
    nobody = record { menu = record { places = []; pairs = []; clashes = []; credits = 0; courses = 0 }; budget = 0 }

-- the students of the order are the crowd's
pub order_low : (budgets : List ℕ) → All (λ student. student < length budgets) (after_order_of budgets)
order_low budgets =
    All-permutation (λ student. student < length budgets) (range_with_len 0 (length budgets)) (after_order_of budgets) (after_order_law budgets).each
    (range_low (length budgets))
  where
    range_low : (n : ℕ) → All (λ student. student < n) (range_with_len 0 n)
    range_low n k d within =
        let low : k < n = rw (length-range_with_len 0 n) at within in
        rw (get_or-range_with_len 0 n k d low) (omega arith)

students_low : (crowd : CrowdData) → All (λ student. student < length crowd.students) (after_order_of (map (λ student. student.budget) crowd.students))
students_low crowd =
    subst (λ n. All (λ student. student < n) (after_order_of (map (λ (student : Student). student.budget) crowd.students)))
    (length-map crowd.students (λ (student : Student). student.budget)) (order_low (map (λ (student : Student). student.budget) crowd.students))

not_none : (x : List TurnData) (xs : List (List TurnData)) → x ∷ xs ≡ [] → ⊥
not_none x xs e = cc

-- passes that end, from these bundles on
record SomePasses (terms : Terms) (number : ℕ) (held : List (List ℕ)) : Type 0 where
  first : List TurnData
  later : List (List TurnData)
  are : ArePasses (IsTurn terms) terms.crowd number held (first ∷ later)

-- the next pass, and what it comes to
record NextPass (terms : Terms) (number : ℕ) (held : List (List ℕ)) : Type 0 where
  turns : List TurnData
  is : IsPass (IsTurn terms) terms.crowd number held turns
  comes_to : Comes terms held turns

next_pass : (terms : Terms) (number : ℕ) (held : List (List ℕ)) → IsCrowd terms.crowd → AreChoices terms held → NextPass terms number held
next_pass terms number held known choices =
    let made = some_turns terms number (after_order_of (map (λ student. student.budget) terms.crowd.students)) held (students_low terms.crowd) in
    record { turns = made.turns; is = record { due = made.due; each = made.each }; comes_to = comes terms held made.turns known choices made.each }

some_passes : (fuel : ℕ) (terms : Terms) (number : ℕ) (held : List (List ℕ)) → IsCrowd terms.crowd → AreChoices terms held
    → left terms.crowd.sections terms.crowd.students held ≤ fuel → SomePasses terms number held
some_passes zero terms number held known choices enough =
    let next = next_pass terms number held known choices in
    elim next.comes_to.told [
      | inl quiet ↦ record { first = next.turns; later = []; are = (next.is, (λ q. refl, λ e. quiet.0), tt) }
      | inr busy ↦ let less = busy.1 in absurd (omega (arith, less, enough))
    ]
some_passes (suc fuel) terms number held known choices enough =
    let next = next_pass terms number held known choices in
    elim next.comes_to.told [
      | inl quiet ↦ record { first = next.turns; later = []; are = (next.is, (λ q. refl, λ e. quiet.0), tt) }
      | inr busy ↦
          let less = busy.1 in
          let rest = some_passes fuel terms (number + 1) (after_turns held next.turns) known next.comes_to.choices (omega (arith, less, enough)) in
          record {
            first = next.turns;
            later = rest.first ∷ rest.later;
            are = (next.is, (λ q. absurd (busy.0 q), λ e. absurd (not_none rest.first rest.later e)), rest.are);
          }
    ]

none_or_some : {A : Type 0} (xs : List A) → (xs ≡ []) ⊎ (xs ≢ [])
none_or_some [] = inl refl
none_or_some (x ∷ xs) = inr (λ e. cc)

pub aftermarket_ends : AftermarketEnds
aftermarket_ends terms known = elim (none_or_some terms.crowd.students) [
  | inl none ↦ ([], 0, record { by_pass = []; whole = tt; some = (λ e. none, λ e. refl); joined = refl; number = refl })
  | inr some ↦
      let passes = some_passes (left terms.crowd.sections terms.crowd.students (start_of terms)) terms 1 (start_of terms) known (start_choices terms) (omega arith) in (
        joined (passes.first ∷ passes.later),
        length (passes.first ∷ passes.later),
        record {
          by_pass = passes.first ∷ passes.later;
          whole = passes.are;
          some = (λ e. absurd (not_none passes.first passes.later e), λ e. absurd (some e));
          joined = refl;
          number = refl;
        },
      )
]

pub changes_are_preferred : ChangesArePreferred
changes_are_preferred terms turns passes is front later turn split =
    let each = subst (EachTurn (IsTurn terms) (start_of terms)) split (made_each (IsTurn terms) terms.crowd (start_of terms) turns passes is) in
    let before = each_front (IsTurn terms) (start_of terms) front (turn ∷ later) each in
    let here = each_later (IsTurn terms) (start_of terms) front (turn ∷ later) each in
    turn_told terms (after_turns (start_of terms) front) turn (choices_stay terms (start_of terms) front (start_choices terms) before) here.0

pub stays_within_seats : StaysWithinSeats
stays_within_seats terms start turns passes within is front later split =
    let each = subst (EachTurn (IsTurn terms) start) split (made_each (IsTurn terms) terms.crowd start turns passes is) in
    within_stays terms terms.crowd.sections start front within (each_front (IsTurn terms) start front later each)
