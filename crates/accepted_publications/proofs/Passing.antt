-- The turns of an aftermarket by their numbers: of which pass and of which student each is, and which passes are without a change. Turns,
-- places in a pass and passes are numbered here from 0.
use Rattle.std.proofs.Common.{ℕ, zero, suc, ◌≡◌, ◌<◌, ◌+◌, ◌*◌, ◌∙◌, Some, List, [], ◌∷◌, ◌++◌, length, map, take, get_or, refl, ap, sym, subst, arith}
use Rattle.std.specs.Prelude.{slice_get}
use Rattle.std.specs.List.{flat_map}
use Rattle.std.proofs.Math.Nat.{suc-mul}
use Rattle.std.proofs.Math.Seq.{take-append-add}
use Rattle.std.proofs.lemmas.List.{get_or-append-add, get_or-map, get_or_append_left, length-append, length-map, take-append-le}
use Rattle.std.proofs.lemmas.Option.{slice_get-get_or}
use Rattle.aftermarket_stage.specs.Passes.{ArePasses, due_of}
use Rattle.aftermarket_stage.specs.Turns.{EachTurn, IsQuiet, TurnData, after_turn, after_turns}
use Rattle.demand_api.specs.Crowds.{CrowdData, Student}
use Rattle.certificate_checker.specs.Turns.{order_in}
use Rattle.published_market.specs.Turns.{no_turn}
use Rattle.certificate_checker.proofs.Reading.{moved}
use Rattle.certificate_checker.proofs.Turning.{order_length}
use Rattle.aftermarket_stage.proofs.Turning.{after_append}

-- the turn of a number
abbrev pub turn_at : List TurnData → ℕ → TurnData
turn_at turns k = get_or turns k no_turn

-- it is as wanted where it stands
abbrev pub IsAt : (List (List ℕ) → TurnData → Type 0) → List (List ℕ) → List TurnData → ℕ → Type 0
IsAt Wanted held turns k = Wanted (after_turns held (take k turns)) (turn_at turns k)

-- each turn is as wanted, where all are, and the other way round
pub each_at : (Wanted : List (List ℕ) → TurnData → Type 0) (held : List (List ℕ)) (turns : List TurnData) → EachTurn Wanted held turns → (k : ℕ)
    → k < length turns → IsAt Wanted held turns k
each_at Wanted held [] are k low = absurd (omega arith)
each_at Wanted held (turn ∷ turns) are zero low = are.0
each_at Wanted held (turn ∷ turns) are (suc k) low = each_at Wanted (after_turn held turn) turns are.1 k (omega arith)

each_of : (Wanted : List (List ℕ) → TurnData → Type 0) (held : List (List ℕ)) (turns : List TurnData) → ((k : ℕ) → k < length turns → IsAt Wanted held turns k)
    → EachTurn Wanted held turns
each_of Wanted held [] all = tt
each_of Wanted held (turn ∷ turns) all = (all 0 (omega arith), each_of Wanted (after_turn held turn) turns (λ k low. all (suc k) (omega arith)))

-- so it is of a turn in the front and in the whole, and of one behind the front
module _ (Wanted : List (List ℕ) → TurnData → Type 0) (held : List (List ℕ)) (front later : List TurnData) where
  held_in_front : (k : ℕ) → k < length front → after_turns held (take k (front ++ later)) ≡ after_turns held (take k front)
  held_in_front k low = ap (after_turns held) (take-append-le k front later (omega arith))

  of_front : (k : ℕ) → k < length front → IsAt Wanted held (front ++ later) k → IsAt Wanted held front k
  of_front k low is = moved Wanted _ _ _ _ (held_in_front k low) (get_or_append_left front later no_turn k low) is

  to_front : (k : ℕ) → k < length front → IsAt Wanted held front k → IsAt Wanted held (front ++ later) k
  to_front k low is = moved Wanted _ _ _ _ (sym (held_in_front k low)) (sym (get_or_append_left front later no_turn k low)) is

  held_behind : (k : ℕ) → after_turns held (take (length front + k) (front ++ later)) ≡ after_turns (after_turns held front) (take k later)
  held_behind k = ap (after_turns held) (take-append-add front later k) ∙ after_append held front (take k later)

  of_behind : (k : ℕ) → IsAt Wanted held (front ++ later) (length front + k) → IsAt Wanted (after_turns held front) later k
  of_behind k is = moved Wanted _ _ _ _ (held_behind k) (get_or-append-add front later k no_turn) is

  to_behind : (k : ℕ) → IsAt Wanted (after_turns held front) later k → IsAt Wanted held (front ++ later) (length front + k)
  to_behind k is = moved Wanted _ _ _ _ (sym (held_behind k)) (sym (get_or-append-add front later k no_turn)) is

-- the turn has this pass, and the student at this place of the order
pub record IsTurnOf (order : List ℕ) (pass place : ℕ) (turn : TurnData) : Type 0 where
  pub in_pass : turn.pass ≡ pass
  pub next : slice_get order place ≡ Some turn.student

-- all turns of a pass are without a change
abbrev pub IsQuietPassAt : ℕ → List (List ℕ) → List TurnData → ℕ → Type 0
IsQuietPassAt students held turns pass = (place : ℕ) → place < students → IsAt IsQuiet held turns (pass * students + place)

-- the turns are those of so many passes, which have their numbers from the first one on; the last one alone is without a change
pub record ArePassesOf (order : List ℕ) (students first : ℕ) (held : List (List ℕ)) (turns : List TurnData) (passes : ℕ) : Type 0 where
  pub long : length turns ≡ passes * students
  pub due : (pass place : ℕ) → pass < passes → place < students → IsTurnOf order (first + pass) place (turn_at turns (pass * students + place))
  pub changed : (pass : ℕ) → pass + 1 < passes → ¬ IsQuietPassAt students held turns pass
  pub quiet : (pass : ℕ) → pass + 1 ≡ passes → IsQuietPassAt students held turns pass

-- the turns of one pass
module _ (order : List ℕ) (pass : ℕ) (turns : List TurnData) (due : map due_of turns ≡ map {B = ℕ × ℕ} (λ student. (pass, student)) order) where
  abbrev pair_of : ℕ → ℕ × ℕ
  pair_of student = (pass, student)

  pass_long : length turns ≡ length order
  pass_long = sym (length-map turns due_of) ∙ ap (λ (all : List (ℕ × ℕ)). length all) due ∙ length-map order (λ student. (pass, student))

  pass_due : (place : ℕ) → place < length order → IsTurnOf order pass place (turn_at turns place)
  pass_due place low =
      let long = pass_long in
      let mine : get_or (map due_of turns) place (0, 0) ≡ due_of (turn_at turns place) = get_or-map due_of turns place no_turn (0, 0) (omega arith) in
      let theirs : get_or (map {B = ℕ × ℕ} (λ student. (pass, student)) order) place (0, 0) ≡ (pass, get_or order place 0) =
      get_or-map pair_of order place 0 (0, 0) low in
      let same : due_of (turn_at turns place) ≡ (pass, get_or order place 0) = sym mine ∙ ap (λ (all : List (ℕ × ℕ)). get_or all place (0, 0)) due ∙ theirs in
      record {
        in_pass = ap (λ (both : ℕ × ℕ). both.0) same;
        next = slice_get-get_or order place 0 low ∙ ap Some (sym (ap (λ (both : ℕ × ℕ). both.1) same));
      }

-- one pass in front of others
module _ (order : List ℕ) (students first : ℕ) (held : List (List ℕ)) (turns later : List TurnData) (count : ℕ)
    (long : length turns ≡ students) (each : (place : ℕ) → place < students → IsTurnOf order first place (turn_at turns place))
    (rest : ArePassesOf order students (first + 1) (after_turns held turns) later count) where
  -- the number of a turn of the first pass, and of one behind it
  in_first : (place : ℕ) → 0 * students + place ≡ place
  in_first place = omega arith

  shifted : (pass place : ℕ) → suc pass * students + place ≡ length turns + (pass * students + place)
  shifted pass place = let one = suc-mul pass students in omega arith

  due_more : (pass place : ℕ) → pass < suc count → place < students → IsTurnOf order (first + pass) place (turn_at (turns ++ later) (pass * students + place))
  due_more zero place inside low =
      let here : turn_at (turns ++ later) (0 * students + place) ≡ turn_at turns place =
      ap (turn_at (turns ++ later)) (in_first place) ∙ get_or_append_left turns later no_turn place (omega arith) in
      let number : first + 0 ≡ first = omega arith in
      moved (λ pass turn. IsTurnOf order pass place turn) first (first + 0) (turn_at turns place) (turn_at (turns ++ later) (0 * students + place)) (sym number)
      (sym here) (each place low)
  due_more (suc pass) place inside low =
      let there : turn_at (turns ++ later) (suc pass * students + place) ≡ turn_at later (pass * students + place) =
      ap (turn_at (turns ++ later)) (shifted pass place) ∙ get_or-append-add turns later (pass * students + place) no_turn in
      let number : first + 1 + pass ≡ first + suc pass = omega arith in
      moved (λ pass turn. IsTurnOf order pass place turn) (first + 1 + pass) (first + suc pass) (turn_at later (pass * students + place))
      (turn_at (turns ++ later) (suc pass * students + place)) number (sym there) (rest.due pass place (omega arith) low)

  quiet_front : IsQuietPassAt students held (turns ++ later) 0 → EachTurn IsQuiet held turns
  quiet_front are =
      each_of IsQuiet held turns
      (λ k low. of_front IsQuiet held turns later k low (subst (IsAt IsQuiet held (turns ++ later)) (in_first k) (are k (omega arith))))

  quiet_first : EachTurn IsQuiet held turns → IsQuietPassAt students held (turns ++ later) 0
  quiet_first are place low =
      subst (IsAt IsQuiet held (turns ++ later)) (sym (in_first place))
      (to_front IsQuiet held turns later place (omega arith) (each_at IsQuiet held turns are place (omega arith)))

  quiet_later : (pass : ℕ) → IsQuietPassAt students held (turns ++ later) (suc pass) → IsQuietPassAt students (after_turns held turns) later pass
  quiet_later pass are place low =
      of_behind IsQuiet held turns later (pass * students + place) (subst (IsAt IsQuiet held (turns ++ later)) (shifted pass place) (are place low))

  quiet_more : (pass : ℕ) → IsQuietPassAt students (after_turns held turns) later pass → IsQuietPassAt students held (turns ++ later) (suc pass)
  quiet_more pass are place low =
      subst (IsAt IsQuiet held (turns ++ later)) (sym (shifted pass place)) (to_behind IsQuiet held turns later (pass * students + place) (are place low))

  changed_more : (0 < count → ¬ EachTurn IsQuiet held turns) → (pass : ℕ) → pass + 1 < suc count → ¬ IsQuietPassAt students held (turns ++ later) pass
  changed_more front zero inside are = front (omega arith) (quiet_front are)
  changed_more front (suc pass) inside are = rest.changed pass (omega arith) (quiet_later pass are)

  quiet_last : (count ≡ 0 → EachTurn IsQuiet held turns) → (pass : ℕ) → pass + 1 ≡ suc count → IsQuietPassAt students held (turns ++ later) pass
  quiet_last front zero inside = quiet_first (front (omega arith))
  quiet_last front (suc pass) inside = quiet_more pass (rest.quiet pass (omega arith))

  pub with_first : (0 < count → ¬ EachTurn IsQuiet held turns) → (count ≡ 0 → EachTurn IsQuiet held turns)
      → ArePassesOf order students first held (turns ++ later) (suc count)
  with_first moves ends = record {
    long = let all = length-append turns later in let more = rest.long in let one = suc-mul count students in omega arith;
    due = due_more;
    changed = changed_more moves;
    quiet = quiet_last ends;
  }

-- an order has a place for each student
pub order_long : (crowd : CrowdData) → length (order_in crowd) ≡ length crowd.students
order_long crowd = order_length (map (λ (student : Student). student.budget) crowd.students) ∙ length-map crowd.students (λ (student : Student). student.budget)

none_left : {A : Type 0} (xs : List A) → length xs ≡ 0 → xs ≡ []
none_left [] long = refl
none_left (x ∷ xs) long = absurd (omega arith)

-- the turns of passes are those of so many passes
pub passes_of : (Wanted : List (List ℕ) → TurnData → Type 0) (crowd : CrowdData) (first : ℕ) (held : List (List ℕ)) (by_pass : List (List TurnData))
    → ArePasses Wanted crowd first held by_pass
    → ArePassesOf (order_in crowd) (length crowd.students) first held (flat_map (λ pass. pass) by_pass) (length by_pass)
passes_of Wanted crowd first held [] are = record {
  long = omega arith;
  due = λ pass place inside low. absurd (omega arith);
  changed = λ pass inside quiet. absurd (omega arith);
  quiet = λ pass inside place low. absurd (omega arith);
}
passes_of Wanted crowd first held (turns ∷ later) are =
    let same = order_long crowd in
    let long = pass_long (order_in crowd) first turns are.0.due in
    with_first (order_in crowd) (length crowd.students) first held turns (flat_map (λ pass. pass) later) (length later) (omega arith)
    (λ place low. pass_due (order_in crowd) first turns are.0.due place (omega arith))
    (passes_of Wanted crowd (first + 1) (after_turns held turns) later are.2)
    (λ some quiet. let none : length later ≡ 0 = ap (λ (all : List (List TurnData)). length all) (are.1.0 quiet) in absurd (omega arith))
    (λ none. are.1.1 (none_left later none))
