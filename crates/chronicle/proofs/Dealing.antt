-- The seats of a chronicle: how the first is made, and how the others are split off.
use Rattle.std.proofs.Common.{◌≡◌, ◌≢◌, ◌+◌, ◌-◌, ◌^◌, ◌≤◌, ◌<◌, ◌++◌, ◌∷◌, [], ℕ, zero, suc, List, length, Bool, refl, sym, ap, subst, ◌∙◌, arith, take, drop, slice_index, slice_index_or, length-take-le}
use Rattle.std.proofs.Math.Seq.{take-suc}
use Rattle.std.specs.Prelude.{Some}
use Rattle.std.specs.Vec.{vec_capacity}
use Rattle.std.proofs.lemmas.List.{drop_all}
use Rattle.atomic_table.specs.Seated.{TableId}
use Rattle.atomic_table.specs.Table.{opening, Splits}
use Rattle.chronicle.specs.declared.journal.StepOf.{StepOf}
use Rattle.chronicle.specs.declared.kept.Kept.{Kept}
use Rattle.chronicle.specs.declared.origin.Origin.{Origin}
use Rattle.chronicle.specs.declared.standing.Standing.{Standing}
use Rattle.chronicle.specs.declared.view.View.{View}
use Rattle.chronicle.specs.History.{calls_by}
use Rattle.chronicle.specs.Rule.{Keeps}
use Rattle.chronicle.specs.Seats.{origin, standing, standing_of, new_seats, IsAtRest, IsDealing}
use Rattle.chronicle.specs.Turn.{Place}
use Rattle.chronicle.specs.Views.{sum_of, first_of, rest_of, first_view, dealt, dealt_seat, split_left, split_right}
use Rattle.chronicle.proofs.SeatSteps.{opens, deals, plan_parts}

sum_of-take-suc : (i : ℕ) (xs : List ℕ) → i < length xs → sum_of (take (suc i) xs) ≡ sum_of (take i xs) + slice_index xs i
sum_of-take-suc zero [] below = absurd (omega arith)
sum_of-take-suc zero (x ∷ xs) below = (let goal : x + 0 ≡ 0 + x = omega arith in goal)
sum_of-take-suc (suc i) [] below = absurd (omega arith)
sum_of-take-suc (suc i) (x ∷ xs) below =
    let rest = sum_of-take-suc i xs (omega arith) in
    let a : ℕ = sum_of (take (suc i) xs) in
    let b : ℕ = sum_of (take i xs) in
    let d : ℕ = slice_index xs i in
    let rest' : a ≡ b + d = rest in
    let goal : x + a ≡ x + b + d = omega arith in goal

-- the sum of one number more
sum_of-take : (i : ℕ) (xs : List ℕ) → i < length xs → sum_of (take (i + 1) xs) ≡ sum_of (take i xs) + slice_index xs i
sum_of-take i xs below = ap (λ (n : ℕ). sum_of (take n xs)) (let next : i + 1 ≡ suc i = omega arith in next) ∙ sum_of-take-suc i xs below

-- what the numbers so far sum up to, with the next one
pub sum_with_next : (i calls : ℕ) (xs : List ℕ) → i < length xs → calls ≡ sum_of (take i xs) → calls + slice_index xs i ≡ sum_of (take (i + 1) xs)
sum_with_next i calls xs below so_far = ap (λ (n : ℕ). n + slice_index xs i) so_far ∙ sym (sum_of-take i xs below)

-- a beginning sums up to no more
pub sum_of-take-le : (i : ℕ) (xs : List ℕ) → sum_of (take i xs) ≤ sum_of xs
sum_of-take-le zero xs = (let k : ℕ = sum_of xs in let goal : 0 ≤ k = omega arith in goal)
sum_of-take-le (suc i) [] = (let goal : 0 ≤ 0 = omega arith in goal)
sum_of-take-le (suc i) (x ∷ xs) =
    let rest = sum_of-take-le i xs in
    let a : ℕ = sum_of (take i xs) in let b : ℕ = sum_of xs in let rest' : a ≤ b = rest in let goal : x + a ≤ x + b = omega arith in goal

drop_some : (i : ℕ) (xs : List ℕ) → i < length xs → drop i xs ≢ []
drop_some zero [] below e = (let clash : ⊥ = omega arith in clash)
drop_some zero (x ∷ xs) below e = absurd (cc)
drop_some (suc i) [] below e = (let clash : ⊥ = omega arith in clash)
drop_some (suc i) (x ∷ xs) below e = drop_some i xs (omega arith) e

first_of-drop : (i : ℕ) (xs : List ℕ) → first_of (drop i xs) ≡ slice_index xs i
first_of-drop zero [] = refl
first_of-drop zero (x ∷ xs) = refl
first_of-drop (suc i) [] = refl
first_of-drop (suc i) (x ∷ xs) = first_of-drop i xs

rest_of-drop-suc : (i : ℕ) (xs : List ℕ) → rest_of (drop i xs) ≡ drop (suc i) xs
rest_of-drop-suc zero [] = refl
rest_of-drop-suc zero (x ∷ xs) = refl
rest_of-drop-suc (suc i) [] = refl
rest_of-drop-suc (suc i) (x ∷ xs) = rest_of-drop-suc i xs

rest_of-drop : (i : ℕ) (xs : List ℕ) → rest_of (drop i xs) ≡ drop (i + 1) xs
rest_of-drop i xs = rest_of-drop-suc i xs ∙ ap (λ (n : ℕ). drop n xs) (let next : suc i ≡ i + 1 = omega arith in next)

module _ {T B S Q A : Type 0} where
  -- the first seat, as it comes
  pub dealing_first : (o : Origin B S) (me : Place T B S Q A) → me ≡ (first_view o.base o.opening o.allotments, []) → IsDealing o 1 me
  dealing_first o me is = subst (λ (m : Place T B S Q A). IsDealing o 1 m) (sym is) (record {
    view = _;
    is = refl;
    same_base = refl;
    same_opening = refl;
    same_allotments = refl;
    first = refl;
    idle = refl;
    alone = (refl, refl);
    nothing_seen = (refl, refl);
    made_is = refl;
    plan_is = rest_of-drop 0 o.allotments;
    left_is = plan_parts o.allotments;
  })

  -- once one more seat is split off
  pub dealing_next : (o : Origin B S) (number : ℕ) (me new : Place T B S Q A) → IsDealing o number me → new ≡ (split_left me.0, me.1)
      → IsDealing o (number + 1) new
  dealing_next o number me new d is =
      let v : View B S Q A = d.view in
      let a : ℕ = first_of v.plan in
      let rest : ℕ = sum_of (rest_of v.plan) in
      let whole : ℕ = sum_of v.plan in
      let parts : whole ≡ a + rest = plan_parts v.plan in
      let own : ℕ = first_of o.allotments in
      let left : v.left ≡ own + whole = d.left_is in
      let at : new ≡ (Some (dealt v), []) = is ∙ ap (λ (m : Place T B S Q A). (split_left m.0, m.1)) d.is in record {
        view = dealt v;
        is = at;
        same_base = d.same_base;
        same_opening = d.same_opening;
        same_allotments = d.same_allotments;
        first = d.first;
        idle = d.idle;
        alone = d.alone;
        nothing_seen = d.nothing_seen;
        made_is = ap (λ (n : ℕ). n + 1) d.made_is;
        plan_is = ap rest_of d.plan_is ∙ rest_of-drop number o.allotments;
        left_is = (let goal : v.left - a ≡ own + rest = omega arith in goal);
      }

  -- the seat that was split off is at rest, and tells its number and allotment
  pub dealt_at_rest : (o : Origin B S) (number : ℕ) (me new : Place T B S Q A) → IsDealing o number me → number < 65535 → new ≡ (split_right me.0, [])
      → IsAtRest number new
  dealt_at_rest o number me new d low is = record {
    view = dealt_seat d.view;
    is = is ∙ ap (λ (m : Place T B S Q A). (split_right m.0, [])) d.is;
    numbered = (d.made_is, low);
    idle = refl;
    alone = (refl, refl, refl);
    all_own = refl;
  }

  pub dealt_tells : (o : Origin B S) (table : TableId) (number : ℕ) (me new : Place T B S Q A) → IsDealing o number me → table ≡ o.table
      → new ≡ (split_right me.0, [])
      → standing_of table number new.0 ≡ standing (Some o) number (slice_index o.allotments number) [] []
  dealt_tells o table number me new d same is =
      let v : View B S Q A = d.view in
      let at : new ≡ (Some (dealt_seat v), []) = is ∙ ap (λ (m : Place T B S Q A). (split_right m.0, [])) d.is in
      let left : first_of v.plan ≡ slice_index o.allotments number = ap first_of d.plan_is ∙ first_of-drop number o.allotments in
      ap (λ (m : Place T B S Q A). standing_of table number m.0) at
      ∙ (λ i. standing (Some (origin (same i) (d.same_base i) (d.same_opening i) (d.same_allotments i))) number (left i) [] [])

  -- the first seat, when all are made, is at rest, and tells its own allotment
  last_plan : (o : Origin B S) (number : ℕ) (me : Place T B S Q A) (d : IsDealing o number me) → length o.allotments ≤ number → d.view.plan ≡ []
  last_plan o number me d all = d.plan_is ∙ drop_all number o.allotments all

  pub first_at_rest : (o : Origin B S) (number : ℕ) (me : Place T B S Q A) → IsDealing o number me → length o.allotments ≤ number → IsAtRest 0 me
  first_at_rest o number me d all = record {
    view = d.view;
    is = d.is;
    numbered = (d.first, (let goal : 0 < 65535 = omega arith in goal));
    idle = d.idle;
    alone = (d.alone.0, d.alone.1, last_plan o number me d all);
    all_own = ap (λ (l : List (StepOf Q A)). calls_by d.view.number l) d.nothing_seen.0 ∙ sym d.nothing_seen.1;
  }

  pub first_tells : (o : Origin B S) (table : TableId) (number : ℕ) (me : Place T B S Q A) → IsDealing o number me → length o.allotments ≤ number
      → table ≡ o.table
      → standing_of table 0 me.0 ≡ standing (Some o) 0 (first_of o.allotments) [] []
  first_tells o table number me d all same =
      let v : View B S Q A = d.view in
      let own : ℕ = first_of o.allotments in
      let none : sum_of v.plan ≡ 0 = ap sum_of (last_plan o number me d all) in
      let left : v.left ≡ own = (let l : v.left ≡ own + sum_of v.plan = d.left_is in omega arith) in
      ap (λ (m : Place T B S Q A). standing_of table 0 m.0) d.is
      ∙ (λ i. standing (Some (origin (same i) (d.same_base i) (d.same_opening i) (d.same_allotments i))) 0 (left i) (d.nothing_seen.0 i) (d.nothing_seen.1 i))

-- there are as many new seats as allotments
pub length-new_seats : {B S : Type 0} (Q A : Type 0) (o : Origin B S) (n : ℕ) (xs : List ℕ) → length (new_seats {Q = Q} {A = A} o n xs) ≡ length xs
length-new_seats Q A o n [] = refl
length-new_seats Q A o n (x ∷ xs) = ap suc (length-new_seats Q A o (n + 1) xs)

module _ {B S Q A : Type 0} where
  -- one more of the seats that are new
  pub new_seats-push : (o : Origin B S) (n a : ℕ) (xs : List ℕ)
      → new_seats {Q = Q} {A = A} o n (xs ++ a ∷ []) ≡ new_seats o n xs ++ standing (Some o) (n + length xs) a [] [] ∷ []
  new_seats-push o n a [] = ap (λ (m : ℕ). standing (Some o) m a [] [] ∷ []) (let goal : n ≡ n + 0 = omega arith in goal)
  new_seats-push o n a (x ∷ xs) = ap (λ (l : List (Standing B S Q A)). standing (Some o) n x [] [] ∷ l)
      (new_seats-push o (n + 1) a xs
      ∙ ap (λ (m : ℕ). new_seats o (n + 1) xs ++ standing (Some o) m a [] [] ∷ [])
      (let k : ℕ = length xs in let goal : n + 1 + k ≡ n + suc k = omega arith in goal))

  -- the seat at an index
  pub new_seats-at : (o : Origin B S) (n : ℕ) (xs : List ℕ) (i : ℕ) (d : Standing B S Q A) → i < length xs
      → slice_index_or (new_seats o n xs) i d ≡ standing (Some o) (n + i) (slice_index xs i) [] []
  new_seats-at o n [] i d below = absurd (omega arith)
  new_seats-at o n (x ∷ xs) zero d below = ap (λ (m : ℕ). standing (Some o) m x [] []) (let goal : n ≡ n + 0 = omega arith in goal)
  new_seats-at o n (x ∷ xs) (suc i) d below =
      new_seats-at o (n + 1) xs i d (omega arith)
      ∙ ap (λ (m : ℕ). standing (Some o) m (slice_index xs i) [] []) (let goal : n + 1 + i ≡ n + suc i = omega arith in goal)

module _ {T B S Q A : Type 0} (base_of : T → B) (state_of : T → S) (room : T → ℕ) (sound : B → Q → Bool) (after : B → S → ℕ → Q → S)
    (reply : B → S → ℕ → Q → A) where
  pub opens_at : (xs : List (Kept T Q A)) (kept : Kept T Q A) (base : B) (state : S) (allotments : List ℕ) → xs ≡ kept ∷ [] → base ≡ base_of kept.object
      → state ≡ state_of kept.object
      → 1 ≤ length allotments → kept.journal.items ≡ [] → sum_of allotments ≤ room kept.object → sum_of allotments ≤ vec_capacity kept.journal
      → sum_of allotments < 2 ^ 64
      → Keeps base_of state_of room sound after reply (opening (0 ∷ 0 ∷ []) xs (first_view base state allotments))
  opens_at xs kept base state allotments ex eb es some_seat empty roomy wide few =
      subst (λ (y : List (Kept T Q A) × B × S). Keeps base_of state_of room sound after reply (opening (0 ∷ 0 ∷ []) y.0 (first_view y.1 y.2 allotments)))
      (λ i. (sym ex i, sym eb i, sym es i))
      (opens base_of state_of room sound after reply kept allotments some_seat empty roomy wide few)

  pub deals_at : (id : ℕ) (o : Origin B S) (number : ℕ) (me : Place T B S Q A) → IsDealing o number me → number < length o.allotments
      → Splits (Keeps base_of state_of room sound after reply) id me.0 (split_left me.0) (split_right me.0)
  deals_at id o number me d below =
      subst (λ (m : Place T B S Q A). Splits (Keeps base_of state_of room sound after reply) id m.0 (split_left m.0) (split_right m.0)) (sym d.is)
      (deals base_of state_of room sound after reply id d.view d.idle (λ none. drop_some number o.allotments below (sym d.plan_is ∙ none)))

rest_of-push : (xs : List ℕ) (a : ℕ) → 1 ≤ length xs → rest_of (xs ++ a ∷ []) ≡ rest_of xs ++ a ∷ []
rest_of-push [] a some_seat = absurd (omega arith)
rest_of-push (x ∷ xs) a some_seat = refl

length-rest_of : (xs : List ℕ) → 1 ≤ length xs → length (rest_of xs) + 1 ≡ length xs
length-rest_of [] some_seat = absurd (omega arith)
length-rest_of (x ∷ xs) some_seat = (let k : ℕ = length xs in let goal : k + 1 ≡ suc k = omega arith in goal)

take_all : (n : ℕ) (xs : List ℕ) → length xs ≤ n → take n xs ≡ xs
take_all zero [] h = refl
take_all zero (x ∷ xs) h = absurd (omega arith)
take_all (suc n) [] h = refl
take_all (suc n) (x ∷ xs) h = ap (λ (l : List ℕ). x ∷ l) (take_all n xs (omega arith))

module _ {B S Q A : Type 0} where
  -- the seat that was split off joins the others but the first
  pub one_more_seat : (o : Origin B S) (number : ℕ) (seats : List (Standing B S Q A)) (seat : Standing B S Q A) → 1 ≤ number → number < length o.allotments
      → seats ≡ new_seats o 1 (rest_of (take number o.allotments)) → seat ≡ standing (Some o) number (slice_index o.allotments number) [] []
      → seats ++ seat ∷ [] ≡ new_seats o 1 (rest_of (take (number + 1) o.allotments))
  one_more_seat o number seats seat from below so_far is =
      let front : List ℕ = take number o.allotments in
      let a : ℕ = slice_index o.allotments number in
      let long : length front ≡ number = length-take-le number o.allotments (let goal : number ≤ length o.allotments = omega arith in goal) in
      let some_seat : 1 ≤ length front = omega arith in
      let next : take (number + 1) o.allotments ≡ front ++ a ∷ [] =
      ap (λ (n : ℕ). take n o.allotments) (let step : number + 1 ≡ suc number = omega arith in step) ∙ take-suc o.allotments number 0 below in
      let k : ℕ = length (rest_of front) in
      let short : k + 1 ≡ length front = length-rest_of front some_seat in
      let at : number ≡ 1 + k = omega arith in
      (λ i. so_far i ++ is i ∷ []) ∙ ap (λ (n : ℕ). new_seats o 1 (rest_of front) ++ standing (Some o) n a [] [] ∷ []) at
      ∙ sym (new_seats-push o 1 a (rest_of front)) ∙ ap (λ (l : List ℕ). new_seats o 1 l) (sym (rest_of-push front a some_seat))
      ∙ ap (λ (l : List ℕ). new_seats o 1 (rest_of l)) (sym next)

  from_first : (o : Origin B S) (xs : List ℕ) → 1 ≤ length xs
      → new_seats {Q = Q} {A = A} o 0 xs ≡ standing (Some o) 0 (first_of xs) [] [] ∷ new_seats o 1 (rest_of xs)
  from_first o [] some_seat = absurd (omega arith)
  from_first o (x ∷ xs) some_seat = refl

  -- with the first, they are all
  pub every_seat : (o : Origin B S) (number : ℕ) (seats : List (Standing B S Q A)) (first : Standing B S Q A) → 1 ≤ length o.allotments
      → length o.allotments ≤ number
      → seats ≡ new_seats o 1 (rest_of (take number o.allotments)) → first ≡ standing (Some o) 0 (first_of o.allotments) [] []
      → first ∷ seats ≡ new_seats o 0 o.allotments
  every_seat o number seats first some_seat all so_far is =
      (λ i. is i ∷ so_far i)
      ∙ ap (λ (l : List ℕ). standing (Some o) 0 (first_of o.allotments) [] [] ∷ new_seats o 1 (rest_of l)) (take_all number o.allotments all)
      ∙ sym (from_first o o.allotments some_seat)
