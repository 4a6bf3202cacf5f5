-- The seats of a chronicle, gathered: a seat joins the others, and then knows of each its calls and what it had seen.
use Rattle.std.proofs.Common.{◌≡◌, ◌+◌, ◌≤◌, ◌<◌, ◌++◌, ◌∷◌, [], ℕ, List, length, map, Bool, sym, ap, subst, ◌∙◌, ⊎_elim, inl, inr, arith, length-append, slice_index_or}
use Rattle.std.specs.Prelude.{Option, Some, None}
use Rattle.std.specs.List.{All, Any, AllByRecursion as Each}
use Rattle.std.proofs.lemmas.List.Elements.{All-from_recursion}
use Rattle.std.proofs.Math.Seq.{get_or-append_seam}
use mathlib.Core.Option.{some}
use lib.ListN.{get_elem?}
use Rattle.plain_facts.proofs.Outcomes.{same_some}
use Rattle.atomic_table.specs.Seated.{TableId}
use Rattle.atomic_table.specs.Table.{State, Joins}
use Rattle.market_units.specs.Beginnings.{BeginsWith}
use Rattle.chronicle.specs.declared.journal.StepOf.{StepOf}
use Rattle.chronicle.specs.declared.kept.Kept.{Kept}
use Rattle.chronicle.specs.declared.origin.Origin.{Origin}
use Rattle.chronicle.specs.declared.standing.Standing.{Standing}
use Rattle.chronicle.specs.declared.view.View.{View}
use Rattle.chronicle.specs.History.{state_after, IsLegal, calls_by}
use Rattle.chronicle.specs.Members.{IsIn}
use Rattle.chronicle.specs.Rule.{Keeps}
use Rattle.chronicle.specs.Seats.{origin, origin_of, standing, standing_of, IsAtRest, Knows, HasJoined}
use Rattle.chronicle.specs.Turn.{Place}
use Rattle.chronicle.specs.Views.{with_seat, joined, numbers}
use Rattle.chronicle.proofs.HistoryLaws.{none_after}
use Rattle.chronicle.proofs.SeatSteps.{joins, nobody_else}
use Rattle.chronicle.proofs.ViewLists.{each_so, each_in, in_front, in_back}

pub all_last : {X : Type 0} (P : X → Type 0) (xs : List X) (x : X) → All P (xs ++ x ∷ []) → P x
all_last P xs x all =
    let long : length (xs ++ x ∷ []) ≡ length xs + 1 = length-append xs (x ∷ []) in
    subst P (get_or-append_seam xs x [] x) (all (length xs) x (let m : ℕ = length xs in let goal : m < length (xs ++ x ∷ []) = omega arith in goal))

module _ {Q A : Type 0} where
  in_numbers : (xs : List (ℕ × List (StepOf Q A))) (x : ℕ × List (StepOf Q A)) → IsIn x xs → IsIn x.0 (map (λ (y : ℕ × List (StepOf Q A)). y.0) xs)
  in_numbers [] x none = none
  in_numbers (y ∷ ys) x (inl same) = inl (ap (λ (z : ℕ × List (StepOf Q A)). z.0) same)
  in_numbers (y ∷ ys) x (inr later) = inr (in_numbers ys x later)

module _ {B S Q A : Type 0} where
  -- what a view knows it knows after it joined another
  pub knows_still : (v w : View B S Q A) (seat : Standing B S Q A) → Knows v seat → Knows (with_seat v w) seat
  knows_still v w seat k = record {
    own =
        ⊎_elim (λ h. inl h) (λ (h : IsIn (seat.number, seat.own) v.joined). inr (in_front v.joined ((w.number, w.own) ∷ w.joined) (seat.number, seat.own) h))
        k.own;
    seen = ⊎_elim (λ (e : v.seen ≡ seat.seen). inr (in_back v.noted (v.seen ∷ w.seen ∷ w.noted) seat.seen (inl e)))
        (λ (h : IsIn seat.seen v.noted). inr (in_front v.noted (v.seen ∷ w.seen ∷ w.noted) seat.seen h)) k.seen;
    all_own = k.all_own;
  }

  -- and it knows the other
  pub knows_joined : (v w : View B S Q A) (seat : Standing B S Q A) → w.number ≡ seat.number → w.own ≡ seat.own → w.seen ≡ seat.seen
      → calls_by w.number w.seen ≡ w.own → Knows (with_seat v w) seat
  knows_joined v w seat number own seen all_own = record {
    own = inr (in_back v.joined ((w.number, w.own) ∷ w.joined) (seat.number, seat.own) (inl (λ i. (number i, own i))));
    seen = inr (in_back v.noted (v.seen ∷ w.seen ∷ w.noted) seat.seen (inr (inl seen)));
    all_own = sym (λ i. calls_by (number i) (seen i)) ∙ all_own ∙ own;
  }

  -- the seats known have their numbers in the view
  pub number_known : (v : View B S Q A) (seat : Standing B S Q A) → Knows v seat → IsIn seat.number (numbers v)
  number_known v seat k =
      ⊎_elim (λ (e : (v.number ≡ seat.number) × (v.own ≡ seat.own)). inl e.0)
      (λ (h : IsIn (seat.number, seat.own) v.joined). inr (in_numbers v.joined (seat.number, seat.own) h)) k.own

module _ {T B S Q A : Type 0} where
  -- a seat by itself
  pub joined_alone : (table : TableId) (o : Origin B S) (number : ℕ) (me : Place T B S Q A) (seat : Standing B S Q A) → IsAtRest number me
      → standing_of table number me.0 ≡ seat → seat.chronicle ≡ Some o → HasJoined o (seat ∷ []) me
  joined_alone table o number me seat rest is ours =
      let v : View B S Q A = rest.view in
      let telling : standing (Some (origin table v.base v.opening v.allotments)) number v.left v.seen v.own ≡ seat =
      sym (ap (λ (m : Place T B S Q A). standing_of table number m.0) rest.is) ∙ is in
      let origin_is : origin table v.base v.opening v.allotments ≡ o = same_some (origin table v.base v.opening v.allotments) o (ap (λ (s : Standing B S Q A). s.chronicle) telling ∙ ours) in record {
        view = v;
        is = rest.is;
        same_base = ap (λ (x : Origin B S). x.base) origin_is;
        same_opening = ap (λ (x : Origin B S). x.opening) origin_is;
        same_allotments = ap (λ (x : Origin B S). x.allotments) origin_is;
        idle = rest.idle;
        dealt = rest.alone.2;
        knows = (
          record {
            own = inl (rest.numbered.0 ∙ ap (λ (s : Standing B S Q A). s.number) telling, ap (λ (s : Standing B S Q A). s.own) telling);
            seen = inl (ap (λ (s : Standing B S Q A). s.seen) telling);
            all_own =
                sym (λ i. calls_by ((rest.numbered.0 ∙ ap (λ (s : Standing B S Q A). s.number) telling) i) (telling i).seen) ∙ rest.all_own
                ∙ ap (λ (s : Standing B S Q A). s.own) telling;
          },
          tt,
        );
      }

  pub joined_none : (o : Origin B S) (seats : List (Standing B S Q A)) (me : Place T B S Q A) → HasJoined o seats me → HasJoined o [] me
  joined_none o seats me h = record {
    view = h.view;
    is = h.is;
    same_base = h.same_base;
    same_opening = h.same_opening;
    same_allotments = h.same_allotments;
    idle = h.idle;
    dealt = h.dealt;
    knows = tt;
  }

  -- one more seat is joined
  pub joined_more : (o : Origin B S) (seats : List (Standing B S Q A)) (me other new : Place T B S Q A) (table : TableId) (seat : Standing B S Q A)
      → HasJoined o seats me → IsAtRest seat.number other
      → standing_of table seat.number other.0 ≡ seat → new ≡ (joined me.0 other.0, me.1) → HasJoined o (seat ∷ seats) new
  joined_more o seats me other new table seat h rest tells is =
      let v : View B S Q A = h.view in
      let w : View B S Q A = rest.view in
      let telling : standing (origin_of table (Some w)) seat.number w.left w.seen w.own ≡ seat =
      sym (ap (λ (m : Place T B S Q A). standing_of table seat.number m.0) rest.is) ∙ tells in
      let at : new ≡ (Some (with_seat v w), []) = is ∙ (λ i. (joined (h.is i).0 (rest.is i).0, (h.is i).1)) in record {
        view = with_seat v w;
        is = at;
        same_base = h.same_base;
        same_opening = h.same_opening;
        same_allotments = h.same_allotments;
        idle = h.idle;
        dealt = h.dealt;
        knows = (
          knows_joined v w seat rest.numbered.0 (ap (λ (s : Standing B S Q A). s.own) telling) (ap (λ (s : Standing B S Q A). s.seen) telling) rest.all_own,
          each_so (Knows v) (Knows (with_seat v w)) seats (knows_still v w) h.knows,
        );
      }

module _ {T B S Q A : Type 0} (base_of : T → B) (state_of : T → S) (room : T → ℕ) (sound : B → Q → Bool) (after : B → S → ℕ → Q → S)
    (reply : B → S → ℕ → Q → A) where
  pub joins_at : (id other : ℕ) (o : Origin B S) (number : ℕ) (me it : Place T B S Q A) → HasJoined o [] me → IsAtRest number it
      → Joins (Keeps base_of state_of room sound after reply) id me.0 other it.0 (joined me.0 it.0) None
  joins_at id other o number me it h rest =
      subst (λ (y : Place T B S Q A × Place T B S Q A). Joins (Keeps base_of state_of room sound after reply) id y.0.0 other y.1.0 (joined y.0.0 y.1.0) None)
      (λ i. (sym h.is i, sym rest.is i))
      (joins base_of state_of room sound after reply id h.view other rest.view h.idle rest.idle h.dealt rest.alone.2)

  -- What the object and the journal of a closed chronicle are, by its origin and its seats
  pub record IsClosed (o : Origin B S) (seats : List (Standing B S Q A)) (object : T) (journal : List (StepOf Q A)) : Type 0 where
    pub legal : IsLegal sound after reply o.base o.opening journal
    pub entries : All (λ (step : StepOf Q A). Any (λ (s : Standing B S Q A). s.number ≡ step.seat) seats) journal
    pub own : All (λ (s : Standing B S Q A). calls_by s.number journal ≡ s.own) seats
    pub seen : All (λ (s : Standing B S Q A). BeginsWith journal s.seen) seats
    pub others : All (λ (s : Standing B S Q A). (rest : List (StepOf Q A)) → journal ≡ s.seen ++ rest → calls_by s.number rest ≡ []) seats
    pub base : base_of object ≡ o.base
    pub last : state_of object ≡ state_after after o.base o.opening journal

  -- where a seat has joined all others, the slot has the object after the history
  pub ends : (id : ℕ) (o : Origin B S) (seats : List (Standing B S Q A)) (me : Place T B S Q A) (s : State (Kept T Q A) (Option (View B S Q A)))
      → Keeps base_of state_of room sound after reply s
      → get_elem? s.views id ≡ some me.0 → HasJoined o seats me → ((n : ℕ) → n < length o.allotments → Any (λ (x : Standing B S Q A). x.number ≡ n) seats)
      → (kept : Kept T Q A) × (get_elem? s.homes 0 ≡ some (some kept)) × IsClosed o seats kept.object kept.journal.items
  ends id o seats me s r there h everyone =
      let v : View B S Q A = h.view in
      let at : get_elem? s.views id ≡ some (Some v) = there ∙ ap (λ (m : Place T B S Q A). some m.0) h.is in
      let mine = r.fits id v at in
      let base_is : r.base ≡ o.base = sym mine.same.0 ∙ h.same_base in
      let opening_is : r.opening ≡ o.opening = sym mine.same.1 ∙ h.same_opening in
      let allotments_are : r.allotments ≡ o.allotments = sym mine.same.2 ∙ h.same_allotments in
      let seats_are : length r.allotments ≡ length o.allotments = ap length allotments_are in
      let known : All (Knows v) seats = All-from_recursion (Knows v) seats h.knows in
      let all_numbers : (n : ℕ) → n < length r.allotments → IsIn n (numbers v) = λ n below. (
      let x = everyone n (let goal : n < length o.allotments = omega arith in goal) in
      subst (λ (m : ℕ). IsIn m (numbers v)) x.4 (number_known v x.1 (subst (λ (y : Standing B S Q A). Knows v y) x.3 (known x.0 x.1 x.2)))) in
      let home = r.at_home (nobody_else base_of state_of room sound after reply id v s r at h.idle all_numbers) in
      let kept : Kept T Q A = home.0 in
      let fits = home.2 in
      let journal : kept.journal.items ≡ r.history = fits.journal in
      let few : r.made ≤ length r.allotments = r.made_few in
      let named : (step : StepOf Q A) → step.seat < r.made → Any (λ (x : Standing B S Q A). x.number ≡ step.seat) seats =
      λ step low. everyone step.seat (let goal : step.seat < length o.allotments = omega arith in goal) in
      let calls_are : (seat : Standing B S Q A) → Knows v seat → calls_by seat.number r.history ≡ seat.own = λ seat k. ⊎_elim
      (λ (e : (v.number ≡ seat.number) × (v.own ≡ seat.own)). ap (λ (n : ℕ). calls_by n r.history) (sym e.0) ∙ mine.calls.0 ∙ e.1)
      (λ (i : IsIn (seat.number, seat.own) v.joined). each_in (λ (x : ℕ × List (StepOf Q A)). calls_by x.0 r.history ≡ x.1) v.joined (seat.number, seat.own)
      mine.calls.1 i)
      k.own in
      let calls_in_journal : (seat : Standing B S Q A) → Knows v seat → calls_by seat.number kept.journal.items ≡ seat.own =
      λ seat k. ap (λ (l : List (StepOf Q A)). calls_by seat.number l) journal ∙ calls_are seat k in
      let begins : (seat : Standing B S Q A) → Knows v seat → BeginsWith r.history seat.seen = λ seat k. ⊎_elim
      (λ (e : v.seen ≡ seat.seen). subst (λ (l : List (StepOf Q A)). BeginsWith r.history l) e mine.begins.0)
      (λ (i : IsIn seat.seen v.noted). each_in (BeginsWith r.history) v.noted seat.seen mine.begins.1 i) k.seen in (
        kept,
        home.1,
        record {
          legal = subst (λ (y : B × S × List (StepOf Q A)). IsLegal sound after reply y.0 y.1 y.2) (λ i. (base_is i, opening_is i, sym journal i)) r.legal;
          entries = All-from_recursion (λ (step : StepOf Q A). Any (λ (x : Standing B S Q A). x.number ≡ step.seat) seats) kept.journal.items
              (subst (λ (l : List (StepOf Q A)). Each (λ (step : StepOf Q A). Any (λ (x : Standing B S Q A). x.number ≡ step.seat) seats) l) (sym journal)
              (each_so (λ (step : StepOf Q A). step.seat < r.made) (λ (step : StepOf Q A). Any (λ (x : Standing B S Q A). x.number ≡ step.seat) seats) r.history named r.entries));
          own = λ k d below. calls_in_journal (slice_index_or seats k d) (known k d below);
          seen =
              λ k d below. subst (λ (l : List (StepOf Q A)). BeginsWith l (slice_index_or seats k d).seen) (sym journal)
              (begins (slice_index_or seats k d) (known k d below));
          others = λ k d below rest is. (
              let seat = slice_index_or seats k d in let k' = known k d below in
              none_after seat.number seat.seen rest seat.own k'.all_own (ap (λ (l : List (StepOf Q A)). calls_by seat.number l) (sym is) ∙ calls_in_journal seat k'));
          base = fits.same_base ∙ base_is;
          last = fits.last ∙ (λ i. state_after after (base_is i) (opening_is i) (sym journal i));
        },
      )
