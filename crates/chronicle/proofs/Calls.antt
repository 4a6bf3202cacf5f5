-- A call from its parts: a ticket drawn, the turn, the object's step, and the turn passed on.
use Rattle.std.proofs.Common.{◌≡◌, ◌+◌, ◌-◌, ◌≤◌, ◌<◌, ◌++◌, ◌∷◌, [], ℕ, List, Bool, true, refl, sym, ap, subst, ◌∙◌, arith}
use Rattle.std.specs.Prelude.{Some}
use Rattle.plain_facts.proofs.Outcomes.{same_some}
use Rattle.market_units.specs.Beginnings.{BeginsWith}
use Rattle.atomic_table.specs.Seated.{TableId}
use Rattle.chronicle.specs.declared.journal.StepOf.{StepOf}
use Rattle.chronicle.specs.declared.origin.Origin.{Origin}
use Rattle.chronicle.specs.declared.standing.Standing.{Standing}
use Rattle.chronicle.specs.declared.view.View.{View}
use Rattle.chronicle.specs.History.{IsLegal, calls_by, step_of, Extends}
use Rattle.chronicle.specs.Seats.{origin, origin_of, standing, standing_of, IsAtRest}
use Rattle.chronicle.specs.Turn.{Place, At, MayCall, IsWaiting, Draws, Serves, MayStep, Steps, HasToPass, Passes}
use Rattle.chronicle.specs.Views.{waiting, in_turn, done}
use Rattle.chronicle.proofs.HistoryLaws.{legal_with_step, calls_by-own, none_between}

module _ {T B S Q A : Type 0} (base_of : T → B) (state_of : T → S) (room : T → ℕ) (sound : B → Q → Bool) (after : B → S → ℕ → Q → S)
    (reply : B → S → ℕ → Q → A) where
  -- what a seat at rest tells is in its view
  told : (table : TableId) (number : ℕ) (me : Place T B S Q A) (old : Standing B S Q A) (rest : IsAtRest number me) → standing_of table number me.0 ≡ old
      → standing (Some (origin table rest.view.base rest.view.opening rest.view.allotments)) number rest.view.left rest.view.seen rest.view.own ≡ old
  told table number me old rest is = sym (ap (λ (m : Place T B S Q A). standing_of table number m.0) rest.is) ∙ is

  -- so is its chronicle
  told_origin : (table : TableId) (self : Origin B S) (number : ℕ) (me : Place T B S Q A) (old : Standing B S Q A) (rest : IsAtRest number me)
      → standing_of table number me.0 ≡ old → old.chronicle ≡ Some self
      → origin table rest.view.base rest.view.opening rest.view.allotments ≡ self
  told_origin table self number me old rest is ours =
      same_some (origin table rest.view.base rest.view.opening rest.view.allotments) self
      (ap (λ (s : Standing B S Q A). s.chronicle) (told table number me old rest is) ∙ ours)

  -- a seat of the chronicle has its place at the chronicle's table
  pub table_of : (table : TableId) (self : Origin B S) (number : ℕ) (me : Place T B S Q A) (old : Standing B S Q A) → IsAtRest number me
      → standing_of table number me.0 ≡ old → old.chronicle ≡ Some self → table ≡ self.table
  table_of table self number me old rest is ours = ap (λ (o : Origin B S). o.table) (told_origin table self number me old rest is ours)

  pub may_call : (table : TableId) (number : ℕ) (me : Place T B S Q A) (old : Standing B S Q A) → IsAtRest number me → standing_of table number me.0 ≡ old
      → 1 ≤ old.left → MayCall me
  may_call table number me old rest is some_left =
      let left : rest.view.left ≡ old.left = ap (λ (s : Standing B S Q A). s.left) (told table number me old rest is) in
      (rest.view, rest.is, rest.idle, rest.alone.0, rest.alone.2, (let goal : 0 < rest.view.left = omega arith in goal))

  pub is_waiting : (number ticket : ℕ) (me drawn : Place T B S Q A) → IsAtRest number me → Draws me ticket drawn → IsWaiting ticket drawn
  is_waiting number ticket me drawn rest draws = (waiting rest.view ticket, draws rest.view rest.is, refl, rest.alone.0, rest.alone.2)

  pub may_step : (table : TableId) (self : Origin B S) (number ticket : ℕ) (request : Q) (me drawn turned : Place T B S Q A) (old : Standing B S Q A)
      → IsAtRest number me → standing_of table number me.0 ≡ old → old.chronicle ≡ Some self
      → sound self.base request ≡ true → Draws me ticket drawn
      → ((v : View B S Q A) → At drawn v → Serves base_of state_of room sound after reply v ticket turned)
      → MayStep base_of state_of room sound after reply number request turned
  may_step table self number ticket request me drawn turned old rest is ours ok draws serves =
      let v : View B S Q A = rest.view in
      let turn = serves (waiting v ticket) (draws v rest.is) in
      let base_is : v.base ≡ self.base = ap (λ (x : Origin B S). x.base) (told_origin table self number me old rest is ours) in record {
        view = in_turn (waiting v ticket) ticket turn.history;
        kept = turn.kept;
        is = turn.is;
        numbered = rest.numbered.0;
        ready = turn.ready;
        sound_request = ap (λ (b : B). sound b request) base_is ∙ ok;
      }

  pub has_to_pass : (number : ℕ) (request : Q) (answer : A) (turned stepped : Place T B S Q A)
      → MayStep base_of state_of room sound after reply number request turned
      → Steps base_of state_of room sound after reply number request answer turned stepped
      → HasToPass base_of state_of room sound after reply (step_of number request answer) stepped
  has_to_pass number request answer turned stepped may steps =
      let made = steps may.view may.kept may.is in record {
        view = may.view;
        kept = made.1.0;
        is = made.1.1;
        turn = may.ready.turn;
        numbered = may.numbered;
        alone = may.ready.alone;
        sound_request = may.sound_request;
        replied = made.0;
        stepped = made.1.2;
      }

  -- what a call ensures, of a chronicle and a seat, which has the place `me` afterwards
  pub record CallMade (self : Origin B S) (number : ℕ) (request : Q) (answer : A) (old new : Standing B S Q A) (table : TableId) (at : ℕ) (me : Place T B S Q A)
      : Type 0 where
    pub at_rest : IsAtRest at me
    pub chronicle : origin_of table me.0 ≡ old.chronicle
    pub seen : Extends old.seen new.seen (step_of number request answer)
    pub legal : IsLegal sound after reply self.base self.opening new.seen
    pub own : new.own ≡ old.own ++ step_of number request answer ∷ []
    pub all_own : calls_by number new.seen ≡ new.own
    pub others : (between : List (StepOf Q A)) → new.seen ≡ (old.seen ++ between) ++ step_of number request answer ∷ [] → calls_by number between ≡ []
    pub left : new.left + 1 ≡ old.left

  pub call_made : (table : TableId) (self : Origin B S) (number ticket : ℕ) (request : Q) (answer : A) (me drawn turned stepped passed : Place T B S Q A)
      (old : Standing B S Q A)
      → IsAtRest number me → standing_of table number me.0 ≡ old → old.chronicle ≡ Some self → 1 ≤ old.left
      → sound self.base request ≡ true → Draws me ticket drawn
      → ((v : View B S Q A) → At drawn v → Serves base_of state_of room sound after reply v ticket turned)
      → Steps base_of state_of room sound after reply number request answer turned stepped → Passes stepped passed
      → CallMade self old.number request answer old (standing_of table number passed.0) table number passed
  unfolding may_step
  call_made table self number ticket request answer me drawn turned stepped passed old rest is ours some_left ok draws serves steps passes =
      let v : View B S Q A = rest.view in
      let telling = told table number me old rest is in
      let turn = serves (waiting v ticket) (draws v rest.is) in
      let may = may_step table self number ticket request me drawn turned old rest is ours ok draws serves in
      let made = steps may.view may.kept may.is in
      let entry : StepOf Q A = step_of number request answer in
      let u : View B S Q A = in_turn (waiting v ticket) ticket turn.history in
      let w : View B S Q A = done u entry in
      let now : At passed w = passes u made.1.0 entry made.1.1 made.1.2.journal in
      let seen_is : v.seen ≡ old.seen = ap (λ (s : Standing B S Q A). s.seen) telling in
      let own_is : v.own ≡ old.own = ap (λ (s : Standing B S Q A). s.own) telling in
      let left_is : v.left ≡ old.left = ap (λ (s : Standing B S Q A). s.left) telling in
      let origin_is = told_origin table self number me old rest is ours in
      let base_is : v.base ≡ self.base = ap (λ (x : Origin B S). x.base) origin_is in
      let opening_is : v.opening ≡ self.opening = ap (λ (x : Origin B S). x.opening) origin_is in
      let legal : IsLegal sound after reply v.base v.opening (turn.history ++ entry ∷ []) =
      legal_with_step sound after reply v.base v.opening turn.history entry turn.ready.legal may.sound_request made.0 in
      let calls : calls_by v.number (turn.history ++ entry ∷ []) ≡ v.own ++ entry ∷ [] =
      calls_by-own v.number turn.history entry (sym rest.numbered.0) ∙ ap (λ (l : List (StepOf Q A)). l ++ entry ∷ []) turn.own in
      let all_own : calls_by number (turn.history ++ entry ∷ []) ≡ v.own ++ entry ∷ [] =
      ap (λ (n : ℕ). calls_by n (turn.history ++ entry ∷ [])) (sym rest.numbered.0) ∙ calls in
      let own : v.own ++ entry ∷ [] ≡ old.own ++ entry ∷ [] = ap (λ (l : List (StepOf Q A)). l ++ entry ∷ []) own_is in
      let before : calls_by number old.seen ≡ old.own = sym (λ i. calls_by (rest.numbered.0 i) (seen_is i)) ∙ rest.all_own ∙ own_is in
      let begins : BeginsWith turn.history old.seen = subst (λ (l : List (StepOf Q A)). BeginsWith turn.history l) seen_is turn.begins in
      let number_is : number ≡ old.number = ap (λ (s : Standing B S Q A). s.number) is in
      subst (λ (y : ℕ × Place T B S Q A). CallMade self y.0 request answer old (standing_of table number y.1.0) table number y.1) (λ i. (number_is i, sym now i)) (record {
        at_rest = record {
          view = w;
          is = refl;
          numbered = rest.numbered;
          idle = refl;
          alone = rest.alone;
          all_own = calls;
        };
        chronicle = ap (λ (s : Standing B S Q A). s.chronicle) telling;
        seen = (begins.0, ap (λ (l : List (StepOf Q A)). l ++ entry ∷ []) begins.1);
        legal = subst (λ (y : B × S). IsLegal sound after reply y.0 y.1 (turn.history ++ entry ∷ [])) (λ i. (base_is i, opening_is i)) legal;
        own = own;
        all_own = all_own;
        others =
            λ between more. none_between number old.seen between old.own entry refl before
            (ap (λ (l : List (StepOf Q A)). calls_by number l) (sym more) ∙ all_own ∙ own);
        left = (let left : ℕ = v.left in let goal : (left - 1) + 1 ≡ old.left = omega arith in goal);
      })
