-- The steps of a call keep the rule: drawing a ticket, looking, and passing on.
use Rattle.std.proofs.Common.{◌≡◌, ◌≢◌, ◌+◌, ◌-◌, ◌%◌, ◌^◌, ◌≤◌, ◌<◌, ◌++◌, ◌∷◌, [], ℕ, List, length, map, set, Bool, true, cond, refl, sym, ap, subst, ◌∙◌, ⊎_elim, inl, inr, arith, eqb, eq-eqb, ne_eqb, length-append, length-set, get_or}
use Rattle.std.specs.Prelude.{Option, Some, unwrap_or}
use mathlib.Core.Logic.{dite}
use mathlib.Core.Option.{none, some}
use native.Mathlib.Decide.{ℕ_discrete}
use lib.ListN.{get_elem?}
use lib.Seq.{set-get_or}
use Rattle.std.specs.Vec.{vec_capacity}
use Rattle.atomic_table.specs.Table.{State, step, keeps, takes, gives, rest, Allows}
use Rattle.atomic_table.proofs.Lists.{set_here, set_else, set_again}
use Rattle.market_units.specs.Beginnings.{BeginsWith}
use Rattle.market_units.specs.Totals.{total}
use Rattle.market_units.proofs.Fronts.{begins-itself, begins-longer}
use Rattle.chronicle.specs.declared.journal.StepOf.{StepOf}
use Rattle.chronicle.specs.declared.kept.Kept.{Kept}
use Rattle.chronicle.specs.declared.view.View.{View}
use Rattle.chronicle.specs.declared.view.Phase.TheVariants as phase
use Rattle.chronicle.specs.History.{state_after, IsLegal, calls_by, step_of}
use Rattle.chronicle.specs.Views.{sum_of, numbers, left_of, waiting, in_turn, done}
use Rattle.std.specs.List.{AllByRecursion as Each}
use Rattle.chronicle.specs.Members.{IsIn}
use Rattle.chronicle.specs.Rule.{HasTicket, NobodyInTurn, Fits, IsAfter, Keeps}
use Rattle.chronicle.specs.Turn.{Place, At, Has, MayCall, IsWaiting, Serves, IsReady, drew, looked, passed, HasStepped, MayStep, Steps, HasToPass}
use Rattle.chronicle.proofs.HistoryLaws.{legal_with_step, calls_by-own, calls_by-other, state_after-append}
use Rattle.chronicle.proofs.ViewLists.{total-set, term_le, at_below, each_so, each-append, same_place, fits_set, there_set}

module _ {T B S Q A : Type 0} where
  -- a seat has one view
  pub one_view : (me : Place T B S Q A) (v w : View B S Q A) (x y : List (ℕ × Kept T Q A)) → me ≡ (Some v, x) → me ≡ (Some w, y) → v ≡ w
  one_view me v w x y is was = ap (λ (m : Place T B S Q A). unwrap_or m.0 v) (sym is ∙ was)

abbrev first_kept : {K : Type 0} → List (ℕ × K) → K → K
first_kept [] kept = kept
first_kept (x ∷ xs) kept = x.1

-- lists that differ in their last items at most, and are equal, have equal last items
same_last : {X : Type 0} (xs : List X) (a b : X) → xs ++ a ∷ [] ≡ xs ++ b ∷ [] → a ≡ b
same_last [] a b e = cc
same_last (x ∷ xs) a b e = same_last xs a b (let rest : xs ++ a ∷ [] ≡ xs ++ b ∷ [] = cc in rest)

module _ {Q A : Type 0} where
  -- the calls that a view noted are all calls of their numbers also after a taken of another number
  pub joined_stay : (history : List (StepOf Q A)) (taken : StepOf Q A) (xs : List (ℕ × List (StepOf Q A)))
      → ((n : ℕ) → IsIn n (map (λ (x : ℕ × List (StepOf Q A)). x.0) xs) → n ≢ taken.seat) → Each (λ (x : ℕ × List (StepOf Q A)). calls_by x.0 history ≡ x.1) xs
      → Each (λ (x : ℕ × List (StepOf Q A)). calls_by x.0 (history ++ taken ∷ []) ≡ x.1) xs
  joined_stay history taken [] other each = tt
  joined_stay history taken (x ∷ xs) other each =
      (calls_by-other x.0 history taken (λ e. other x.0 (inl refl) (sym e)) ∙ each.0, joined_stay history taken xs (λ n h. other n (inr h)) each.1)

module _ {B S Q A : Type 0} where
  -- where nobody is in turn after a view changed that was in no turn, nobody was before
  pub nobody_before : (vs : List (Option (View B S Q A))) (id : ℕ) (v : View B S Q A) (w : Option (View B S Q A)) → get_elem? vs id ≡ some (Some v)
      → ((t : ℕ) → v.phase ≢ phase.InTurn t)
      → NobodyInTurn (set vs id w) → NobodyInTurn vs
  nobody_before vs id v w at out nobody j u t there turn =
      dite (ℕ_discrete j id)
      (λ same. out t (ap (λ (y : View B S Q A). y.phase) (sym (same_place vs id j v u at there same)) ∙ turn))
      (λ other. nobody j u t (set_else vs id j w other ∙ there) turn)

module _ {T B S Q A : Type 0} (base_of : T → B) (state_of : T → S) (room : T → ℕ) (sound : B → Q → Bool) (after : B → S → ℕ → Q → S)
    (reply : B → S → ℕ → Q → A) where
  abbrev W : Type 0
  W = View B S Q A

  abbrev St : Type 0
  St = State (Kept T Q A) (Option W)

  abbrev Rule : St → Type 0
  Rule = Keeps base_of state_of room sound after reply

  pub draws : (slots id : ℕ) (v : W) → v.phase ≡ phase.Idle → v.joined ≡ [] → v.plan ≡ [] → 0 < v.left
      → Allows Rule slots id (Some v, []) 1 (λ n. (n + 1) % 2 ^ 64) (drew (step slots 1 1 0 none) (Some v, []))
  draws slots id v idle alone dealt some_left s r wide at small =
      let x : ℕ = get_or s.words 1 0 in
      let found : x ≡ r.tickets = ap (λ (ws : List ℕ). get_or ws 1 0) r.words in
      let w : W = waiting v x in
      let n : ℕ = length r.history in
      let k : ℕ = total left_of s.views in
      let k' : ℕ = total left_of (set s.views id (Some w)) in
      let part : v.left ≤ k = term_le left_of s.views id (Some v) at in
      let change : k' + v.left ≡ k + (v.left - 1) = total-set left_of s.views id (Some v) (Some w) at in
      let all : r.tickets + k ≡ sum_of r.allotments = r.balance in
      let limit : sum_of r.allotments < 2 ^ 64 = r.small in
      let near : n ≤ r.tickets = r.drawn in
      let next : (x + 1) % 2 ^ 64 ≡ x + 1 = omega arith in
      let holder : ℕ → ℕ = λ t. cond (eqb t x) id (r.holder t) in
      let old_holder : (t : ℕ) → t < r.tickets → holder t ≡ r.holder t = λ t below. ap (λ b. cond b id (r.holder t)) (ne_eqb t x (λ e. omega arith)) in
      let new_holder : holder x ≡ id = ap (λ b. cond b id (r.holder x)) (eq-eqb x x refl) in
      let mine = r.fits id v at in
      let not_in_turn : (t : ℕ) → v.phase ≢ phase.InTurn t = λ t e. (let clash : phase.Idle ≡ phase.InTurn t = sym idle ∙ e in absurd (cc)) in
      let no_ticket : (t : ℕ) → HasTicket v t → ⊥ = λ t h. ⊎_elim (λ (e : v.phase ≡ phase.Waits t). let clash : phase.Idle ≡ phase.Waits t = sym idle ∙ e in absurd (cc)) (λ (e : v.phase ≡ phase.InTurn t). not_in_turn t e) h in (
        Some w,
        keeps,
        tt,
        record {
          base = r.base;
          opening = r.opening;
          history = r.history;
          tickets = x + 1;
          allotments = r.allotments;
          made = r.made;
          holder = holder;
          home = r.home;
          words = ap (λ (ws : List ℕ). set ws 1 ((x + 1) % 2 ^ 64)) r.words ∙ ap (λ (y : ℕ). n ∷ y ∷ []) next;
          one_slot = r.one_slot;
          legal = r.legal;
          entries = r.entries;
          made_few = r.made_few;
          balance = (let goal : (x + 1) + k' ≡ sum_of r.allotments = omega arith in goal);
          small = r.small;
          drawn = (let goal : n ≤ x + 1 = omega arith in goal);
          fits = fits_set (Fits r.base r.opening r.allotments r.history (x + 1) r.made holder r.home) s.views id w
              (record {
                same = mine.same;
                begins = mine.begins;
                calls = mine.calls;
                numbered = mine.numbered;
                joined_idle = λ some_joined. absurd (some_joined alone);
                waits =
                    λ t e. (let same : x
                    ≡ t = cc in subst (λ (y : ℕ). (n ≤ y) × (y < x + 1) × (holder y ≡ id)) same
                    ((let a : n ≤ x = omega arith in a), (let b : x < x + 1 = omega arith in b), new_holder));
                turn = λ t e. absurd (cc);
                deals = λ some_plan. absurd (some_plan dealt);
              })
              (λ j u other there. (let f = r.fits j u there in record {
                same = f.same;
                begins = f.begins;
                calls = f.calls;
                numbered = f.numbered;
                joined_idle = f.joined_idle;
                waits =
                    λ t e. (let q = f.waits t e in let below : t < r.tickets = q.1 in (q.0, (let a : t < x + 1 = omega arith in a), old_holder t below ∙ q.2));
                turn =
                    λ t e. (let q = f.turn t e in let below : t
                    < r.tickets = q.1 in (q.0, (let a : t < x + 1 = omega arith in a), old_holder t below ∙ q.2, q.3));
                deals = f.deals;
              }));
          held = λ t low high. dite (ℕ_discrete t x)
              (λ same. (
                w,
                ap (λ (j : ℕ). get_elem? (set s.views id (Some w)) j) (ap holder same ∙ new_holder)
                    ∙ set_here s.views id (Some w) (at_below s.views id (Some v) at),
                inl (ap (λ (y : ℕ). phase.Waits y) (sym same)),
              ))
              (λ other. (let below : t < r.tickets = omega arith in subst (λ (j : ℕ). (u : W) × (get_elem? (set s.views id (Some w)) j ≡ some (Some u)) × HasTicket u t) (sym (old_holder t below))
              (there_set (λ (u : W). HasTicket u t) s.views id v w (r.holder t) at (λ h. absurd (no_ticket t h)) (r.held t low below))));
          stands = λ m below. there_set (λ (u : W). IsIn m (numbers u)) s.views id v w (r.home m) at (λ h. h) (r.stands m below);
          at_home = λ nobody. r.at_home (nobody_before s.views id v (Some w) at not_in_turn nobody);
          out = λ j u t there turn. fits_set (λ (i : ℕ) (y : W). (p : ℕ) → y.phase ≡ phase.InTurn p → get_elem? s.homes 0 ≡ some none) s.views id w
              (λ p e. absurd (cc)) (λ i y other there' p e. r.out i y p there' e) j u there t turn;
        },
        (λ u is. ap (λ (y : W). (Some (waiting y x), [])) (one_view (Some v, []) v u [] [] refl is)),
      )

  -- where a waiting seat's ticket is served, no view is in turn
  nobody_yet : (s : St) (r : Rule s) (id : ℕ) (v : W) (ticket : ℕ) → get_elem? s.views id ≡ some (Some v) → v.phase ≡ phase.Waits ticket
      → ticket ≡ length r.history → NobodyInTurn s.views
  nobody_yet s r id v ticket at waits served j u t there turn =
      let theirs = (r.fits j u there).turn t turn in
      let ours = (r.fits id v at).waits ticket waits in
      let same : j ≡ id = sym theirs.2 ∙ ap r.holder (theirs.0 ∙ sym served) ∙ ours.2 in
      let clash : phase.Waits ticket ≡ phase.InTurn t = sym waits ∙ ap (λ (y : W). y.phase) (sym (same_place s.views id j v u at there same)) ∙ turn in
      absurd (cc)

  -- the seat whose ticket is served takes the object
  taking : (slots id : ℕ) (v : W) (ticket : ℕ) → v.phase ≡ phase.Waits ticket → (s : St) (r : Rule s) → get_elem? s.views id ≡ some (Some v) → v.joined ≡ []
      → v.plan ≡ [] → get_or s.words 0 0 ≡ ticket
      → (kept : Kept T Q A) × (get_elem? s.homes 0 ≡ some (some kept))
      × Rule (record { words = set s.words 0 (get_or s.words 0 0); homes = set s.homes 0 none; views = set s.views id (Some (in_turn v ticket r.history)) })
      × BeginsWith r.history v.seen × (calls_by v.number r.history ≡ v.own) × IsReady base_of state_of room sound after reply (in_turn v ticket r.history) kept
  taking slots id v ticket waits s r at alone dealt is =
      let n : ℕ = length r.history in
      let found : get_or s.words 0 0 ≡ n = ap (λ (ws : List ℕ). get_or ws 0 0) r.words in
      let served : ticket ≡ n = sym is ∙ found in
      let mine = r.fits id v at in
      let queue = mine.waits ticket waits in
      let drawn : ticket < r.tickets = queue.1 in
      let w : W = in_turn v ticket r.history in
      let kept_there = r.at_home (nobody_yet s r id v ticket at waits served) in
      let kept = kept_there.0 in
      let fits = kept_there.2 in
      let k : ℕ = total left_of s.views in
      let k' : ℕ = total left_of (set s.views id (Some w)) in
      let change : k' + v.left ≡ k + v.left = total-set left_of s.views id (Some v) (Some w) at in
      let all : r.tickets + k ≡ sum_of r.allotments = r.balance in
      let limit : sum_of r.allotments < 2 ^ 64 = r.small in
      let one : length s.homes ≡ 1 = r.one_slot in
      let here : get_elem? (set s.homes 0 none) 0 ≡ some none = set_here s.homes 0 none (omega arith) in (
        kept,
        kept_there.1,
        record {
          base = r.base;
          opening = r.opening;
          history = r.history;
          tickets = r.tickets;
          allotments = r.allotments;
          made = r.made;
          holder = r.holder;
          home = r.home;
          words = set-get_or s.words 0 0 ∙ r.words;
          one_slot = length-set s.homes 0 none ∙ r.one_slot;
          legal = r.legal;
          entries = r.entries;
          made_few = r.made_few;
          balance = (let goal : r.tickets + k' ≡ sum_of r.allotments = omega arith in goal);
          small = r.small;
          drawn = r.drawn;
          fits = fits_set (Fits r.base r.opening r.allotments r.history r.tickets r.made r.holder r.home) s.views id w
              (record {
                same = mine.same;
                begins = (begins-itself r.history, mine.begins.1);
                calls = mine.calls;
                numbered = mine.numbered;
                joined_idle = λ some_joined. absurd (some_joined alone);
                waits = λ t e. absurd (cc);
                turn =
                    λ t e. (let same : ticket
                    ≡ t = cc in subst (λ (y : ℕ). (y ≡ n) × (y < r.tickets) × (r.holder y ≡ id) × (r.history ≡ r.history)) same
                    (served, drawn, queue.2, refl));
                deals = mine.deals;
              })
              (λ j u other there. r.fits j u there);
          held = λ t low high. there_set (λ (u : W). HasTicket u t) s.views id v w (r.holder t) at
              (λ h. ⊎_elim
              (λ (e : v.phase ≡ phase.Waits t). inr
              (let same : ticket ≡ t = (let both : phase.Waits ticket ≡ phase.Waits t = sym waits ∙ e in cc) in ap (λ (y : ℕ). phase.InTurn y) same))
              (λ (e : v.phase ≡ phase.InTurn t). let clash : phase.Waits ticket ≡ phase.InTurn t = sym waits ∙ e in absurd (cc)) h)
              (r.held t low high);
          stands = λ m below. there_set (λ (u : W). IsIn m (numbers u)) s.views id v w (r.home m) at (λ h. h) (r.stands m below);
          at_home = λ nobody. absurd (nobody id w ticket (set_here s.views id (Some w) (at_below s.views id (Some v) at)) refl);
          out = λ j u t there turn. here;
        },
        mine.begins.0,
        mine.calls.0,
        record {
          turn = (ticket, refl);
          legal = subst (λ (y : B × S). IsLegal sound after reply y.0 y.1 r.history) (λ i. (sym mine.same.0 i, sym mine.same.1 i)) r.legal;
          is_after =
              subst (λ (y : B × S × List ℕ). IsAfter base_of state_of room sound after reply y.0 y.1 y.2 r.history kept)
              (λ i. (sym mine.same.0 i, sym mine.same.1 i, sym mine.same.2 i)) fits;
          fits = subst (λ (y : List ℕ). n < sum_of y) (sym mine.same.2) (let goal : n < sum_of r.allotments = omega arith in goal);
          alone = (alone, dealt);
        },
      )

  pub looks : (slots id : ℕ) (v : W) (ticket : ℕ) → v.phase ≡ phase.Waits ticket → v.joined ≡ [] → v.plan ≡ []
      → Allows Rule slots id (Some v, []) 0 (λ n. n) (looked base_of state_of room sound after reply (step slots 0 0 0 none) (Some v, []))
  looks slots id v ticket waits alone dealt s r wide at small =
      let x : ℕ = get_or s.words 0 0 in
      let other_words : (u : W) (t : ℕ) → At {T = T} {B = B} {S = S} {Q = Q} {A = A} (Some v, []) u → u.phase ≡ phase.Waits t → (v ≡ u) × (ticket ≡ t) =
      λ u t is e.
      (let same : v ≡ u = one_view (Some v, []) v u [] [] refl is in let both : phase.Waits ticket
      ≡ phase.Waits t = sym waits ∙ ap (λ (y : W). y.phase) same ∙ e in (same, let eq : ticket ≡ t = cc in eq)) in
      dite (ℕ_discrete x ticket)
      (λ hit.
      let took = taking slots id v ticket waits s r at alone dealt hit in
      let kept = took.0 in (
        Some (in_turn v ticket r.history),
        takes 0 kept,
        took.1,
        took.2,
        (λ u t is e. (
            let same = other_words u t is e in (
              (λ miss. absurd (miss (hit ∙ same.1))),
              (λ _. subst (λ (y : W × ℕ). Serves base_of state_of room sound after reply y.0 y.1 (Some (in_turn v ticket r.history), (0, kept) ∷ [])) (λ i. (same.0 i, same.1 i)) (record {
                history = r.history;
                kept = kept;
                is = refl;
                begins = took.3;
                own = took.4;
                ready = took.5;
              })),
            )
            )),
      ))
      (λ miss. (
        Some v,
        keeps,
        tt,
        subst (λ (y : St). Rule y) (λ i. record { words = sym (set-get_or s.words 0 0) i; homes = s.homes; views = sym (set_again s.views id (Some v) at) i })
            r,
        (λ u t is e. (let same = other_words u t is e in ((λ _. refl), (λ hit. absurd (miss (hit ∙ sym same.1)))))),
      ))

  -- the object that a seat in turn gives back, with its step, is the object after the longer history
  stepped_after : (base : B) (opening : S) (allotments : List ℕ) (history : List (StepOf Q A)) (v : W) (taken : StepOf Q A) (kept : Kept T Q A)
      → v.base ≡ base → v.opening ≡ opening → v.allotments ≡ allotments → v.seen ≡ history → HasStepped base_of state_of room sound after reply v taken kept
      → IsAfter base_of state_of room sound after reply base opening allotments (history ++ taken ∷ []) kept
  stepped_after base opening allotments history v taken kept eb eo ea es stepped = subst (λ (y : B × S × List ℕ × List (StepOf Q A)). IsAfter base_of state_of room sound after reply y.0 y.1 y.2 (y.3 ++ taken ∷ []) kept) (λ i. (eb i, eo i, ea i, es i)) (record {
    same_base = stepped.same_base;
    last = stepped.last ∙ sym (state_after-append after v.base v.opening v.seen (taken ∷ []));
    journal = stepped.journal;
    roomy =
        (let n : ℕ = length v.seen in let m : ℕ = length (v.seen ++ taken ∷ []) in let more : m
        ≡ n + 1 = length-append v.seen (taken ∷ []) in let q : ℕ = room kept.object in let a : sum_of v.allotments
        ≤ n + 1 + q = stepped.roomy in let goal : sum_of v.allotments ≤ m + q = omega arith in goal);
    reserved = stepped.reserved;
  })

  pub passes : (slots id : ℕ) (v : W) (kept : Kept T Q A) (t : ℕ) (taken : StepOf Q A) → v.phase ≡ phase.InTurn t → v.number ≡ taken.seat → v.joined ≡ []
      → v.plan ≡ []
      → sound v.base taken.request ≡ true → taken.reply ≡ reply v.base (state_after after v.base v.opening v.seen) taken.seat taken.request
      → HasStepped base_of state_of room sound after reply v taken kept
      → Allows Rule slots id (Some v, (0, kept) ∷ []) 0 (λ n. (n + 1) % 2 ^ 64) (passed (step slots 0 1 0 none) (Some v, (0, kept) ∷ []))
  passes slots id v kept t taken turn numbered alone dealt ok replied stepped s r wide at small =
      let x : ℕ = get_or s.words 0 0 in
      let n : ℕ = length r.history in
      let found : x ≡ n = ap (λ (ws : List ℕ). get_or ws 0 0) r.words in
      let mine = r.fits id v at in
      let now = mine.turn t turn in
      let seen : v.seen ≡ r.history = now.3 in
      let drawn : t < r.tickets = now.1 in
      let served : t ≡ n = now.0 in
      let holder_is : r.holder n ≡ id = ap r.holder (sym served) ∙ now.2 in
      let ours = mine.numbered v.number (inl refl) in
      let history : List (StepOf Q A) = r.history ++ taken ∷ [] in
      let one_more : length history ≡ n + 1 = length-append r.history (taken ∷ []) in
      let w : W = done v taken in
      let k : ℕ = total left_of s.views in
      let k' : ℕ = total left_of (set s.views id (Some w)) in
      let change : k' + v.left ≡ k + v.left = total-set left_of s.views id (Some v) (Some w) at in
      let all : r.tickets + k ≡ sum_of r.allotments = r.balance in
      let limit : sum_of r.allotments < 2 ^ 64 = r.small in
      let next : (x + 1) % 2 ^ 64 ≡ length history = omega arith in
      let others_call : (j : ℕ) (u : W) (m : ℕ) → j ≢ id → get_elem? s.views j ≡ some (Some u) → IsIn m (numbers u) → m ≢ taken.seat =
      λ j u m other there stands same.
      other (sym ((r.fits j u there).numbered m stands).1 ∙ ap r.home (same ∙ sym numbered) ∙ ours.1) in
      let not_now : (j : ℕ) (u : W) (p : ℕ) → j ≢ id → p ≡ n → r.holder p ≡ j → ⊥ = λ j u p other is holds. other (sym holds ∙ ap r.holder is ∙ holder_is) in
      let none_left : (p : ℕ) → n + 1 ≤ p → HasTicket v p → ⊥ = λ p low h. ⊎_elim
      (λ (e : v.phase ≡ phase.Waits p). let clash : phase.InTurn t ≡ phase.Waits p = sym turn ∙ e in absurd (cc))
      (λ (e : v.phase ≡ phase.InTurn p). let both : phase.InTurn t ≡ phase.InTurn p = sym turn ∙ e in let same : t ≡ p = cc in omega arith) h in (
        Some w,
        gives,
        tt,
        record {
          base = r.base;
          opening = r.opening;
          history = history;
          tickets = r.tickets;
          allotments = r.allotments;
          made = r.made;
          holder = r.holder;
          home = r.home;
          words = ap (λ (ws : List ℕ). set ws 0 ((x + 1) % 2 ^ 64)) r.words ∙ ap (λ (y : ℕ). y ∷ r.tickets ∷ []) next;
          one_slot = length-set s.homes 0 (some kept) ∙ r.one_slot;
          legal = legal_with_step sound after reply r.base r.opening r.history taken r.legal
              (subst (λ (y : B). sound y taken.request ≡ true) mine.same.0 ok)
              (subst (λ (y : B × S × List (StepOf Q A)). taken.reply ≡ reply y.0 (state_after after y.0 y.1 y.2) taken.seat taken.request)
              (λ i. (mine.same.0 i, mine.same.1 i, seen i)) replied);
          entries = each-append (λ (y : StepOf Q A). y.seat < r.made) r.history (taken ∷ []) r.entries (subst (λ (y : ℕ). y < r.made) numbered ours.0, tt);
          made_few = r.made_few;
          balance = (let goal : r.tickets + k' ≡ sum_of r.allotments = omega arith in goal);
          small = r.small;
          drawn = (let goal : length history ≤ r.tickets = omega arith in goal);
          fits = fits_set (Fits r.base r.opening r.allotments history r.tickets r.made r.holder r.home) s.views id w
              (record {
                same = mine.same;
                begins = (
                  subst (λ (l : List (StepOf Q A)). BeginsWith history (l ++ taken ∷ [])) (sym seen) (begins-itself history),
                  each_so (BeginsWith r.history) (BeginsWith history) v.noted (λ l h. begins-longer r.history l (taken ∷ []) h) mine.begins.1,
                );
                calls = (
                  calls_by-own v.number r.history taken (sym numbered) ∙ ap (λ (l : List (StepOf Q A)). l ++ taken ∷ []) mine.calls.0,
                  subst (λ (l : List (ℕ × List (StepOf Q A))). Each (λ (y : ℕ × List (StepOf Q A)). calls_by y.0 history ≡ y.1) l) (sym alone) tt,
                );
                numbered = mine.numbered;
                joined_idle = λ _. refl;
                waits = λ p e. absurd (cc);
                turn = λ p e. absurd (cc);
                deals = mine.deals;
              })
              (λ j u other there. (let f = r.fits j u there in record {
                same = f.same;
                begins = (
                  begins-longer r.history u.seen (taken ∷ []) f.begins.0,
                  each_so (BeginsWith r.history) (BeginsWith history) u.noted (λ l h. begins-longer r.history l (taken ∷ []) h) f.begins.1,
                );
                calls = (
                  calls_by-other u.number r.history taken (λ same. others_call j u u.number other there (inl refl) (sym same)) ∙ f.calls.0,
                  joined_stay r.history taken u.joined (λ m stands. others_call j u m other there (inr stands)) f.calls.1,
                );
                numbered = f.numbered;
                joined_idle = f.joined_idle;
                waits =
                    λ p e. (let q = f.waits p e in let low : n ≤ p = q.0 in let apart : p
                    ≢ n = λ same. not_now j u p other same q.2 in ((let goal : length history ≤ p = omega arith in goal), q.1, q.2));
                turn = λ p e. (let q = f.turn p e in absurd (not_now j u p other q.0 q.2));
                deals = f.deals;
              }));
          held = λ p low high. (let far : n + 1 ≤ p = omega arith in let near : n ≤ p = omega arith in
              there_set (λ (u : W). HasTicket u p) s.views id v w (r.holder p) at (λ h. absurd (none_left p far h)) (r.held p near high));
          stands = λ m below. there_set (λ (u : W). IsIn m (numbers u)) s.views id v w (r.home m) at (λ h. h) (r.stands m below);
          at_home = λ nobody. (
            kept,
            (let one : length s.homes ≡ 1 = r.one_slot in set_here s.homes 0 (some kept) (omega arith)),
            stepped_after r.base r.opening r.allotments r.history v taken kept mine.same.0 mine.same.1 mine.same.2 seen stepped,
          );
          out =
              λ j u p there e. fits_set (λ (i : ℕ) (y : W). (q : ℕ) → y.phase ≡ phase.InTurn q → get_elem? (set s.homes 0 (some kept)) 0 ≡ some none) s.views id
              w
              (λ q e'. absurd (cc))
              (λ i y other there' q e'. (let f = (r.fits i y there').turn q e' in absurd (not_now i y q other f.0 f.2)))
              j u there p e;
        },
        (λ u kept' step' is journal. (
            let same : v ≡ u = one_view (Some v, (0, kept) ∷ []) v u ((0, kept) ∷ []) ((0, kept') ∷ []) refl is in
            let same_kept : kept ≡ kept' =
            (let pairs : (0, kept) ∷ []
            ≡ (0, kept') ∷ [] = ap (λ (m : Place T B S Q A). m.1) is in ap (λ (l : List (ℕ × Kept T Q A)). first_kept l kept) pairs) in
            let longer : u.seen ++ step' ∷ [] ≡ u.seen ++ taken ∷ [] =
            sym journal ∙ ap (λ (y : Kept T Q A). y.journal.items) (sym same_kept) ∙ stepped.journal ∙ ap (λ (y : W). y.seen ++ taken ∷ []) same in
            let same_step : taken ≡ step' = same_last u.seen taken step' (sym longer) in
            λ i. (Some (done (same i) (same_step i)), [])
            )),
      )

  -- the same of a seat that meets what a step asks
  pub draws_at : (slots id : ℕ) (me : Place T B S Q A) → MayCall me → Allows Rule slots id me 1 (λ n. (n + 1) % 2 ^ 64) (drew (step slots 1 1 0 none) me)
  draws_at slots id me (v, is, idle, alone, dealt, some_left) =
      subst (λ (m : Place T B S Q A). Allows Rule slots id m 1 (λ n. (n + 1) % 2 ^ 64) (drew (step slots 1 1 0 none) m)) (sym is)
      (draws slots id v idle alone dealt some_left)

  pub looks_at : (slots id : ℕ) (me : Place T B S Q A) (ticket : ℕ) → IsWaiting ticket me
      → Allows Rule slots id me 0 (λ n. n) (looked base_of state_of room sound after reply (step slots 0 0 0 none) me)
  looks_at slots id me ticket (v, is, waits, alone, dealt) =
      subst (λ (m : Place T B S Q A). Allows Rule slots id m 0 (λ n. n) (looked base_of state_of room sound after reply (step slots 0 0 0 none) m)) (sym is)
      (looks slots id v ticket waits alone dealt)

  pub passes_at : (slots id : ℕ) (me : Place T B S Q A) (taken : StepOf Q A) → HasToPass base_of state_of room sound after reply taken me
      → Allows Rule slots id me 0 (λ n. (n + 1) % 2 ^ 64) (passed (step slots 0 1 0 none) me)
  passes_at slots id me taken due =
      subst (λ (m : Place T B S Q A). Allows Rule slots id m 0 (λ n. (n + 1) % 2 ^ 64) (passed (step slots 0 1 0 none) m)) (sym due.is)
      (passes slots id due.view due.kept due.turn.0 taken due.turn.1 due.numbered due.alone.0 due.alone.1 due.sound_request due.replied due.stepped)

  -- a waiting seat whose ticket was found is served
  pub served : (me new : Place T B S Q A) (found ticket : ℕ) → IsWaiting ticket me
      → looked base_of state_of room sound after reply (step 1 0 0 0 none) me found new → found ≡ ticket
      → (v : W) → At me v → Serves base_of state_of room sound after reply v ticket new
  served me new found ticket (w, is, waits, alone, dealt) told hit v at =
      let same : w ≡ v = one_view me w v [] [] is at in
      (told v ticket at (ap (λ (y : W). y.phase) (sym same) ∙ waits)).1 hit

  -- and one whose ticket was not found is as it was
  pub not_served : (me new : Place T B S Q A) (found ticket : ℕ) → IsWaiting ticket me
      → looked base_of state_of room sound after reply (step 1 0 0 0 none) me found new → found ≢ ticket → new ≡ me
  not_served me new found ticket (w, is, waits, alone, dealt) told miss = (told w ticket is waits).0 miss

  -- the slot that was lent is the one that the seat has
  one_kept : (me : Place T B S Q A) (v : W) (kept found : Kept T Q A) → Has me v kept → me.1 ≡ (0, found) ∷ rest me.1 → kept ≡ found
  one_kept me v kept found has lent =
      let pairs : (0, kept) ∷ [] ≡ (0, found) ∷ rest me.1 = sym (ap (λ (m : Place T B S Q A). m.1) has) ∙ lent in
      ap (λ (l : List (ℕ × Kept T Q A)). first_kept l kept) pairs

  -- what a step of the object asks
  pub may_step_now : (me : Place T B S Q A) (number : ℕ) (request : Q) (found : Kept T Q A) → MayStep base_of state_of room sound after reply number request me
      → me.1 ≡ (0, found) ∷ rest me.1
      → (sound (base_of found.object) request ≡ true) × (1 ≤ room found.object) × (length found.journal.items < vec_capacity found.journal)
  may_step_now me number request found due lent =
      let fits = due.ready.is_after in
      let n : ℕ = length due.view.seen in
      let few : n < sum_of due.view.allotments = due.ready.fits in
      let q : ℕ = room due.kept.object in
      let roomy : sum_of due.view.allotments ≤ n + q = fits.roomy in
      let cap : ℕ = vec_capacity due.kept.journal in
      let wide : sum_of due.view.allotments ≤ cap = fits.reserved in
      let m : ℕ = length due.kept.journal.items in
      let long : m ≡ n = ap length fits.journal in
      subst (λ (y : Kept T Q A). (sound (base_of y.object) request ≡ true) × (1 ≤ room y.object) × (length y.journal.items < vec_capacity y.journal))
      (one_kept me due.view due.kept found due.is lent)
      (ap (λ (b : B). sound b request) fits.same_base ∙ due.sound_request, (let goal : 1 ≤ q = omega arith in goal), (let goal : m < cap = omega arith in goal))

  -- and what it leaves
  pub steps_on : (me : Place T B S Q A) (found now : Kept T Q A) (number : ℕ) (request : Q) (answer : A)
      → MayStep base_of state_of room sound after reply number request me → me.1 ≡ (0, found) ∷ rest me.1
      → base_of now.object ≡ base_of found.object → state_of now.object ≡ after (base_of found.object) (state_of found.object) number request
      → answer ≡ reply (base_of found.object) (state_of found.object) number request → room now.object + 1 ≡ room found.object
      → now.journal.items ≡ found.journal.items ++ step_of number request answer ∷ [] → vec_capacity now.journal ≡ vec_capacity found.journal
      → Steps base_of state_of room sound after reply number request answer me (me.0, (0, now) ∷ rest me.1)
  steps_on me found now number request answer due lent same_base moved answered lower noted reserved v kept has =
      let fits = due.ready.is_after in
      let same : due.view ≡ v = one_view me due.view v ((0, due.kept) ∷ []) ((0, kept) ∷ []) due.is has in
      let taken : due.kept ≡ found = one_kept me due.view due.kept found due.is lent in
      let base_is : base_of found.object ≡ due.view.base = ap (λ (y : Kept T Q A). base_of y.object) (sym taken) ∙ fits.same_base in
      let state_is : state_of found.object ≡ state_after after due.view.base due.view.opening due.view.seen =
      ap (λ (y : Kept T Q A). state_of y.object) (sym taken) ∙ fits.last in
      let n : ℕ = length due.view.seen in
      let q : ℕ = room found.object in
      let p : ℕ = room now.object in
      let lower' : p + 1 ≡ q = lower in
      let roomy : sum_of due.view.allotments ≤ n + q = subst (λ (y : Kept T Q A). sum_of due.view.allotments ≤ n + room y.object) taken fits.roomy in
      let tail : (me.0, (0, now) ∷ rest me.1) ≡ (Some v, (0, now) ∷ []) = ap (λ (m : Place T B S Q A). (m.0, (0, now) ∷ rest m.1)) has in
      let stepped : HasStepped base_of state_of room sound after reply due.view (step_of number request answer) now = record {
        same_base = same_base ∙ base_is;
        last = moved ∙ (λ i. after (base_is i) (state_is i) number request);
        journal =
            noted
            ∙ ap (λ (l : List (StepOf Q A)). l ++ step_of number request answer ∷ []) (ap (λ (y : Kept T Q A). y.journal.items) (sym taken) ∙ fits.journal);
        roomy = (let goal : sum_of due.view.allotments ≤ n + 1 + p = omega arith in goal);
        reserved = subst (λ (m : ℕ). sum_of due.view.allotments ≤ m) (ap (λ (y : Kept T Q A). vec_capacity y.journal) taken ∙ sym reserved) fits.reserved;
      } in
      subst
      (λ (y : W). (answer ≡ reply y.base (state_after after y.base y.opening y.seen) number request)
      × ((k : Kept T Q A) × Has (me.0, (0, now) ∷ rest me.1) v k
      × HasStepped base_of state_of room sound after reply y (step_of number request answer) k))
      same
      (answered ∙ (λ i. reply (base_is i) (state_is i) number request), (now, tail, stepped))
