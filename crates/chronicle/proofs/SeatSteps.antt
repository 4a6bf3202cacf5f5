-- The table opens with its rule, and splitting a seat off and joining two seats keep it.
use Rattle.std.proofs.Common.{◌≡◌, ◌≢◌, ◌+◌, ◌-◌, ◌^◌, ◌≤◌, ◌<◌, ◌++◌, ◌∷◌, [], ℕ, zero, suc, List, length, map, set, Bool, cond, refl, sym, ap, subst, ◌∙◌, ◌⊎◌, ⊎_elim, inl, inr, arith, eqb, eq-eqb, ne_eqb, length-set, nat_lt}
use Rattle.std.specs.Prelude.{Option, Some, None}
use Rattle.std.proofs.lemmas.Bool.{cases_Bool}
use mathlib.Core.Logic.{dite}
use mathlib.Core.Option.{none, some, some-injective, some-ne-none}
use native.Mathlib.Decide.{ℕ_discrete}
use lib.ListN.{get_elem?}
use Rattle.std.specs.Vec.{vec_capacity}
use Rattle.plain_facts.proofs.Outcomes.{same_some}
use Rattle.atomic_table.specs.Table.{State, opening, Splits, Joins}
use Rattle.atomic_table.proofs.Lists.{set_here, set_else, at_longer, at_last}
use Rattle.market_units.specs.Beginnings.{BeginsWith}
use Rattle.market_units.specs.Totals.{total}
use Rattle.market_units.proofs.Fronts.{begins-nothing}
use Rattle.market_units.proofs.Sums.{total-append}
use Rattle.chronicle.specs.declared.journal.StepOf.{StepOf}
use Rattle.chronicle.specs.declared.kept.Kept.{Kept}
use Rattle.chronicle.specs.declared.view.View.{View}
use Rattle.chronicle.specs.declared.view.Phase.TheVariants as phase
use Rattle.chronicle.specs.History.{calls_by}
use Rattle.chronicle.specs.Views.{sum_of, first_of, rest_of, fresh, first_view, dealt, dealt_seat, longer, with_seat, numbers, left_of}
use Rattle.chronicle.specs.Members.{IsIn}
use Rattle.chronicle.specs.Rule.{HasTicket, NobodyInTurn, Fits, Keeps}
use Rattle.chronicle.proofs.HistoryLaws.{calls_by-unmade}
use Rattle.chronicle.proofs.ViewLists.{total-set, at_below, each_so, each-append, in_images, in_images_front, in_images_back, same_place, fits_set, fits_spent, there_set}
use Rattle.chronicle.proofs.TurnSteps.{nobody_before}

pub plan_parts : (plan : List ℕ) → sum_of plan ≡ first_of plan + sum_of (rest_of plan)
plan_parts [] = refl
plan_parts (n ∷ ns) = refl

plan_length : (plan : List ℕ) → plan ≢ [] → length plan ≡ length (rest_of plan) + 1
plan_length [] some_plan = absurd (some_plan refl)
plan_length (n ∷ ns) some_plan = let k : ℕ = length ns in let goal : suc k ≡ k + 1 = omega arith in goal

-- the last item, or one of those before it
at_snoc : {X : Type 0} (l : List X) (a b : X) (j : ℕ) → get_elem? (l ++ a ∷ []) j ≡ some b → (get_elem? l j ≡ some b) ⊎ ((j ≡ length l) × (a ≡ b))
at_snoc [] a b zero e = inr (refl, some-injective a b e)
at_snoc [] a b (suc j) e = absurd (some-ne-none b (sym e))
at_snoc (x ∷ xs) a b zero e = inl e
at_snoc (x ∷ xs) a b (suc j) e = ⊎_elim (λ h. inl h) (λ (h : (j ≡ length xs) × (a ≡ b)). inr (ap suc h.0, h.1)) (at_snoc xs a b j e)

-- each view of a longer list meets what it has to
fits_last : {W : Type 0} (P : ℕ → W → Type 0) (vs : List (Option W)) (m : ℕ) (w : W) → length vs ≡ m
    → ((j : ℕ) (u : W) → get_elem? vs j ≡ some (Some u) → P j u) → P m w
    → (j : ℕ) (u : W) → get_elem? (vs ++ Some w ∷ []) j ≡ some (Some u) → P j u
fits_last P vs m w long before last j u e =
    ⊎_elim (λ h. before j u h)
    (λ (h : (j ≡ length vs) × (Some w ≡ Some u)). subst (λ (y : ℕ × _). P y.0 y.1) (λ i. (sym (h.0 ∙ long) i, same_some w u h.1 i)) last)
    (at_snoc vs (Some w) (Some u) j e)

-- a view that is there is there in a longer list
there_longer : {W : Type 0} (P : W → Type 0) (vs more : List (Option W)) (j : ℕ) → ((u : W) × (get_elem? vs j ≡ some (Some u)) × P u)
    → (u : W) × (get_elem? (vs ++ more) j ≡ some (Some u)) × P u
there_longer P vs more j (u, there, holds) = (u, at_longer vs more j (Some u) there, holds)

-- what both lists begin, the longer begins
begins_longer_of : {X : Type 0} (history xs ys : List X) → BeginsWith history xs → BeginsWith history ys → BeginsWith history (longer xs ys)
begins_longer_of history xs ys front other =
    elim (cases_Bool (nat_lt (length xs) (length ys))) [
      | inl t ↦ rw t other
      | inr f ↦ rw f front
    ]

module _ {T B S Q A : Type 0} (base_of : T → B) (state_of : T → S) (room : T → ℕ) (sound : B → Q → Bool) (after : B → S → ℕ → Q → S)
    (reply : B → S → ℕ → Q → A) where
  abbrev W : Type 0
  W = View B S Q A

  abbrev St : Type 0
  St = State (Kept T Q A) (Option W)

  abbrev Rule : St → Type 0
  Rule = Keeps base_of state_of room sound after reply

  pub opens : (kept : Kept T Q A) (allotments : List ℕ) → 1 ≤ length allotments → kept.journal.items ≡ [] → sum_of allotments ≤ room kept.object
      → sum_of allotments ≤ vec_capacity kept.journal → sum_of allotments < 2 ^ 64
      → Rule (opening (0 ∷ 0 ∷ []) (kept ∷ []) (first_view (base_of kept.object) (state_of kept.object) allotments))
  opens kept allotments some_seat empty roomy wide limit =
      let n : ℕ = sum_of allotments in
      let v : W = fresh (base_of kept.object) (state_of kept.object) allotments 0 n 1 (rest_of allotments) in
      let parts : n ≡ first_of allotments + sum_of (rest_of allotments) = plan_parts allotments in
      let long : length allotments ≡ length (rest_of allotments) + 1 = plan_length allotments (λ none. (let zero_long : length allotments ≡ 0 = ap length none in omega arith)) in record {
        base = base_of kept.object;
        opening = state_of kept.object;
        history = [];
        tickets = 0;
        allotments = allotments;
        made = 1;
        holder = λ t. 0;
        home = λ m. 0;
        words = refl;
        one_slot = refl;
        legal = tt;
        entries = tt;
        made_few = some_seat;
        balance = (let goal : 0 + (n + 0) ≡ n = omega arith in goal);
        small = limit;
        drawn = (let goal : 0 ≤ 0 = omega arith in goal);
        fits = fits_last (Fits (base_of kept.object) (state_of kept.object) allotments [] 0 1 (λ t. 0) (λ m. 0)) [] 0 v refl (λ j u e. absurd (some-ne-none (Some u) (sym e))) (record {
          same = (refl, refl, refl);
          begins = (begins-nothing [], tt);
          calls = (refl, tt);
          numbered = λ m h. ⊎_elim (λ (e : 0 ≡ m). ((let goal : m < 1 = omega arith in goal), refl)) (λ none. absurd none) h;
          joined_idle = λ _. refl;
          waits = λ t e. absurd (cc);
          turn = λ t e. absurd (cc);
          deals =
              λ _. (
                refl,
                refl,
                (let k : ℕ = length (rest_of allotments) in let goal : 1 + k ≡ length allotments = omega arith in goal),
                (let k : ℕ = sum_of (rest_of allotments) in let f : ℕ = first_of allotments in let parts' : n ≡ f + k = parts in let goal : k
                    ≤ n = omega arith in goal),
              );
        });
        held = λ t low high. absurd (omega arith);
        stands = λ m below. (v, refl, inl (let goal : 0 ≡ m = omega arith in goal));
        at_home = λ _. (
          kept,
          refl,
          record {
            same_base = refl;
            last = refl;
            journal = empty;
            roomy = (let q : ℕ = room kept.object in let goal : n ≤ 0 + q = omega arith in goal);
            reserved = wide;
          },
        );
        out =
            λ j u t there turn. fits_last (λ (i : ℕ) (y : W). (p : ℕ) → y.phase ≡ phase.InTurn p → get_elem? (some kept ∷ []) 0 ≡ some none) [] 0 v refl
            (λ i y e. absurd (some-ne-none (Some y) (sym e))) (λ p e. absurd (cc)) j u there t turn;
      }

  -- the next seat is split off
  pub deals : (id : ℕ) (v : W) → v.phase ≡ phase.Idle → v.plan ≢ [] → Splits Rule id (Some v) (Some (dealt v)) (Some (dealt_seat v))
  deals id v idle some_plan s r at =
      let w : W = dealt v in
      let u : W = dealt_seat v in
      let mine = r.fits id v at in
      let of = mine.deals some_plan in
      let vs : List (Option W) = set s.views id (Some w) in
      let m : ℕ = length s.views in
      let long : length vs ≡ m = length-set s.views id (Some w) in
      let n : ℕ = length r.history in
      let a : ℕ = first_of v.plan in
      let rest : ℕ = sum_of (rest_of v.plan) in
      let whole : ℕ = sum_of v.plan in
      let parts : whole ≡ a + rest = plan_parts v.plan in
      let within : whole ≤ v.left = of.3 in
      let k : ℕ = total left_of s.views in
      let k1 : ℕ = total left_of vs in
      let k2 : ℕ = total left_of (vs ++ Some u ∷ []) in
      let change : k1 + v.left ≡ k + (v.left - a) = total-set left_of s.views id (Some v) (Some w) at in
      let more : k2 ≡ k1 + (a + 0) = total-append left_of vs (Some u ∷ []) in
      let all : r.tickets + k ≡ sum_of r.allotments = r.balance in
      let made_is : v.made ≡ r.made = of.1 in
      let tail : ℕ = length (rest_of v.plan) in
      let plan_is : length v.plan ≡ tail + 1 = plan_length v.plan some_plan in
      let seats : r.made + length v.plan ≡ length r.allotments = of.2 in
      let home : ℕ → ℕ = λ j. cond (eqb j r.made) m (r.home j) in
      let old_home : (j : ℕ) → j < r.made → home j ≡ r.home j = λ j below. ap (λ b. cond b m (r.home j)) (ne_eqb j r.made (λ e. omega arith)) in
      let new_home : home r.made ≡ m = ap (λ b. cond b m (r.home r.made)) (eq-eqb r.made r.made refl) in
      let not_in_turn : (t : ℕ) → v.phase ≢ phase.InTurn t = λ t e. (let clash : phase.Idle ≡ phase.InTurn t = sym idle ∙ e in absurd (cc)) in
      let no_ticket : (t : ℕ) → HasTicket v t → ⊥ =
      λ t h. ⊎_elim (λ (e : v.phase ≡ phase.Waits t). let clash : phase.Idle ≡ phase.Waits t = sym idle ∙ e in absurd (cc))
      (λ (e : v.phase ≡ phase.InTurn t). not_in_turn t e) h in
      let first : r.home 0 ≡ id = (let named = mine.numbered v.number (inl refl) in ap r.home (sym of.0) ∙ named.1) in
      let P : ℕ → W → Type 0 = Fits r.base r.opening r.allotments r.history r.tickets (r.made + 1) r.holder home in
      record {
        base = r.base;
        opening = r.opening;
        history = r.history;
        tickets = r.tickets;
        allotments = r.allotments;
        made = r.made + 1;
        holder = r.holder;
        home = home;
        words = r.words;
        one_slot = r.one_slot;
        legal = r.legal;
        entries =
            each_so (λ (y : StepOf Q A). y.seat < r.made) (λ (y : StepOf Q A). y.seat < r.made + 1) r.history
            (λ y low. (let goal : y.seat < r.made + 1 = omega arith in goal)) r.entries;
        made_few = (let goal : r.made + 1 ≤ length r.allotments = omega arith in goal);
        balance = (let goal : r.tickets + k2 ≡ sum_of r.allotments = omega arith in goal);
        small = r.small;
        drawn = r.drawn;
        fits = fits_last P vs m u long
            (fits_set P s.views id w
            (record {
              same = mine.same;
              begins = mine.begins;
              calls = mine.calls;
              numbered =
                  λ j h. (let q = mine.numbered j h in let low : j < r.made = q.0 in ((let goal : j < r.made + 1 = omega arith in goal), old_home j low ∙ q.1));
              joined_idle = mine.joined_idle;
              waits = λ t e. absurd (no_ticket t (inl e));
              turn = λ t e. absurd (not_in_turn t e);
              deals =
                  λ _. (
                    of.0,
                    ap (λ (y : ℕ). y + 1) made_is,
                    (let goal : r.made + 1 + tail ≡ length r.allotments = omega arith in goal),
                    (let goal : rest ≤ v.left - a = omega arith in goal),
                  );
            })
            (λ j y other there. (let f = r.fits j y there in record {
              same = f.same;
              begins = f.begins;
              calls = f.calls;
              numbered =
                  λ i h. (let q = f.numbered i h in let low : i < r.made = q.0 in ((let goal : i < r.made + 1 = omega arith in goal), old_home i low ∙ q.1));
              joined_idle = f.joined_idle;
              waits = f.waits;
              turn = f.turn;
              deals =
                  λ some_other. (let theirs = f.deals some_other in let named = f.numbered y.number (inl refl) in absurd
                  (other (sym named.1 ∙ ap r.home theirs.0 ∙ first)));
            })))
            (record {
              same = mine.same;
              begins = (begins-nothing r.history, tt);
              calls = (
                calls_by-unmade v.made r.history
                    (each_so (λ (y : StepOf Q A). y.seat < r.made) (λ (y : StepOf Q A). y.seat ≢ v.made) r.history
                    (λ y low same. (let clash : ⊥ = omega arith in clash)) r.entries),
                tt,
              );
              numbered =
                  λ j h. ⊎_elim
                  (λ (e : v.made ≡ j). (let is : j ≡ r.made = sym e ∙ made_is in ((let goal : j < r.made + 1 = omega arith in goal), ap home is ∙ new_home)))
                  (λ none. absurd none) h;
              joined_idle = λ _. refl;
              waits = λ t e. absurd (cc);
              turn = λ t e. absurd (cc);
              deals = λ none. absurd (none refl);
            });
        held =
            λ t low high. there_longer (λ (y : W). HasTicket y t) vs (Some u ∷ []) (r.holder t)
            (there_set (λ (y : W). HasTicket y t) s.views id v w (r.holder t) at (λ h. absurd (no_ticket t h)) (r.held t low high));
        stands = λ j below. dite (ℕ_discrete j r.made)
            (λ same. (u, ap (λ (i : ℕ). get_elem? (vs ++ Some u ∷ []) i) (ap home same ∙ new_home) ∙ at_last vs (Some u) m long, inl (made_is ∙ sym same)))
            (λ other. (let low : j < r.made = omega arith in subst (λ (i : ℕ). (y : W) × (get_elem? (vs ++ Some u ∷ []) i ≡ some (Some y)) × IsIn j (numbers y)) (sym (old_home j low))
            (there_longer (λ (y : W). IsIn j (numbers y)) vs (Some u ∷ []) (r.home j) (there_set (λ (y : W). IsIn j (numbers y)) s.views id v w (r.home j) at (λ h. h) (r.stands j low)))));
        at_home =
            λ nobody. r.at_home
            (nobody_before s.views id v (Some w) at not_in_turn (λ j y t there turn. nobody j y t (at_longer vs (Some u ∷ []) j (Some y) there) turn));
        out = λ j y t there turn. fits_last (λ (i : ℕ) (z : W). (p : ℕ) → z.phase ≡ phase.InTurn p → get_elem? s.homes 0 ≡ some none) vs m u long
            (fits_set (λ (i : ℕ) (z : W). (p : ℕ) → z.phase ≡ phase.InTurn p → get_elem? s.homes 0 ≡ some none) s.views id w (λ p e. absurd (not_in_turn p e))
            (λ i z other there' p e. r.out i z p there' e))
            (λ p e. absurd (cc)) j y there t turn;
      }

  -- a seat that makes no call joins another that makes none
  pub joins : (id : ℕ) (v : W) (other : ℕ) (w : W) → v.phase ≡ phase.Idle → w.phase ≡ phase.Idle → v.plan ≡ [] → w.plan ≡ []
      → Joins Rule id (Some v) other (Some w) (Some (with_seat v w)) None
  joins id v other w idle idle_too dealt_all dealt_too s r at apart there =
      let both : W = with_seat v w in
      let vs : List (Option W) = set s.views id (Some both) in
      let ws : List (Option W) = set vs other None in
      let old : get_elem? s.views other ≡ some (Some w) = sym (set_else s.views id other (Some both) apart) ∙ there in
      let mine = r.fits id v at in
      let theirs = r.fits other w old in
      let k : ℕ = total left_of s.views in
      let k1 : ℕ = total left_of vs in
      let k2 : ℕ = total left_of ws in
      let change1 : k1 + v.left ≡ k + (v.left + w.left) = total-set left_of s.views id (Some v) (Some both) at in
      let change2 : k2 + w.left ≡ k1 + 0 = total-set left_of vs other (Some w) None there in
      let all : r.tickets + k ≡ sum_of r.allotments = r.balance in
      let home : ℕ → ℕ = λ n. cond (eqb (r.home n) other) id (r.home n) in
      let moved_home : (n : ℕ) → r.home n ≡ other → home n ≡ id = λ n is. ap (λ b. cond b id (r.home n)) (eq-eqb (r.home n) other is) in
      let same_home : (n : ℕ) → r.home n ≢ other → home n ≡ r.home n = λ n is. ap (λ b. cond b id (r.home n)) (ne_eqb (r.home n) other is) in
      let in_turn_never : (u : W) (t : ℕ) → u.phase ≡ phase.Idle → u.phase ≢ phase.InTurn t =
      λ u t rests e. (let clash : phase.Idle ≡ phase.InTurn t = sym rests ∙ e in absurd (cc)) in
      let no_ticket : (u : W) (t : ℕ) → u.phase ≡ phase.Idle → HasTicket u t → ⊥ =
      λ u t rests h. ⊎_elim (λ (e : u.phase ≡ phase.Waits t). let clash : phase.Idle ≡ phase.Waits t = sym rests ∙ e in absurd (cc))
      (λ (e : u.phase ≡ phase.InTurn t). in_turn_never u t rests e) h in
      let number_of : ℕ × List (StepOf Q A) → ℕ = λ x. x.0 in
      let noted_w : ℕ × List (StepOf Q A) = (w.number, w.own) in
      let either : (n : ℕ) → IsIn n (numbers both) → IsIn n (numbers v) ⊎ IsIn n (numbers w) = λ n h. ⊎_elim (λ (e : v.number ≡ n). inl (inl e))
      (λ (h' : IsIn n (map number_of (v.joined ++ noted_w ∷ w.joined))). ⊎_elim (λ (i : IsIn n (map number_of v.joined)). inl (inr i))
      (λ (i : IsIn n (numbers w)). inr i) (in_images number_of v.joined (noted_w ∷ w.joined) n h'))
      h in
      let P : ℕ → W → Type 0 = Fits r.base r.opening r.allotments r.history r.tickets r.made r.holder home in
      record {
        base = r.base;
        opening = r.opening;
        history = r.history;
        tickets = r.tickets;
        allotments = r.allotments;
        made = r.made;
        holder = r.holder;
        home = home;
        words = r.words;
        one_slot = r.one_slot;
        legal = r.legal;
        entries = r.entries;
        made_few = r.made_few;
        balance = (let goal : r.tickets + k2 ≡ sum_of r.allotments = omega arith in goal);
        small = r.small;
        drawn = r.drawn;
        fits = fits_spent P vs other (λ j y not_other there'. fits_set (λ (i : ℕ) (z : W). i ≢ other → P i z) s.views id both
            (λ _. record {
              same = mine.same;
              begins = (
                begins_longer_of r.history v.seen w.seen mine.begins.0 theirs.begins.0,
                each-append (BeginsWith r.history) v.noted (v.seen ∷ w.seen ∷ w.noted) mine.begins.1 (mine.begins.0, theirs.begins),
              );
              calls = (
                mine.calls.0,
                each-append (λ (x : ℕ × List (StepOf Q A)). calls_by x.0 r.history ≡ x.1) v.joined (noted_w ∷ w.joined) mine.calls.1 theirs.calls,
              );
              numbered = λ n h. ⊎_elim
                  (λ (i : IsIn n (numbers v)). (let q = mine.numbered n i in (q.0, same_home n (λ e. apart (sym e ∙ q.1)) ∙ q.1)))
                  (λ (i : IsIn n (numbers w)). (let q = theirs.numbered n i in (q.0, moved_home n q.1))) (either n h);
              joined_idle = λ _. idle;
              waits = λ t e. absurd (no_ticket v t idle (inl e));
              turn = λ t e. absurd (in_turn_never v t idle e);
              deals = λ some_plan. absurd (some_plan dealt_all);
            })
            (λ i z not_id there'' not_other'. (let f = r.fits i z there'' in record {
              same = f.same;
              begins = f.begins;
              calls = f.calls;
              numbered = λ n h. (let q = f.numbered n h in (q.0, same_home n (λ e. not_other' (sym q.1 ∙ e)) ∙ q.1));
              joined_idle = f.joined_idle;
              waits = f.waits;
              turn = f.turn;
              deals = f.deals;
            })) j y there' not_other);
        held = λ t low high. (let h = there_set (λ (y : W). HasTicket y t) s.views id v both (r.holder t) at (λ h. absurd (no_ticket v t idle h)) (r.held t low high) in
            (h.0, set_else vs other (r.holder t) None (λ e. no_ticket w t idle_too (subst (λ (y : W). HasTicket y t) (same_place vs other (r.holder t) w h.0 there h.1 e) h.2)) ∙ h.1, h.2));
        stands = λ n below. (let h = r.stands n below in dite (ℕ_discrete (r.home n) other)
            (λ is. (
              both,
              ap (λ (i : ℕ). get_elem? ws i) (moved_home n is) ∙ set_else vs other id None (λ e. apart (sym e))
                  ∙ set_here s.views id (Some both) (at_below s.views id (Some v) at),
              inr
                  (in_images_back number_of v.joined (noted_w ∷ w.joined) n
                  (subst (λ (y : W). IsIn n (numbers y)) (same_place s.views other (r.home n) w h.0 old h.1 is) h.2)),
            ))
            (λ not. (let h' = there_set (λ (y : W). IsIn n (numbers y)) s.views id v both (r.home n) at
            (λ i. ⊎_elim (λ (e : v.number ≡ n). inl e)
            (λ (i' : IsIn n (map number_of v.joined)). inr (in_images_front number_of v.joined (noted_w ∷ w.joined) n i')) i)
            h in
            (h'.0, ap (λ (i : ℕ). get_elem? ws i) (same_home n not) ∙ set_else vs other (r.home n) None not ∙ h'.1, h'.2))));
        at_home =
            λ nobody. r.at_home
            (nobody_before s.views id v (Some both) at (λ t. in_turn_never v t idle)
            (nobody_before vs other w None there (λ t. in_turn_never w t idle_too) nobody));
        out = λ j u t there' turn. fits_spent (λ (i : ℕ) (z : W). (p : ℕ) → z.phase ≡ phase.InTurn p → get_elem? s.homes 0 ≡ some none) vs other
            (λ i z _ there''. fits_set (λ (i : ℕ) (z : W). (p : ℕ) → z.phase ≡ phase.InTurn p → get_elem? s.homes 0 ≡ some none) s.views id both
            (λ p e. absurd (in_turn_never v p idle e)) (λ i z _ there''' p e. r.out i z p there''' e) i z there'') j u there' t turn;
      }

  -- where one view has all numbers and makes no call, nobody is in turn
  pub nobody_else : (id : ℕ) (v : W) (s : St) (r : Rule s) → get_elem? s.views id ≡ some (Some v) → v.phase ≡ phase.Idle
      → ((n : ℕ) → n < length r.allotments → IsIn n (numbers v)) → NobodyInTurn s.views
  nobody_else id v s r at idle everyone j u t there turn =
      let few : r.made ≤ length r.allotments = r.made_few in
      let named = (r.fits j u there).numbered u.number (inl refl) in
      let low : u.number < r.made = named.0 in
      let ours = (r.fits id v at).numbered u.number (everyone u.number (omega arith)) in
      let same : j ≡ id = sym named.1 ∙ ours.1 in
      let clash : phase.Idle ≡ phase.InTurn t = sym idle ∙ ap (λ (y : W). y.phase) (sym (same_place s.views id j v u at there same)) ∙ turn in
      absurd (cc)
