-- A seat that is given up goes to the first of those who wait whom the section fits; and a request that is refused changes nothing.
use Rattle.std.proofs.Common.{ℕ, length-set, ◌≡◌, ◌≢◌, ◌<◌, ◌≤◌, ◌+◌, ◌++◌, ◌==◌, ◌∙◌, Bool, true, false, List, [], ◌∷◌, length, drop, arith, refl, sym, ap, subst, inl, inr, Some, None}
use Rattle.std.specs.Prelude.{slice_get, option_map, if◌then◌else◌, Option}
use Rattle.std.specs.List.{before_first, find, position_or_len}
use Rattle.std.proofs.lemmas.Bool.{cases_eq, eq-eqb, eqb-true, false≢true, true≢false}
use Rattle.std.proofs.lemmas.List.{length-take-le, take_all}
use Rattle.std.proofs.lemmas.List.Folds.{find_at}
use Rattle.std.proofs.lemmas.List.Sums.{fails_before_first}
use Rattle.std.proofs.lemmas.Option.{get_or_from_slice_get, slice_get_past, slice_get_within}
use Rattle.market_units.specs.declared.names.Name.{Name}
use Rattle.market_units.specs.declared.units.StudentNo.{StudentNo}
use Rattle.chronicle.specs.History.{state_after as state_after_steps}
use Rattle.chronicle.proofs.HistoryLaws.{reply_of_step, state_after-append}
use Rattle.market_units.specs.Members.{has}
use Rattle.dropadd_desk.specs.declared.command.HallCommand.{HallCommand}
use Rattle.dropadd_desk.specs.declared.command.HallCommand.TheVariants.{Add, Drop, Leave, Unreadable}
use Rattle.dropadd_desk.specs.declared.reply.HallReply.{HallReply}
use Rattle.dropadd_desk.specs.declared.reply.HallReply.TheVariants as reply
use Rattle.dropadd_desk.specs.declared.shared.HallState.{HallState}
use Rattle.dropadd_desk.specs.Market.{Market, section_count, section_named, student_count}
use Rattle.bundle_rules.specs.Sets.{without_section}
use Rattle.dropadd_desk.specs.Sets.{with_section}
use Rattle.dropadd_desk.specs.Fits.{fits}
use Rattle.dropadd_desk.specs.Halls.{IsHall}
use Rattle.dropadd_desk.specs.Laws.{FirstFitLaw, GoesToFirstFit, RefusalLaw}
use Rattle.dropadd_desk.specs.Lines.{HallStep, is_refusal, names_section}
use Rattle.dropadd_desk.specs.Shared.{is_sound, reply_to, state_after}
use Rattle.dropadd_desk.specs.Step.{add, answered, by_names, drop as drop_section, given, has_free_seat, held_by, known, leave, pass_on, refusal, step as step_of, waiting_for, with_held, with_waiting}
use Rattle.dropadd_desk.proofs.Conserved.{Names, names_or_quiet, section_within, student_within}
use Rattle.dropadd_desk.proofs.Fitting.{all_halls, found_passes}
use Rattle.dropadd_desk.proofs.SetChanges.{has-with}
use Rattle.dropadd_desk.proofs.Stepped.{QuietOrNone, has_at, none_past, refusal_quiet}
use Rattle.dropadd_desk.proofs.Steps.{held_here, held_there}

-- a reply has one number and one student
same_dropped : (n m : ℕ) (one other : Option StudentNo) → reply.Dropped n one ≡ reply.Dropped m other → (n ≡ m) × (one ≡ other)
same_dropped n m one other e = (cc e, cc e)

-- The student, who holds the section, gives it up.
module _ (market : Market) (state : HallState) (is : IsHall market state) (i s : ℕ) (low : i < student_count market) (below : s < section_count market)
    (holds : has (held_by state i) s ≡ true) where
  abbrev gone : HallState
  gone = with_held state i (without_section s (held_by state i))

  list : List ℕ
  list = waiting_for state s

  fit : ℕ → Bool
  fit = λ j. fits market j s (held_by gone j)

  place : ℕ
  place = position_or_len fit list

  behind : HallState
  behind = with_waiting gone s (drop (place + 1) list)

  -- whoever waits is another, and holds what he held
  waits_apart : (j : ℕ) → has list j ≡ true → j ≢ i
  unfolding list
  waits_apart j there same = true≢false (sym holds ∙ sym (ap (λ n. has (held_by state n) s) same) ∙ is.apart j s there)

  held_still : (j : ℕ) → j ≢ i → held_by gone j ≡ held_by state j
  held_still j apart = held_there state i j (without_section s (held_by state i)) apart

  fit_is : (j : ℕ) → has list j ≡ true → fit j ≡ fits market j s (held_by state j)
  unfolding fit
  fit_is j there = ap (fits market j s) (held_still j (waits_apart j there))

  -- one who did not hold the section does not by another's giving it up
  lacks_still : (j : ℕ) → has (held_by state j) s ≡ false → has (held_by gone j) s ≡ false
  lacks_still j lacks = ap (λ held. has held s) (held_still j (λ same. true≢false (sym holds ∙ ap (λ n. has (held_by state n) s) (sym same) ∙ lacks))) ∙ lacks

  lapse_before : (k j : ℕ) → k < place → slice_get list k ≡ Some j → fits market j s (held_by state j) ≡ false
  unfolding place
  lapse_before k j before at =
      sym (fit_is j (has_at list k j at)) ∙ sym (ap fit (get_or_from_slice_get list k j j at)) ∙ fails_before_first fit list k j before

  by_next : (o : Option ℕ) → find fit list ≡ o
      → GoesToFirstFit market state (given behind o s) s (length (before_first fit list)) (option_map (λ (j : ℕ). record { 0 = j }) o)
  unfolding place list behind
  by_next None e =
      let past : length list ≤ place = none_past list place (sym (find_at fit list) ∙ e) in
      let all : length (before_first fit list) ≡ length list = ap length (take_all place list past) in
      let end : slice_get list (length list) ≡ None = slice_get_past list (length list) (omega arith) in
      let none : slice_get list (length (before_first fit list)) ≡ None = ap (slice_get list) all ∙ end in
      record {
        lapse = λ k j before at. lapse_before k j (omega arith) at;
        behind = none;
        all = λ f. all;
        fit = λ one f. absurd (cc f);
        given = λ j inside lacks. (
          λ there. absurd (false≢true (sym (lacks_still j lacks) ∙ there)),
          λ at. absurd (let f : ◌≡◌ {A = Option ℕ} None (Some j) = sym none ∙ at in cc),
        );
      }
  by_next (Some w) e =
      let at : slice_get list place ≡ Some w = sym (find_at fit list) ∙ e in
      let inside : place < length list = slice_get_within list place w at in
      let taken : length (before_first fit list) ≡ place = length-take-le place list (omega arith) in
      let waits : has list w ≡ true = has_at list place w at in
      let student : w < length gone.held = told_student w waits in
      let here : slice_get list (length (before_first fit list)) ≡ Some w = ap (slice_get list) taken ∙ at in
      let new : held_by (given behind (Some w) s) w ≡ with_section s (held_by behind w) = held_here behind w (with_section s (held_by behind w)) student in
      record {
        lapse = λ k j before there. lapse_before k j (omega arith) there;
        behind = here;
        all = λ f. absurd (cc f);
        fit = λ one f. let same : w ≡ one.0 = number_same w one f in subst (λ n. fits market n s (held_by state n) ≡ true) same (sym (fit_is w waits) ∙ found_passes fit list w e);
        given = λ j inside lacks. (
          λ there. elim (cases_eq j w) [
            | inl same ↦ here ∙ ap Some (sym same)
            | inr apart ↦
                absurd
                (false≢true
                (sym (lacks_still j lacks) ∙ sym (ap (λ held. has held s) (held_there behind w j (with_section s (held_by behind w)) apart)) ∙ there))
          ],
          λ told.
              let both : ◌≡◌ {A = Option ℕ} (Some w) (Some j) = sym here ∙ told in
              let same : w ≡ j = cc both in
              let mine : has (held_by (given behind (Some w) s) w) s ≡ true =
              ap (λ held. has held s) new ∙ has-with s (held_by behind w) s ∙ (let self : (s == s) ≡ true = eq-eqb s s refl in rw self refl) in
              subst (λ n. has (held_by (given behind (Some w) s) n) s ≡ true) same mine,
        );
      }
    where
      number_same : (w : ℕ) (one : StudentNo) → ◌≡◌ {A = Option StudentNo} (Some (record { 0 = w })) (Some one) → w ≡ one.0
      number_same w one f = ap number_or f
        where
          number_or : Option StudentNo → ℕ
          number_or None = 0
          number_or (Some one) = one.0

      told_student : (w : ℕ) → has list w ≡ true → w < length gone.held
      told_student w there =
          let n = length-set state.held i (without_section s (held_by state i)) in
          let m = is.each_student in let student = (is.queues s).within w there in omega arith

  pub passed_first : (lapsed : ℕ) (next : Option StudentNo) → (pass_on market gone s).0 ≡ reply.Dropped lapsed next
      → GoesToFirstFit market state (pass_on market gone s).1 s lapsed next
  unfolding pass_on list fit place behind
  passed_first lapsed next told =
      let both = same_dropped (length (before_first fit list)) lapsed (option_map (λ (j : ℕ). record { 0 = j }) (find fit list)) next told in
      let first : length (before_first fit list) ≡ lapsed = both.0 in
      let second : option_map (λ (j : ℕ). record { 0 = j }) (find fit list) ≡ next = both.1 in
      subst (λ n. GoesToFirstFit market state (given behind (find fit list) s) s n next) first
      (subst (GoesToFirstFit market state (given behind (find fit list) s) s (length (before_first fit list))) second (by_next (find fit list) refl))

-- an outcome is no such reply; and it leaves the state, where its reply is a refusal
abbrev IsOther : ℕ → Option StudentNo → HallReply × HallState → Type 0
IsOther lapsed next outcome = outcome.0 ≢ reply.Dropped lapsed next

abbrev LeavesState : HallState → HallReply × HallState → Type 0
LeavesState state outcome = is_refusal outcome.0 ≡ true → outcome.1 ≡ state

module _ (market : Market) where
  -- giving up a section
  drop_first : (state : HallState) (i s lapsed : ℕ) (next : Option StudentNo) → IsHall market state → i < student_count market → s < section_count market
      → (drop_section market state i s).0 ≡ reply.Dropped lapsed next
      → GoesToFirstFit market state (drop_section market state i s).1 s lapsed next
  unfolding drop_section
  drop_first state i s lapsed next is low below = by_place (has (held_by state i) s) refl
    where
      by_place : (b : Bool) → has (held_by state i) s ≡ b
          → (if b then pass_on market (with_held state i (without_section s (held_by state i))) s else (reply.NotHolding, state)).0 ≡ reply.Dropped lapsed next
          → GoesToFirstFit market state (if b then pass_on market (with_held state i (without_section s (held_by state i))) s else (reply.NotHolding, state)).1
          s lapsed next
      by_place true holds told = passed_first market state is i s low below holds lapsed next told
      by_place false e told = absurd (cc told)

  -- no other request is answered so
  add_not_dropped : (state : HallState) (i s lapsed : ℕ) (next : Option StudentNo) → (add market state i s).0 ≢ reply.Dropped lapsed next
  unfolding add
  add_not_dropped state i s lapsed next = by_refusal (refusal market state i s) refl
    where
      by_seat : (b : Bool)
          → IsOther lapsed next
          (if b then (reply.Added, with_held state i (with_section s (held_by state i)))
          else (reply.Queued (length (waiting_for state s)), with_waiting state s (waiting_for state s ++ i ∷ [])))
      by_seat true e = cc e
      by_seat false e = cc e

      by_refusal : (o : Option HallReply) → refusal market state i s ≡ o → IsOther lapsed next (answered o state (if has_free_seat market state s
          then (reply.Added, with_held state i (with_section s (held_by state i))) else (reply.Queued (length (waiting_for state s)), with_waiting state s (waiting_for state s ++ i ∷ []))))
      by_refusal None e = by_seat (has_free_seat market state s)
      by_refusal (Some answer) e = λ told. let quiet : is_refusal answer ≡ true = subst QuietOrNone e (refusal_quiet market state i s) in false≢true (sym (ap is_refusal told) ∙ quiet)

  leave_not_dropped : (state : HallState) (i s lapsed : ℕ) (next : Option StudentNo) → (leave state i s).0 ≢ reply.Dropped lapsed next
  unfolding leave
  leave_not_dropped state i s lapsed next = by_place (has (waiting_for state s) i)
    where
      by_place : (b : Bool)
          → IsOther lapsed next (if b then (reply.Left, with_waiting state s (without_section i (waiting_for state s))) else (reply.NotWaiting, state))
      by_place true e = cc e
      by_place false e = cc e

  -- a request by two names that is answered so is about a known student and a known section
  named_dropped : (state : HallState) (student section : Name) (made : ℕ → ℕ → HallReply × HallState) (lapsed : ℕ) (next : Option StudentNo)
      → (by_names market state student section made).0 ≡ reply.Dropped lapsed next → Names market state student section made
  named_dropped state student section made lapsed next told = elim (names_or_quiet market state student section made) [
    | inl q ↦ absurd (false≢true (sym (ap is_refusal (sym (ap (λ (o : HallReply × HallState). o.0) q.1) ∙ told)) ∙ q.2))
    | inr n ↦ n
  ]

  step_first : (state : HallState) (command : HallCommand) (s lapsed : ℕ) (next : Option StudentNo) → IsHall market state
      → names_section market s command ≡ true → (step_of market state command).0 ≡ reply.Dropped lapsed next
      → GoesToFirstFit market state (step_of market state command).1 s lapsed next
  unfolding step_of
  step_first state Unreadable s lapsed next is names told = absurd (cc told)
  step_first state (Add student section) s lapsed next is names told =
      let n = named_dropped state student section (add market state) lapsed next told in
      absurd (add_not_dropped state n.i n.s lapsed next (sym (ap (λ (o : HallReply × HallState). o.0) n.made_is) ∙ told))
  step_first state (Leave student section) s lapsed next is names told =
      let n = named_dropped state student section (leave state) lapsed next told in
      absurd (leave_not_dropped state n.i n.s lapsed next (sym (ap (λ (o : HallReply × HallState). o.0) n.made_is) ∙ told))
  step_first state (Drop student section) s lapsed next is names told =
      let n = named_dropped state student section (drop_section market state) lapsed next told in
      let named : known (section_named market section) false (λ t. t == s) ≡ (n.s == s) = ap (λ o. known o false (λ t. t == s)) n.section_is in
      let same : n.s ≡ s = eqb-true n.s s (sym named ∙ names) in
      let drops : (drop_section market state n.i n.s).0 ≡ reply.Dropped lapsed next = sym (ap (λ (o : HallReply × HallState). o.0) n.made_is) ∙ told in
      subst (λ (o : HallReply × HallState). GoesToFirstFit market state o.1 s lapsed next) (sym n.made_is)
      (subst (λ t. GoesToFirstFit market state (drop_section market state n.i n.s).1 t lapsed next) same
      (drop_first state n.i n.s lapsed next is (student_within market student n.i n.student_is) (section_within market section n.s n.section_is) drops))

-- the state after one step more
one_more : (market : Market) (opening : HallState) (before : List HallStep) (step : HallStep)
    → state_after_steps state_after market opening (before ++ step ∷ []) ≡ (step_of market (state_after_steps state_after market opening before) step.request).1
one_more market opening before step = state_after-append state_after market opening before (step ∷ [])

pub first_whom_it_fits : FirstFitLaw
first_whom_it_fits market opening before step s lapsed next is legal names told =
    let state : HallState = state_after_steps state_after market opening before in
    let replied : step.reply ≡ (step_of market state step.request).0 = reply_of_step is_sound state_after reply_to market opening before [] step legal in
    subst (λ after. GoesToFirstFit market state after s lapsed next) (sym (one_more market opening before step))
    (step_first market state step.request s lapsed next (all_halls market opening before is) names (sym replied ∙ told))

-- what is refused leaves the state
module _ (market : Market) (state : HallState) where
  add_nothing : (i s : ℕ) → is_refusal (add market state i s).0 ≡ true → (add market state i s).1 ≡ state
  unfolding add
  add_nothing i s = by_refusal (refusal market state i s)
    where
      by_seat : (b : Bool)
          → LeavesState state
          (if b then (reply.Added, with_held state i (with_section s (held_by state i)))
          else (reply.Queued (length (waiting_for state s)), with_waiting state s (waiting_for state s ++ i ∷ [])))
      by_seat true = λ refused. absurd (false≢true refused)
      by_seat false = λ refused. absurd (false≢true refused)

      by_refusal : (o : Option HallReply) → LeavesState state (answered o state (if has_free_seat market state s
          then (reply.Added, with_held state i (with_section s (held_by state i))) else (reply.Queued (length (waiting_for state s)), with_waiting state s (waiting_for state s ++ i ∷ []))))
      by_refusal None = by_seat (has_free_seat market state s)
      by_refusal (Some answer) = λ refused. refl

  drop_nothing : (i s : ℕ) → is_refusal (drop_section market state i s).0 ≡ true → (drop_section market state i s).1 ≡ state
  unfolding drop_section pass_on
  drop_nothing i s = by_place (has (held_by state i) s)
    where
      by_place : (b : Bool)
          → LeavesState state (if b then pass_on market (with_held state i (without_section s (held_by state i))) s else (reply.NotHolding, state))
      by_place true = λ refused. absurd (false≢true refused)
      by_place false = λ refused. refl

  leave_nothing : (i s : ℕ) → is_refusal (leave state i s).0 ≡ true → (leave state i s).1 ≡ state
  unfolding leave
  leave_nothing i s = by_place (has (waiting_for state s) i)
    where
      by_place : (b : Bool)
          → LeavesState state (if b then (reply.Left, with_waiting state s (without_section i (waiting_for state s))) else (reply.NotWaiting, state))
      by_place true = λ refused. absurd (false≢true refused)
      by_place false = λ refused. refl

  named_nothing : (student section : Name) (made : ℕ → ℕ → HallReply × HallState) → is_refusal (by_names market state student section made).0 ≡ true
      → ((i s : ℕ) → is_refusal (made i s).0 ≡ true → (made i s).1 ≡ state)
      → (by_names market state student section made).1 ≡ state
  named_nothing student section made refused each = elim (names_or_quiet market state student section made) [
    | inl q ↦ ap (λ (o : HallReply × HallState). o.1) q.1
    | inr n ↦ ap (λ (o : HallReply × HallState). o.1) n.made_is ∙ each n.i n.s (sym (ap (λ (o : HallReply × HallState). is_refusal o.0) n.made_is) ∙ refused)
  ]

  step_nothing : (command : HallCommand) → is_refusal (step_of market state command).0 ≡ true → (step_of market state command).1 ≡ state
  unfolding step_of
  step_nothing Unreadable refused = refl
  step_nothing (Add student section) refused = named_nothing student section (add market state) refused add_nothing
  step_nothing (Drop student section) refused = named_nothing student section (drop_section market state) refused drop_nothing
  step_nothing (Leave student section) refused = named_nothing student section (leave state) refused leave_nothing

pub refusals_change_nothing : RefusalLaw
refusals_change_nothing market opening before step legal refused =
    let state : HallState = state_after_steps state_after market opening before in
    let replied : step.reply ≡ (step_of market state step.request).0 = reply_of_step is_sound state_after reply_to market opening before [] step legal in
    one_more market opening before step ∙ step_nothing market state step.request (sym (ap is_refusal replied) ∙ refused)
