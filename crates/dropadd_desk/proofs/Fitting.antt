-- What students hold is allowed after each step, and a seat that is given up goes to the first whom the section fits.
use Rattle.std.proofs.Common.{ℕ, ◌≡◌, ◌<◌, ◌≤◌, ◌+◌, ◌++◌, ◌==◌, ◌&&◌, ◌||◌, ◌∙◌, Bool, true, false, not, List, [], ◌∷◌, length, drop, arith, refl, sym, ap, subst, inl, inr, Some, None}
use Rattle.std.specs.Prelude.{slice_get, option_map, nat_lt, is_some, if◌then◌else◌, Option}
use Rattle.std.specs.List.{after_first, filter, find, position_or_len}
use Rattle.std.proofs.lemmas.Bool.{cases_Bool, cases_eq, eqb-true, false≢true, ltb-true, ltb-false}
use Rattle.std.proofs.lemmas.List.Folds.{find_at}
use Rattle.market_units.specs.Totals.{total}
use Rattle.market_units.proofs.Sums.{total-append}
use Rattle.market_units.specs.declared.names.Name.{Name}
use Rattle.course_catalog.specs.Sections.{sections_clash}
use Rattle.course_catalog.proofs.ClashFacts.{clashes_mutual}
use Rattle.chronicle.specs.History.{state_after as state_after_steps}
use Rattle.market_units.specs.Members.{has}
use Rattle.dropadd_desk.specs.declared.command.HallCommand.{HallCommand}
use Rattle.dropadd_desk.specs.declared.command.HallCommand.TheVariants.{Add, Drop, Leave, Unreadable}
use Rattle.dropadd_desk.specs.declared.reply.HallReply.{HallReply}
use Rattle.dropadd_desk.specs.declared.reply.HallReply.TheVariants as reply
use Rattle.dropadd_desk.specs.declared.shared.HallState.{HallState}
use Rattle.dropadd_desk.specs.Market.{Market, enrolled, offered, section_count, student_count}
use Rattle.bundle_rules.specs.Sets.{without_section}
use Rattle.bundle_rules.proofs.Parts.{total_filter}
use Rattle.dropadd_desk.specs.Sets.{with_section}
use Rattle.dropadd_desk.specs.Fits.{credits_of, fits, lowest_clash, exceeds_courses, exceeds_credits}
use Rattle.dropadd_desk.specs.Halls.{IsHall}
use Rattle.dropadd_desk.specs.Laws.{AllowedLaw}
use Rattle.dropadd_desk.specs.Lines.{HallStep}
use Rattle.dropadd_desk.specs.Openings.{IsAllowed}
use Rattle.dropadd_desk.specs.Shared.{state_after}
use Rattle.dropadd_desk.specs.Step.{add, answered, by_names, drop as drop_section, given, has_free_seat, held_by, leave, pass_on, refusal, step as step_of, waiting_for, where_so, with_held, with_waiting}
use Rattle.dropadd_desk.proofs.Conserved.{hall_after, names_or_quiet, section_within, student_within}
use Rattle.dropadd_desk.proofs.Queues.{without_has}
use Rattle.dropadd_desk.proofs.SetChanges.{has-with, length-with, length-without}
use Rattle.dropadd_desk.proofs.Stepped.{first_none, has_at, so_none}
use Rattle.dropadd_desk.proofs.Steps.{behind_keeps, held_here, held_there, without_keeps}

-- sums over parts of a set
total_parts : (f : ℕ → ℕ) (s : ℕ) (xs : List ℕ) → total f (filter (λ t. nat_lt t s) xs) + total f (filter (λ t. nat_lt s t) xs) ≤ total f xs
total_parts f s [] = omega arith
total_parts f s (x ∷ xs) =
    let rest = total_parts f s xs in
    elim (cases_Bool (nat_lt x s)) [
      | inl below ↦ elim (cases_Bool (nat_lt s x)) [
        | inl above ↦ absurd (let a = ltb-true x s below in let b = ltb-true s x above in omega arith)
        | inr other ↦ rw (below, other) (omega (arith, rest))
      ]
      | inr past ↦ elim (cases_Bool (nat_lt s x)) [
        | inl above ↦ rw (past, above) (omega (arith, rest))
        | inr here ↦ rw (past, here) (omega (arith, rest))
      ]
    ]

-- what is not found does not pass
none_found : (p : ℕ → Bool) (xs : List ℕ) → is_some (find p xs) ≡ false → (t : ℕ) → has xs t ≡ true → p t ≡ false
none_found p [] none t there = absurd (false≢true there)
none_found p (x ∷ xs) none t there = elim (cases_Bool (p x)) [
  | inl passes ↦ absurd (let some : true ≡ false = rw passes at none in false≢true (sym some))
  | inr fails ↦
      let rest : is_some (find p xs) ≡ false = rw fails at none in
      elim (cases_Bool (x == t)) [
        | inl here ↦ subst (λ n. p n ≡ false) (eqb-true x t here) fails
        | inr later ↦ none_found p xs rest t (rw later at there)
      ]
]

-- what is found passes, and stands in the list
pub found_passes : (p : ℕ → Bool) (xs : List ℕ) (w : ℕ) → find p xs ≡ Some w → p w ≡ true
found_passes p [] w e = absurd (cc e)
found_passes p (x ∷ xs) w e = elim (cases_Bool (p x)) [
  | inl passes ↦ let is : ◌≡◌ {A = Option ℕ} (Some x) (Some w) = rw passes at e in let same : x ≡ w = cc in subst (λ n. p n ≡ true) same passes
  | inr fails ↦ found_passes p xs w (rw fails at e)
]

all_false : (a b c : Bool) → (not a && not b && not c) ≡ true → (a ≡ false) × (b ≡ false) × (c ≡ false)
all_false false false false e = (refl, refl, refl)
all_false false false true e = absurd (false≢true e)
all_false false true false e = absurd (false≢true e)
all_false false true true e = absurd (false≢true e)
all_false true false false e = absurd (false≢true e)
all_false true false true e = absurd (false≢true e)
all_false true true false e = absurd (false≢true e)
all_false true true true e = absurd (false≢true e)

module _ (market : Market) where
  -- a section that fits leaves what is held allowed
  allowed_with : (i s : ℕ) (set : List ℕ) → IsAllowed market i set → fits market i s set ≡ true → IsAllowed market i (with_section s set)
  allowed_with i s set is fit =
      let parts = all_false (is_some (lowest_clash market s set)) (exceeds_credits market i s set) (exceeds_courses market i set) fit in
      let clear : (t : ℕ) → has set t ≡ true → sections_clash market.catalog.sections s t ≡ false =
      none_found (λ t. sections_clash market.catalog.sections s t) set parts.0 in
      let credits = ltb-false (enrolled market i).credits (credits_of market set + (offered market s).credits) parts.1 in
      let courses = ltb-false (enrolled market i).courses (length set + 1) parts.2 in
      let f : ℕ → ℕ = λ t. (offered market t).credits in
      let sum = total-append f (filter (λ t. nat_lt t s) set) (s ∷ filter (λ t. nat_lt s t) set) in
      let both = total_parts f s set in
      let long = length-with s set in
      record { apart = apart_with clear; credits = omega (arith, sum, both, credits); courses = omega (arith, long, courses) }
    where
      in_set : (t : ℕ) → has (with_section s set) t ≡ true → (s == t) ≡ false → has set t ≡ true
      in_set t there other = let both : (s == t || has set t) ≡ true = sym (has-with s set t) ∙ there in rw other at both

      apart_with : ((t : ℕ) → has set t ≡ true → sections_clash market.catalog.sections s t ≡ false) → (t u : ℕ) → has (with_section s set) t ≡ true
          → has (with_section s set) u ≡ true → sections_clash market.catalog.sections t u ≡ false
      apart_with clear t u first second = elim (cases_Bool (s == t)) [
        | inl one ↦
            let same : s ≡ t = eqb-true s t one in
            subst (λ n. sections_clash market.catalog.sections n u ≡ false) same (elim (cases_Bool (s == u)) [
              | inl two ↦
                  subst (λ n. sections_clash market.catalog.sections s n ≡ false) (eqb-true s u two) (clashes_mutual market.catalog.sections s s).not_itself
              | inr other ↦ clear u (in_set u second other)
            ])
        | inr one ↦ elim (cases_Bool (s == u)) [
          | inl two ↦
              subst (λ n. sections_clash market.catalog.sections t n ≡ false) (eqb-true s u two)
              ((clashes_mutual market.catalog.sections t s).other_way ∙ clear t (in_set t first one))
          | inr other ↦ is.apart t u (in_set t first one) (in_set u second other)
        ]
      ]

  -- and so does one fewer
  allowed_without : (i s : ℕ) (set : List ℕ) → IsAllowed market i set → IsAllowed market i (without_section s set)
  allowed_without i s set is =
      let sum = total_filter (λ t. (offered market t).credits) (λ t. not (t == s)) set in
      let long = length-without s set in
      let credits = is.credits in
      let courses = is.courses in
      record {
        apart = λ t u first second. is.apart t u (without_has s t set first) (without_has s u set second);
        credits = omega (arith, sum, credits);
        courses = omega (arith, long, courses);
      }

  -- what each student holds is allowed
  abbrev pub AreAllowed : HallState → Type 0
  AreAllowed state = (i : ℕ) → i < student_count market → IsAllowed market i (held_by state i)

  -- and so it is after an outcome
  abbrev LeavesAllowed : HallReply × HallState → Type 0
  LeavesAllowed outcome = AreAllowed outcome.1

  allowed_held : (state : HallState) (i : ℕ) (set : List ℕ) → IsHall market state → AreAllowed state → i < student_count market → IsAllowed market i set
      → AreAllowed (with_held state i set)
  allowed_held state i set is all low new = λ j inside. elim (cases_eq j i) [
    | inl same ↦
        subst (λ n. IsAllowed market n (held_by (with_held state i set) n)) (sym same)
        (subst (IsAllowed market i) (sym (held_here state i set (subst (λ n. i < n) (sym is.each_student) low))) new)
    | inr apart ↦ subst (IsAllowed market j) (sym (held_there state i j set apart)) (all j inside)
  ]

  -- where nothing stands against a section it fits
  refusal_fits : (state : HallState) (i s : ℕ) → refusal market state i s ≡ None → fits market i s (held_by state i) ≡ true
  refusal_fits state i s e =
      let held = held_by state i in
      let first : Option HallReply = where_so (has held s) reply.Holding in
      let second : Option HallReply = where_so (has (waiting_for state s) i) reply.Waiting in
      let third : Option HallReply = option_map (λ (t : ℕ). reply.Clash (record { 0 = t })) (lowest_clash market s held) in
      let fourth : Option HallReply = where_so (exceeds_credits market i s held) reply.Credits in
      let fifth : Option HallReply = where_so (exceeds_courses market i held) reply.Courses in
      let one = first_none first (second ∷ third ∷ fourth ∷ fifth ∷ []) e in
      let two = first_none second (third ∷ fourth ∷ fifth ∷ []) one.1 in
      let three = first_none third (fourth ∷ fifth ∷ []) two.1 in
      let four = first_none fourth (fifth ∷ []) three.1 in
      let five = first_none fifth [] four.1 in
      let clash : is_some (lowest_clash market s (held_by state i)) ≡ false = no_clash (lowest_clash market s (held_by state i)) three.0 in
      let credits : exceeds_credits market i s (held_by state i) ≡ false = so_none (exceeds_credits market i s (held_by state i)) reply.Credits four.0 in
      let courses : exceeds_courses market i (held_by state i) ≡ false = so_none (exceeds_courses market i (held_by state i)) reply.Courses five.0 in
      rw (clash, credits, courses) refl
    where
      no_clash : (o : Option ℕ) → option_map (λ (t : ℕ). reply.Clash (record { 0 = t })) o ≡ None → is_some o ≡ false
      no_clash None e = refl
      no_clash (Some t) e = absurd (cc e)

  add_allowed : (state : HallState) (i s : ℕ) → IsHall market state → AreAllowed state → i < student_count market → AreAllowed (add market state i s).1
  unfolding add
  add_allowed state i s is all low = by_refusal (refusal market state i s) refl
    where
      by_seat : (b : Bool) → fits market i s (held_by state i) ≡ true
          → LeavesAllowed
          (if b then (reply.Added, with_held state i (with_section s (held_by state i)))
          else (reply.Queued (length (waiting_for state s)), with_waiting state s (waiting_for state s ++ i ∷ [])))
      by_seat true fit = allowed_held state i (with_section s (held_by state i)) is all low (allowed_with i s (held_by state i) (all i low) fit)
      by_seat false fit = all

      by_refusal : (o : Option HallReply) → refusal market state i s ≡ o → LeavesAllowed (answered o state (if has_free_seat market state s
          then (reply.Added, with_held state i (with_section s (held_by state i))) else (reply.Queued (length (waiting_for state s)), with_waiting state s (waiting_for state s ++ i ∷ []))))
      by_refusal None e = by_seat (has_free_seat market state s) (refusal_fits state i s e)
      by_refusal (Some answer) e = all

  leave_allowed : (state : HallState) (i s : ℕ) → AreAllowed state → AreAllowed (leave state i s).1
  unfolding leave
  leave_allowed state i s all = by_place (has (waiting_for state s) i)
    where
      by_place : (b : Bool)
          → LeavesAllowed (if b then (reply.Left, with_waiting state s (without_section i (waiting_for state s))) else (reply.NotWaiting, state))
      by_place true = all
      by_place false = all

  pass_allowed : (state : HallState) (s : ℕ) → IsHall market state → AreAllowed state → s < section_count market → AreAllowed (pass_on market state s).1
  unfolding pass_on
  pass_allowed state s is all below = by_next (find fit list) refl
    where
      list : List ℕ
      list = waiting_for state s

      fit : ℕ → Bool
      fit = λ i. fits market i s (held_by state i)

      place : ℕ
      place = position_or_len fit list

      by_next : (o : Option ℕ) → find fit list ≡ o → AreAllowed (given (with_waiting state s (after_first fit list)) o s)
      by_next None e = all
      by_next (Some w) e =
          let at : slice_get list place ≡ Some w = sym (find_at fit list) ∙ e in
          let student : w < student_count market = (is.queues s).within w (has_at list place w at) in
          allowed_held (with_waiting state s (drop (place + 1) list)) w (with_section s (held_by state w)) (behind_keeps market state is s (place + 1) below)
          all student
          (allowed_with w s (held_by state w) (all w student) (found_passes fit list w e))

  drop_allowed : (state : HallState) (i s : ℕ) → IsHall market state → AreAllowed state → i < student_count market → s < section_count market
      → AreAllowed (drop_section market state i s).1
  unfolding drop_section
  drop_allowed state i s is all low below = by_place (has (held_by state i) s)
    where
      gone : HallState
      gone = with_held state i (without_section s (held_by state i))

      by_place : (b : Bool) → LeavesAllowed (if b then pass_on market gone s else (reply.NotHolding, state))
      by_place false = all
      by_place true =
          pass_allowed gone s (without_keeps market state is i s low)
          (allowed_held state i (without_section s (held_by state i)) is all low (allowed_without i s (held_by state i) (all i low))) below

  named_allowed : (state : HallState) (student section : Name) (made : ℕ → ℕ → HallReply × HallState) → AreAllowed state
      → ((i s : ℕ) → i < student_count market → s < section_count market → AreAllowed (made i s).1) → AreAllowed (by_names market state student section made).1
  named_allowed state student section made all each = elim (names_or_quiet market state student section made) [
    | inl q ↦ subst AreAllowed (sym (ap (λ (o : HallReply × HallState). o.1) q.1)) all
    | inr n ↦
        subst AreAllowed (sym (ap (λ (o : HallReply × HallState). o.1) n.made_is))
        (each n.i n.s (student_within market student n.i n.student_is) (section_within market section n.s n.section_is))
  ]

  step_allowed : (state : HallState) (command : HallCommand) → IsHall market state → AreAllowed state → AreAllowed (step_of market state command).1
  unfolding step_of
  step_allowed state Unreadable is all = all
  step_allowed state (Add student section) is all =
      named_allowed state student section (add market state) all (λ i s low below. add_allowed state i s is all low)
  step_allowed state (Drop student section) is all =
      named_allowed state student section (drop_section market state) all (λ i s low below. drop_allowed state i s is all low below)
  step_allowed state (Leave student section) is all = named_allowed state student section (leave state) all (λ i s low below. leave_allowed state i s all)

  pub all_halls : (state : HallState) (history : List HallStep) → IsHall market state → IsHall market (state_after_steps state_after market state history)
  all_halls state [] is = is
  all_halls state (step ∷ more) is = all_halls (state_after market state step.seat step.request) more (hall_after market state step.request is)

  all_allowed : (state : HallState) (history : List HallStep) → IsHall market state → AreAllowed state
      → AreAllowed (state_after_steps state_after market state history)
  all_allowed state [] is all = all
  all_allowed state (step ∷ more) is all =
      all_allowed (state_after market state step.seat step.request) more (hall_after market state step.request is) (step_allowed state step.request is all)

pub held_is_allowed : AllowedLaw
held_is_allowed market opening history is lawful legal = all_allowed market opening history is lawful.students
