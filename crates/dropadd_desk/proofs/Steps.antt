-- What a step makes of a state.
use Rattle.std.proofs.Common.{ℕ, ◌≡◌, ◌≢◌, ◌<◌, ◌+◌, ◌++◌, ◌==◌, ◌&&◌, ◌||◌, ◌∙◌, Bool, true, false, not, List, [], ◌∷◌, length, drop, arith, refl, sym, ap, subst, inl, inr, length-set, get_or}
use Rattle.std.specs.Prelude.{slice_set, if◌then◌else◌, nat_lt}
use Rattle.std.specs.List.{All}
use Rattle.std.proofs.lemmas.Bool.{cases_Bool, cases_eq, eq-eqb, ne_eqb, eqb-true, false≢true, ltb-true, ltb-false}
use Rattle.std.proofs.lemmas.List.{get_or-set_same, get_or-set_other, get_or_past}
use Rattle.std.proofs.lemmas.Option.{slice_get-get_or}
use Rattle.market_units.specs.Members.{has}
use Rattle.bundle_rules.specs.Sets.{IsAscending, without_section}
use Rattle.demand_api.specs.Crowds.{holders}
use Rattle.held_seats.proofs.Gets.{holders_set}
use Rattle.dropadd_desk.specs.declared.shared.HallState.{HallState}
use Rattle.dropadd_desk.specs.Market.{Market, section_count, student_count}
use Rattle.dropadd_desk.specs.Sets.{with_section}
use Rattle.dropadd_desk.specs.Halls.{IsHall, IsQueue}
use Rattle.dropadd_desk.specs.Step.{held_by, waiting_for, with_held, with_waiting}
use Rattle.dropadd_desk.proofs.SetChanges.{has-with, has-without, with_ascends, without_ascends}
use Rattle.dropadd_desk.proofs.Queues.{queue_behind, queue_more, queue_without, without_has, has_behind}
use Rattle.market_units.proofs.Memberships.{has_push}

-- what a bundle that is written, and a list that is written, changes
pub held_here : (state : HallState) (i : ℕ) (set : List ℕ) → i < length state.held → held_by (with_held state i set) i ≡ set
held_here state i set low = get_or-set_same state.held i set [] low

pub held_there : (state : HallState) (i j : ℕ) (set : List ℕ) → j ≢ i → held_by (with_held state i set) j ≡ held_by state j
held_there state i j set apart = get_or-set_other state.held i j set [] apart

pub waiting_here : (state : HallState) (s : ℕ) (list : List ℕ) → s < length state.waiting → waiting_for (with_waiting state s list) s ≡ list
waiting_here state s list low = get_or-set_same state.waiting s list [] low

pub waiting_there : (state : HallState) (s t : ℕ) (list : List ℕ) → t ≢ s → waiting_for (with_waiting state s list) t ≡ waiting_for state t
waiting_there state s t list apart = get_or-set_other state.waiting s t list [] apart

-- what each student holds where one holds a section more, or one fewer
pub held_with : (state : HallState) (i s : ℕ) → i < length state.held → (j : ℕ)
    → has (held_by (with_held state i (with_section s (held_by state i))) j) s ≡ (i == j || has (held_by state j) s)
held_with state i s low j = elim (cases_eq j i) [
  | inl same ↦
      let here : (i == j) ≡ true = eq-eqb i j (sym same) in
      let self : (s == s) ≡ true = eq-eqb s s refl in
      ap (λ n. has (held_by (with_held state i (with_section s (held_by state i))) n) s) same
      ∙ ap (λ l. has l s) (held_here state i (with_section s (held_by state i)) low)
      ∙ has-with s (held_by state i) s ∙ rw (self, here) refl
  | inr apart ↦
      let other : (i == j) ≡ false = ne_eqb i j (λ e. apart (sym e)) in
      ap (λ l. has l s) (held_there state i j (with_section s (held_by state i)) apart) ∙ rw other refl
]

pub held_without : (state : HallState) (i s : ℕ) → i < length state.held → (j : ℕ)
    → has (held_by (with_held state i (without_section s (held_by state i))) j) s ≡ (not (i == j) && has (held_by state j) s)
held_without state i s low j = elim (cases_eq j i) [
  | inl same ↦
      let here : (i == j) ≡ true = eq-eqb i j (sym same) in
      let self : (s == s) ≡ true = eq-eqb s s refl in
      ap (λ n. has (held_by (with_held state i (without_section s (held_by state i))) n) s) same
      ∙ ap (λ l. has l s) (held_here state i (without_section s (held_by state i)) low)
      ∙ has-without s (held_by state i) s ∙ rw (self, here) refl
  | inr apart ↦
      let other : (i == j) ≡ false = ne_eqb i j (λ e. apart (sym e)) in
      ap (λ l. has l s) (held_there state i j (without_section s (held_by state i)) apart) ∙ rw other refl
]

-- of a section for which what is written says what was there, nothing changes
pub held_same : (state : HallState) (i t : ℕ) (set : List ℕ) → i < length state.held → has set t ≡ has (held_by state i) t → (j : ℕ)
    → has (held_by (with_held state i set) j) t ≡ has (held_by state j) t
held_same state i t set low same j = elim (cases_eq j i) [
  | inl one ↦
      ap (λ n. has (held_by (with_held state i set) n) t) one ∙ ap (λ l. has l t) (held_here state i set low) ∙ same
      ∙ ap (λ n. has (held_by state n) t) (sym one)
  | inr apart ↦ ap (λ l. has l t) (held_there state i j set apart)
]

-- a fact of each item stays where one is written of which it holds
each_set : (P : List ℕ → Type 0) (xs : List (List ℕ)) (i : ℕ) (x : List ℕ) → All P xs → P x → All P (slice_set xs i x)
each_set P xs i x all is = λ k d low. elim (cases_eq k i) [
  | inl same ↦
      let inside : i < length xs = subst (λ n. n < length xs) same (subst (λ n. k < n) (length-set xs i x) low) in
      subst P (sym (ap (λ n. get_or (slice_set xs i x) n d) same ∙ get_or-set_same xs i x d inside)) is
  | inr apart ↦ subst P (sym (get_or-set_other xs i k x d apart)) (all k d (subst (λ n. k < n) (length-set xs i x) low))
]

module _ (market : Market) where
  -- a student holds another set, of which he waits for no section
  pub hold_keeps : (state : HallState) (i : ℕ) (set : List ℕ) → IsHall market state → i < student_count market
      → ((s : ℕ) → has set s ≡ true → s < section_count market) → IsAscending set
      → ((s : ℕ) → has (waiting_for state s) i ≡ true → has set s ≡ false) → IsHall market (with_held state i set)
  hold_keeps state i set is low within up apart = record {
    each_student = length-set state.held i set ∙ is.each_student;
    within = each_set (λ bundle. (s : ℕ) → has bundle s ≡ true → s < section_count market) state.held i set is.within within;
    ascending = each_set IsAscending state.held i set is.ascending up;
    each_section = is.each_section;
    queues = is.queues;
    apart = λ j s there. elim (cases_eq j i) [
      | inl same ↦
          ap (λ n. has (held_by (with_held state i set) n) s) same ∙ ap (λ l. has l s) (held_here state i set (subst (λ n. i < n) (sym is.each_student) low))
          ∙ apart s (ap (λ n. has (waiting_for state s) n) (sym same) ∙ there)
      | inr other ↦ ap (λ l. has l s) (held_there state i j set other) ∙ is.apart j s there
    ];
  }

  -- others wait for a section, none of whom holds it
  pub wait_keeps : (state : HallState) (s : ℕ) (list : List ℕ) → IsHall market state → s < section_count market → IsQueue (student_count market) list
      → ((i : ℕ) → has list i ≡ true → has (held_by state i) s ≡ false) → IsHall market (with_waiting state s list)
  wait_keeps state s list is low queue apart =
      let inside : s < length state.waiting = subst (λ n. s < n) (sym is.each_section) low in
      record {
        each_student = is.each_student;
        within = is.within;
        ascending = is.ascending;
        each_section = length-set state.waiting s list ∙ is.each_section;
        queues = λ t. elim (cases_eq t s) [
          | inl same ↦ subst (IsQueue (student_count market)) (sym (ap (waiting_for (with_waiting state s list)) same ∙ waiting_here state s list inside)) queue
          | inr other ↦ subst (IsQueue (student_count market)) (sym (waiting_there state s t list other)) (is.queues t)
        ];
        apart = λ i t there. elim (cases_eq t s) [
          | inl same ↦
              ap (has (held_by state i)) same
              ∙ apart i (sym (ap (λ l. has l i) (ap (waiting_for (with_waiting state s list)) same ∙ waiting_here state s list inside)) ∙ there)
          | inr other ↦ is.apart i t (sym (ap (λ l. has l i) (waiting_there state s t list other)) ∙ there)
        ];
      }

  -- the set that a student holds has sections of the market
  pub within_at : (state : HallState) (i s : ℕ) → IsHall market state → has (held_by state i) s ≡ true → s < section_count market
  within_at state i s is there = elim (cases_Bool (nat_lt i (length state.held))) [
    | inl low ↦ is.within i [] (ltb-true i (length state.held) low) s there
    | inr past ↦
        let nothing : held_by state i ≡ [] = get_or_past state.held i [] (ltb-false i (length state.held) past) in
        absurd (false≢true (sym (ap (λ l. has l s) nothing) ∙ there))
  ]

  -- and it ascends
  pub ascends_at : (state : HallState) (i : ℕ) → IsHall market state → IsAscending (held_by state i)
  ascends_at state i is = elim (cases_Bool (nat_lt i (length state.held))) [
    | inl low ↦ is.ascending i [] (ltb-true i (length state.held) low)
    | inr past ↦ subst IsAscending (sym (get_or_past state.held i [] (ltb-false i (length state.held) past))) tt
  ]

  -- holders after a set is written
  pub holders_after : (state : HallState) (i s : ℕ) (set : List ℕ) → i < length state.held
      → holders s (slice_set state.held i set) + (if has (held_by state i) s then 1 else 0) ≡ holders s state.held + (if has set s then 1 else 0)
  holders_after state i s set low = holders_set s state.held i (held_by state i) set (slice_get-get_or state.held i [] low)

  pub holders_same : (state : HallState) (i s : ℕ) (set : List ℕ) → i < length state.held → has set s ≡ has (held_by state i) s
      → holders s (slice_set state.held i set) ≡ holders s state.held
  holders_same state i s set low same =
      same_sum (has (held_by state i) s) (holders s (slice_set state.held i set)) (holders s state.held)
      (holders_after state i s set low ∙ ap {B = ℕ} (λ b. holders s state.held + (if b then 1 else 0)) same)
    where
      same_sum : (b : Bool) (m n : ℕ) → m + (if b then 1 else 0) ≡ n + (if b then 1 else 0) → m ≡ n
      same_sum true m n e = omega arith
      same_sum false m n e = omega arith

  -- one more where the section is new, and one fewer where it is gone
  pub one_holder_more : (state : HallState) (i s : ℕ) → i < length state.held → has (held_by state i) s ≡ false
      → holders s (slice_set state.held i (with_section s (held_by state i))) ≡ holders s state.held + 1
  one_holder_more state i s low lacks =
      let all = holders_after state i s (with_section s (held_by state i)) low in
      let here : (s == s) ≡ true = eq-eqb s s refl in
      let new : has (with_section s (held_by state i)) s ≡ true = has-with s (held_by state i) s ∙ rw here refl in
      let all' : holders s (slice_set state.held i (with_section s (held_by state i))) + 0 ≡ holders s state.held + 1 = rw (lacks, new) at all in
      omega arith

  pub one_holder_fewer : (state : HallState) (i s : ℕ) → i < length state.held → has (held_by state i) s ≡ true
      → holders s (slice_set state.held i (without_section s (held_by state i))) + 1 ≡ holders s state.held
  one_holder_fewer state i s low there =
      let all = holders_after state i s (without_section s (held_by state i)) low in
      let here : (s == s) ≡ true = eq-eqb s s refl in
      let gone : has (without_section s (held_by state i)) s ≡ false = has-without s (held_by state i) s ∙ rw here refl in
      let all' : holders s (slice_set state.held i (without_section s (held_by state i))) + 1 ≡ holders s state.held + 0 = rw (there, gone) at all in
      omega arith

  -- of the others nothing changes
  pub with_other : (s t : ℕ) (set : List ℕ) → t ≢ s → has (with_section s set) t ≡ has set t
  with_other s t set apart = has-with s set t ∙ (let other : (s == t) ≡ false = ne_eqb s t (λ e. apart (sym e)) in rw other refl)

  pub without_other : (s t : ℕ) (set : List ℕ) → t ≢ s → has (without_section s set) t ≡ has set t
  without_other s t set apart = has-without s set t ∙ (let other : (s == t) ≡ false = ne_eqb s t (λ e. apart (sym e)) in rw other refl)

module _ (market : Market) (state : HallState) (is : IsHall market state) where
  -- the student holds the section too, for which he does not wait
  pub with_within : (i s : ℕ) → s < section_count market → (t : ℕ) → has (with_section s (held_by state i)) t ≡ true → t < section_count market
  with_within i s below t there = elim (cases_Bool (s == t)) [
    | inl same ↦ subst (λ n. n < section_count market) (eqb-true s t same) below
    | inr other ↦
        within_at market state i t is (let both : (s == t || has (held_by state i) t) ≡ true = sym (has-with s (held_by state i) t) ∙ there in rw other at both)
  ]

  pub with_keeps : (i s : ℕ) → i < student_count market → s < section_count market → has (waiting_for state s) i ≡ false
      → IsHall market (with_held state i (with_section s (held_by state i)))
  with_keeps i s low below waits =
      hold_keeps market state i (with_section s (held_by state i)) is low (with_within i s below)
      (with_ascends s (held_by state i) (ascends_at market state i is))
      (λ t there. elim (cases_Bool (s == t)) [
        | inl same ↦ absurd (false≢true (sym waits ∙ ap (λ n. has (waiting_for state n) i) (eqb-true s t same) ∙ there))
        | inr other ↦ has-with s (held_by state i) t ∙ rw other (is.apart i t there)
      ])

  -- the student holds the section no longer
  pub without_within : (i s t : ℕ) → has (without_section s (held_by state i)) t ≡ true → t < section_count market
  without_within i s t there = within_at market state i t is (without_has s t (held_by state i) there)

  pub without_keeps : (i s : ℕ) → i < student_count market → IsHall market (with_held state i (without_section s (held_by state i)))
  without_keeps i s low =
      hold_keeps market state i (without_section s (held_by state i)) is low (without_within i s)
      (without_ascends s (held_by state i) (ascends_at market state i is)) (λ t there. lacks_still t (is.apart i t there))
    where
      lacks_still : (t : ℕ) → has (held_by state i) t ≡ false → has (without_section s (held_by state i)) t ≡ false
      lacks_still t lacks = has-without s (held_by state i) t ∙ elim (cases_Bool (s == t)) [ inl same ↦ rw same refl | inr other ↦ rw other lacks ]

  -- those in front are out of the list
  pub behind_keeps : (s n : ℕ) → s < section_count market → IsHall market (with_waiting state s (drop n (waiting_for state s)))
  behind_keeps s n below =
      wait_keeps market state s (drop n (waiting_for state s)) is below (queue_behind (student_count market) n (waiting_for state s) (is.queues s))
      (λ j there. is.apart j s (has_behind n j (waiting_for state s) there))

  -- the student is out of the list
  pub left_keeps : (i s : ℕ) → s < section_count market → IsHall market (with_waiting state s (without_section i (waiting_for state s)))
  left_keeps i s below =
      wait_keeps market state s (without_section i (waiting_for state s)) is below (queue_without (student_count market) i (waiting_for state s) (is.queues s))
      (λ j there. is.apart j s (without_has i j (waiting_for state s) there))

  -- the student, who does not hold the section, is the last to wait
  pub queued_keeps : (i s : ℕ) → i < student_count market → s < section_count market → has (held_by state i) s ≡ false → has (waiting_for state s) i ≡ false
      → IsHall market (with_waiting state s (waiting_for state s ++ i ∷ []))
  queued_keeps i s low below lacks waits =
      wait_keeps market state s (waiting_for state s ++ i ∷ []) is below (queue_more (student_count market) i (waiting_for state s) (is.queues s) low waits)
      (λ j there. elim (has_push (waiting_for state s) i j there)
      [ inl before ↦ is.apart j s before | inr same ↦ ap (λ n. has (held_by state n) s) (sym same) ∙ lacks ])
