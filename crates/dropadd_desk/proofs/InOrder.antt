-- A section's list keeps the order of those who wait.
use Rattle.std.proofs.Common.{ℕ, zero, suc, ◌≡◌, ◌≢◌, ◌≤◌, ◌+◌, ◌++◌, ◌==◌, ◌&&◌, ◌∙◌, ◌⊎◌, Bool, true, false, not, List, [], ◌∷◌, map, drop, arith, refl, sym, ap, subst, inl, inr}
use Rattle.std.proofs.lemmas.Bool.{and_from, and_right, cases_Bool, eq-eqb, eqb-true, false≢true, or_cases, or_left, or_right, true≢false}
use Rattle.std.proofs.lemmas.List.{map-append}
use Rattle.std.specs.List.{drop-map}
use Rattle.plain_facts.proofs.Truths.{and_first, and_parts}
use Rattle.market_units.specs.Members.{has}
use Rattle.market_units.proofs.Memberships.{has_push_other, has_push_same}
use Rattle.bundle_rules.specs.Sets.{without_section}
use Rattle.bundle_rules.specs.Existence.Members.{has-append_left}
use Rattle.chronicle.specs.History.{state_after as state_after_steps}
use Rattle.chronicle.proofs.HistoryLaws.{reply_of_step, state_after-append}
use Rattle.dropadd_desk.specs.declared.reply.HallReply.{HallReply}
use Rattle.dropadd_desk.specs.declared.reply.HallReply.TheVariants as reply
use Rattle.dropadd_desk.specs.declared.shared.HallState.{HallState}
use Rattle.dropadd_desk.specs.Market.{Market}
use Rattle.dropadd_desk.specs.Halls.{IsHall, times}
use Rattle.dropadd_desk.specs.Holdings.{names_student}
use Rattle.dropadd_desk.specs.Laws.{WaitsInOrderLaw}
use Rattle.dropadd_desk.specs.Lines.{HallStep, Line, Ticket, is_dropped, is_queued, names_section, noted, one_next}
use Rattle.dropadd_desk.specs.Shared.{is_sound, reply_to, state_after}
use Rattle.dropadd_desk.specs.Step.{step as step_of, waiting_for}
use Rattle.dropadd_desk.specs.Waits.{KeepsOrder, KeepsOrderAt, has_left_by, is_ahead, is_dropped_by, is_left, is_queued_by}
use Rattle.dropadd_desk.proofs.Conserved.{IsAbout, every_step}
use Rattle.dropadd_desk.proofs.Fitting.{all_halls}
use Rattle.dropadd_desk.proofs.Queues.{has_behind, lacks_times}
use Rattle.dropadd_desk.proofs.SetChanges.{has-without}
use Rattle.dropadd_desk.proofs.Stepped.{IsQuiet, IsStepped, filter-map, students_in}

-- who stands ahead of whom, by the first of a list and the rest
ahead_cases : (i j x : ℕ) (more : List ℕ) → is_ahead i j (x ∷ more) ≡ true → ((x == i && has more j) ≡ true) ⊎ (is_ahead i j more ≡ true)
ahead_cases i j x more is = or_cases (x == i && has more j) (is_ahead i j more) is

ahead_here : (i j x : ℕ) (more : List ℕ) → (x == i) ≡ true → has more j ≡ true → is_ahead i j (x ∷ more) ≡ true
ahead_here i j x more same there = or_left (x == i && has more j) (is_ahead i j more) (and_from (x == i) (has more j) same there)

ahead_there : (i j x : ℕ) (more : List ℕ) → is_ahead i j more ≡ true → is_ahead i j (x ∷ more) ≡ true
ahead_there i j x more is = or_right (x == i && has more j) (is_ahead i j more) is

-- somebody new behind the others
ahead_push : (i j k : ℕ) (list : List ℕ) → is_ahead i j list ≡ true → is_ahead i j (list ++ k ∷ []) ≡ true
ahead_push i j k [] is = absurd (false≢true is)
ahead_push i j k (x ∷ more) is = elim (ahead_cases i j x more is) [
  | inl here ↦
      let both = and_parts (x == i) (has more j) here in
      ahead_here i j x (more ++ k ∷ []) both.0 (has-append_left more (k ∷ []) j both.1)
  | inr there ↦ ahead_there i j x (more ++ k ∷ []) (ahead_push i j k more there)
]

-- without one who is neither of them
ahead_without : (i j k : ℕ) (list : List ℕ) → (k == i) ≡ false → (k == j) ≡ false → is_ahead i j list ≡ true → is_ahead i j (without_section k list) ≡ true
ahead_without i j k [] first second is = absurd (false≢true is)
ahead_without i j k (x ∷ more) first second is = elim (cases_Bool (x == k)) [
  | inl gone ↦ elim (ahead_cases i j x more is) [
    | inl here ↦
        let same : x ≡ k = eqb-true x k gone in
        absurd (false≢true (sym first ∙ ap (λ n. n == i) (sym same) ∙ and_first (x == i) (has more j) here))
    | inr there ↦ rw gone (ahead_without i j k more first second there)
  ]
  | inr stays ↦ elim (ahead_cases i j x more is) [
    | inl here ↦
        let both = and_parts (x == i) (has more j) here in
        let still : has (without_section k more) j ≡ true = has-without k more j ∙ rw second both.1 in
        rw stays (ahead_here i j x (without_section k more) both.0 still)
    | inr there ↦ rw stays (ahead_there i j x (without_section k more) (ahead_without i j k more first second there))
  ]
]

-- behind a place, where nobody stands twice
ahead_behind : (i j n : ℕ) (list : List ℕ) → times i list ≤ 1 → is_ahead i j list ≡ true → has (drop n list) i ≡ true → is_ahead i j (drop n list) ≡ true
ahead_behind i j zero list once is waits = is
ahead_behind i j (suc n) [] once is waits = absurd (false≢true is)
ahead_behind i j (suc n) (x ∷ more) once is waits = elim (cases_Bool (x == i)) [
  | inl same ↦
      let all : 1 + times i more ≤ 1 = rw same at once in
      let none : has more i ≡ false = lacks_times i more (omega (arith, all)) in
      absurd (false≢true (sym none ∙ has_behind n i more waits))
  | inr other ↦
      let rest : 0 + times i more ≤ 1 = rw other at once in
      let few : times i more ≤ 1 = omega (arith, rest) in
      let there : is_ahead i j more ≡ true = rw other at is in
      ahead_behind i j n more few there waits
]

-- the list after a reply to a request of this student about the section
abbrev listed : ℕ → HallReply → List ℕ → List ℕ
listed i (reply.Queued ahead) list = list ++ i ∷ []
listed i (reply.Dropped lapsed next) list = drop (lapsed + one_next next) list
listed i reply.Left list = without_section i list
listed i _ list = list

noted_students : (number i : ℕ) (answer : HallReply) (line : Line) → students_in (noted number i answer line).waiting ≡ listed i answer (students_in line.waiting)
noted_students number i (reply.Queued ahead) line = map-append (λ (ticket : Ticket). ticket.student) line.waiting (record { number = number; student = i } ∷ [])
noted_students number i (reply.Dropped lapsed next) line = sym (drop-map (λ (ticket : Ticket). ticket.student) (lapsed + one_next next) line.waiting)
noted_students number i reply.Left line = filter-map i line.waiting
noted_students number i _ line = refl

-- a line in which these wait
abbrev line_with : List ℕ → Line
line_with list = record { waiting = map (λ (i : ℕ). record { number = 0; student = i }) list; given_or_lapsed = []; left = [] }

line_students : (list : List ℕ) → students_in (line_with list).waiting ≡ list
line_students [] = refl
line_students (i ∷ more) = ap (λ l. i ∷ l) (line_students more)

-- whether anybody waits
abbrev some_wait : List Ticket → Bool
some_wait [] = false
some_wait (first ∷ more) = true

-- a reply that changes nothing is not that somebody left
quiet_left : (answer : HallReply) → IsQuiet answer → is_left answer ≡ false
quiet_left reply.Left q = absurd (false≢true (ap (λ (line : Line). some_wait line.waiting) (q.line 0 0 (line_with (0 ∷ [])))))
quiet_left _ q = refl

-- where the list stays, and nobody was queued or left
stays : (before after : List ℕ) (queued left : ℕ → Bool) (dropped : Bool) → after ≡ before → ((j : ℕ) → queued j ≡ false) → ((j : ℕ) → left j ≡ false)
    → KeepsOrder before after queued left dropped
stays before after queued left dropped same none nobody = record {
  order = λ i j is waits still. ap (is_ahead i j) same ∙ is;
  comes = λ j lacks. ap (λ l. has l j) same ∙ lacks ∙ sym (none j);
  last = λ j is. absurd (false≢true (sym (none j) ∙ is));
  leaves = λ j is. absurd (false≢true (sym (nobody j) ∙ is));
  goes = λ j there gone. absurd (true≢false (sym there ∙ sym (ap (λ l. has l j) same) ∙ gone));
}

-- somebody is queued
queues : (i : ℕ) (list : List ℕ) (queued left : ℕ → Bool) (dropped : Bool) → ((j : ℕ) → queued j ≡ (i == j)) → ((j : ℕ) → left j ≡ false)
    → KeepsOrder list (list ++ i ∷ []) queued left dropped
queues i list queued left dropped one nobody = record {
  order = λ k j is waits still. ahead_push k j i list is;
  comes = λ j lacks. elim (cases_Bool (i == j)) [
    | inl same ↦ subst (λ n. has (list ++ i ∷ []) n ≡ true) (eqb-true i j same) (has_push_same list i) ∙ sym (one j ∙ same)
    | inr other ↦ has_push_other list i j (λ e. false≢true (sym other ∙ eq-eqb i j e)) ∙ lacks ∙ sym (one j ∙ other)
  ];
  last = λ j is. ap (λ n. list ++ n ∷ []) (eqb-true i j (sym (one j) ∙ is));
  leaves = λ j is. absurd (false≢true (sym (nobody j) ∙ is));
  goes = λ j there gone. absurd (true≢false (sym (has-append_left list (i ∷ []) j there) ∙ gone));
}

-- those in front are out of the list
lapses : (n : ℕ) (list : List ℕ) (queued left : ℕ → Bool) (dropped : Bool) → ((m : ℕ) → times m list ≤ 1) → ((j : ℕ) → queued j ≡ false) → ((j : ℕ) → left j ≡ false)
    → dropped ≡ true
    → KeepsOrder list (drop n list) queued left dropped
lapses n list queued left dropped once none nobody is_so = record {
  order = λ i j is waits still. ahead_behind i j n list (once i) is waits;
  comes = λ j lacks. elim (cases_Bool (has (drop n list) j)) [
    | inl there ↦ absurd (false≢true (sym lacks ∙ has_behind n j list there))
    | inr gone ↦ gone ∙ sym (none j)
  ];
  last = λ j is. absurd (false≢true (sym (none j) ∙ is));
  leaves = λ j is. absurd (false≢true (sym (nobody j) ∙ is));
  goes = λ j there gone. inr is_so;
}

-- somebody leaves
departs : (i : ℕ) (list : List ℕ) (queued left : ℕ → Bool) (dropped : Bool) → ((j : ℕ) → queued j ≡ false) → ((j : ℕ) → left j ≡ (i == j))
    → KeepsOrder list (without_section i list) queued left dropped
departs i list queued left dropped none one = record {
  order = λ k j is waits still. ahead_without k j i list (other_waits k waits) (sym (one j) ∙ still) is;
  comes = λ j lacks. has-without i list j ∙ and_right (not (i == j)) (has list j) lacks ∙ sym (none j);
  last = λ j is. absurd (false≢true (sym (none j) ∙ is));
  leaves = λ j is. let same : (i == j) ≡ true = sym (one j) ∙ is in has-without i list j ∙ rw same refl;
  goes = λ j there gone. elim (cases_Bool (i == j)) [
    | inl same ↦ inl (one j ∙ same)
    | inr other ↦ let still : has (without_section i list) j ≡ true = has-without i list j ∙ rw other there in absurd (true≢false (sym still ∙ gone))
  ];
}
  where
    other_waits : (k : ℕ) → has (without_section i list) k ≡ true → (i == k) ≡ false
    other_waits k waits = elim (cases_Bool (i == k)) [
      | inl same ↦ let gone : has (without_section i list) k ≡ false = has-without i list k ∙ rw same refl in absurd (false≢true (sym gone ∙ waits))
      | inr other ↦ other
    ]

-- a request of this student about the section, by its reply
and_so : (b : Bool) → (b && true) ≡ b
and_so true = refl
and_so false = refl

by_reply : (i : ℕ) (answer : HallReply) (list : List ℕ) (queued left : ℕ → Bool) (dropped : Bool) → ((m : ℕ) → times m list ≤ 1)
    → ((j : ℕ) → queued j ≡ ((i == j) && is_queued answer)) → ((j : ℕ) → left j ≡ ((i == j) && is_left answer)) → dropped ≡ is_dropped answer
    → KeepsOrder list (listed i answer list) queued left dropped
by_reply i (reply.Queued ahead) list queued left dropped once q l d =
    queues i list queued left dropped (λ j. q j ∙ and_so (i == j)) (λ j. l j ∙ and_right (i == j) false refl)
by_reply i (reply.Dropped lapsed next) list queued left dropped once q l d =
    lapses (lapsed + one_next next) list queued left dropped once (λ j. q j ∙ and_right (i == j) false refl) (λ j. l j ∙ and_right (i == j) false refl) d
by_reply i reply.Left list queued left dropped once q l d =
    departs i list queued left dropped (λ j. q j ∙ and_right (i == j) false refl) (λ j. l j ∙ and_so (i == j))
by_reply i _ list queued left dropped once q l d =
    stays list list queued left dropped refl (λ j. q j ∙ and_right (i == j) false refl) (λ j. l j ∙ and_right (i == j) false refl)

-- one step
module _ (market : Market) (state : HallState) (step : HallStep) (replied : step.reply ≡ (step_of market state step.request).0) (s : ℕ) where
  abbrev next : HallState
  next = (step_of market state step.request).1

  -- a kind of reply that the step has not, and a section that it does not name
  no_reply : (kind : HallReply → Bool) (j : ℕ) → kind step.reply ≡ false
      → (names_section market s step.request && names_student market j step.request && kind step.reply) ≡ false
  no_reply kind j none = and_right (names_section market s step.request && names_student market j step.request) (kind step.reply) none

  unnamed : (kind : HallReply → Bool) (j : ℕ) → names_section market s step.request ≡ false
      → (names_section market s step.request && names_student market j step.request && kind step.reply) ≡ false
  unnamed kind j other = ap (λ b. b && names_student market j step.request && kind step.reply) other

  -- a request of this student about this section
  named : (kind : HallReply → Bool) (i j : ℕ) → names_section market s step.request ≡ true → names_student market j step.request ≡ (i == j)
      → (names_section market s step.request && names_student market j step.request && kind step.reply)
      ≡ ((i == j) && kind (step_of market state step.request).0)
  named kind i j here who =
      ap (λ b. b && names_student market j step.request && kind step.reply) here ∙ ap (λ b. b && kind step.reply) who
      ∙ ap (λ r. (i == j) && kind r) replied

  about : (i u : ℕ) → IsHall market state → IsAbout market state step.request i u → KeepsOrderAt market state step next s
  about i u is of = elim (cases_Bool (u == s)) [
    | inl here ↦
        let same : u ≡ s = eqb-true u s here in
        let this : names_section market s step.request ≡ true = of.names s ∙ here in
        let stepped : IsStepped market state i s (step_of market state step.request) =
        subst (λ n. IsStepped market state i n (step_of market state step.request)) same of.stepped in
        let answer : HallReply = (step_of market state step.request).0 in
        let list : List ℕ = waiting_for state s in
        let told : waiting_for next s ≡ listed i answer list =
        sym (stepped.line 0 (line_with list) (line_students list)) ∙ noted_students 0 i answer (line_with list) ∙ ap (listed i answer) (line_students list) in
        subst (λ l. KeepsOrder list l (is_queued_by market s step) (has_left_by market s step) (is_dropped_by market s step)) (sym told)
        (by_reply i answer list (is_queued_by market s step) (has_left_by market s step) (is_dropped_by market s step) (is.queues s).once
        (λ j. named is_queued i j this (of.students j)) (λ j. named is_left i j this (of.students j))
        (ap (λ b. b && is_dropped step.reply) this ∙ ap is_dropped replied))
    | inr other ↦
        let apart : s ≢ u = λ e. false≢true (sym other ∙ eq-eqb u s (sym e)) in
        let none : names_section market s step.request ≡ false = of.names s ∙ other in
        stays (waiting_for state s) (waiting_for next s) (is_queued_by market s step) (has_left_by market s step) (is_dropped_by market s step)
        (of.stepped.waiting_others s apart) (λ j. unnamed is_queued j none) (λ j. unnamed is_left j none)
  ]

  pub step_in_order : IsHall market state → KeepsOrderAt market state step next s
  step_in_order is = elim (every_step market state is step.request) [
    | inl q ↦
        let same : next ≡ state = ap (λ (o : HallReply × HallState). o.1) q.is in
        let answer : step.reply ≡ q.answer = replied ∙ ap (λ (o : HallReply × HallState). o.0) q.is in
        stays (waiting_for state s) (waiting_for next s) (is_queued_by market s step) (has_left_by market s step) (is_dropped_by market s step)
        (ap (λ (h : HallState). waiting_for h s) same) (λ j. no_reply is_queued j (ap is_queued answer ∙ q.nothing.queued))
        (λ j. no_reply is_left j (ap is_left answer ∙ quiet_left q.answer q.nothing))
    | inr of ↦ about of.0 of.1 is of.2
  ]

pub waits_in_order : WaitsInOrderLaw
waits_in_order market opening before step is legal s =
    let state : HallState = state_after_steps state_after market opening before in
    let replied : step.reply ≡ (step_of market state step.request).0 = reply_of_step is_sound state_after reply_to market opening before [] step legal in
    subst (λ (after : HallState). KeepsOrderAt market state step after s) (sym (state_after-append state_after market opening before (step ∷ [])))
    (step_in_order market state step replied s (all_halls market opening before is))
