-- Histories of steps from an opening that keeps the rules.
use Rattle.std.proofs.Common.{ℕ, ◌≡◌, ◌≢◌, ◌<◌, ◌≤◌, ◌+◌, ◌++◌, ◌==◌, ◌&&◌, ◌∙◌, ◌⊎◌, Bool, true, false, List, [], ◌∷◌, length, map, arith, refl, sym, ap, subst, inl, inr, Some, None, cond}
use Rattle.std.specs.Prelude.{slice_get, slice_index, nat_lt, Option, if◌then◌else◌}
use Rattle.std.specs.List.{position_or_len}
use Rattle.std.specs.Str.{bytes_eq}
use Rattle.std.proofs.lemmas.Bool.{cases_Bool, eq-eqb, eqb-true, false≢true, ltb-true}
use Rattle.std.proofs.lemmas.List.{length-map}
use Rattle.market_units.specs.declared.names.Name.{Name}
use Rattle.market_units.specs.declared.units.StudentNo.{StudentNo}
use Rattle.market_units.specs.Name.{name_bytes}
use Rattle.course_catalog.specs.Sections.{Section}
use Rattle.student_roll.specs.Students.{Student, names_of}
use Rattle.chronicle.specs.History.{IsLegal, state_after as state_after_steps}
use Rattle.chronicle.proofs.HistoryLaws.{legal_front, reply_of_step}
use Rattle.market_units.specs.Members.{has}
use Rattle.demand_api.specs.Crowds.{holders}
use Rattle.dropadd_desk.specs.declared.command.HallCommand.{HallCommand}
use Rattle.dropadd_desk.specs.declared.command.HallCommand.TheVariants.{Add, Drop, Leave, Unreadable}
use Rattle.dropadd_desk.specs.declared.reply.HallReply.{HallReply}
use Rattle.dropadd_desk.specs.declared.reply.HallReply.TheVariants as reply
use Rattle.dropadd_desk.specs.declared.shared.HallState.{HallState}
use Rattle.dropadd_desk.specs.Market.{Market, offered, section_count, section_named, seats_in, student_count, student_named}
use Rattle.dropadd_desk.specs.Halls.{IsHall}
use Rattle.dropadd_desk.specs.Holdings.{held_after, held_after_reply, held_by_replies, names_student}
use Rattle.dropadd_desk.specs.Openings.{IsLawful}
use Rattle.dropadd_desk.specs.Laws.{ConservationLaw, IsFair}
use Rattle.dropadd_desk.specs.Lines.{HallStep, Line, is_added, is_dropped, is_passed_on, is_refusal, line_after, line_from, line_of, named_student, names_section, no_line, noted, replies}
use Rattle.dropadd_desk.specs.Replies.{NamesInRange}
use Rattle.dropadd_desk.specs.Shared.{is_sound, state_after, reply_to}
use Rattle.dropadd_desk.specs.Step.{add, by_names, drop as drop_section, held_by, known, leave, step as step_of, waiting_for}
use Rattle.dropadd_desk.proofs.Stepped.{IsQuiet, IsStepped, add_step, drop_step, leave_step, one_if, quiet, students_in}
use Rattle.dropadd_desk.proofs.Tickets.{all_in_order, each_once}

-- a place that is found is one of the list
place_cases : (n k i : ℕ) → cond (nat_lt n k) (Some n) None ≡ Some i → i < k
place_cases n k i e = elim (cases_Bool (nat_lt n k)) [
  | inl low ↦ let is : Some n ≡ Some i = rw low at e in let same : n ≡ i = cc in subst (λ m. m < k) same (ltb-true n k low)
  | inr past ↦ let is : ◌≡◌ {A = Option ℕ} None (Some i) = rw past at e in cc
]

pub student_within : (market : Market) (name : Name) (i : ℕ) → student_named market name ≡ Some i → i < student_count market
student_within market name i e =
    let names = names_of market.roll.students in
    subst (λ n. i < n) (length-map market.roll.students (λ (student : Student). student.name))
    (place_cases (position_or_len (bytes_eq (name_bytes name)) names) (length names) i e)

pub section_within : (market : Market) (name : Name) (s : ℕ) → section_named market name ≡ Some s → s < section_count market
section_within market name s e =
    let names = map (λ (section : Section). section.name) market.catalog.sections in
    subst (λ n. s < n) (length-map market.catalog.sections (λ (section : Section). section.name))
    (place_cases (position_or_len (bytes_eq (name_bytes name)) names) (length names) s e)

-- a request that changes nothing
pub record IsQuietStep (market : Market) (state : HallState) (command : HallCommand) : Type 0 where
  pub answer : HallReply
  pub is : step_of market state command ≡ (answer, state)
  pub nothing : IsQuiet answer

-- a request of a student about a section, both known
pub record IsAbout (market : Market) (state : HallState) (command : HallCommand) (i s : ℕ) : Type 0 where
  pub section : s < section_count market
  pub names : (t : ℕ) → names_section market t command ≡ (s == t)
  pub who : named_student market command ≡ i
  pub students : (j : ℕ) → names_student market j command ≡ (i == j)
  pub stepped : IsStepped market state i s (step_of market state command)

-- the two names of a request
pub record Names (market : Market) (state : HallState) (student section : Name) (made : ℕ → ℕ → HallReply × HallState) : Type 0 where
  pub i : ℕ
  pub s : ℕ
  pub student_is : student_named market student ≡ Some i
  pub section_is : section_named market section ≡ Some s
  pub made_is : by_names market state student section made ≡ made i s

pub names_or_quiet : (market : Market) (state : HallState) (student section : Name) (made : ℕ → ℕ → HallReply × HallState)
    → ((answer : HallReply) × (by_names market state student section made ≡ (answer, state)) × (is_refusal answer ≡ true) × NamesInRange market answer)
    ⊎ Names market state student section made
names_or_quiet market state student section made = cases (student_named market student) (section_named market section) refl refl
  where
    cases : (o p : Option ℕ) → student_named market student ≡ o → section_named market section ≡ p
        → ((answer : HallReply) × (by_names market state student section made ≡ (answer, state)) × (is_refusal answer ≡ true) × NamesInRange market answer)
        ⊎ Names market state student section made
    cases None p e f =
        inl (
          reply.NoStudent,
          ap (λ o. known o (reply.NoStudent, state) (λ i. known (section_named market section) (reply.NoSection, state) (λ s. made i s))) e,
          refl,
          tt,
        )
    cases (Some i) None e f =
        inl (
          reply.NoSection,
          ap (λ o. known o (reply.NoStudent, state) (λ i. known (section_named market section) (reply.NoSection, state) (λ s. made i s))) e
              ∙ ap (λ p. known p (reply.NoSection, state) (λ s. made i s)) f,
          refl,
          tt,
        )
    cases (Some i) (Some s) e f = inr (record {
      i = i;
      s = s;
      student_is = e;
      section_is = f;
      made_is =
          ap (λ o. known o (reply.NoStudent, state) (λ i. known (section_named market section) (reply.NoSection, state) (λ s. made i s))) e
          ∙ ap (λ p. known p (reply.NoSection, state) (λ s. made i s)) f;
    })

-- a request by two names changes nothing, or is of a known student about a known section, where what is made for these is a step
of_names : (market : Market) (state : HallState) (command : HallCommand) (student section : Name) (made : ℕ → ℕ → HallReply × HallState)
    → step_of market state command ≡ by_names market state student section made
    → ((t : ℕ) → names_section market t command ≡ known (section_named market section) false (λ u. u == t))
    → named_student market command ≡ known (student_named market student) 0 (λ (i : ℕ). i)
    → ((j : ℕ) → names_student market j command ≡ known (student_named market student) false (λ k. k == j))
    → ((n : Names market state student section made) → IsStepped market state n.i n.s (made n.i n.s))
    → IsQuietStep market state command ⊎ ((i : ℕ) × (s : ℕ) × IsAbout market state command i s)
of_names market state command student section made steps names who students stepped = elim (names_or_quiet market state student section made) [
  | inl q ↦ inl (record { answer = q.0; is = steps ∙ q.1; nothing = quiet q.0 q.2 })
  | inr n ↦ inr (
    n.i,
    n.s,
    record {
      section = section_within market section n.s n.section_is;
      names = λ t. names t ∙ ap (λ p. known p false (λ u. u == t)) n.section_is;
      who = who ∙ ap (λ o. known o 0 (λ (i : ℕ). i)) n.student_is;
      students = λ j. students j ∙ ap (λ o. known o false (λ k. k == j)) n.student_is;
      stepped = subst (IsStepped market state n.i n.s) (sym (steps ∙ n.made_is)) (stepped n);
    },
  )
]

pub every_step : (market : Market) (state : HallState) → IsHall market state → (command : HallCommand)
    → IsQuietStep market state command ⊎ ((i : ℕ) × (s : ℕ) × IsAbout market state command i s)
unfolding step_of
every_step market state is Unreadable = inl (record { answer = reply.Unreadable; is = refl; nothing = quiet reply.Unreadable refl })
every_step market state is (Add student section) =
    of_names market state (Add student section) student section (add market state) refl (λ t. refl) refl (λ j. refl)
    (λ n. add_step market state is n.i n.s (student_within market student n.i n.student_is) (section_within market section n.s n.section_is))
every_step market state is (Drop student section) =
    of_names market state (Drop student section) student section (drop_section market state) refl (λ t. refl) refl (λ j. refl)
    (λ n. drop_step market state n.i n.s is (student_within market student n.i n.student_is) (section_within market section n.s n.section_is))
every_step market state is (Leave student section) =
    of_names market state (Leave student section) student section (leave state) refl (λ t. refl) refl (λ j. refl)
    (λ n. leave_step market state is n.i n.s (section_within market section n.s n.section_is))

-- a state that is kept stays one
pub hall_after : (market : Market) (state : HallState) (command : HallCommand) → IsHall market state → IsHall market (step_of market state command).1
hall_after market state command is = elim (every_step market state is command) [
  | inl q ↦ subst (IsHall market) (sym (ap (λ (o : HallReply × HallState). o.1) q.is)) is
  | inr about ↦ about.2.stepped.hall
]

-- What is kept of a section: with its line, as it was read so far.
pub record IsKept (market : Market) (state : HallState) (line : Line) (s : ℕ) : Type 0 where
  pub hall : IsHall market state
  pub fair : IsFair market state s
  pub told : students_in line.waiting ≡ waiting_for state s

-- one step
pub record IsOneStep (market : Market) (state : HallState) (line : Line) (number s : ℕ) (step : HallStep) : Type 0 where
  pub kept : IsKept market (state_after market state step.seat step.request) (line_after market s number step line) s
  pub balance : holders s (state_after market state step.seat step.request).held + one_if (names_section market s step.request && is_dropped step.reply)
      ≡ holders s state.held + one_if (names_section market s step.request && is_added step.reply)
      + one_if (names_section market s step.request && is_passed_on step.reply)
  pub who : (j : ℕ) → has (held_by (state_after market state step.seat step.request) j) s ≡ held_after market s j step (has (held_by state j) s)
  pub next : (lapsed : ℕ) (next : StudentNo) → names_section market s step.request ≡ true → step.reply ≡ reply.Dropped lapsed (Some next)
      → slice_get (waiting_for state s) lapsed ≡ Some next.0

and_none : (b c : Bool) → c ≡ false → one_if (b && c) ≡ 0
and_none true c e = ap one_if e
and_none false c e = refl

pub one_step : (market : Market) (state : HallState) (line : Line) (number s : ℕ) (step : HallStep) → IsKept market state line s
    → step.reply ≡ reply_to market state step.seat step.request → IsOneStep market state line number s step
one_step market state line number s step kept replied = elim (every_step market state kept.hall step.request) [
  | inl q ↦
      let same : state_after market state step.seat step.request ≡ state = ap (λ (o : HallReply × HallState). o.1) q.is in
      let answer : step.reply ≡ q.answer = replied ∙ ap (λ (o : HallReply × HallState). o.0) q.is in
      let dropped : one_if (names_section market s step.request && is_dropped step.reply) ≡ 0 =
      and_none (names_section market s step.request) (is_dropped step.reply) (ap is_dropped answer ∙ q.nothing.dropped) in
      let added : one_if (names_section market s step.request && is_added step.reply) ≡ 0 =
      and_none (names_section market s step.request) (is_added step.reply) (ap is_added answer ∙ q.nothing.added) in
      let passed : one_if (names_section market s step.request && is_passed_on step.reply) ≡ 0 =
      and_none (names_section market s step.request) (is_passed_on step.reply) (ap is_passed_on answer ∙ q.nothing.passed) in
      let count : holders s (state_after market state step.seat step.request).held ≡ holders s state.held = ap (λ (h : HallState). holders s h.held) same in
      let line_same : line_after market s number step line ≡ line =
      read_nothing (names_section market s step.request) (named_student market step.request) step.reply
      (ap (λ r. noted number (named_student market step.request) r line) answer ∙ q.nothing.line number (named_student market step.request) line) in
      record {
        kept = subst (λ h. IsKept market h (line_after market s number step line) s) (sym same) (subst (λ l. IsKept market state l s) (sym line_same) kept);
        balance = omega (arith, dropped, added, passed, count);
        who = λ j. ap (λ (h : HallState). has (held_by h j) s) same ∙ sym (held_nothing (names_section market s step.request) j (names_student market j step.request) (has (held_by state j) s) step.reply
            (ap (λ r. held_after_reply j (names_student market j step.request) r (has (held_by state j) s)) answer ∙ q.nothing.held j (names_student market j step.request) (has (held_by state j) s)));
        next = λ lapsed next names is. absurd (q.nothing.next lapsed next (sym answer ∙ is));
      }
  | inr about ↦ named_step about.0 about.1 about.2
]
  where
    read_nothing : (b : Bool) (i : ℕ) (answer : HallReply) → noted number i answer line ≡ line → (if b then noted number i answer line else line) ≡ line
    read_nothing true i answer e = e
    read_nothing false i answer e = refl

    held_nothing : (b : Bool) (j : ℕ) (is_named before : Bool) (answer : HallReply) → held_after_reply j is_named answer before ≡ before
        → (if b then held_after_reply j is_named answer before else before) ≡ before
    held_nothing true j is_named before answer e = e
    held_nothing false j is_named before answer e = refl

    after : HallState
    after = state_after market state step.seat step.request

    named_step : (i u : ℕ) → IsAbout market state step.request i u → IsOneStep market state line number s step
    named_step i u about = elim (cases_Bool (u == s)) [
      | inl here ↦
          let same : u ≡ s = eqb-true u s here in
          let named : names_section market s step.request ≡ true = about.names s ∙ here in
          let stepped : IsStepped market state i s (step_of market state step.request) =
          subst (λ n. IsStepped market state i n (step_of market state step.request)) same about.stepped in
          let read : line_after market s number step line ≡ noted number i (reply_to market state step.seat step.request) line =
          ap (λ b. if b then noted number (named_student market step.request) step.reply line else line) named
          ∙ ap (λ n. noted number n step.reply line) about.who ∙ ap (λ r. noted number i r line) replied in
          let told : students_in (line_after market s number step line).waiting ≡ waiting_for after s =
          ap (λ (l : Line). students_in l.waiting) read ∙ stepped.line number line kept.told in
          let dropped : one_if (names_section market s step.request && is_dropped step.reply)
          ≡ one_if (is_dropped (reply_to market state step.seat step.request)) =
          ap (λ b. one_if (b && is_dropped step.reply)) named ∙ ap (λ r. one_if (is_dropped r)) replied in
          let added : one_if (names_section market s step.request && is_added step.reply) ≡ one_if (is_added (reply_to market state step.seat step.request)) =
          ap (λ b. one_if (b && is_added step.reply)) named ∙ ap (λ r. one_if (is_added r)) replied in
          let passed : one_if (names_section market s step.request && is_passed_on step.reply)
          ≡ one_if (is_passed_on (reply_to market state step.seat step.request)) =
          ap (λ b. one_if (b && is_passed_on step.reply)) named ∙ ap (λ r. one_if (is_passed_on r)) replied in
          record {
            kept = record {
              hall = stepped.hall;
              fair = record { seats = stepped.seats kept.fair.seats; full = stepped.full kept.fair.full; apart = λ j there. stepped.hall.apart j s there };
              told = told;
            };
            balance =
                dropped_balance (one_if (names_section market s step.request && is_dropped step.reply))
                (one_if (is_dropped (reply_to market state step.seat step.request))) (one_if (names_section market s step.request && is_added step.reply))
                (one_if (is_added (reply_to market state step.seat step.request)))
                (one_if (names_section market s step.request && is_passed_on step.reply)) (one_if (is_passed_on (reply_to market state step.seat step.request)))
                (holders s after.held) (holders s state.held) dropped added passed stepped.balance;
            who = λ j. stepped.held j ∙ sym (
                ap (λ b. if b then held_after_reply j (names_student market j step.request) step.reply (has (held_by state j) s) else has (held_by state j) s)
                named
                ∙ ap (λ b. held_after_reply j b step.reply (has (held_by state j) s)) (about.students j)
                ∙ ap (λ r. held_after_reply j (i == j) r (has (held_by state j) s)) replied);
            next = λ lapsed next names is. stepped.next lapsed next (sym replied ∙ is);
          }
      | inr other ↦
          let apart : s ≢ u = λ e. false≢true (sym other ∙ eq-eqb u s (sym e)) in
          let named : names_section market s step.request ≡ false = about.names s ∙ other in
          let waiting : waiting_for after s ≡ waiting_for state s = about.stepped.waiting_others s apart in
          let count : holders s after.held ≡ holders s state.held = about.stepped.held_others s apart in
          let read : line_after market s number step line ≡ line =
          ap (λ b. if b then noted number (named_student market step.request) step.reply line else line) named in
          let dropped : one_if (names_section market s step.request && is_dropped step.reply) ≡ 0 = ap (λ b. one_if (b && is_dropped step.reply)) named in
          let added : one_if (names_section market s step.request && is_added step.reply) ≡ 0 = ap (λ b. one_if (b && is_added step.reply)) named in
          let passed : one_if (names_section market s step.request && is_passed_on step.reply) ≡ 0 = ap (λ b. one_if (b && is_passed_on step.reply)) named in
          record {
            kept = record {
              hall = about.stepped.hall;
              fair = record {
                seats = subst (λ n. n ≤ (offered market s).seats) (sym count) kept.fair.seats;
                full = λ j there. ap (λ n. nat_lt n (slice_index (seats_in market) s)) count ∙ kept.fair.full j (sym (ap (λ l. has l j) waiting) ∙ there);
                apart = λ j there. about.stepped.hall.apart j s there;
              };
              told = ap (λ (l : Line). students_in l.waiting) read ∙ kept.told ∙ sym waiting;
            };
            balance = omega (arith, dropped, added, passed, count);
            who =
                λ j. about.stepped.held_elsewhere s apart j
                ∙ sym
                (ap
                (λ b. if b then held_after_reply j (names_student market j step.request) step.reply (has (held_by state j) s)
                else has (held_by state j) s)
                named);
            next = λ lapsed next names is. absurd (false≢true (sym named ∙ names));
          }
    ]
      where
        dropped_balance : (d d' a a' p p' n m : ℕ) → d ≡ d' → a ≡ a' → p ≡ p' → n + d' ≡ m + a' + p' → n + d ≡ m + a + p
        dropped_balance d d' a a' p p' n m e f g h = omega arith

-- all steps
pub record IsWhole (market : Market) (state : HallState) (line : Line) (number s : ℕ) (history : List HallStep) : Type 0 where
  pub kept : IsKept market (state_after_steps state_after market state history) (line_from market s number history line) s
  pub balance : holders s (state_after_steps state_after market state history).held + replies market s is_dropped history
      ≡ holders s state.held + replies market s is_added history + replies market s is_passed_on history
  pub who : (i : ℕ) → has (held_by (state_after_steps state_after market state history) i) s ≡ held_by_replies market s i history (has (held_by state i) s)

pub all_steps : (market : Market) (state : HallState) (line : Line) (number s : ℕ) (history : List HallStep) → IsKept market state line s
    → IsLegal is_sound state_after reply_to market state history → IsWhole market state line number s history
all_steps market state line number s [] kept legal =
    record { kept = kept; balance = (let n : ℕ = holders s state.held in let goal : n + 0 ≡ n + 0 + 0 = omega arith in goal); who = λ i. refl }
all_steps market state line number s (step ∷ more) kept legal =
    let one = one_step market state line number s step kept legal.1 in
    let rest = all_steps market (state_after market state step.seat step.request) (line_after market s number step line) (number + 1) s more one.kept legal.2 in
    record {
      kept = rest.kept;
      balance = in_a_row _ _ _ _ _ _ _ _ _ one.balance rest.balance;
      who = λ i. rest.who i ∙ ap (held_by_replies market s i more) (one.who i);
    }
  where
    in_a_row : (d d' a a' p p' n m k : ℕ) → n + d ≡ m + a + p → k + d' ≡ n + a' + p' → k + (d + d') ≡ m + (a + a') + (p + p')
    in_a_row d d' a a' p p' n m k e f = omega arith

-- the opening
pub opened : (market : Market) (opening : HallState) (s : ℕ) → IsHall market opening → IsLawful market opening → s < section_count market
    → IsKept market opening no_line s
opened market opening s is lawful low = record {
  hall = is;
  fair = record {
    seats = lawful.seats s low;
    full = λ j there. absurd (false≢true (sym (ap (λ l. has l j) (lawful.nobody s)) ∙ there));
    apart = λ j there. is.apart j s there;
  };
  told = sym (lawful.nobody s);
}

pub conserved : ConservationLaw
conserved market opening history is lawful legal s low =
    let start = opened market opening s is lawful low in
    let whole = all_steps market opening no_line 0 s history start legal in
    record {
      hall = whole.kept.hall;
      fair = whole.kept.fair;
      who = whole.who;
      balance = whole.balance;
      waiting = whole.kept.told;
      once = λ number. each_once market s history number;
      in_order = all_in_order market s history;
      next = λ before after step lapsed next is_so names told.
          let legal' : IsLegal is_sound state_after reply_to market opening (before ++ step ∷ after) =
          subst (IsLegal is_sound state_after reply_to market opening) is_so legal in
          let front =
          all_steps market opening no_line 0 s before start (legal_front is_sound state_after reply_to market opening before (step ∷ after) legal') in
          let here =
          one_step market (state_after_steps state_after market opening before) (line_of market s before) 0 s step front.kept
          (reply_of_step is_sound state_after reply_to market opening before after step legal') in
          ap (λ l. slice_get l lapsed) front.kept.told ∙ here.next lapsed next names told;
    }
