-- What a student's step about a section does, and what it leaves.
use Rattle.std.proofs.Common.{ℕ, zero, suc, ◌≡◌, ◌≢◌, ◌<◌, ◌≤◌, ◌+◌, ◌++◌, ◌==◌, ◌&&◌, ◌||◌, ◌∙◌, Bool, true, false, not, List, [], ◌∷◌, length, map, drop, arith, refl, sym, ap, subst, inl, inr, Some, None}
use Rattle.std.specs.Prelude.{slice_get, slice_index, option_map, if◌then◌else◌, nat_lt, Option}
use Rattle.std.specs.List.{before_first, after_first, filter, find, position_or_len}
use Rattle.std.proofs.lemmas.Bool.{cases_Bool, false≢true, true≢false, ltb-true}
use Rattle.std.proofs.lemmas.List.{get_or-map, drop_all, length-take-le, map-append, take_all}
use Rattle.std.proofs.lemmas.List.Folds.{find_at}
use Rattle.std.proofs.lemmas.Option.{slice_get_within}
use Rattle.std.specs.List.{drop-map}
use Rattle.market_units.specs.declared.units.StudentNo.{StudentNo}
use Rattle.course_catalog.specs.Sections.{Section, no_section}
use Rattle.market_units.specs.Members.{has}
use Rattle.demand_api.specs.Crowds.{holders}
use Rattle.dropadd_desk.specs.declared.reply.HallReply.{HallReply}
use Rattle.dropadd_desk.specs.declared.reply.HallReply.TheVariants as reply
use Rattle.dropadd_desk.specs.declared.shared.HallState.{HallState}
use Rattle.dropadd_desk.specs.Market.{Market, offered, section_count, student_count, seats_in}
use Rattle.bundle_rules.specs.Sets.{without_section}
use Rattle.dropadd_desk.specs.Sets.{with_section}
use Rattle.dropadd_desk.specs.Fits.{fits, lowest_clash, exceeds_credits, exceeds_courses}
use Rattle.dropadd_desk.specs.Halls.{IsHall}
use Rattle.dropadd_desk.specs.Holdings.{held_after_reply}
use Rattle.dropadd_desk.specs.Lines.{Line, Ticket, is_added, is_dropped, is_passed_on, is_queued, is_refusal, noted}
use Rattle.dropadd_desk.specs.Step.{add, answered, drop as drop_section, first_of, given, has_free_seat, held_by, leave, pass_on, refusal, waiting_for, where_so, with_held, with_waiting}
use Rattle.bundle_rules.specs.Existence.Members.{has-here, has-there}
use Rattle.dropadd_desk.proofs.Queues.{none_behind, without_has, has_behind}
use Rattle.dropadd_desk.proofs.Steps.{behind_keeps, held_same, held_with, held_without, holders_same, left_keeps, one_holder_fewer, one_holder_more, queued_keeps, waiting_here, waiting_there, with_keeps, with_other, without_keeps, without_other}

-- who stands at a place
pub has_at : (xs : List ℕ) (n i : ℕ) → slice_get xs n ≡ Some i → has xs i ≡ true
has_at [] n i e = absurd (cc e)
has_at (x ∷ xs) zero i e = let same : x ≡ i = cc e in subst (λ m. has (x ∷ xs) m ≡ true) same (has-here x xs)
has_at (x ∷ xs) (suc n) i e = has-there x xs i (has_at xs n i e)

pub none_past : (xs : List ℕ) (n : ℕ) → slice_get xs n ≡ None → length xs ≤ n
none_past [] n e = omega arith
none_past (x ∷ xs) zero e = absurd (cc e)
none_past (x ∷ xs) (suc n) e = let rest = none_past xs n e in omega (arith, rest)

-- one where it is so
abbrev pub one_if : Bool → ℕ
one_if b = if b then 1 else 0

abbrev pub students_in : List Ticket → List ℕ
students_in tickets = map (λ (ticket : Ticket). ticket.student) tickets

-- what a step leaves of a section and of the others
pub record IsStepped (market : Market) (state : HallState) (i s : ℕ) (outcome : HallReply × HallState) : Type 0 where
  pub hall : IsHall market outcome.1
  pub held_others : (t : ℕ) → t ≢ s → holders t outcome.1.held ≡ holders t state.held
  pub waiting_others : (t : ℕ) → t ≢ s → waiting_for outcome.1 t ≡ waiting_for state t
  pub held : (j : ℕ) → has (held_by outcome.1 j) s ≡ held_after_reply j (i == j) outcome.0 (has (held_by state j) s)
  pub held_elsewhere : (t : ℕ) → t ≢ s → (j : ℕ) → has (held_by outcome.1 j) t ≡ has (held_by state j) t
  pub seats : holders s state.held ≤ (offered market s).seats → holders s outcome.1.held ≤ (offered market s).seats
  pub full : ((j : ℕ) → has (waiting_for state s) j ≡ true → has_free_seat market state s ≡ false) → (j : ℕ) → has (waiting_for outcome.1 s) j ≡ true
      → has_free_seat market outcome.1 s ≡ false
  pub balance : holders s outcome.1.held + one_if (is_dropped outcome.0) ≡ holders s state.held + one_if (is_added outcome.0) + one_if (is_passed_on outcome.0)
  pub line : (number : ℕ) (line : Line) → students_in line.waiting ≡ waiting_for state s
      → students_in (noted number i outcome.0 line).waiting ≡ waiting_for outcome.1 s
  pub next : (lapsed : ℕ) (next : StudentNo) → outcome.0 ≡ reply.Dropped lapsed (Some next) → slice_get (waiting_for state s) lapsed ≡ Some next.0

-- a reply that changes nothing
pub record IsQuiet (answer : HallReply) : Type 0 where
  pub line : (number i : ℕ) (line : Line) → noted number i answer line ≡ line
  pub held : (j : ℕ) (is_named before : Bool) → held_after_reply j is_named answer before ≡ before
  pub added : is_added answer ≡ false
  pub dropped : is_dropped answer ≡ false
  pub passed : is_passed_on answer ≡ false
  pub queued : is_queued answer ≡ false
  pub next : (lapsed : ℕ) (next : StudentNo) → answer ≢ reply.Dropped lapsed (Some next)

pub quiet : (answer : HallReply) → is_refusal answer ≡ true → IsQuiet answer
quiet reply.Added e = absurd (false≢true e)
quiet (reply.Queued ahead) e = absurd (false≢true e)
quiet (reply.Dropped lapsed next) e = absurd (false≢true e)
quiet reply.Left e = absurd (false≢true e)
quiet _ e = record { line = λ n i line. refl; held = λ j is_named before. refl; added = refl; dropped = refl; passed = refl; queued = refl; next = λ l w f. cc }

-- a refusal is such a reply
abbrev pub QuietOrNone : Option HallReply → Type 0
QuietOrNone None = Unit {0}
QuietOrNone (Some answer) = is_refusal answer ≡ true

first_quiet : (o : Option HallReply) (more : List (Option HallReply)) → QuietOrNone o → QuietOrNone (first_of more) → QuietOrNone (first_of (o ∷ more))
first_quiet None more here rest = rest
first_quiet (Some answer) more here rest = here

so_quiet : (b : Bool) (answer : HallReply) → is_refusal answer ≡ true → QuietOrNone (where_so b answer)
so_quiet true answer e = e
so_quiet false answer e = tt

clash_quiet : (o : Option ℕ) → QuietOrNone (option_map (λ (t : ℕ). reply.Clash (record { 0 = t })) o)
clash_quiet None = tt
clash_quiet (Some t) = refl

pub refusal_quiet : (market : Market) (state : HallState) (i s : ℕ) → QuietOrNone (refusal market state i s)
refusal_quiet market state i s =
    first_quiet _ _ (so_quiet (has (held_by state i) s) reply.Holding refl)
    (first_quiet _ _ (so_quiet (has (waiting_for state s) i) reply.Waiting refl)
    (first_quiet _ _ (clash_quiet (lowest_clash market s (held_by state i)))
    (first_quiet _ _ (so_quiet (exceeds_credits market i s (held_by state i)) reply.Credits refl)
    (first_quiet _ _ (so_quiet (exceeds_courses market i (held_by state i)) reply.Courses refl) tt))))

pub first_none : (o : Option HallReply) (more : List (Option HallReply)) → first_of (o ∷ more) ≡ None → (o ≡ None) × (first_of more ≡ None)
first_none None more e = (refl, e)
first_none (Some answer) more e = cc

pub so_none : (b : Bool) (answer : HallReply) → where_so b answer ≡ None → b ≡ false
so_none true answer e = cc
so_none false answer e = refl

-- where nothing stands against it, the student neither holds the section nor waits for it
pub refusal_none : (market : Market) (state : HallState) (i s : ℕ) → refusal market state i s ≡ None
    → (has (held_by state i) s ≡ false) × (has (waiting_for state s) i ≡ false)
refusal_none market state i s e =
    let one = first_none _ _ e in
    let two = first_none _ _ one.1 in
    (so_none (has (held_by state i) s) reply.Holding one.0, so_none (has (waiting_for state s) i) reply.Waiting two.0)

-- who waits where a student has left
pub filter-map : (i : ℕ) (tickets : List Ticket)
    → students_in (filter (λ (ticket : Ticket). not (ticket.student == i)) tickets) ≡ without_section i (students_in tickets)
filter-map i [] = refl
filter-map i (ticket ∷ more) = elim (cases_Bool (ticket.student == i)) [
  | inl same ↦ rw same (filter-map i more)
  | inr other ↦ rw other (ap (λ l. ticket.student ∷ l) (filter-map i more))
]

module _ (market : Market) (state : HallState) (is : IsHall market state) where
  seats_at : (s : ℕ) → s < section_count market → slice_index (seats_in market) s ≡ (offered market s).seats
  seats_at s low = get_or-map (λ (section : Section). section.seats) market.catalog.sections s no_section 0 low

  -- a reply that changes nothing
  pub quiet_step : (i s : ℕ) (answer : HallReply) → IsQuiet answer → IsStepped market state i s (answer, state)
  quiet_step i s answer q = record {
    hall = is;
    held_others = λ t apart. refl;
    waiting_others = λ t apart. refl;
    held = λ j. sym (q.held j (i == j) (has (held_by state j) s));
    held_elsewhere = λ t apart j. refl;
    seats = λ few. few;
    full = λ all. all;
    balance =
        (let d : one_if (is_dropped answer) ≡ 0 = ap one_if q.dropped in let a : one_if (is_added answer)
        ≡ 0 = ap one_if q.added in let p : one_if (is_passed_on answer)
        ≡ 0 = ap one_if q.passed in let n : ℕ = holders s state.held in let goal : n + one_if (is_dropped answer)
        ≡ n + one_if (is_added answer) + one_if (is_passed_on answer) = omega arith in goal);
    line = λ number line told. ap (λ (l : Line). students_in l.waiting) (q.line number i line) ∙ told;
    next = λ lapsed next e. absurd (q.next lapsed next e);
  }

  nothing : (n : ℕ) → n + 0 ≡ n + 0 + 0
  nothing n = omega arith

  -- the student has the section
  added_step : (i s : ℕ) → i < student_count market → s < section_count market → has (held_by state i) s ≡ false → has (waiting_for state s) i ≡ false
      → has_free_seat market state s ≡ true
      → IsStepped market state i s (reply.Added, with_held state i (with_section s (held_by state i)))
  added_step i s low below lacks waits free =
      let inside : i < length state.held = subst (λ n. i < n) (sym is.each_student) low in
      let more = one_holder_more market state i s inside lacks in
      let room : holders s state.held < slice_index (seats_in market) s = ltb-true (holders s state.held) (slice_index (seats_in market) s) free in
      record {
        hall = with_keeps market state is i s low below waits;
        held_others = λ t apart. holders_same market state i t (with_section s (held_by state i)) inside (with_other market s t (held_by state i) apart);
        waiting_others = λ t apart. refl;
        held = held_with state i s inside;
        held_elsewhere = λ t apart. held_same state i t (with_section s (held_by state i)) inside (with_other market s t (held_by state i) apart);
        seats = λ few. let h : slice_index (seats_in market) s ≡ (offered market s).seats = seats_at s below in omega (arith, more, room, h);
        full = λ all j there. absurd (false≢true (sym (all j there) ∙ free));
        balance = omega (arith, more);
        line = λ number line told. told;
        next = λ lapsed next e. cc;
      }

  -- the student waits
  queued_step : (i s : ℕ) → i < student_count market → s < section_count market → has (held_by state i) s ≡ false → has (waiting_for state s) i ≡ false
      → has_free_seat market state s ≡ false
      → IsStepped market state i s (reply.Queued (length (waiting_for state s)), with_waiting state s (waiting_for state s ++ i ∷ []))
  queued_step i s low below lacks waits taken =
      let inside : s < length state.waiting = subst (λ n. s < n) (sym is.each_section) below in
      record {
        hall = queued_keeps market state is i s low below lacks waits;
        held_others = λ t apart. refl;
        waiting_others = λ t apart. waiting_there state s t (waiting_for state s ++ i ∷ []) apart;
        held = λ j. refl;
        held_elsewhere = λ t apart j. refl;
        seats = λ few. few;
        full = λ all j there. taken;
        balance = nothing (holders s state.held);
        line =
            λ number line told. map-append (λ (ticket : Ticket). ticket.student) line.waiting (record { number = number; student = i } ∷ [])
            ∙ ap (λ l. l ++ i ∷ []) told ∙ sym (waiting_here state s (waiting_for state s ++ i ∷ []) inside);
        next = λ lapsed next e. cc;
      }

  pub add_step : (i s : ℕ) → i < student_count market → s < section_count market → IsStepped market state i s (add market state i s)
  unfolding add
  add_step i s low below = by_refusal (refusal market state i s) refl
    where
      by_seat : (b : Bool) → has_free_seat market state s ≡ b → refusal market state i s ≡ None
          → IsStepped market state i s
          (if b then (reply.Added, with_held state i (with_section s (held_by state i)))
          else (reply.Queued (length (waiting_for state s)), with_waiting state s (waiting_for state s ++ i ∷ [])))
      by_seat true free none = let so = refusal_none market state i s none in added_step i s low below so.0 so.1 free
      by_seat false taken none = let so = refusal_none market state i s none in queued_step i s low below so.0 so.1 taken

      by_refusal : (o : Option HallReply) → refusal market state i s ≡ o → IsStepped market state i s (answered o state (if has_free_seat market state s
          then (reply.Added, with_held state i (with_section s (held_by state i))) else (reply.Queued (length (waiting_for state s)), with_waiting state s (waiting_for state s ++ i ∷ []))))
      by_refusal None e = by_seat (has_free_seat market state s) refl e
      by_refusal (Some answer) e = quiet_step i s answer (quiet answer (subst QuietOrNone e (refusal_quiet market state i s)))

  pub leave_step : (i s : ℕ) → s < section_count market → IsStepped market state i s (leave state i s)
  unfolding leave
  leave_step i s below = by_place (has (waiting_for state s) i) refl
    where
      by_place : (b : Bool) → has (waiting_for state s) i ≡ b
          → IsStepped market state i s (if b then (reply.Left, with_waiting state s (without_section i (waiting_for state s))) else (reply.NotWaiting, state))
      by_place false e = quiet_step i s reply.NotWaiting (quiet reply.NotWaiting refl)
      by_place true e =
          let inside : s < length state.waiting = subst (λ n. s < n) (sym is.each_section) below in
          let here = waiting_here state s (without_section i (waiting_for state s)) inside in
          record {
            hall = left_keeps market state is i s below;
            held_others = λ t apart. refl;
            waiting_others = λ t apart. waiting_there state s t (without_section i (waiting_for state s)) apart;
            held = λ j. refl;
            held_elsewhere = λ t apart j. refl;
            seats = λ few. few;
            full = λ all j there. all j (without_has i j (waiting_for state s) (sym (ap (λ l. has l j) here) ∙ there));
            balance = nothing (holders s state.held);
            line = λ number line told. filter-map i line.waiting ∙ ap (without_section i) told ∙ sym here;
            next = λ lapsed next f. cc;
          }

  -- what is passed on
  pub record IsPassed (s : ℕ) (outcome : HallReply × HallState) : Type 0 where
    pub hall : IsHall market outcome.1
    pub held_others : (t : ℕ) → t ≢ s → holders t outcome.1.held ≡ holders t state.held
    pub waiting_others : (t : ℕ) → t ≢ s → waiting_for outcome.1 t ≡ waiting_for state t
    pub held : (j : ℕ) (is_named before : Bool) → (not is_named && before) ≡ has (held_by state j) s
        → has (held_by outcome.1 j) s ≡ held_after_reply j is_named outcome.0 before
    pub held_elsewhere : (t : ℕ) → t ≢ s → (j : ℕ) → has (held_by outcome.1 j) t ≡ has (held_by state j) t
    pub dropped : is_dropped outcome.0 ≡ true
    pub added : is_added outcome.0 ≡ false
    pub count : holders s outcome.1.held ≡ holders s state.held + one_if (is_passed_on outcome.0)
    pub nobody : is_passed_on outcome.0 ≡ false → waiting_for outcome.1 s ≡ []
    pub fewer : (j : ℕ) → has (waiting_for outcome.1 s) j ≡ true → has (waiting_for state s) j ≡ true
    pub line : (number i : ℕ) (line : Line) → students_in line.waiting ≡ waiting_for state s
        → students_in (noted number i outcome.0 line).waiting ≡ waiting_for outcome.1 s
    pub next : (lapsed : ℕ) (next : StudentNo) → outcome.0 ≡ reply.Dropped lapsed (Some next) → slice_get (waiting_for state s) lapsed ≡ Some next.0

  pub passed : (s : ℕ) → s < section_count market → IsPassed s (pass_on market state s)
  unfolding pass_on
  passed s below = by_next (find fit list) refl
    where
      list : List ℕ
      list = waiting_for state s

      fit : ℕ → Bool
      fit = λ i. fits market i s (held_by state i)

      place : ℕ
      place = position_or_len fit list

      rest : List ℕ
      rest = drop (place + 1) list

      hall_behind : IsHall market (with_waiting state s rest)
      hall_behind = behind_keeps market state is s (place + 1) below

      here : waiting_for (with_waiting state s rest) s ≡ rest
      here = waiting_here state s rest (subst (λ n. s < n) (sym is.each_section) below)

      by_next : (o : Option ℕ) → find fit list ≡ o
          → IsPassed s (
            reply.Dropped (length (before_first fit list)) (option_map (λ (i : ℕ). record { 0 = i }) o),
            given (with_waiting state s (after_first fit list)) o s,
          )
      by_next None e =
          let past : length list ≤ place = none_past list place (sym (find_at fit list) ∙ e) in
          let none : rest ≡ [] = drop_all (place + 1) list (omega arith) in
          record {
            hall = hall_behind;
            held_others = λ t apart. refl;
            waiting_others = λ t apart. waiting_there state s t rest apart;
            held = λ j is_named before e. sym e;
            held_elsewhere = λ t apart j. refl;
            dropped = refl;
            added = refl;
            count = omega arith;
            nobody = λ f. here ∙ none;
            fewer = λ j there. has_behind (place + 1) j list (sym (ap (λ l. has l j) here) ∙ there);
            line = λ number i line told.
                sym (drop-map (λ (ticket : Ticket). ticket.student) (length (before_first fit list) + 0) line.waiting)
                ∙ ap (drop (length (before_first fit list) + 0)) told
                ∙ drop_all (length (before_first fit list) + 0) list
                (let n : length (before_first fit list)
                ≡ length list = ap length (take_all place list past) in let k : ℕ = length (before_first fit list) in let goal : length list
                ≤ k + 0 = omega arith in goal)
                ∙ sym (here ∙ none);
            next = λ lapsed next f. cc;
          }
      by_next (Some w) e =
          let at : slice_get list place ≡ Some w = sym (find_at fit list) ∙ e in
          let low : place < length list = slice_get_within list place w at in
          let taken : length (before_first fit list) ≡ place = length-take-le place list (omega arith) in
          let waits : has list w ≡ true = has_at list place w at in
          let student : w < student_count market = (is.queues s).within w waits in
          let lacks : has (held_by state w) s ≡ false = is.apart w s waits in
          let inside : w < length state.held = subst (λ n. w < n) (sym is.each_student) student in
          let behind = with_waiting state s rest in
          record {
            hall =
                with_keeps market behind hall_behind w s student below
                (ap (λ l. has l w) here ∙ none_behind (student_count market) w place list (is.queues s) at);
            held_others = λ t apart. holders_same market state w t (with_section s (held_by state w)) inside (with_other market s t (held_by state w) apart);
            waiting_others = λ t apart. waiting_there state s t rest apart;
            held = λ j is_named before e. held_with behind w s inside j ∙ ap (λ b. w == j || b) (sym e);
            held_elsewhere = λ t apart. held_same behind w t (with_section s (held_by state w)) inside (with_other market s t (held_by state w) apart);
            dropped = refl;
            added = refl;
            count = one_holder_more market state w s inside lacks;
            nobody = λ f. absurd (true≢false f);
            fewer = λ j there. has_behind (place + 1) j list (sym (ap (λ l. has l j) here) ∙ there);
            line = λ number i line told.
                sym (drop-map (λ (ticket : Ticket). ticket.student) (length (before_first fit list) + 1) line.waiting)
                ∙ ap (drop (length (before_first fit list) + 1)) told ∙ ap (λ n. drop (n + 1) list) taken ∙ sym here;
            next = λ lapsed next f. same_next (length (before_first fit list)) lapsed w next f taken at;
          }
        where
          same_next : (n lapsed w : ℕ) (next : StudentNo) → reply.Dropped n (Some (record { 0 = w })) ≡ reply.Dropped lapsed (Some next) → n ≡ place
              → slice_get list place ≡ Some w → slice_get list lapsed ≡ Some next.0
          same_next n lapsed w next f is' at =
              let a : n ≡ lapsed = cc f in
              let both : ◌≡◌ {A = Option StudentNo} (Some (record { 0 = w })) (Some next) = cc f in
              let b : w ≡ next.0 = ap student_or both in
              ap (slice_get list) (sym a ∙ is') ∙ at ∙ ap Some b
            where
              student_or : Option StudentNo → ℕ
              student_or None = 0
              student_or (Some next) = next.0

-- The student gives the section up.
pub drop_step : (market : Market) (state : HallState) (i s : ℕ) → IsHall market state → i < student_count market → s < section_count market
    → IsStepped market state i s (drop_section market state i s)
unfolding drop_section
drop_step market state i s is low below = by_place (has (held_by state i) s) refl
  where
    gone : HallState
    gone = with_held state i (without_section s (held_by state i))

    inside : i < length state.held
    inside = subst (λ n. i < n) (sym is.each_student) low

    hall : IsHall market gone
    hall = without_keeps market state is i s low

    at_most_one : (b : Bool) → one_if b ≤ 1
    at_most_one true = omega arith
    at_most_one false = omega arith

    by_place : (b : Bool) → has (held_by state i) s ≡ b → IsStepped market state i s (if b then pass_on market gone s else (reply.NotHolding, state))
    by_place false e = quiet_step market state is i s reply.NotHolding (quiet reply.NotHolding refl)
    by_place true e =
        let p = passed market gone hall s below in
        let outcome = pass_on market gone s in
        let one : holders s gone.held + 1 ≡ holders s state.held = one_holder_fewer market state i s inside e in
        let count : holders s outcome.1.held ≡ holders s gone.held + one_if (is_passed_on outcome.0) = p.count in
        record {
          hall = p.hall;
          held_others =
              λ t apart. p.held_others t apart
              ∙ holders_same market state i t (without_section s (held_by state i)) inside (without_other market s t (held_by state i) apart);
          waiting_others = λ t apart. p.waiting_others t apart;
          held = λ j. p.held j (i == j) (has (held_by state j) s) (sym (held_without state i s inside j));
          held_elsewhere =
              λ t apart j. p.held_elsewhere t apart j
              ∙ held_same state i t (without_section s (held_by state i)) inside (without_other market s t (held_by state i) apart) j;
          seats = λ few. let most = at_most_one (is_passed_on outcome.0) in omega (arith, one, count, most, few);
          full = λ all j there. elim (cases_Bool (is_passed_on outcome.0)) [
            | inl is_so ↦
                let same : holders s outcome.1.held ≡ holders s state.held = count ∙ ap (λ b. holders s gone.held + one_if b) is_so ∙ one in
                ap (λ n. nat_lt n (slice_index (seats_in market) s)) same ∙ all j (p.fewer j there)
            | inr none ↦ absurd (false≢true (sym (ap (λ l. has l j) (p.nobody none)) ∙ there))
          ];
          balance =
              (let d : one_if (is_dropped outcome.0) ≡ 1 = ap one_if p.dropped in let a : one_if (is_added outcome.0)
              ≡ 0 = ap one_if p.added in omega (arith, one, count, d, a));
          line = λ number line told. p.line number i line told;
          next = p.next;
        }
