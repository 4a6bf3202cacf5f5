-- What the desk's calls find and make.
use Rattle.std.proofs.Common.{ℕ, zero, suc, ◌≡◌, ◌<◌, ◌≤◌, ◌+◌, ◌++◌, ◌==◌, ◌&&◌, ◌∙◌, Bool, true, false, List, [], ◌∷◌, length, take, drop, get_or, arith, refl, sym, ap, subst, inl, inr, Some, None}
use Rattle.std.specs.Prelude.{position, slice_get, nat_lt, not, is_some, option_map, Option}
use Rattle.std.specs.List.{before_first, after_first, find, list_any, position_or_len, remove_range}
use Rattle.std.proofs.lemmas.Bool.{cases_Bool, true≢false, lt-ltb, le-ltb, ltb-true, ltb-false, eqb-true}
use Rattle.std.proofs.lemmas.List.{length-take-le, drop_all, take_all}
use Rattle.std.proofs.lemmas.List.Sums.{position_or_len_is}
use Rattle.std.proofs.lemmas.List.Folds.{find_at}
use Rattle.std.proofs.lemmas.Option.{slice_get-get_or}
use Rattle.market_units.specs.declared.names.Name.{Name}
use Rattle.market_units.specs.declared.units.SectionNo.{SectionNo}
use Rattle.market_units.specs.declared.units.StudentNo.{StudentNo}
use Rattle.market_units.specs.Members.{has}
use Rattle.market_units.proofs.Memberships.{has_at}
use Rattle.dropadd_desk.specs.declared.command.HallCommand.TheVariants.{Add, Drop, Leave, Unreadable}
use Rattle.dropadd_desk.specs.declared.reply.HallReply.{HallReply}
use Rattle.dropadd_desk.specs.declared.reply.HallReply.TheVariants as reply
use Rattle.dropadd_desk.specs.declared.shared.HallState.{HallState}
use Rattle.dropadd_desk.specs.Fits.{fits}
use Rattle.dropadd_desk.specs.Halls.{IsQueue, times}
use Rattle.dropadd_desk.specs.Market.{Market, section_named, student_named}
use Rattle.bundle_rules.specs.Sets.{without_section}
use Rattle.dropadd_desk.specs.Sets.{with_section}
use Rattle.dropadd_desk.specs.Step.{IsUnknown, add, by_names, drop as drop_section, first_of, given, has_free_seat, held_by, known, leave, pass_on, refusal, step as step_of, waiting_for, where_so, with_held, with_waiting}
use Rattle.dropadd_desk.proofs.Queues.{lacks_times}

-- to look through a list is to ask whether somebody stands in it
pub any_has : (p : ℕ → Bool) (i : ℕ) → ((y : ℕ) → p y ≡ (y == i)) → (list : List ℕ) → list_any p list ≡ has list i
any_has p i same [] = refl
any_has p i same (x ∷ xs) = rw (same x, any_has p i same xs) refl

-- the first place where a test passes, and none
pub position_found : (p : ℕ → Bool) (list : List ℕ) (i : ℕ) → i < length list → ((k : ℕ) → k < i → p (get_or list k 0) ≡ false) → p (get_or list i 0) ≡ true
    → Some i ≡ position p list
position_found p list i low fails passes =
    let at : position_or_len p list ≡ i = position_or_len_is p list i 0 (omega arith) fails (λ _. passes) in
    let inside : nat_lt (position_or_len p list) (length list) ≡ true = ap (λ n. nat_lt n (length list)) at ∙ lt-ltb i (length list) low in
    rw inside (ap Some (sym at))

pub position_none : (p : ℕ → Bool) (list : List ℕ) (i : ℕ) → length list ≤ i → ((k : ℕ) → k < i → p (get_or list k 0) ≡ false) → None ≡ position p list
position_none p list i past fails =
    let at : position_or_len p list ≡ length list =
    position_or_len_is p list (length list) 0 (omega arith) (λ k low. fails k (omega arith)) (λ low. absurd (omega arith)) in
    let outside : nat_lt (position_or_len p list) (length list) ≡ false = le-ltb (position_or_len p list) (length list) (omega arith) in
    rw outside refl

-- what a place that was found says
pub record IsPlace (p : ℕ → Bool) (list : List ℕ) (i : ℕ) : Type 0 where
  pub at : position_or_len p list ≡ i
  pub inside : i < length list
  pub found : find p list ≡ Some (get_or list i 0)

pub place_is : (p : ℕ → Bool) (list : List ℕ) (i : ℕ) → position p list ≡ Some i → IsPlace p list i
place_is p list i e = elim (cases_Bool (nat_lt (position_or_len p list) (length list))) [
  | inl inside ↦
      let is : Some (position_or_len p list) ≡ Some i = rw inside at e in
      let at : position_or_len p list ≡ i = cc in
      let low : i < length list = subst (λ n. n < length list) at (ltb-true (position_or_len p list) (length list) inside) in
      record { at = at; inside = low; found = find_at p list ∙ ap (slice_get list) at ∙ slice_get-get_or list i 0 low }
  | inr outside ↦ let is : ◌≡◌ {A = Option ℕ} None (Some i) = rw outside at e in cc
]

pub no_place_is : (p : ℕ → Bool) (list : List ℕ) → position p list ≡ None → length list ≤ position_or_len p list
no_place_is p list e = elim (cases_Bool (nat_lt (position_or_len p list) (length list))) [
  | inl inside ↦ let is : ◌≡◌ {A = Option ℕ} (Some (position_or_len p list)) None = rw inside at e in cc
  | inr outside ↦ ltb-false (position_or_len p list) (length list) outside
]

-- who is found passes
pub found_passes : (p : ℕ → Bool) (list : List ℕ) (i : ℕ) → IsPlace p list i → p (get_or list i 0) ≡ true
found_passes p [] i is = (let low : i < 0 = is.inside in absurd (omega arith))
found_passes p (x ∷ xs) i is = passes_first p (x ∷ xs) (get_or (x ∷ xs) i 0) is.found
  where
    passes_first : (p : ℕ → Bool) (ys : List ℕ) (y : ℕ) → find p ys ≡ Some y → p y ≡ true
    passes_first p [] y e = cc
    passes_first p (z ∷ zs) y e = elim (cases_Bool (p z)) [
      | inl is ↦ let here : Some z ≡ Some y = rw is at e in let same : z ≡ y = cc in subst (λ n. p n ≡ true) same is
      | inr other ↦ let rest : find p zs ≡ Some y = rw other at e in passes_first p zs y rest
    ]

-- without the one place where somebody stands, he is out of the list
pub without_lacks : (i : ℕ) (list : List ℕ) → has list i ≡ false → without_section i list ≡ list
without_lacks i [] lacks = refl
without_lacks i (x ∷ xs) lacks = elim (cases_Bool (x == i)) [
  | inl here ↦ let there : has (x ∷ xs) i ≡ true = rw here refl in absurd (true≢false (sym there ∙ lacks))
  | inr other ↦ let rest : has xs i ≡ false = rw other at lacks in rw other (ap (λ l. x ∷ l) (without_lacks i xs rest))
]

cut_once : (i : ℕ) (list : List ℕ) → times i list ≤ 1
    → remove_range list (position_or_len (λ other. other == i) list) (position_or_len (λ other. other == i) list + 1) ≡ without_section i list
cut_once i [] once = refl
cut_once i (x ∷ xs) once = elim (cases_Bool (x == i)) [
  | inl here ↦
      let most : 1 + times i xs ≤ 1 = rw here at once in
      let lacks : has xs i ≡ false = lacks_times i xs (omega arith) in
      rw here (sym (without_lacks i xs lacks))
  | inr other ↦
      let most : 0 + times i xs ≤ 1 = rw other at once in
      let n : ℕ = position_or_len (λ y. y == i) xs in
      let one : 1 + position_or_len (λ y. y == i) xs ≡ suc (position_or_len (λ y. y == i) xs) = omega arith in
      let two : suc (position_or_len (λ y. y == i) xs) + 1 ≡ suc (position_or_len (λ y. y == i) xs + 1) = omega arith in
      rw (other, one, two) (ap (λ l. x ∷ l) (cut_once i xs (omega arith)))
]

pub cut_out : (students i p : ℕ) (list : List ℕ) → IsQueue students list → position (λ other. other == i) list ≡ Some p
    → remove_range list p (p + 1) ≡ without_section i list
cut_out students i p list is e =
    let at = (place_is (λ other. other == i) list p e).at in
    subst (λ n. remove_range list n (n + 1) ≡ without_section i list) at (cut_once i list (is.once i))

pub stands : (i p : ℕ) (list : List ℕ) → position (λ other. other == i) list ≡ Some p → has list i ≡ true
stands i p list e =
    let is = place_is (λ other. other == i) list p e in
    let same : get_or list p 0 ≡ i = eqb-true (get_or list p 0) i (found_passes (λ other. other == i) list p is) in
    subst (λ n. has list n ≡ true) same (has_at list p 0 is.inside)

pub stands_not : (i : ℕ) (list : List ℕ) → position (λ other. other == i) list ≡ None → has list i ≡ false
stands_not i list e = nowhere list (no_place_is (λ other. other == i) list e)
  where
    nowhere : (xs : List ℕ) → length xs ≤ position_or_len (λ other. other == i) xs → has xs i ≡ false
    nowhere [] past = refl
    nowhere (x ∷ xs) past = elim (cases_Bool (x == i)) [
      | inl here ↦ let low : suc (length xs) ≤ 0 = rw here at past in absurd (omega arith)
      | inr other ↦ let low : suc (length xs) ≤ 1 + position_or_len (λ other. other == i) xs = rw other at past in rw other (nowhere xs (omega arith))
    ]

-- what stands against a section, in its order
abbrev pub against : Option ℕ → Bool → Bool → Option HallReply
against clash credits courses =
    first_of
    (option_map (λ (t : ℕ). reply.Clash (record { 0 = t })) clash ∷ where_so credits reply.Credits ∷ where_so courses reply.Courses ∷ [])

-- the refusals, in their order
abbrev pub refused : Bool → Bool → Option ℕ → Bool → Bool → Option HallReply
refused holds waits clash credits courses =
    first_of
    (where_so holds reply.Holding ∷ where_so waits reply.Waiting ∷ option_map (λ (t : ℕ). reply.Clash (record { 0 = t })) clash
    ∷ where_so credits reply.Credits ∷ where_so courses reply.Courses ∷ [])

pub refused_holding : (a b : Bool) (o : Option ℕ) (d e : Bool) → a ≡ true → Some reply.Holding ≡ refused a b o d e
refused_holding a b o d e p = rw p refl

pub refused_waiting : (a b : Bool) (o : Option ℕ) (d e : Bool) → a ≡ false → b ≡ true → Some reply.Waiting ≡ refused a b o d e
refused_waiting a b o d e p q = rw (p, q) refl

pub refused_later : (a b : Bool) (o : Option ℕ) (d e : Bool) (answer : Option HallReply) → a ≡ false → b ≡ false → answer ≡ against o d e
    → answer ≡ refused a b o d e
refused_later a b o d e answer p q r = rw (p, q) r

-- what stands against a section is a clash, the credits or the number of sections
pub against_clash : (o : Option ℕ) (d e : Bool) (with' : SectionNo) → o ≡ Some with'.0 → Some (reply.Clash with') ≡ against o d e
against_clash o d e with' r = rw r refl

pub against_credits : (o : Option ℕ) (d e : Bool) → o ≡ None → d ≡ true → Some reply.Credits ≡ against o d e
against_credits o d e r t = rw (r, t) refl

pub against_courses : (o : Option ℕ) (d e : Bool) → o ≡ None → d ≡ false → e ≡ true → Some reply.Courses ≡ against o d e
against_courses o d e r t u = rw (r, t, u) refl

pub against_none : (o : Option ℕ) (d e : Bool) → o ≡ None → d ≡ false → e ≡ false → None ≡ against o d e
against_none o d e r t u = rw (r, t, u) refl

-- and a section fits where none of them does
pub fits_where : (o : Option ℕ) (d e : Bool) → not (is_some (against o d e)) ≡ (not (is_some o) && not d && not e)
fits_where (Some t) d e = refl
fits_where None true e = refl
fits_where None false true = refl
fits_where None false false = refl

pub fits_told : (o : Option ℕ) (d e : Bool) (answer : Option HallReply) (none : Bool) → answer ≡ against o d e → is_some answer ≡ not none
    → (not (is_some o) && not d && not e) ≡ none
fits_told o d e answer none p q = sym (fits_where o d e) ∙ ap (λ a. not (is_some a)) (sym p) ∙ ap not q ∙ twice none
  where
    twice : (b : Bool) → not (not b) ≡ b
    twice true = refl
    twice false = refl

-- what the steps are in each case
module _ (market : Market) (state : HallState) where
  pub refused_is : (i s : ℕ) (answer : HallReply) → refusal market state i s ≡ Some answer → (answer, state) ≡ add market state i s
  unfolding add
  refused_is i s answer e = rw e refl

  pub added_is : (i s : ℕ) → refusal market state i s ≡ None → has_free_seat market state s ≡ true
      → (reply.Added, with_held state i (with_section s (held_by state i))) ≡ add market state i s
  unfolding add
  added_is i s e free = rw (e, free) refl

  pub queued_is : (i s : ℕ) → refusal market state i s ≡ None → has_free_seat market state s ≡ false
      → (reply.Queued (length (waiting_for state s)), with_waiting state s (waiting_for state s ++ i ∷ [])) ≡ add market state i s
  unfolding add
  queued_is i s e taken = rw (e, taken) refl

  pub not_holding_is : (i s : ℕ) → has (held_by state i) s ≡ false → (reply.NotHolding, state) ≡ drop_section market state i s
  unfolding drop_section
  not_holding_is i s e = rw e refl

  pub dropped_is : (i s : ℕ) → has (held_by state i) s ≡ true
      → pass_on market (with_held state i (without_section s (held_by state i))) s ≡ drop_section market state i s
  unfolding drop_section
  dropped_is i s e = rw e refl

  pub not_waiting_is : (i s : ℕ) → has (waiting_for state s) i ≡ false → (reply.NotWaiting, state) ≡ leave state i s
  unfolding leave
  not_waiting_is i s e = rw e refl

  pub left_is : (i s : ℕ) → has (waiting_for state s) i ≡ true → (reply.Left, with_waiting state s (without_section i (waiting_for state s))) ≡ leave state i s
  unfolding leave
  left_is i s e = rw e refl

  -- whom the section fits
  abbrev pub fit_for : ℕ → ℕ → Bool
  fit_for s i = fits market i s (held_by state i)

  -- nobody is next
  pub none_next_is : (s n : ℕ) → n ≡ length (waiting_for state s) → position (fit_for s) (waiting_for state s) ≡ None
      → (reply.Dropped n None, with_waiting state s []) ≡ pass_on market state s
  unfolding pass_on
  none_next_is s n size e =
      let list = waiting_for state s in
      let past = no_place_is (fit_for s) list e in
      let found : find (fit_for s) list ≡ None = find_at (fit_for s) list ∙ past_end list (position_or_len (fit_for s) list) past in
      let front : before_first (fit_for s) list ≡ list = take_all (position_or_len (fit_for s) list) list past in
      let behind : after_first (fit_for s) list ≡ [] = drop_all (position_or_len (fit_for s) list + 1) list (omega arith) in
      rw (found, front, behind, size) refl
    where
      past_end : (xs : List ℕ) (k : ℕ) → length xs ≤ k → slice_get xs k ≡ None
      past_end [] k low = refl
      past_end (x ∷ xs) zero low = absurd (omega arith)
      past_end (x ∷ xs) (suc k) low = past_end xs k (omega arith)

  -- who stands at this place is next
  pub next_is : (s p : ℕ) (next : StudentNo) → position (fit_for s) (waiting_for state s) ≡ Some p → next.0 ≡ get_or (waiting_for state s) p 0
      → (reply.Dropped p (Some next), given (with_waiting state s (drop (p + 1) (waiting_for state s))) (Some next.0) s) ≡ pass_on market state s
  unfolding pass_on
  next_is s p next e at =
      let list = waiting_for state s in
      let is = place_is (fit_for s) list p e in
      let found : find (fit_for s) list ≡ Some next.0 = is.found ∙ ap Some (sym at) in
      let front : length (before_first (fit_for s) list) ≡ p =
      ap (λ n. length (take n list)) is.at ∙ length-take-le p list (let low = is.inside in omega arith) in
      let behind : after_first (fit_for s) list ≡ drop (p + 1) list = ap (λ n. drop (n + 1) list) is.at in
      rw (found, front, behind) refl

  pub add_named_is : (student section : Name) (i s : ℕ) → student_named market student ≡ Some i → section_named market section ≡ Some s
      → add market state i s ≡ step_of market state (Add student section)
  unfolding step_of
  add_named_is student section i s e f = rw (e, f) refl

  pub drop_named_is : (student section : Name) (i s : ℕ) → student_named market student ≡ Some i → section_named market section ≡ Some s
      → drop_section market state i s ≡ step_of market state (Drop student section)
  unfolding step_of
  drop_named_is student section i s e f = rw (e, f) refl

  pub leave_named_is : (student section : Name) (i s : ℕ) → student_named market student ≡ Some i → section_named market section ≡ Some s
      → leave state i s ≡ step_of market state (Leave student section)
  unfolding step_of
  leave_named_is student section i s e f = rw (e, f) refl

  unknown_is : (student section : Name) (made : ℕ → ℕ → HallReply × HallState) (answer : HallReply)
      → IsUnknown (student_named market student) (section_named market section) answer → (answer, state) ≡ by_names market state student section made
  unknown_is student section made answer is = cases (student_named market student) (section_named market section) is
    where
      cases : (o p : Option ℕ) → IsUnknown o p answer
          → (answer, state) ≡ known o (reply.NoStudent, state) (λ i. known p (reply.NoSection, state) (λ s. made i s))
      cases None p e = ap (λ r. (r, state)) e
      cases (Some i) None e = ap (λ r. (r, state)) e
      cases (Some i) (Some s) e = absurd e

  pub add_unknown_is : (student section : Name) (answer : HallReply) → IsUnknown (student_named market student) (section_named market section) answer
      → (answer, state) ≡ step_of market state (Add student section)
  unfolding step_of
  add_unknown_is student section answer is = unknown_is student section (add market state) answer is

  pub drop_unknown_is : (student section : Name) (answer : HallReply) → IsUnknown (student_named market student) (section_named market section) answer
      → (answer, state) ≡ step_of market state (Drop student section)
  unfolding step_of
  drop_unknown_is student section answer is = unknown_is student section (drop_section market state) answer is

  pub leave_unknown_is : (student section : Name) (answer : HallReply) → IsUnknown (student_named market student) (section_named market section) answer
      → (answer, state) ≡ step_of market state (Leave student section)
  unfolding step_of
  leave_unknown_is student section answer is = unknown_is student section (leave state) answer is

  pub unreadable_is : (reply.Unreadable, state) ≡ step_of market state Unreadable
  unfolding step_of
  unreadable_is = refl

-- the same reply with the same state
pub same_outcome : (n n' : ℕ) (answer : ℕ → HallReply) (state state' : HallState) → n ≡ n' → state ≡ state'
    → ◌≡◌ {A = HallReply × HallState} (answer n, state) (answer n', state')
same_outcome n n' answer state state' e f = λ i. (answer (e i), f i)
