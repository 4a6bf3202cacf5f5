-- One step of drop and add: the reply to a request, and the state after it.
use Rattle.std.specs.Prelude.{ℕ, ◌≡◌, ◌==◌, Bool, not, if◌then◌else◌, Option, None, Some, option_map, List, [], ◌∷◌, ◌++◌, length, slice_index_or, slice_set}
use Rattle.std.specs.List.{before_first, after_first, filter, find}
use Rattle.market_units.specs.declared.names.Name.{Name}
use Rattle.market_units.specs.Members.{has}
use Rattle.held_seats.specs.Choices.{is_free}
use Rattle.dropadd_desk.specs.declared.command.HallCommand.{HallCommand}
use Rattle.dropadd_desk.specs.declared.command.HallCommand.TheVariants.{Add, Drop, Leave, Unreadable}
use Rattle.dropadd_desk.specs.declared.reply.HallReply.{HallReply}
use Rattle.dropadd_desk.specs.declared.reply.HallReply.TheVariants as reply
use Rattle.dropadd_desk.specs.declared.shared.HallState.{HallState}
use Rattle.dropadd_desk.specs.Market.{Market, section_named, student_named, seats_in}
use Rattle.bundle_rules.specs.Sets.{without_section}
use Rattle.dropadd_desk.specs.Sets.{with_section}
use Rattle.dropadd_desk.specs.Fits.{fits, lowest_clash, exceeds_credits, exceeds_courses}

-- the set of sections that a student holds
abbrev pub held_by : HallState → ℕ → List ℕ
held_by state i = slice_index_or state.held i []

-- the students who wait for a section, the one who waits longest first
abbrev pub waiting_for : HallState → ℕ → List ℕ
waiting_for state s = slice_index_or state.waiting s []

-- the state in which the student holds this set
abbrev pub with_held : HallState → ℕ → List ℕ → HallState
with_held state i set = record { held = slice_set state.held i set; waiting = state.waiting }

-- the state in which these wait for the section
abbrev pub with_waiting : HallState → ℕ → List ℕ → HallState
with_waiting state s list = record { held = state.held; waiting = slice_set state.waiting s list }

-- a section is free when fewer students hold it than it has seats
abbrev pub has_free_seat : Market → HallState → ℕ → Bool
has_free_seat market state s = is_free (seats_in market) state.held s

-- the reply where its cause stands
abbrev pub where_so : Bool → HallReply → Option HallReply
where_so cause answer = if cause then Some answer else None

-- the first of these replies that is one
abbrev pub first_of : List (Option HallReply) → Option HallReply
first_of [] = None
first_of (None ∷ more) = first_of more
first_of (Some answer ∷ more) = Some answer

-- why a student who holds this set can not take the section too: a clash, else the credits, else
-- the courses
abbrev pub obstacle : Market → ℕ → ℕ → List ℕ → Option HallReply
obstacle market i s set = first_of (
    option_map (λ (t : ℕ). reply.Clash (record { 0 = t })) (lowest_clash market s set)
    ∷ where_so (exceeds_credits market i s set) reply.Credits
    ∷ where_so (exceeds_courses market i set) reply.Courses
    ∷ [])

-- why a student can not have a section, where something stands against it
abbrev pub refusal : Market → HallState → ℕ → ℕ → Option HallReply
refusal market state i s = let held = held_by state i in first_of (
    where_so (has held s) reply.Holding
    ∷ where_so (has (waiting_for state s) i) reply.Waiting
    ∷ option_map (λ (t : ℕ). reply.Clash (record { 0 = t })) (lowest_clash market s held)
    ∷ where_so (exceeds_credits market i s held) reply.Credits
    ∷ where_so (exceeds_courses market i held) reply.Courses
    ∷ [])

-- a reply that changes nothing where there is one, and else this
abbrev pub answered : Option HallReply → HallState → HallReply × HallState → HallReply × HallState
answered None state other = other
answered (Some answer) state other = (answer, state)

-- The student has the section where a seat is free, and else waits for it as the last one.
unfoldable pub add : Market → HallState → ℕ → ℕ → HallReply × HallState
add market state i s = answered (refusal market state i s) state (
    if has_free_seat market state s
    then (reply.Added, with_held state i (with_section s (held_by state i)))
    else (
      reply.Queued (length (waiting_for state s)),
      with_waiting state s (waiting_for state s ++ i ∷ []),
    ))

-- the state in which the student, where there is one, holds the section too
abbrev pub given : HallState → Option ℕ → ℕ → HallState
given state None s = state
given state (Some i) s = with_held state i (with_section s (held_by state i))

-- A seat of the section was given up. The list is taken from its front: those whom the section does
-- not fit are out of it, and the first whom it fits has the section.
unfoldable pub pass_on : Market → HallState → ℕ → HallReply × HallState
pass_on market state s =
    let list = waiting_for state s in
    let fit : ℕ → Bool = λ i. fits market i s (held_by state i) in
    let next = find fit list in (
      reply.Dropped (length (before_first fit list))
          (option_map (λ (i : ℕ). record { 0 = i }) next),
      given (with_waiting state s (after_first fit list)) next s,
    )

-- The student gives the section up, and the seat is passed on.
unfoldable pub drop : Market → HallState → ℕ → ℕ → HallReply × HallState
drop market state i s =
    if has (held_by state i) s
    then pass_on market (with_held state i (without_section s (held_by state i))) s
    else (reply.NotHolding, state)

-- The student is out of the list.
unfoldable pub leave : HallState → ℕ → ℕ → HallReply × HallState
leave state i s =
    if has (waiting_for state s) i
    then (
      reply.Left,
      with_waiting state s (filter (λ other. not (other == i)) (waiting_for state s)),
    )
    else (reply.NotWaiting, state)

-- what is made of an ordinal where there is one, and else this
abbrev pub known : {A : Type 0} → Option ℕ → A → (ℕ → A) → A
known None other made = other
known (Some n) other made = made n

-- what is made of the student and the section of these names; a name that is not known is replied
-- to, the student's first
abbrev pub by_names : Market → HallState → Name → Name → (ℕ → ℕ → HallReply × HallState)
    → HallReply × HallState
by_names market state student section made =
    known (student_named market student) (reply.NoStudent, state)
    (λ i. known (section_named market section) (reply.NoSection, state) (λ s. made i s))

-- the reply to a name that is not known
abbrev pub IsUnknown : Option ℕ → Option ℕ → HallReply → Type 0
IsUnknown None section answer = answer ≡ reply.NoStudent
IsUnknown (Some i) None answer = answer ≡ reply.NoSection
IsUnknown (Some i) (Some s) answer = ⊥

unfoldable pub step : Market → HallState → HallCommand → HallReply × HallState
step market state (Add student section) = by_names market state student section (add market state)
step market state (Drop student section) = by_names market state student section (drop market state)
step market state (Leave student section) = by_names market state student section (leave state)
step market state Unreadable = (reply.Unreadable, state)
