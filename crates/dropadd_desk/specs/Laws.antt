-- The law of drop and add.
use Rattle.std.specs.Prelude.{ℕ, ◌≡◌, ◌<◌, ◌≤◌, ◌+◌, ◌↔◌, true, false, if◌then◌else◌, Option, Some, option_map, None, List, All, [], ◌∷◌, ◌++◌, length, map, slice_get}
use Rattle.chronicle.specs.History.{IsLegal, state_after as state_after_steps}
use Rattle.market_units.specs.declared.units.StudentNo.{StudentNo}
use Rattle.market_units.specs.Members.{has}
use Rattle.bundle_rules.specs.Sets.{IsAscending}
use Rattle.demand_api.specs.Crowds.{holders}
use Rattle.dropadd_desk.specs.declared.reply.HallReply.TheVariants as reply
use Rattle.dropadd_desk.specs.declared.shared.HallState.{HallState}
use Rattle.dropadd_desk.specs.Market.{Market, offered, section_count, student_count}
use Rattle.dropadd_desk.specs.Fits.{fits}
use Rattle.dropadd_desk.specs.Halls.{IsHall}
use Rattle.dropadd_desk.specs.Holdings.{held_by_replies}
use Rattle.dropadd_desk.specs.Openings.{IsAllowed, IsLawful}
use Rattle.dropadd_desk.specs.Step.{has_free_seat, held_by, waiting_for}
use Rattle.dropadd_desk.specs.Lines.{HallStep, Ticket, gives_ticket, is_added, is_dropped, is_passed_on, is_refusal, line_of, names_section, replies, tickets_of}
use Rattle.dropadd_desk.specs.Replies.{NamesInRange}
use Rattle.dropadd_desk.specs.Shared.{is_sound, state_after, reply_to}
use Rattle.dropadd_desk.specs.Waits.{KeepsOrderAt}

-- what holds of a section in a state
pub record IsFair (market : Market) (state : HallState) (s : ℕ) : Type 0 where
  -- it has no more holders than seats
  pub seats : holders s state.held ≤ (offered market s).seats
  -- where somebody waits for it, no seat is free
  pub full : (i : ℕ) → has (waiting_for state s) i ≡ true → has_free_seat market state s ≡ false
  -- nobody waits for it who holds it
  pub apart : (i : ℕ) → has (waiting_for state s) i ≡ true → has (held_by state i) s ≡ false

-- what a history from an opening state tells of a section
pub record IsConserved (market : Market) (opening : HallState) (history : List HallStep)
    (s : ℕ) : Type 0 where
  -- it leaves a state of a desk: what each student holds ascends, and nobody stands in a list twice
  pub hall : IsHall market (state_after_steps state_after market opening history)
  pub fair : IsFair market (state_after_steps state_after market opening history) s
  -- each student holds it exactly as the replies about this student say, from what the student held
  -- at the opening on
  pub who : (i : ℕ)
      → has (held_by (state_after_steps state_after market opening history) i) s
      ≡ held_by_replies market s i history (has (held_by opening i) s)
  -- holders are those at the opening, more those added and those to whom a seat was passed on, less
  -- those who gave it up
  pub balance : holders s (state_after_steps state_after market opening history).held
      + replies market s is_dropped history
      ≡ holders s opening.held + replies market s is_added history
      + replies market s is_passed_on history
  -- those who wait are those of the line that is read off the replies
  pub waiting : map (λ (ticket : Ticket). ticket.student) (line_of market s history).waiting
      ≡ waiting_for (state_after_steps state_after market opening history) s
  -- each `Queued` gave one ticket, which waits, was given the section or lapsed, or left, once and
  -- in one of these ways; and there are no other tickets
  pub once : (number : ℕ)
      → tickets_of number (line_of market s history).given_or_lapsed
      + tickets_of number (line_of market s history).left
      + tickets_of number (line_of market s history).waiting
      ≡ (if gives_ticket market s history number then 1 else 0)
  -- tickets are given the section or lapse in the order of their numbers, and before those that
  -- wait
  pub in_order : IsAscending
      (map (λ (ticket : Ticket). ticket.number)
      ((line_of market s history).given_or_lapsed ++ (line_of market s history).waiting))
  -- the next student, where a reply names one, is the first of the line behind those who lapse
  pub next : (before after : List HallStep) (step : HallStep) (lapsed : ℕ) (next : StudentNo)
      → history ≡ before ++ step ∷ after
      → names_section market s step.request ≡ true → step.reply ≡ reply.Dropped lapsed (Some next)
      → slice_get (map (λ (ticket : Ticket). ticket.student) (line_of market s before).waiting)
      lapsed
      ≡ Some next.0

-- Let nobody wait at the opening, no section be over its seats, and each student's sections keep
-- timetable and caps. Then, whatever is requested, each section is conserved (`IsConserved`). A
-- beginning of a history is a history, so this holds at each time.
abbrev pub ConservationLaw : Type 0
ConservationLaw =
    (market : Market) (opening : HallState) (history : List HallStep) → IsHall market opening
    → IsLawful market opening
    → IsLegal is_sound state_after reply_to market opening history → (s : ℕ)
    → s < section_count market → IsConserved market opening history s

-- The desk's own list of a section keeps the order of those who wait, step by step.
abbrev pub WaitsInOrderLaw : Type 0
WaitsInOrderLaw =
    (market : Market) (opening : HallState) (before : List HallStep) (step : HallStep)
    → IsHall market opening
    → IsLegal is_sound state_after reply_to market opening (before ++ step ∷ []) → (s : ℕ)
    → KeepsOrderAt market (state_after_steps state_after market opening before) step
    (state_after_steps state_after market opening (before ++ step ∷ [])) s

-- What each student holds is allowed at every time, where it is so at the opening: no two of the
-- sections clash, and the caps are kept.
abbrev pub AllowedLaw : Type 0
AllowedLaw =
    (market : Market) (opening : HallState) (history : List HallStep) → IsHall market opening
    → IsLawful market opening
    → IsLegal is_sound state_after reply_to market opening history → (i : ℕ)
    → i < student_count market
    → IsAllowed market i (held_by (state_after_steps state_after market opening history) i)

-- Where a seat that is given up goes, from one state to the next: the reply tells how many lapse
-- and who is next.
pub record GoesToFirstFit (market : Market) (before after : HallState) (s lapsed : ℕ)
    (next : Option StudentNo) : Type 0 where
  -- those who lapse are the first so many who wait, and the section fits none of them beside what
  -- it holds
  pub lapse : (place i : ℕ) → place < lapsed → slice_get (waiting_for before s) place ≡ Some i
      → fits market i s (held_by before i) ≡ false
  -- the next is who waits behind them, and there is none where nobody does
  pub behind : slice_get (waiting_for before s) lapsed
      ≡ option_map (λ (one : StudentNo). one.0) next
  -- where there is no next, all who wait lapse, and no more are told
  pub all : next ≡ None → lapsed ≡ length (waiting_for before s)
  -- the section fits the next beside what it holds
  pub fit : (one : StudentNo) → next ≡ Some one → fits market one.0 s (held_by before one.0) ≡ true
  -- of those who did not hold the section the next holds it now, and nobody else
  pub given : (i : ℕ) → i < student_count market → has (held_by before i) s ≡ false
      → (has (held_by after i) s ≡ true) ↔ (slice_get (waiting_for before s) lapsed ≡ Some i)

-- A seat that is given up goes to the first of those who wait whom the section fits.
abbrev pub FirstFitLaw : Type 0
FirstFitLaw =
    (market : Market) (opening : HallState) (before : List HallStep) (step : HallStep)
    (s lapsed : ℕ) (next : Option StudentNo)
    → IsHall market opening
    → IsLegal is_sound state_after reply_to market opening (before ++ step ∷ [])
    → names_section market s step.request ≡ true → step.reply ≡ reply.Dropped lapsed next
    → GoesToFirstFit market (state_after_steps state_after market opening before)
    (state_after_steps state_after market opening (before ++ step ∷ [])) s lapsed next

-- A request that is refused changes nothing.
abbrev pub RefusalLaw : Type 0
RefusalLaw = (market : Market) (opening : HallState) (before : List HallStep) (step : HallStep)
    → IsLegal is_sound state_after reply_to market opening (before ++ step ∷ [])
    → is_refusal step.reply ≡ true
    → state_after_steps state_after market opening (before ++ step ∷ [])
    ≡ state_after_steps state_after market opening before

-- Whatever is requested, replies name sections of the catalogue and students of the roll.
abbrev pub RepliesInRangeLaw : Type 0
RepliesInRangeLaw =
    (market : Market) (opening : HallState) (history : List HallStep) → IsHall market opening
    → IsLegal is_sound state_after reply_to market opening history
    → All (λ (step : HallStep). NamesInRange market step.reply) history
