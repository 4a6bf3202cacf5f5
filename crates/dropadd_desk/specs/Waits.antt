-- Who waits for a section, and in which order, from one step of a history to the next.
use Rattle.std.specs.Prelude.{ℕ, ◌≡◌, ◌⊎◌, ◌==◌, ◌&&◌, ◌||◌, Bool, true, false, List, [], ◌∷◌, ◌++◌}
use Rattle.market_units.specs.Members.{has}
use Rattle.dropadd_desk.specs.declared.reply.HallReply.{HallReply}
use Rattle.dropadd_desk.specs.declared.reply.HallReply.TheVariants as reply
use Rattle.dropadd_desk.specs.declared.shared.HallState.{HallState}
use Rattle.dropadd_desk.specs.Market.{Market}
use Rattle.dropadd_desk.specs.Holdings.{names_student}
use Rattle.dropadd_desk.specs.Lines.{HallStep, is_dropped, is_queued, names_section}
use Rattle.dropadd_desk.specs.Step.{waiting_for}

-- whether the one is in a list, and the other in it behind the one
abbrev pub is_ahead : ℕ → ℕ → List ℕ → Bool
is_ahead i j [] = false
is_ahead i j (x ∷ more) = (x == i && has more j) || is_ahead i j more

abbrev pub is_left : HallReply → Bool
is_left reply.Left = true
is_left _ = false

-- whether the step queued the student for the section
abbrev pub is_queued_by : Market → ℕ → HallStep → ℕ → Bool
is_queued_by market s step j =
    names_section market s step.request
    && names_student market j step.request && is_queued step.reply

-- whether the student left the section's list by the step
abbrev pub has_left_by : Market → ℕ → HallStep → ℕ → Bool
has_left_by market s step j =
    names_section market s step.request && names_student market j step.request && is_left step.reply

-- whether a seat of the section was given up by the step
abbrev pub is_dropped_by : Market → ℕ → HallStep → Bool
is_dropped_by market s step = names_section market s step.request && is_dropped step.reply

-- Those who wait before and after a step, where these were queued, these left, and a seat was given
-- up or not.
pub record KeepsOrder (before after : List ℕ) (queued left : ℕ → Bool)
    (dropped : Bool) : Type 0 where
  -- as long as the earlier of two waits, the later waits behind it, unless the later leaves: so the
  -- earlier is never given the seat or taken off after the later
  pub order : (i j : ℕ) → is_ahead i j before ≡ true → has after i ≡ true → left j ≡ false
      → is_ahead i j after ≡ true
  -- of those who did not wait, he who is queued waits now, and nobody else
  pub comes : (j : ℕ) → has before j ≡ false → has after j ≡ queued j
  -- he who is queued waits as the last one, behind all who waited
  pub last : (j : ℕ) → queued j ≡ true → after ≡ before ++ j ∷ []
  -- he who leaves waits no longer
  pub leaves : (j : ℕ) → left j ≡ true → has after j ≡ false
  -- whoever else waits no longer goes in a step in which a seat of the section was given up
  pub goes : (j : ℕ) → has before j ≡ true → has after j ≡ false
      → (left j ≡ true) ⊎ (dropped ≡ true)

-- the section's list before the step and after it, in the desk's own states
abbrev pub KeepsOrderAt : Market → HallState → HallStep → HallState → ℕ → Type 0
KeepsOrderAt market before step after s =
    KeepsOrder (waiting_for before s) (waiting_for after s) (is_queued_by market s step)
    (has_left_by market s step) (is_dropped_by market s step)
