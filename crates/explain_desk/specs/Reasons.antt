-- Why a student does not have a section.
use Rattle.std.specs.Prelude.{ℕ, ◌<◌, ◌≡◌, Bool, true, false, ⊤, List, [], ◌∷◌}
use Rattle.market_units.specs.Members.{has}
use Rattle.bundle_rules.specs.Wishes.{Wishes}
use Rattle.explain_desk.specs.declared.reasons.Reason.{Reason}
use Rattle.explain_desk.specs.declared.reasons.Reason.TheVariants.{Held, Unrated, Alone, Clash, Beside, Less}
use Rattle.explain_desk.specs.Limits.{PassesFirst}

-- the lowest section of the bundle that clashes with the section
pub record ClashesFirst (wishes : Wishes) (bundle : List ℕ) (section other : ℕ) : Type 0 where
  pub member : has bundle other ≡ true
  pub clashes : wishes.clash other section ≡ true
  pub lowest : (lower : ℕ) → lower < other → has bundle lower ≡ true
      → wishes.clash lower section ≡ false

-- A reason applies to a student with this bundle and to a section: the bundle has it; the student
-- does not rate it; by itself it passes a limit; a section of the bundle clashes with it; the
-- bundle with it passes a limit; and the last one always.
abbrev pub Applies : Wishes → (ℕ → ℕ) → ℕ → List ℕ → ℕ → Reason → Type 0
Applies wishes price budget bundle section Held = has bundle section ≡ true
Applies wishes price budget bundle section Unrated = wishes.rating section ≡ 0
Applies wishes price budget bundle section (Alone limit) =
    PassesFirst wishes price budget (section ∷ []) limit
Applies wishes price budget bundle section (Clash other) =
    ClashesFirst wishes bundle section other.0
Applies wishes price budget bundle section (Beside limit) =
    PassesFirst wishes price budget (section ∷ bundle) limit
Applies wishes price budget bundle section Less = ⊤

-- the order of the reasons
abbrev pub stage : Reason → ℕ
stage Held = 0
stage Unrated = 1
stage (Alone limit) = 2
stage (Clash other) = 3
stage (Beside limit) = 4
stage Less = 5

-- the first reason that applies
pub record IsReason (wishes : Wishes) (price : ℕ → ℕ) (budget : ℕ) (bundle : List ℕ) (section : ℕ)
    (reason : Reason) : Type 0 where
  pub applies : Applies wishes price budget bundle section reason
  pub first : (earlier : Reason) → stage earlier < stage reason
      → ¬ Applies wishes price budget bundle section earlier

-- the reasons of a student who lacks the section, though some bundle with it can be had
abbrev pub tells_best : Reason → Bool
tells_best (Clash other) = true
tells_best (Beside limit) = true
tells_best Less = true
tells_best reason = false
