-- What the parts of a check go by.
use Rattle.std.specs.Prelude.{ℕ, ◌≡◌, ◌<◌, ◌≤◌, ◌+◌, ◌-◌, ◌*◌, ◌^◌, true, false, Bool, List, [], Some, length, replicate, slice_get}
use Rattle.market_units.specs.declared.limits.TheConstants.{MAX_RAISE}
use Rattle.market_certificate.specs.Publications.{IsPublication, ProvedTurn, Publication}
use Rattle.market_certificate.specs.Tables.{Tables}
use Rattle.market_certificate.specs.Views.{publication_of}
use Rattle.market_certificate.specs.declared.publication.Publication as declared
use Rattle.demand_api.specs.Views.{data_of}
use Rattle.held_seats.specs.Floors.{IsFloor, held_on}
use Rattle.held_seats.specs.declared.floor.Floor.{Floor}
use Rattle.certificate_checker.specs.declared.progress.Progress.{Progress}
use Rattle.certificate_checker.specs.declared.terms.Terms.{Terms}
use Rattle.certificate_checker.specs.Firsts.{AllBelow}
use Rattle.certificate_checker.specs.Turns.{HasQuietPass, IsQuietTurn, order_in}

-- as many students and sections as the terms have, all without a name: what they are called plays
-- no part in whether a publication may be looked at
abbrev pub nameless : Terms → Tables
nameless terms =
    record {
      version = 0;
      students = replicate (length terms.crowd.menus.items) [];
      sections = replicate terms.crowd.sections [];
    }

-- A publication may be looked at by these terms: seats for each section, a raise of at most 50
-- percent, and a publication with a line for each student and each section.
pub record CanCheck (terms : Terms) (p : Publication) : Type 0 where
  pub is_publication : IsPublication (nameless terms) p
  pub seats : length terms.seats.items ≡ terms.crowd.sections
  pub raise : terms.raise ≤ MAX_RAISE

-- How far the passes have come after the first turns: so many whole passes, and so many turns of
-- the next one; whether one of these made a change; and whether some whole pass was without one.
pub record IsProgress (students : ℕ) (p : Publication) (turns : ℕ)
    (progress : Progress) : Type 0 where
  pub number : turns ≡ progress.pass * students + progress.place
  pub passes : progress.pass ≤ turns
  pub in_pass : 0 < students → progress.place < students
  pub changed : progress.changed ≡ true
      → (place : ℕ) × (place < progress.place)
      × (¬ IsQuietTurn p (progress.pass * students + place))
  pub same : progress.changed ≡ false
      → AllBelow progress.place (λ place. IsQuietTurn p (progress.pass * students + place))
  pub is_over : progress.over ≡ true → HasQuietPass students p turns
  pub goes_on : 0 < students → progress.over ≡ false → ¬ HasQuietPass students p turns

-- a floor of these seats, on which these bundles are held
pub record AreHeldOn (seats : List ℕ) (bundles : List (List ℕ)) (floor : Floor) : Type 0 where
  pub is_floor : IsFloor seats floor
  pub held : held_on floor ≡ bundles

-- What is known where the turn of a number is looked at. The publication can be checked, has this
-- turn and fewer than 2 ^ 32 - 1; the students have their turns in this order in each pass; and this
-- is how far the passes have come before the turn.
pub record IsNextTurn (terms : Terms) (publication : declared.Publication) (order : List ℕ)
    (progress : Progress) (place : ℕ) : Type 0 where
  pub can : CanCheck terms (publication_of publication)
  pub few : length publication.turns.items < 2 ^ 32 - 1
  pub low : place < length publication.turns.items
  pub order_is : order ≡ order_in (data_of terms.crowd)
  pub so_far : IsProgress (length terms.crowd.menus.items) (publication_of publication) place
      progress

-- whether a turn made a change
pub record MadeChange (p : Publication) (turn : ℕ) (moved : Bool) : Type 0 where
  pub changed : moved ≡ true → ¬ IsQuietTurn p turn
  pub same : moved ≡ false → IsQuietTurn p turn

-- where the passes have come so far, the turn has the pass and the student that are due
pub record IsDueTurn (order : List ℕ) (progress : Progress) (turn : ProvedTurn) : Type 0 where
  pub goes_on : progress.over ≡ false
  pub pass : turn.pass ≡ progress.pass + 1
  pub student : slice_get order progress.place ≡ Some turn.student
