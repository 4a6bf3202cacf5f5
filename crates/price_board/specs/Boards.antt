-- What a board keeps beside its tasks.
use Rattle.std.specs.Prelude.{ℕ, ◌≡◌, ◌≤◌}
use Rattle.market_units.specs.declared.limits.TheConstants.{MAX_STUDENTS}
use Rattle.price_board.specs.declared.round.Round.{Round}
use Rattle.price_board.specs.declared.terms.Terms.{Terms}
use Rattle.price_board.specs.Openings.{IsRound, list_of}
use Rattle.price_board.specs.Terms.{student_count}

-- a board of this round, of a crowd of so many students
pub record IsBoard (terms : Terms) (round : Round) (students : ℕ) : Type 0 where
  pub is_round : IsRound terms
  pub list : terms.list ≡ list_of round.list
  pub students_are : students ≡ student_count terms
  pub few_students : students ≤ MAX_STUDENTS
