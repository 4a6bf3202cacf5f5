-- The budgets that a seed draws.
use Rattle.std.specs.Prelude.{ℕ, ◌+◌, ◌*◌, ◌/◌, List, length, map}
use Rattle.std.specs.List.{enumerate_from}
use Rattle.seed_words.specs.Streams.{stream_words}
use Rattle.market_units.specs.declared.units.Tokens.{Tokens}
use Rattle.student_roll.specs.Students.{Student}
use Rattle.budget_draw.specs.Ranks.{rank_among}

-- what amounts of money are, in order
abbrev pub amounts : List Tokens → List ℕ
amounts tokens = map (λ one. one.0) tokens

-- each student's base, what it carries over, and the spread times its rank, where student i draws
-- word i of stream 0
abbrev pub budgets_of : List Student → ℕ → ℕ → List ℕ
budgets_of students seed spread =
    let words = stream_words seed 0 (length students) in
    map (λ numbered. numbered.1.base + numbered.1.carry + spread * rank_among words numbered.0)
    (enumerate_from 0 students)

-- a budget raised by so many percent, rounded down
abbrev pub raised_by : ℕ → ℕ → ℕ
raised_by raise budget = budget + budget * raise / 100
