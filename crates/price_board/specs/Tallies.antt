-- What each version's posted bundles add up to.
use Rattle.std.specs.Prelude.{ℕ, ◌≡◌, ◌<◌, ⊤, Bool, Option, Some, None, List, length, slice_index_or, nat_lt}
use Rattle.bundle_rules.specs.declared.bundle.Bundle.{Bundle}
use Rattle.price_board.specs.declared.round.Ask.{Ask}
use Rattle.price_board.specs.declared.round.Ask.TheVariants.{Counts, Exceeds}
use Rattle.price_board.specs.declared.round.Task.{Task}
use Rattle.price_board.specs.declared.tally.Tally.{Tally}
use Rattle.price_board.specs.declared.terms.Terms.{Terms}
use Rattle.price_board.specs.Rows.{row_of}
use Rattle.price_board.specs.Settling.{ask_of, count_for, unfilled_in}
use Rattle.price_board.specs.Terms.{version_count}

-- the tally of a row
abbrev pub tally_of : Ask → List (Option Bundle) → Tally
tally_of ask row = record { unfilled = unfilled_in row; count = count_for ask row }

-- there is a tally for each version, that of its row
pub record HaveTallied (terms : Terms) (tallies : List Tally)
    (answers : List (Option Bundle)) : Type 0 where
  pub each : length tallies ≡ version_count terms
  pub tallied : (version : ℕ) (d : Tally) → version < version_count terms
      → slice_index_or tallies version d
      ≡ tally_of (ask_of terms.asks version) (row_of terms answers version)

-- with no list these are the tallies; nothing is tallied of a list
abbrev pub AreNoted : Option (List Task) → Terms → List Tally → List (Option Bundle) → Type 0
AreNoted None terms tallies answers = HaveTallied terms tallies answers
AreNoted (Some list) terms tallies answers = ⊤

-- whether a version with this tally has more bundles with the section than the limit, where that is
-- asked
abbrev pub exceeds_by : Ask → Tally → Option Bool
exceeds_by Counts tally = None
exceeds_by (Exceeds section limit) tally = Some (nat_lt limit tally.count)
