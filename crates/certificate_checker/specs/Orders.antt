-- Whether an order of sessions merges their streams. Sessions are numbered from 1, and the places
-- of entries here from 0.
use Rattle.std.specs.Prelude.{ℕ, ◌≡◌, ◌<◌, ◌≤◌, ◌+◌, ◌-◌, ◌==◌, ◌⊎◌, List, [], count_by, length, slice_get, slice_index, slice_index_or, slice_set, take, Some}
use Rattle.utility_language.specs.declared.commands.Command.{Command}
use Rattle.certificate_checker.specs.declared.findings.Finding.{Finding}
use Rattle.certificate_checker.specs.declared.findings.Finding.TheVariants.{Journal}
use Rattle.certificate_checker.specs.Firsts.{AllBelow, FailsFirstAt}

-- how many of these entries are of a session
abbrev pub said : ℕ → List ℕ → ℕ
said session order = count_by (λ (one : ℕ). one == session) order

-- how many commands a session has
abbrev pub commands_in : List (List Command) → ℕ → ℕ
commands_in streams session = length (slice_index_or streams (session - 1) [])

-- the entry at this place is of a given session, which then has a command left
pub record HasCommand (streams : List (List Command)) (order : List ℕ) (place : ℕ) : Type 0 where
  pub numbered : 1 ≤ slice_index order place
  pub given : slice_index order place ≤ length streams
  pub left : said (slice_index order place) (take place order)
      < commands_in streams (slice_index order place)

-- each session says all its commands
abbrev pub SaysAll : List (List Command) → List ℕ → Type 0
SaysAll streams order =
    AllBelow (length streams) (λ k. commands_in streams (k + 1) ≤ said (k + 1) order)

-- The first entry, numbered from 1, at which an order fails to merge the streams: it is of no given
-- session, or of one that has no command left; or the entry behind the last one, where commands are
-- left.
abbrev pub FailsToMerge : List (List Command) → List ℕ → ℕ → Type 0
FailsToMerge streams order at =
    ((place : ℕ) × (at ≡ place + 1) × FailsFirstAt (length order) (HasCommand streams order) place)
    ⊎
    ((at ≡ length order + 1) × AllBelow (length order) (HasCommand streams order)
    × (¬ SaysAll streams order))

-- where a check ends at the order: the finding tells where it fails to merge the streams
abbrev pub IsOrderFinding : List (List Command) → List ℕ → Finding → Type 0
IsOrderFinding streams order (Journal at) = FailsToMerge streams order at
IsOrderFinding streams order finding = ⊥

-- the session is given, and it has a command left where so many of each stream are said
pub record HasNext (streams : List (List Command)) (counts : List ℕ) (session : ℕ) : Type 0 where
  pub numbered : 1 ≤ session
  pub given : session ≤ length streams
  pub left : slice_index counts (session - 1) < commands_in streams session

-- a session's next command, and the counts with it
pub record IsNextCommand (streams : List (List Command)) (before : List ℕ) (session : ℕ)
    (after : List ℕ) (command : Command) : Type 0 where
  pub has : HasNext streams before session
  pub next : slice_get (slice_index_or streams (session - 1) []) (slice_index before (session - 1))
      ≡ Some command
  pub counted : after ≡ slice_set before (session - 1) (slice_index before (session - 1) + 1)

-- so many commands are all that each session has
abbrev pub SaidAll : List (List Command) → List ℕ → Type 0
SaidAll streams counts =
    AllBelow (length streams) (λ k. length (slice_index_or streams k []) ≤ slice_index counts k)
