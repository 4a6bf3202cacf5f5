-- Sessions that speak for different students.
use Rattle.std.specs.Prelude.{ℕ, ◌≡◌, ◌≢◌, ◌<◌, ◌==◌, ◌&&◌, Bool, false, List, [], length, All, slice_index_or, ⊤}
use Rattle.market_units.specs.declared.names.Name.{Name}
use Rattle.utility_language.specs.declared.commands.Command.{Command}
use Rattle.utility_language.specs.declared.commands.Command.TheVariants.{Rate, Pair, Clear, Close, Unreadable}
use Rattle.preference_desk.specs.DeskNames.{DeskNames, has_name, ordinal_of}

-- the name is that of the student with this ordinal
abbrev pub is_named : DeskNames → ℕ → Name → Bool
is_named names k student =
    has_name names.students student && (ordinal_of names.students student == k)

-- the command is of the student with this ordinal
abbrev pub is_about : DeskNames → ℕ → Command → Bool
is_about names k (Rate student section n) = is_named names k student
is_about names k (Pair student first second n) = is_named names k student
is_about names k (Clear student) = is_named names k student
is_about names k Close = false
is_about names k Unreadable = false

-- the command leaves the desk open
abbrev pub LeavesOpen : Command → Type 0
LeavesOpen (Rate student section n) = ⊤
LeavesOpen (Pair student first second n) = ⊤
LeavesOpen (Clear student) = ⊤
LeavesOpen Close = ⊥
LeavesOpen Unreadable = ⊤

-- none of the commands is of the student with this ordinal
abbrev pub AreSilentOn : DeskNames → ℕ → List Command → Type 0
AreSilentOn names k commands = All (λ command. is_about names k command ≡ false) commands

-- No stream closes the desk, and of each student all commands are in one stream: the others are
-- silent on it.
pub record AreApart (names : DeskNames) (streams : List (List Command)) : Type 0 where
  pub stay_open : (m : ℕ) → m < length streams → All LeavesOpen (slice_index_or streams m [])
  pub apart : (k : ℕ) → k < length names.students
      → (n : ℕ) × (n < length streams)
      × ((m : ℕ) → m < length streams → m ≢ n
      → AreSilentOn names k (slice_index_or streams m []))
