-- What a shelf in memory shows.
use Rattle.std.specs.Prelude.{ℕ, ◌≡◌, List, Some, Contains, is_some}
use Rattle.market_edge.specs.declared.memory_shelf.MemoryShelf.{MemoryShelf}
use Rattle.market_units.specs.Counts.{one_more}
use Rattle.market_edge.specs.BegunLists.{told_texts}
use Rattle.market_edge.specs.MemoryFiles.{File, count_of, holding_of, left_of, openings_of, serves_name}
use Rattle.market_edge.specs.Shelves.{ShelfState}

-- its names and texts
abbrev pub files_of : MemoryShelf → List File
files_of shelf = shelf.files.items

-- the numbers of the calls that fail
abbrev pub failing_of : MemoryShelf → List ℕ
failing_of shelf = shelf.failing.items

-- how many begins and reads were made
abbrev pub calls_of : MemoryShelf → ℕ
calls_of shelf = shelf.calls

-- the next call is to fail by its number
abbrev pub FailsNext : MemoryShelf → Type 0
FailsNext shelf = Contains (failing_of shelf) (one_more (calls_of shelf))

-- what it tells: its files, the texts that were begun, while there is room for them, and how many
-- calls have failed, by name
abbrev pub told_by : MemoryShelf → ShelfState
told_by shelf = record {
  holds = Some (holding_of shelf.files.items);
  left = left_of shelf.files.items shelf.begun;
  is_begun = is_some shelf.begun;
  serves = serves_name shelf.files.items shelf.begun;
  openings = openings_of shelf.files.items (told_texts shelf.earlier) shelf.begun shelf.is_ended;
  faults = count_of shelf.files.items shelf.counts.items shelf.others;
}

-- one more call was made; the files and the numbers of the calls that fail stay
pub record IsNextCall (before after : MemoryShelf) : Type 0 where
  pub calls : calls_of after ≡ one_more (calls_of before)
  pub files : files_of after ≡ files_of before
  pub failing : failing_of after ≡ failing_of before
