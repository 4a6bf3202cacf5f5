-- What a shelf in memory that never fails shows.
use Rattle.std.specs.Prelude.{List, None, Some}
use Rattle.market_edge.specs.declared.sure_shelf.SureShelf.{SureShelf}
use Rattle.market_edge.specs.MemoryFiles.{File}
use Rattle.market_edge.specs.Shelves.{ShelfState}
use Rattle.market_edge.specs.SureFiles.{is_begun_text, left_of_begun, names_begun, sure_holding}

-- its names and texts
abbrev pub files_of : SureShelf → List File
files_of shelf = shelf.files.items

-- it tells what it holds, and not what was begun; no call has failed
abbrev pub shown_by : SureShelf → ShelfState
shown_by shelf = record {
  holds = Some (sure_holding shelf.files.items);
  left = left_of_begun shelf.files.items shelf.begun;
  is_begun = is_begun_text shelf.begun;
  serves = names_begun shelf.files.items shelf.begun;
  openings = None;
  faults = λ _. 0;
}
