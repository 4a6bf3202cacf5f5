-- The files of a shelf in memory that never fails.
use Rattle.std.specs.Prelude.{ℕ, Bool, true, false, List, [], Option, Some, None, map, drop}
use Rattle.std.specs.FinMap.{from_entries}
use Rattle.market_edge.specs.declared.memory_files.Place.{Place}
use Rattle.market_edge.specs.declared.sure_shelf.Begun.{Begun}
use Rattle.market_edge.specs.declared.sure_shelf.Begun.TheVariants as begun
use Rattle.market_edge.specs.Holdings.{Holding}
use Rattle.market_edge.specs.MemoryFiles.{File, entry_of, is_same_place, place_of, text_at}

-- where a name has more than one file, the first counts; where it has none, it stands for the empty
-- text
abbrev pub sure_holding : List File → Holding
sure_holding files = record { texts = from_entries (map entry_of files); others_empty = true }

-- what is left of the begun text
abbrev pub left_of_begun : List File → Begun → Option (List ℕ)
left_of_begun files begun.Nothing = None
left_of_begun files (begun.File place) = Some (drop place.at (text_at files place.file))
left_of_begun files begun.Empty = Some []

-- a text is begun
abbrev pub is_begun_text : Begun → Bool
is_begun_text begun.Nothing = false
is_begun_text (begun.File place) = true
is_begun_text begun.Empty = true

-- the name is that of the begun text
abbrev pub names_begun : List File → Begun → List ℕ → Bool
names_begun files begun.Nothing name = false
names_begun files (begun.File place) name = is_same_place (Some place.file) (place_of files name)
names_begun files begun.Empty name = is_same_place None (place_of files name)

-- the place in the file's text that is begun
abbrev pub place_of_begun : Begun → Option Place
place_of_begun begun.Nothing = None
place_of_begun (begun.File place) = Some place
place_of_begun begun.Empty = None
