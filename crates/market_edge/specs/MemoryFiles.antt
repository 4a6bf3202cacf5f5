-- The files of a shelf in memory.
use Rattle.std.specs.Prelude.{ℕ, ◌≡◌, zero, suc, [], ◌∷◌, ◌==◌, ◌<◌, ◌≤◌, Bool, true, false, if◌then◌else◌, List, Option, Some, None, String, Vec, map, length, position, drop, ◌++◌, ◌+◌, nat_le}
use Rattle.std.proofs.Common.{Global}
use Rattle.std.specs.List.{slice_index_or}
use Rattle.std.specs.Option.{option_map_or}
use Rattle.std.specs.Str.{bytes_eq}
use Rattle.std.specs.String.{string_bytes}
use Rattle.std.specs.FinMap.{from_entries}
use Rattle.market_edge.specs.declared.memory_files.Place.{Place}
use Rattle.market_units.specs.Counts.{one_more}
use Rattle.market_edge.specs.Holdings.{Holding}
use Rattle.market_edge.specs.Openings.{Opening}

-- a name, and a text
abbrev pub File : Type 0
File = String Global × Vec ℕ Global

abbrev pub entry_of : File → List ℕ × List ℕ
entry_of file = (string_bytes file.0, file.1.items)

-- where a name has more than one file, the first counts
abbrev pub holding_of : List File → Holding
holding_of files = record { texts = from_entries (map entry_of files); others_empty = false }

abbrev pub has_name : List ℕ → File → Bool
has_name name file = bytes_eq (string_bytes file.0) name

-- the first file of a name
abbrev pub place_of : List File → List ℕ → Option ℕ
place_of files name = position (has_name name) files

-- the text of the file at a place
abbrev pub text_at : List File → ℕ → List ℕ
text_at [] place = []
text_at (file ∷ files) zero = file.1.items
text_at (file ∷ files) (suc place) = text_at files place

-- what is left of the begun text
abbrev pub left_of : List File → Option Place → Option (List ℕ)
left_of files None = None
left_of files (Some place) = Some (drop place.at (text_at files place.file))

-- a place in a file's text, or at its end
abbrev pub IsPlace : List File → Place → Type 0
IsPlace files place = (place.file < length files) × (place.at ≤ length (text_at files place.file))

-- two names are of one file, or both of none
abbrev pub is_same_place : Option ℕ → Option ℕ → Bool
is_same_place None None = true
is_same_place (Some one) (Some other) = other == one
is_same_place one other = false

-- the names that are counted with a name: those of its file, or all that have no file
abbrev pub has_place_of : List File → List ℕ → List ℕ → Bool
has_place_of files name other = is_same_place (place_of files name) (place_of files other)

-- the begun file's name is served
abbrev pub serves_name : List File → Option Place → List ℕ → Bool
serves_name files None name = false
serves_name files (Some place) name = is_same_place (Some place.file) (place_of files name)

-- the count of a name
abbrev pub count_of : List File → List ℕ → ℕ → List ℕ → ℕ
count_of files counts others name =
    option_map_or (λ file. slice_index_or counts file 0) (place_of files name) others

-- one more fault of each of these names, and of no other
abbrev pub Raises : (List ℕ → Bool) → (List ℕ → ℕ) → (List ℕ → ℕ) → Type 0
Raises is_raised before after =
    (name : List ℕ) → after name ≡ (if is_raised name then one_more (before name) else before name)

-- the name of the file at a place
abbrev pub name_at : List File → ℕ → List ℕ
name_at [] place = []
name_at (file ∷ files) zero = string_bytes file.0
name_at (file ∷ files) (suc place) = name_at files place

-- a begun text, as the list of those that were begun before has it
abbrev pub earlier_of : Option Place → Bool → List (ℕ × Bool)
earlier_of None is_ended = []
earlier_of (Some place) is_ended = (place.file, is_ended) ∷ []

-- such a list behind which these texts are put: what was told and these, where it was told and all
-- are at most so many; else nothing
abbrev pub listed_within : ℕ → Option (List (ℕ × Bool)) → List (ℕ × Bool)
    → Option (List (ℕ × Bool))
listed_within room None texts = None
listed_within room (Some old) texts =
    if nat_le (length old + length texts) room then Some (old ++ texts) else None

-- a begun text by its name
abbrev pub opening_of : List File → ℕ × Bool → Opening
opening_of files text = (name_at files text.0, text.1)

-- the texts that were begun, the one that is begun last among them
abbrev pub openings_of : List File → Option (List (ℕ × Bool)) → Option Place → Bool
    → Option (List Opening)
openings_of files None begun is_ended = None
openings_of files (Some earlier) begun is_ended =
    Some (map (opening_of files) (earlier ++ earlier_of begun is_ended))
