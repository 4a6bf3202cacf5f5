-- What is noted of students who were asked, and what follows from it.
use Rattle.std.specs.Prelude.{ℕ, ◌≡◌, ◌<◌, ◌≤◌, ◌==◌, if◌then◌else◌, true, List, [], ◌∷◌, length, map}
use Rattle.std.specs.Prelude.{slice_index, slice_index_or}
use Rattle.std.specs.List.{All}
use Rattle.market_units.specs.declared.units.Tokens.{Tokens}
use Rattle.market_units.specs.Members.{has}
use Rattle.bundle_rules.specs.declared.menu.Rated.{Rated}
use Rattle.bundle_rules.specs.Menus.{place_in, rating_at}
use Rattle.demand_api.specs.Crowds.{Student, CrowdData, demand_of}
use Rattle.demand_oracle.specs.Bests.{IsAmong, IsFirstWithin}
use Rattle.demand_oracle.specs.BestViews.{bundles_of}
use Rattle.demand_workers.specs.declared.note.Note.{Note}

-- the budget of the student of this number
abbrev pub budget_of : CrowdData → ℕ → ℕ
budget_of crowd i = slice_index (map (λ (student : Student). student.budget) crowd.students) i

-- the places of the menu of the student of this number
abbrev pub places_of : CrowdData → ℕ → List Rated
places_of crowd i =
    slice_index_or (map (λ (student : Student). student.menu.places) crowd.students) i []

-- the price of a section among prices in the order of these places, 0 where it is at none of them,
-- or the prices end before it
abbrev pub price_among : List Rated → List Tokens → ℕ → ℕ
price_among [] prices s = 0
price_among (rated ∷ places) [] s = 0
price_among (rated ∷ places) (price ∷ prices) s =
    if rated.section.0 == s then price.0 else price_among places prices s

-- what a section cost by a note, 0 where it is not on the student's menu
abbrev pub price_noted : CrowdData → Note → ℕ → ℕ
price_noted crowd note = price_among (places_of crowd note.student.0) note.prices

-- The student of a note is of the crowd, its bundles have sections of the student's menu, and
-- wherever no section costs less than by the note, the student takes the first of them that is
-- affordable
pub record IsNoted (crowd : CrowdData) (note : Note) : Type 0 where
  pub student : note.student.0 < length crowd.students
  pub rated : (bundle : List ℕ) → IsAmong bundle (bundles_of note.best)
      → (s : ℕ) → has bundle s ≡ true
      → 0 < rating_at (places_of crowd note.student.0) (place_in (places_of crowd note.student.0) s)
  pub taken : (after : ℕ → ℕ) → ((s : ℕ) → price_noted crowd note s ≤ after s)
      → (bundle : List ℕ)
      → IsFirstWithin after (budget_of crowd note.student.0) (bundles_of note.best) bundle
      → bundle ≡ demand_of crowd after note.student.0

-- each note of the list is right
abbrev pub AreNoted : CrowdData → List Note → Type 0
AreNoted crowd notes = All (IsNoted crowd) notes
