-- Of each course only one section can be taken.
use Rattle.std.specs.Prelude.{ℕ, ◌≡◌, ◌||◌, ◌==◌, max, if◌then◌else◌, Bool, false, List, [], ◌∷◌}
use Rattle.market_units.specs.Totals.{total}
use Rattle.bundle_bounds.specs.declared.prospects.Prospect.{Prospect}
use Rattle.bundle_bounds.specs.declared.prospects.Resource.{Resource}
use Rattle.bundle_bounds.specs.declared.prospects.Resource.TheVariants.{Money, Credits, Count}

-- what a prospect takes of a resource: its price, its credits, or one section
abbrev pub takes_of : Resource → Prospect → ℕ
takes_of Money p = p.price
takes_of Credits p = p.credits
takes_of Count p = 1

-- whether one of these is of this course
abbrev pub has_course : List Prospect → ℕ → Bool
has_course [] course = false
has_course (p ∷ ps) course = p.course == course || has_course ps course

-- the courses of these, each once
abbrev pub courses_of : List Prospect → List ℕ
courses_of [] = []
courses_of (p ∷ ps) = if has_course ps p.course then courses_of ps else p.course ∷ courses_of ps

-- the greatest f of those of a course, 0 where there is none
abbrev pub greatest : (Prospect → ℕ) → ℕ → List Prospect → ℕ
greatest f course [] = 0
greatest f course (p ∷ ps) =
    if p.course == course then max (f p) (greatest f course ps) else greatest f course ps

-- for each course the greatest f, added up
abbrev pub by_course : (Prospect → ℕ) → List Prospect → ℕ
by_course f ps = total (λ course. greatest f course ps) (courses_of ps)

-- all of this course among these are among the first of them
abbrev pub HasAllOfCourse : List Prospect → List Prospect → ℕ → Type 0
HasAllOfCourse firsts ps course = (f : Prospect → ℕ) → greatest f course firsts ≡ greatest f course ps
