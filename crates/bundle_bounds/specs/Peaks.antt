-- The greatest of a course that is left over a price, and over the next one.
use Rattle.std.specs.Prelude.{ℕ, ◌+◌, ◌≡◌, List}
use Rattle.bundle_bounds.specs.declared.prospects.Prospect.{Prospect}
use Rattle.bundle_bounds.specs.declared.prospects.Resource.{Resource}
use Rattle.bundle_bounds.specs.declared.prospects.Peak.{Peak}
use Rattle.bundle_bounds.specs.Courses.{greatest}
use Rattle.bundle_bounds.specs.Bounds.{over_price}

-- the peak is of this course, and has the greatest of it among these
pub record IsPeak (resource : Resource) (price course : ℕ) (ps : List Prospect)
    (peak : Peak) : Type 0 where
  pub course_is : peak.course ≡ course
  pub here_is : peak.here ≡ greatest (over_price resource price) course ps
  pub after_is : peak.after ≡ greatest (over_price resource (price + 1)) course ps
