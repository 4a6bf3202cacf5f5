-- Prospects behind the first of them, as a pattern shows them.
use Rattle.std.proofs.Common.{◌≡◌, ℕ, ◌-◌, false, List, length, get_or, take, drop}
use Rattle.bundle_bounds.specs.declared.prospects.Prospect.{Prospect}
use Rattle.bundle_bounds.specs.Courses.{HasAllOfCourse, has_course}
use Rattle.bundle_bounds.proofs.Steps.{no_prospect}
use Rattle.bundle_bounds.proofs.Adding.{greatest_firsts}

-- behind the first one, those up to the last of its course are all of it
pub has_all : (ps : List Prospect) (n : ℕ) → has_course (drop n (take (length ps - 1) (drop 1 ps))) (get_or ps 0 no_prospect).course ≡ false
    → HasAllOfCourse (take n (take (length ps - 1) (drop 1 ps))) (take (length ps - 1) (drop 1 ps)) (get_or ps 0 no_prospect).course
has_all ps n none = λ f. greatest_firsts f (take (length ps - 1) (drop 1 ps)) n (get_or ps 0 no_prospect).course none
