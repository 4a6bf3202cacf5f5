-- What is known of an accepted text where envy is sought.
use Rattle.std.specs.Prelude.{◌≡◌, length}
use Rattle.course_catalog.specs.Catalog.{CatalogData}
use Rattle.demand_api.specs.Crowds.{CrowdData}
use Rattle.fairness_audit.specs.Allocations.{IsAllocation}
use Rattle.market_certificate.specs.Publications.{Publication}
use Rattle.student_roll.specs.Students.{RollData}
use Rattle.fairness_audit.specs.Audits.{final_in, settled_in}

-- a crowd of these tables, and of each student a bundle of the second stage and a final one that it
-- may take
pub record IsChecked (catalog : CatalogData) (roll : RollData) (p : Publication)
    (crowd : CrowdData) : Type 0 where
  pub students : length crowd.students ≡ length roll.students
  pub sections : crowd.sections ≡ length catalog.sections
  pub settled : IsAllocation (settled_in crowd p)
  pub final : IsAllocation (final_in crowd p)
