-- What is known of an accepted text where a reason is sought.
use Rattle.std.specs.Prelude.{ℕ, ◌≡◌, ◌<◌, length}
use Rattle.bundle_rules.specs.Demand.{IsBest}
use Rattle.bundle_rules.specs.Menus.{wishes_of}
use Rattle.certificate_checker.specs.Students.{offer_in, proved_in}
use Rattle.course_catalog.specs.Catalog.{CatalogData}
use Rattle.demand_api.specs.Crowds.{CrowdData}
use Rattle.market_certificate.specs.Publications.{IsPublication, Publication}
use Rattle.market_certificate.specs.Tables.{tables_of}
use Rattle.student_roll.specs.Students.{RollData}

-- a publication of these tables and the crowd of their students, each of which has its best bundle
-- in the second stage
pub record IsChecked (catalog : CatalogData) (roll : RollData) (p : Publication)
    (crowd : CrowdData) : Type 0 where
  pub is_publication : IsPublication (tables_of catalog roll) p
  pub students : length crowd.students ≡ length roll.students
  pub sections : crowd.sections ≡ length catalog.sections
  pub best : (k : ℕ) → k < length crowd.students
      → IsBest (wishes_of (offer_in crowd p k).menu) (offer_in crowd p k).price
      (offer_in crowd p k).budget (offer_in crowd p k).allowed (proved_in p k).bundle
