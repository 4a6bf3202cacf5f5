-- Envy at the bundles that an accepted text publishes.
use Rattle.std.specs.Prelude.{ℕ, ◌≡◌, ◌<◌, List}
use Rattle.certificate_checker.specs.Certificates.{HoldsBy, IsTextOf}
use Rattle.course_catalog.specs.Catalog.{CatalogData}
use Rattle.demand_api.specs.Crowds.{CrowdData}
use Rattle.fairness_audit.specs.Allocations.{Allocation, student_count}
use Rattle.fairness_audit.specs.Rows.{row, rows}
use Rattle.fairness_audit.specs.Texts.{audit_text}
use Rattle.market_certificate.specs.Publications.{Publication}
use Rattle.course_catalog.specs.Sections.{section_names}
use Rattle.published_parts.specs.Holdings.{demanded}
use Rattle.published_parts.specs.Markets.{Market}
use Rattle.student_roll.specs.Students.{RollData, names_of}
use Rattle.utility_language.specs.declared.commands.Command.{Command}

-- these students, with the bundles of the second stage, and with the final ones
abbrev pub settled_in : CrowdData → Publication → Allocation
settled_in crowd p = record { crowd = crowd; bundles = demanded p }

abbrev pub final_in : CrowdData → Publication → Allocation
final_in crowd p = record { crowd = crowd; bundles = p.allocation }

-- the text tells the rows of the students with their bundles of the second stage, and the rows of
-- the same with their final ones
abbrev pub IsAudited : CatalogData → RollData → CrowdData → Publication → List ℕ → Type 0
IsAudited catalog roll crowd p text =
    text
    ≡ audit_text (names_of roll.students) (section_names catalog.sections)
    (rows (settled_in crowd p)) (rows (final_in crowd p))

-- no row counts any lower envy
abbrev pub CountsNoLower : Allocation → Type 0
CountsNoLower a = (i : ℕ) → i < student_count a → (row a i).lower ≡ 0

-- the text tells these rows of what an accepted text publishes, by the crowd after its order, whose
-- budgets are those that the seed draws; and none of those of the second stage counts any lower
-- envy
pub record IsAuditOf (market : Market) (streams : List (List Command))
    (published text : List ℕ) : Type 0 where
  pub publication : Publication
  pub is_text : IsTextOf market publication published
  pub crowd : CrowdData
  pub holds : HoldsBy market streams publication crowd
  pub is_audited : IsAudited market.catalog market.roll crowd publication text
  pub none_lower : CountsNoLower (settled_in crowd publication)
