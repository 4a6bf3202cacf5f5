-- What is audited is what is published.
use Rattle.std.proofs.Common.{ℕ, ◌≡◌, ◌∙◌, List, length, map, ap, sym, subst}
use Rattle.bundle_rules.specs.Bundles.{sections_of}
use Rattle.bundle_rules.specs.declared.bundle.Bundle.{Bundle}
use Rattle.course_catalog.specs.Catalog.{CatalogData}
use Rattle.student_roll.specs.Students.{RollData, names_of}
use Rattle.demand_api.specs.declared.crowd.Crowd.{Crowd}
use Rattle.demand_api.proofs.Parts.{students_length}
use Rattle.fairness_audit.specs.Allocations.{IsAllocation, allocation_of}
use Rattle.fairness_audit.specs.Rows.{RowData, rows}
use Rattle.fairness_audit.specs.Texts.{AreRowsAmong, audit_text}
use Rattle.market_certificate.specs.declared.publication.Publication.{Publication}
use Rattle.course_catalog.specs.Sections.{section_names}
use Rattle.market_certificate.specs.Views.{publication_of}
use Rattle.published_parts.specs.Holdings.{demanded}
use Rattle.demand_api.specs.Views.{data_of}
use Rattle.fairness_audit.specs.Audits.{IsAudited, final_in, settled_in}
use Rattle.fairness_audit.specs.Checked.{IsChecked}

-- the crowd that workers share is the one that was checked
module _ (catalog : CatalogData) (roll : RollData) (publication : Publication) (crowd shared : Crowd) (same : shared ≡ crowd)
    (is : IsChecked catalog roll (publication_of publication) (data_of crowd)) where
  settled_is : (bundles : List Bundle) → map sections_of bundles ≡ demanded (publication_of publication)
      → allocation_of shared bundles ≡ settled_in (data_of crowd) (publication_of publication)
  settled_is bundles read = λ i. record { crowd = data_of (same i); bundles = read i }

  final_is : allocation_of shared publication.allocation.items ≡ final_in (data_of crowd) (publication_of publication)
  final_is = λ i. record { crowd = data_of (same i); bundles = map sections_of publication.allocation.items }

  -- the students may take what is audited
  pub settled_may : (bundles : List Bundle) → map sections_of bundles ≡ demanded (publication_of publication) → IsAllocation (allocation_of shared bundles)
  settled_may bundles read = subst IsAllocation (sym (settled_is bundles read)) is.settled

  pub final_may : IsAllocation (allocation_of shared publication.allocation.items)
  final_may = subst IsAllocation (sym final_is) is.final

  -- rows of the crowd are rows of the roll and the catalogue
  pub among_tables : (found : List RowData)
      → AreRowsAmong (length shared.menus.items) shared.sections found → AreRowsAmong (length roll.students) (length catalog.sections) found
  among_tables found are =
      subst (λ n. AreRowsAmong (length roll.students) n found) is.sections
      (subst (λ n. AreRowsAmong n crowd.sections found) (sym (students_length crowd) ∙ is.students)
      (subst (λ (c : Crowd). AreRowsAmong (length c.menus.items) c.sections found) same are))

  -- the text of both rows is that of what is published
  pub is_audited : (bundles : List Bundle) (first last : List RowData) (text : List ℕ) → map sections_of bundles ≡ demanded (publication_of publication)
      → first ≡ rows (allocation_of shared bundles) → last ≡ rows (allocation_of shared publication.allocation.items)
      → text ≡ audit_text (names_of roll.students) (section_names catalog.sections) first last
      → IsAudited catalog roll (data_of crowd) (publication_of publication) text
  is_audited bundles first last text read one other written =
      written
      ∙ ap (λ all. audit_text (names_of roll.students) (section_names catalog.sections) all last) (one ∙ ap rows (settled_is bundles read))
      ∙ ap (audit_text (names_of roll.students) (section_names catalog.sections) (rows (settled_in (data_of crowd) (publication_of publication))))
      (other ∙ ap rows final_is)
