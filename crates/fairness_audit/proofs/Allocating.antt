-- Each student of an accepted text may take its bundles, of the second stage and the final one.
use Rattle.std.proofs.Common.{ℕ, zero, suc, ◌≡◌, ◌<◌, ◌∙◌, add-one, List, [], length, take, get_or, ap, sym, subst, inl, inr, arith}
use Rattle.std.specs.Prelude.{slice_index_or, slice_set}
use Rattle.std.proofs.lemmas.Bool.{cases_lt}
use Rattle.std.proofs.lemmas.Bool.Decides.{eqb_tells}
use Rattle.std.proofs.lemmas.List.{length-map, get_or-map, get_or-set_other, get_or-set_same, take_all}
use Rattle.bundle_rules.specs.Menus.{wishes_of}
use Rattle.bundle_rules.specs.Wishes.{IsFeasible}
use Rattle.demand_api.specs.Crowds.{CrowdData}
use Rattle.fairness_audit.specs.Allocations.{IsAllocation}
use Rattle.market_certificate.specs.Publications.{Proved, Publication}
use Rattle.published_parts.specs.Holdings.{demanded, held_after}
use Rattle.published_parts.specs.Markets.{Market}
use Rattle.utility_language.specs.declared.commands.Command.{Command}
use Rattle.certificate_checker.specs.Certificates.{HoldsBy, IsAccepted, IsTextOf}
use Rattle.certificate_checker.specs.Students.{proved_in}
use Rattle.published_parts.specs.Offers.{student_in}
use Rattle.certificate_checker.specs.Turns.{held_before, turn_in}
use Rattle.certificate_checker.proofs.Optimal.{allocated, count, printed, students}
use Rattle.certificate_checker.proofs.Turning.{held_next}
use Rattle.fairness_audit.specs.Audits.{final_in, settled_in}
use Rattle.fairness_audit.specs.Checked.{IsChecked}
use Rattle.published_parts.proofs.HeldAfter.{length-held_after}

-- this student may take this bundle
abbrev pub MayTake : CrowdData → ℕ → List ℕ → Type 0
MayTake crowd k bundle = IsFeasible (wishes_of (student_in crowd k).menu) bundle

-- what is so of what each holds is so after one of them gets another bundle of which it is so
set_so : (Is : ℕ → List ℕ → Type 0) (held : List (List ℕ)) (i k : ℕ) (bundle : List ℕ) → k < length held → Is i bundle → Is k (slice_index_or held k [])
    → Is k (slice_index_or (slice_set held i bundle) k [])
set_so Is held i k bundle low next so = elim (eqb_tells k i) [
  | inl same ↦
      let there : get_or (slice_set held i bundle) k [] ≡ bundle =
      ap (λ n. get_or (slice_set held i bundle) n []) same.1 ∙ get_or-set_same held i bundle [] (subst (λ n. n < length held) same.1 low) in
      subst (Is k) (sym there) (subst (λ n. Is n bundle) (sym same.1) next)
  | inr other ↦ subst (Is k) (sym (get_or-set_other held i k bundle [] other.1)) so
]

module _ (market : Market) (streams : List (List Command)) (text : List ℕ) (accepted : IsAccepted market streams text) where
  abbrev p : Publication
  p = accepted.publication

  abbrev crowd : CrowdData
  crowd = accepted.holds.crowd

  -- as many bundles of the second stage as students
  pub bundles_count : length (demanded p) ≡ length crowd.students
  bundles_count = length-map p.bundles (λ (one : Proved). one.bundle) ∙ accepted.is_text.is_publication.bundles.count ∙ students market streams text accepted

  -- the bundle of a student, as it is printed with its tree
  pub settled_is : (k : ℕ) → k < length crowd.students → slice_index_or (demanded p) k [] ≡ (proved_in p k).bundle
  settled_is k low =
      let many = accepted.is_text.is_publication.bundles.count in
      let same = students market streams text accepted in
      get_or-map (λ (one : Proved). one.bundle) p.bundles k _ [] (omega arith)

  settled_may : (k : ℕ) → k < length crowd.students → MayTake crowd k (slice_index_or (demanded p) k [])
  settled_may k low = subst (MayTake crowd k) (sym (settled_is k low)) ((printed market streams text accepted).bundles k low).feasible

  -- whatever is held before a turn
  held_may : (t k : ℕ) → k < length crowd.students → MayTake crowd k (slice_index_or (held_before p t) k [])
  held_may zero k low = settled_may k low
  held_may (suc t) k low = elim (cases_lt t (length p.turns)) [
    | inl more ↦
        let next : held_before p (suc t) ≡ slice_set (held_before p t) (turn_in p t).student (turn_in p t).bundle =
        ap (held_before p) (sym (add-one t)) ∙ held_next p t more in
        let size : length (held_before p t) ≡ length (demanded p) = length-held_after (demanded p) (take t p.turns) in
        let many = bundles_count in
        subst (λ (held : List (List ℕ)). MayTake crowd k (slice_index_or held k [])) (sym next)
        (set_so (MayTake crowd) (held_before p t) (turn_in p t).student k (turn_in p t).bundle (omega arith)
        ((printed market streams text accepted).turns t more).feasible (held_may t k low))
    | inr done ↦
        let all : take (suc t) p.turns ≡ take t p.turns =
        take_all (suc t) p.turns (let h = done in omega arith) ∙ sym (take_all t p.turns (let h = done in omega arith)) in
        subst (λ turns. MayTake crowd k (slice_index_or (held_after (demanded p) turns) k [])) (sym all) (held_may t k low)
  ]

  final_may : (k : ℕ) → k < length crowd.students → MayTake crowd k (slice_index_or p.allocation k [])
  final_may k low =
      let whole : take (length p.turns) p.turns ≡ p.turns = take_all (length p.turns) p.turns (omega arith) in
      subst (λ (held : List (List ℕ)). MayTake crowd k (slice_index_or held k [])) (sym (allocated market streams text accepted))
      (subst (λ turns. MayTake crowd k (slice_index_or (held_after (demanded p) turns) k [])) whole (held_may (length p.turns) k low))

  pub settled_allocation : IsAllocation (settled_in crowd p)
  settled_allocation = record { each = bundles_count; feasible = settled_may }

  pub final_allocation : IsAllocation (final_in crowd p)
  final_allocation = record { each = accepted.is_text.is_publication.allocation.count ∙ students market streams text accepted; feasible = final_may }

-- what is known of an accepted text, by the crowd that it was checked by
abbrev pub accepted_by : (market : Market) (streams : List (List Command)) (text : List ℕ) (published : Publication) (asked : CrowdData)
    → IsTextOf market published text → HoldsBy market streams published asked → IsAccepted market streams text
accepted_by market streams text published asked is holds =
    record { publication = published; is_text = is; holds = record { crowd = asked; is_crowd = holds.is_crowd; printed = holds.printed } }

pub checked : (market : Market) (streams : List (List Command)) (text : List ℕ) (published : Publication) (asked : CrowdData) → IsTextOf market published text
    → HoldsBy market streams published asked → IsChecked market.catalog market.roll published asked
checked market streams text published asked is holds =
    let accepted : IsAccepted market streams text = accepted_by market streams text published asked is holds in
    record {
      students = count market streams text accepted;
      sections = holds.is_crowd.is_crowd.sections;
      settled = settled_allocation market streams text accepted;
      final = final_allocation market streams text accepted;
    }
