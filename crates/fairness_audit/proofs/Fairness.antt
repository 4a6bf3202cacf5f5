-- In the second stage nobody has lower envy.
use Rattle.std.proofs.Common.{ℕ, ◌≡◌, ◌≤◌, ◌∙◌, Bool, true, List, [], length, sym, inl, inr, arith}
use Rattle.std.specs.Prelude.{ℤ, ◌<ℤ◌, ◌≤ℤ◌, ◌⊎◌, nat_lt, slice_index}
use Rattle.std.proofs.lemmas.Int.{ints}
use Rattle.std.proofs.lemmas.List.{get_or-map}
use Rattle.market_units.specs.Totals.{total}
use Rattle.bundle_rules.specs.Demand.{IsBest, IsChoice}
use Rattle.market_units.specs.Members.{has}
use Rattle.bundle_rules.specs.Wishes.{IsFeasible, Wishes, utility}
use Rattle.bundle_rules.proofs.BestValue.{best-only}
use Rattle.bundle_rules.proofs.Parts.{total_part}
use Rattle.demand_api.specs.Crowds.{CrowdData, Student, demand, demands}
use Rattle.fairness_audit.specs.Laws.{AreTakenAt, NoLowerCountInAccepted, NoLowerEnvyInAccepted, settled_of}
use Rattle.fairness_audit.proofs.Prices.{none_counted_lower, best_worth}
use Rattle.market_certificate.specs.Publications.{Publication}
use Rattle.published_parts.specs.Journals.{wishes_in}
use Rattle.published_parts.specs.Markets.{Market}
use Rattle.published_parts.specs.Offers.{all_sections, student_in}
use Rattle.utility_language.specs.declared.commands.Command.{Command}
use Rattle.certificate_checker.specs.Certificates.{IsAccepted}
use Rattle.certificate_checker.specs.Laws.{IsOptimal}
use Rattle.certificate_checker.proofs.Optimal.{accepted_is_optimal, best_in_stage_two}
use Rattle.fairness_audit.specs.Audits.{settled_in}
use Rattle.fairness_audit.proofs.Allocating.{settled_is}

none_below : (z : ℤ) → z <ℤ z → ⊥
none_below z low = omega (arith, ints)

either_way : (x y : ℤ) → (x ≤ℤ y) ⊎ (y <ℤ x)
either_way x y = grind (arith, ints)

-- what could be taken out of the bundle of one with no greater budget could have been bought
no_more : (mine theirs : Wishes) (price : ℕ → ℕ) (b c : ℕ) (allowed : ℕ → Bool) (own other bundle : List ℕ) → IsBest mine price b allowed own
    → IsBest theirs price c allowed other → c ≤ b → IsFeasible mine bundle
    → ((s : ℕ) → has bundle s ≡ true → has other s ≡ true) → utility mine bundle ≤ℤ utility mine own
no_more mine theirs price b c allowed own other bundle best have less may part =
    let cost : ℕ = total price bundle in
    let paid : ℕ = total price other in
    let within : paid ≤ c = have.choice.affordable in
    let cheap : cost ≤ paid = total_part price bundle other may.set have.choice.feasible.set part in
    let choice : IsChoice mine price b allowed bundle = record {
      feasible = may;
      affordable = (let goal : cost ≤ b = omega arith in goal);
      within = λ s is_in. have.choice.within s (part s is_in);
    } in
    elim (either_way (utility mine bundle) (utility mine own)) [
      | inl holds ↦ holds
      | inr more ↦ absurd (best_worth mine price b allowed own bundle best choice more)
    ]

pub no_lower_envy : NoLowerEnvyInAccepted
no_lower_envy market streams text accepted =
    let optimal : IsOptimal market streams accepted.publication = accepted_is_optimal market streams text accepted in
    let p : Publication = accepted.publication in
    record {
      journal = optimal.journal;
      is_journal = optimal.is_journal;
      sees_no_more = λ mine theirs low low' less bundle may part.
          no_more (wishes_in market optimal.journal mine) (wishes_in market optimal.journal theirs) (slice_index p.prices) (slice_index p.budgets mine)
          (slice_index p.budgets theirs)
          (all_sections (length market.catalog.sections)) (settled_of p mine) (settled_of p theirs) bundle (optimal.stage_two mine low)
          (optimal.stage_two theirs low') less may part;
    }

-- each student has in the second stage what it takes at the printed prices
taken : (market : Market) (streams : List (List Command)) (text : List ℕ) (accepted : IsAccepted market streams text)
    → AreTakenAt (settled_in accepted.holds.crowd accepted.publication) (slice_index accepted.publication.prices)
unfolding demands
taken market streams text accepted k low =
    let p : Publication = accepted.publication in
    let crowd : CrowdData = accepted.holds.crowd in
    let student : Student = student_in crowd k in
    settled_is market streams text accepted k low
    ∙ best-only student.menu (slice_index p.prices) student.budget (λ s. nat_lt s crowd.sections) _ (best_in_stage_two market streams text accepted k low)
    ∙ sym
    (get_or-map (demand crowd.sections (slice_index p.prices)) crowd.students k
    (record { menu = record { places = []; pairs = []; clashes = []; credits = 0; courses = 0 }; budget = 0 }) [] low)

pub no_lower_count : NoLowerCountInAccepted
no_lower_count market streams text accepted i low =
    none_counted_lower (settled_in accepted.holds.crowd accepted.publication) (slice_index accepted.publication.prices) (taken market streams text accepted) i
    low
