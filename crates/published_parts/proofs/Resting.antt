-- What is held behind the last pass.
use Rattle.std.proofs.Common.{ℕ, ◌≡◌, ◌<◌, ◌+◌, ◌∙◌, List, [], length, ap, sym, subst, arith}
use Rattle.std.specs.Prelude.{slice_index_or}
use Rattle.std.specs.List.{Contains, range_with_len}
use Rattle.std.proofs.lemmas.List.FromFn.{get_or-range_with_len, length-range_with_len}
use Rattle.std.proofs.lemmas.List.Sorted.{Contains-permutation}
use Rattle.budget_draw.specs.AfterOrder.{after_order_of}
use Rattle.budget_draw.proofs.OrderLaw.{after_order_law}
use Rattle.preference_desk.specs.declared.entry.Entry.{Entry}
use Rattle.market_certificate.specs.Publications.{Publication}
use Rattle.published_parts.specs.Allocations.{AreBestAtTheirTurns, IsAllocation, IsBestThere}
use Rattle.published_parts.specs.Holdings.{demanded, held_after, used_of}
use Rattle.published_parts.specs.Markets.{Market, seats_in}
use Rattle.published_parts.specs.Passes.{ComeInPasses}
use Rattle.published_parts.proofs.Passing.{IsAtRest, at_rest}

-- each student is in the order
pub in_order : (budgets : List ℕ) (student : ℕ) → student < length budgets → Contains (after_order_of budgets) student
in_order budgets student low =
    let all : List ℕ = range_with_len 0 (length budgets) in
    let many : length all ≡ length budgets = length-range_with_len 0 (length budgets) in
    let number : 0 + student ≡ student = omega arith in
    Contains-permutation all (after_order_of budgets) student (after_order_law budgets).each
    (student, omega arith, get_or-range_with_len 0 (length budgets) student student low ∙ number)

module _ (market : Market) (journal : List Entry) (p : Publication) (many : length p.budgets ≡ length market.roll.students)
    (passes : ComeInPasses (after_order_of p.budgets) (demanded p) p.turns) (turns : AreBestAtTheirTurns market journal p)
    (held : p.allocation ≡ held_after (demanded p) p.turns) where
  resting : (student : ℕ) → student < length market.roll.students → IsAtRest student (demanded p) p.turns
  resting student low = at_rest (after_order_of p.budgets) (demanded p) p.turns passes student (in_order p.budgets student (omega arith))

  final : (student : ℕ) (low : student < length market.roll.students) → slice_index_or p.allocation student [] ≡ (resting student low).turn.bundle
  final student low = ap (λ now. slice_index_or now student []) held ∙ (resting student low).final

  best : (student : ℕ) → student < length market.roll.students → IsBestThere market journal p p.allocation student (slice_index_or p.allocation student [])
  best student low =
      let rest = resting student low in
      let before : held_after (demanded p) rest.last.earlier ≡ p.allocation = rest.before ∙ sym held in
      subst (λ now. IsBestThere market journal p now student (slice_index_or p.allocation student [])) before
      (subst (IsBestThere market journal p (held_after (demanded p) rest.last.earlier) student) (sym (final student low))
      (subst (λ one. IsBestThere market journal p (held_after (demanded p) rest.last.earlier) one rest.turn.bundle) rest.last.whose (turns rest.last.earlier rest.last.later rest.turn rest.last.split)))

  pub is_allocation : p.used ≡ used_of (seats_in market) p.allocation → IsAllocation market journal p
  is_allocation used = record {
    passes = passes;
    turns = turns;
    left = λ student low. let rest = resting student low in record { turn = rest.turn; last = rest.last; final = final student low };
    best = best;
    used = used;
  }
