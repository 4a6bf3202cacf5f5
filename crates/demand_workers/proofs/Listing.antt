-- Holders that are popped and pushed.
use Rattle.std.proofs.Common.{ℕ, ◌<◌, ◌≤◌, ◌∷◌, Some, List, All, length, arith}
use Rattle.std.specs.List.Sorted.{IsPermutation}
use Rattle.std.proofs.lemmas.List.Sorted.{All-permutation}
use Rattle.market_units.specs.declared.units.SectionNo.{SectionNo}
use Rattle.market_units.specs.declared.limits.TheConstants.{MAX_PRICE}
use Rattle.demand_api.specs.Crowds.{CrowdData, top}
use Rattle.demand_workers.specs.Leaving.{AreLeft, leaves}
use Rattle.price_board.specs.Tasks.{IsTask}
use Rattle.demand_workers.proofs.Surveying.{can_be_raised}

-- a student of the crowd, listed by a price from which it does not keep what it holds, which is at most the top
pub record IsListed (crowd : CrowdData) (holder : ℕ × ℕ) : Type 0 where
  pub student : holder.1 < length crowd.students
  pub room : holder.0 ≤ MAX_PRICE
  pub capped : leaves holder ≤ top crowd

-- the holders that are left are listed
pub listed_left : (crowd : CrowdData) (price : ℕ → ℕ) (s level : ℕ) (hs : List (ℕ × ℕ)) → AreLeft crowd price s level hs → All (IsListed crowd) hs
listed_left crowd price s level hs left k d low = record {
  student = left.students k d low;
  room = (left.keep k d low).room;
  capped = (left.keep k d low).capped;
}

-- the one that is popped
pub first_listed : (crowd : CrowdData) (hs rest : List (ℕ × ℕ)) (first : ℕ × ℕ) → IsPermutation hs (first ∷ rest) → All (IsListed crowd) hs
    → IsListed crowd first
first_listed crowd hs rest first popped all = All-permutation (IsListed crowd) hs (first ∷ rest) popped all 0 first (omega arith)

-- a listed holder can be asked at the price from which it does not keep what it holds
pub listed_inquiry : (crowd : CrowdData) (section : SectionNo) (first : ℕ × ℕ) → section.0 < crowd.sections → IsListed crowd first
    → IsTask crowd 1 (record { student = record { 0 = first.1 }; version = 0; raised = Some (section, record { 0 = leaves first }) })
listed_inquiry crowd section first within first_is = record {
  student = first_is.student;
  its_version = (let goal : 0 < 1 = omega arith in goal);
  its_price = can_be_raised crowd (section, record { 0 = leaves first }) within first_is.capped;
}
