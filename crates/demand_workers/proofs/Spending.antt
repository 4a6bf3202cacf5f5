-- What one call of the least prices asks.
use Rattle.std.proofs.Common.{ℕ, ◌≡◌, ◌<◌, ◌≤◌, ◌+◌, ◌*◌, ◌^◌, length, sym, subst, arith}
use Rattle.demand_api.specs.Asking.{RoseAtMost}
use Rattle.demand_api.specs.Crowds.{CrowdData, top}
use Rattle.demand_workers.specs.Allowances.{HasSpent}
use Rattle.demand_workers.proofs.Allowing.{spent_within}

-- two rounds, the walks of all pairs and their halvings ask no more than twice the digits, and one, for each pair and student
all_within : (pairs students digits left left_then before recalled last : ℕ) → RoseAtMost students before recalled
    → HasSpent (pairs * (digits * students) + students) left left_then recalled last
    → left + 2 * students ≤ pairs * students * (digits + 1) → RoseAtMost (pairs * students * (2 * digits + 1)) before last
all_within pairs students digits left left_then before recalled last first walks within = record {
  kept = let a = first.kept in let b = walks.kept in omega arith;
  most = let a = first.most in let b = walks.paid in omega arith;
}

-- So does a call: what may be asked is told of one crowd, walks go over another, and both are the call's own
pub call_within : (crowd told known : CrowdData) (pairs left left_then before recalled last : ℕ) → told ≡ crowd → known ≡ crowd
    → RoseAtMost (length crowd.students) before recalled
    → ((digits : ℕ) → top known < 2 ^ digits
    → HasSpent (pairs * (digits * length known.students) + length known.students) left left_then recalled last)
    → ((digits : ℕ) → top told < 2 ^ digits → left + 2 * length told.students ≤ pairs * length told.students * (digits + 1))
    → (digits : ℕ) → top crowd < 2 ^ digits → RoseAtMost (pairs * length crowd.students * (2 * digits + 1)) before last
call_within crowd told known pairs left left_then before recalled last one other first walks within digits fits =
    all_within pairs (length crowd.students) digits left left_then before recalled last first
    (subst (λ (w : CrowdData). HasSpent (pairs * (digits * length w.students) + length w.students) left left_then recalled last) other
    (walks digits (subst (λ (w : CrowdData). top w < 2 ^ digits) (sym other) fits)))
    (subst (λ (w : CrowdData). left + 2 * length w.students ≤ pairs * length w.students * (digits + 1)) one
    (within digits (subst (λ (w : CrowdData). top w < 2 ^ digits) (sym one) fits)))

-- the walk of the one pair, and what is asked behind it
pub walk_of_one : (known : CrowdData) (pairs left left_then now walked : ℕ) → pairs ≡ 1
    → ((digits : ℕ) → top known < 2 ^ digits → HasSpent ((digits + 1) * length known.students) left left_then now walked)
    → (digits : ℕ) → top known < 2 ^ digits
    → HasSpent (pairs * (digits * length known.students) + length known.students) left left_then now walked
walk_of_one known pairs left left_then now walked one walk digits fits =
    let within : (digits + 1) * length known.students ≤ 1 * (digits * length known.students) + length known.students = omega arith in
    subst (λ (n : ℕ). HasSpent (n * (digits * length known.students) + length known.students) left left_then now walked) (sym one)
    (spent_within _ _ left left_then now walked (walk digits fits) within)
