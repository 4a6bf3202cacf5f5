-- How many students were asked, and how many may be.
use Rattle.std.proofs.Common.{ℕ, ◌≡◌, ◌<◌, ◌≤◌, ◌+◌, ◌-◌, ◌*◌, ◌^◌, List, [], ◌∷◌, ◌++◌, length, ap, subst, arith, inl, inr}
use Rattle.std.proofs.lemmas.Bool.{cases_lt}
use Rattle.std.proofs.lemmas.List.{length-append}
use Rattle.std.proofs.lemmas.Nat.{mul-le}
use Rattle.std.proofs.Math.Nat.{pow-le-pow_right}
use Rattle.demand_api.specs.Asking.{RoseAtMost}
use Rattle.demand_workers.specs.Allowances.{HasSpent}

-- one part after another
pub spent_both : (first second left left_first left_then before now after : ℕ) → HasSpent first left left_first before now
    → HasSpent second left_first left_then now after → HasSpent (first + second) left left_then before after
spent_both first second left left_first left_then before now after one other = record { kept = omega arith; paid = omega arith; less = omega arith }

-- and then a part that is not taken from those who may be asked
pub spent_besides : (first rise most left left_then before now after : ℕ) → HasSpent first left left_then before now → RoseAtMost rise now after
    → first + rise ≤ most → HasSpent most left left_then before after
spent_besides first rise most left left_then before now after one other within = record { kept = omega arith; paid = omega arith; less = one.less }

-- more may be asked besides
pub spent_within : (first more left left_then before now : ℕ) → HasSpent first left left_then before now → first ≤ more
    → HasSpent more left left_then before now
spent_within first more left left_then before now one within = record { kept = one.kept; paid = omega arith; less = one.less }

-- one student more, of those who may be asked
pub spent_one : (left before after : ℕ) → 1 ≤ left → RoseAtMost 1 before after → HasSpent 0 left (left - 1) before after
spent_one left before after some one = record { kept = one.kept; paid = omega arith; less = omega arith }

-- a walk that has a share of those who may be asked, and gives back what is left of it
pub spent_share : (cost left share share_then before now : ℕ) → share ≤ left → HasSpent cost share share_then before now
    → HasSpent cost left (left - share + share_then) before now
spent_share cost left share share_then before now within one = record { kept = one.kept; paid = omega arith; less = omega arith }

-- a walk that has a share, and gives nothing back
pub spent_whole : (cost left share share_then before now : ℕ) → share ≤ left → HasSpent cost share share_then before now
    → HasSpent cost left (left - share) before now
spent_whole cost left share share_then before now within one = record { kept = one.kept; paid = omega arith; less = omega arith }

-- one walk more
pub spent_more : (i cost left left_first left_then before now after : ℕ) → HasSpent (i * cost) left left_first before now
    → HasSpent cost left_first left_then now after → HasSpent ((i + 1) * cost) left left_then before after
spent_more i cost left left_first left_then before now after so_far one = record { kept = omega arith; paid = omega arith; less = omega arith }

-- these are no more than all walks
pub spent_on_some : (i pairs cost left left_then before now : ℕ) → HasSpent (i * cost) left left_then before now → i ≤ pairs
    → HasSpent (pairs * cost) left left_then before now
spent_on_some i pairs cost left left_then before now so_far some =
    spent_within (i * cost) (pairs * cost) left left_then before now so_far (mul-le i cost pairs cost some (omega arith))

-- the digits of a number, of which the first is at this place
pub digits_least : (place number digits : ℕ) → 2 ^ place ≤ number → number < 2 ^ digits → place + 1 ≤ digits
digits_least place number digits low high = elim (cases_lt place digits) [
  | inl inside ↦ omega (arith, inside)
  | inr past ↦ let more : 2 ^ digits ≤ 2 ^ place = pow-le-pow_right {n = 2} (omega arith) past in absurd (omega (arith, more))
]

-- with two rounds, walks ask no more than one student for each of these digits, and one more, for each pair and student
pub walks_within : (pairs own digits n students : ℕ) → 1 ≤ pairs → 1 ≤ own → own ≤ digits → n ≡ students
    → (pairs * (own + 1) - 2) * n + 2 * students ≤ pairs * students * (digits + 1)
walks_within pairs own digits n students some one least same =
    let two : 1 * 2 ≤ pairs * (own + 1) = mul-le 1 2 pairs (own + 1) some (omega (arith, one)) in
    let back : pairs * (own + 1) - 2 + 2 ≡ pairs * (own + 1) = omega (arith, two) in
    let split : (pairs * (own + 1) - 2) * n + 2 * n ≡ (pairs * (own + 1) - 2 + 2) * n = omega arith in
    let joined : (pairs * (own + 1) - 2 + 2) * n ≡ pairs * (own + 1) * n = ap (λ m. m * n) back in
    let longer : pairs * (own + 1) ≤ pairs * (digits + 1) = mul-le pairs (own + 1) pairs (digits + 1) (omega arith) (omega (arith, least)) in
    let each : pairs * (own + 1) * n ≤ pairs * (digits + 1) * n = mul-le (pairs * (own + 1)) n (pairs * (digits + 1)) n longer (omega arith) in
    subst (λ m. (pairs * (own + 1) - 2) * n + 2 * m ≤ pairs * m * (digits + 1)) same (omega (arith, split, joined, each))

-- and they fit 64 bits
pub walks_few : (pairs own n : ℕ) → pairs ≤ 400 → own ≤ 32 → n ≤ 2000 → (pairs * (own + 1) - 2) * n ≤ 13200 * 2000
walks_few pairs own n few short small =
    let most : pairs * (own + 1) ≤ 400 * 33 = mul-le pairs (own + 1) 400 33 few (omega (arith, short)) in
    mul-le (pairs * (own + 1) - 2) n 13200 2000 (omega (arith, most)) small

-- more may be asked
pub rose_within : (some more before now : ℕ) → RoseAtMost some before now → some ≤ more → RoseAtMost more before now
rose_within some more before now rose within = record { kept = rose.kept; most = let most = rose.most in omega (arith, most, within) }

-- one item more
pub pushed_one : {A : Type 0} (before after : List A) (item : A) → after ≡ before ++ item ∷ [] → length after ≡ length before + 1
pushed_one before after item is = let same = ap length is in let longer = length-append before (item ∷ []) in omega (arith, same, longer)
