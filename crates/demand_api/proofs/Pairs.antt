-- One more pair of a section and a limit.
use Rattle.std.proofs.Common.{ℕ, ◌≡◌, ◌<◌, ◌≤◌, ◌+◌, ◌*◌, ◌^◌, List, [], ◌∷◌, ◌++◌, length, take, arith}
use Rattle.std.specs.Prelude.{slice_index_or}
use Rattle.std.proofs.lemmas.List.{take_more}
use Rattle.std.proofs.lemmas.Nat.{mul-le}
use Rattle.std.proofs.lemmas.Slice.Zip.{all_zipped_more}
use Rattle.market_units.specs.declared.units.SectionNo.{SectionNo}
use Rattle.market_units.specs.declared.units.Tokens.{Tokens}
use Rattle.demand_api.specs.Crowds.{CrowdData}
use Rattle.demand_api.specs.Prices.{IsLeastFrom, AreLeastPrices}
use Rattle.demand_api.specs.Asking.{RoseAtMost, RoseByDigits}
use Rattle.demand_api.proofs.Halving.{AreHalvings, halvings_most}

pub least_more : (crowd : CrowdData) (price : ℕ → ℕ) (pairs : List (SectionNo × ℕ)) (i : ℕ) (d : SectionNo × ℕ) (found later : List Tokens) (least : ℕ)
    → i < length pairs → AreLeastPrices crowd price (take i pairs) found → later ≡ found ++ record { 0 = least } ∷ []
    → IsLeastFrom (price (slice_index_or pairs i d).0.0) crowd price (slice_index_or pairs i d).0.0 (slice_index_or pairs i d).1 least
    → AreLeastPrices crowd price (take (i + 1) pairs) later
least_more crowd price pairs i d found later least low all more is =
    rw (more, take_more pairs i d low)
    (all_zipped_more (λ (pair : SectionNo × ℕ) (one : Tokens). IsLeastFrom (price pair.0.0) crowd price pair.0.0 pair.1 one.0) (take i pairs) found
    (slice_index_or pairs i d) (record { 0 = least }) all is)

-- the calls of one pair more
pub rose_more : (high i before now after low up : ℕ) → RoseByDigits i high before now → AreHalvings 1 high low up now after
    → RoseByDigits (i + 1) high before after
rose_more high i before now after low up so_far one = record {
  kept = let kept = so_far.kept in let then = one.kept in omega arith;
  most = λ digits fits.
      let before_this : now ≤ before + i * (digits + 1) = so_far.most digits fits in
      let this : after ≤ now + digits * 1 = halvings_most 1 high low up now after digits one fits in
      omega arith;
}

-- the students that are asked for one pair more
pub inquiries_more : (high students i before now after low up : ℕ)
    → ((digits : ℕ) → high < 2 ^ digits → RoseAtMost (i * students * (2 * digits + 1)) before now) → AreHalvings students high low up now after
    → (digits : ℕ) → high < 2 ^ digits → RoseAtMost ((i + 1) * students * (2 * digits + 1)) before after
inquiries_more high students i before now after low up so_far one digits fits = record {
  kept = let kept = (so_far digits fits).kept in let then = one.kept in omega arith;
  most =
      let before_this : now ≤ before + i * students * (2 * digits + 1) = (so_far digits fits).most in
      let this : after ≤ now + digits * students = halvings_most students high low up now after digits one fits in
      omega arith;
}

-- these are no more than those of all pairs
pub calls_fit : (high i pairs before now after low up : ℕ) → i < pairs → RoseByDigits i high before now → AreHalvings 1 high low up now after
    → RoseByDigits pairs high before after
calls_fit high i pairs before now after low up inside so_far one =
    let more = rose_more high i before now after low up so_far one in
    record {
      kept = more.kept;
      most = λ digits fits.
          let this : after ≤ before + (i + 1) * (digits + 1) = more.most digits fits in
          let all : (i + 1) * (digits + 1) ≤ pairs * (digits + 1) = mul-le (i + 1) (digits + 1) pairs (digits + 1) (omega arith) (omega arith) in
          omega arith;
    }

pub inquiries_fit : (high students i pairs before now after low up : ℕ) → i < pairs
    → ((digits : ℕ) → high < 2 ^ digits → RoseAtMost (i * students * (2 * digits + 1)) before now) → AreHalvings students high low up now after
    → (digits : ℕ) → high < 2 ^ digits → RoseAtMost (pairs * students * (2 * digits + 1)) before after
inquiries_fit high students i pairs before now after low up inside so_far one digits fits =
    let more = inquiries_more high students i before now after low up so_far one digits fits in
    record {
      kept = more.kept;
      most =
          let this : after ≤ before + (i + 1) * students * (2 * digits + 1) = more.most in
          let round : (i + 1) * students ≤ pairs * students = mul-le (i + 1) students pairs students (omega arith) (omega arith) in
          let all : (i + 1) * students * (2 * digits + 1) ≤ pairs * students * (2 * digits + 1) =
          mul-le ((i + 1) * students) (2 * digits + 1) (pairs * students) (2 * digits + 1) round (omega arith) in
          omega arith;
    }
