-- Where all open places together take no more than is left of a resource, none of its bounds is below
-- the plain one.
use Rattle.std.proofs.Common.{◌≡◌, ℕ, ◌+◌, ◌*◌, ◌-◌, ◌≤◌, max, ◌==◌, List, [], ◌∷◌, arith, inl, inr}
use Rattle.std.specs.Prelude.{ℤ, pos, ◌+ℤ◌, ◌≤ℤ◌, All}
use Rattle.std.proofs.Math.Nat.{mul-add, mul-le-mul_left}
use Rattle.std.proofs.lemmas.Int.{ints}
use Rattle.std.proofs.lemmas.Bool.{cases_Bool}
use Rattle.market_units.specs.Totals.{total}
use Rattle.bundle_bounds.specs.declared.prospects.Prospect.{Prospect}
use Rattle.bundle_bounds.specs.declared.prospects.Resource.{Resource}
use Rattle.bundle_bounds.specs.declared.known.Known.{Known}
use Rattle.bundle_bounds.specs.Courses.{takes_of, greatest, by_course}
use Rattle.bundle_bounds.specs.Bounds.{over_price, resource_bounds}
use Rattle.bundle_bounds.specs.Known.{NotBelow, IsKnown}
use Rattle.bundle_bounds.specs.Limits.{NoneBelow}
use Rattle.bundle_bounds.specs.Modest.{IsModest}
use Rattle.bundle_bounds.proofs.Steps.{by_course-step}
use Rattle.bundle_bounds.proofs.Prefixes.{none_where_known}

greatest_less : (f g : Prospect → ℕ) (c : ℕ) (ps : List Prospect) → ((p : Prospect) → f p ≤ g p) → greatest f c ps ≤ greatest g c ps
greatest_less f g c [] less = omega arith
greatest_less f g c (p ∷ ps) less =
    let here : f p ≤ g p = less p in
    let a : ℕ = greatest f c ps in
    let b : ℕ = greatest g c ps in
    let rest : a ≤ b = greatest_less f g c ps less in
    elim (cases_Bool (p.course == c)) [
      | inl same ↦ rw same (let goal : max (f p) a ≤ max (g p) b = omega arith in goal)
      | inr other ↦ rw other rest
    ]

-- what is over a price and the price of all that is taken are no less than the worth
plain_within : (resource : Resource) (price : ℕ) (ps : List Prospect)
    → by_course (λ p. 1000 * p.worth) ps ≤ by_course (over_price resource price) ps + price * total (takes_of resource) ps
plain_within resource price [] = omega arith
plain_within resource price (p ∷ ps) =
    let f : Prospect → ℕ = λ q. 1000 * q.worth in
    let o : Prospect → ℕ = over_price resource price in
    let w : ℕ = 1000 * p.worth in
    let t : ℕ = takes_of resource p in
    let s : ℕ = total (takes_of resource) ps in
    let paid : ℕ = price * t in
    let later : ℕ = price * s in
    let split : price * (t + s) ≡ paid + later = mul-add price t s in
    let a : ℕ = by_course f ps in
    let b : ℕ = by_course o ps in
    let rest : a ≤ b + later = plain_within resource price ps in
    let g : ℕ = greatest f p.course ps in
    let h : ℕ = greatest o p.course ps in
    let less : h ≤ g =
    greatest_less o f p.course ps (λ q. let x : ℕ = 1000 * q.worth in let y : ℕ = price * takes_of resource q in let goal : x - y ≤ x = omega arith in goal) in
    let x : ℕ = by_course f (p ∷ ps) in
    let y : ℕ = by_course o (p ∷ ps) in
    let x_is : x ≡ (w - g) + a = by_course-step f p ps in
    let y_is : y ≡ ((w - paid) - h) + b = by_course-step o p ps in
    rw split (let goal : x ≤ y + (paid + later) = omega arith in goal)

module _ (base limit : ℤ) (rest : ℕ) (resource : Resource) (ps : List Prospect) where
  not_below : limit ≤ℤ (base +ℤ pos (by_course (λ p. 1000 * p.worth) ps)) → total (takes_of resource) ps ≤ rest
      → (price : ℕ) → NotBelow base limit rest resource ps price
  not_below plain fits price =
      let x : ℕ = by_course (λ p. 1000 * p.worth) ps in
      let y : ℕ = by_course (over_price resource price) ps in
      let t : ℕ = total (takes_of resource) ps in
      let a : ℕ = price * t in
      let b : ℕ = price * rest in
      let within : x ≤ y + a = plain_within resource price ps in
      let less : a ≤ b = mul-le-mul_left price fits in
      let above : limit ≤ℤ (base +ℤ pos x) = plain in
      let goal : limit ≤ℤ (base +ℤ pos (b + y)) = omega (arith, ints) in goal

  pub none_where_ample : limit ≤ℤ (base +ℤ pos (by_course (λ p. 1000 * p.worth) ps)) → total (takes_of resource) ps ≤ rest → All IsModest ps
      → NoneBelow limit (resource_bounds base rest resource ps ps)
  none_where_ample plain fits modest =
      let known : Known = record { low = 0; high = 0 } in
      let is : IsKnown base limit rest resource ps known =
      record {
        low = λ price before. not_below plain fits price;
        high = λ price after within. not_below plain fits price;
        low_within = omega arith;
        high_within = omega arith;
      } in
      none_where_known base limit rest resource ps known is (omega arith) ps modest
