-- A front of a choice is a choice.
use Rattle.std.proofs.Common.{◌≡◌, ◌≤◌, ◌+◌, ◌++◌, ℕ, Bool, List, [], ◌∷◌, length, length-append, arith}
use Rattle.market_units.specs.Totals.{total}
use Rattle.bundle_rules.specs.Wishes.{Wishes, IsFeasible}
use Rattle.bundle_rules.specs.Demand.{IsChoice}
use Rattle.bundle_rules.specs.Existence.Members.{IsAscending-front, has-append_left}

-- the sum of a front and of what follows it
total_both : (f : ℕ → ℕ) (front more : List ℕ)
    → total f (front ++ more) ≡ total f front + total f more
total_both f [] more = omega arith
total_both f (x ∷ front) more = omega (arith, total_both f front more)

pub feasible_front : (w : Wishes) (front more : List ℕ) → IsFeasible w (front ++ more)
    → IsFeasible w front
feasible_front w front more is =
    let credits : total w.credits (front ++ more) ≤ w.credit_cap = is.credits in
    let courses : length (front ++ more) ≤ w.course_cap = is.courses in
    record {
      set = IsAscending-front front more is.set;
      rated = λ s in_it. is.rated s (has-append_left front more s in_it);
      apart =
          λ s t in_s in_t. is.apart s t (has-append_left front more s in_s)
          (has-append_left front more t in_t);
      credits = omega (arith, total_both w.credits front more);
      courses = omega (arith, length-append front more);
    }

pub choice_front : (w : Wishes) (price : ℕ → ℕ) (budget : ℕ) (allowed : ℕ → Bool)
    (front more : List ℕ)
    → IsChoice w price budget allowed (front ++ more) → IsChoice w price budget allowed front
choice_front w price budget allowed front more is =
    let affordable : total price (front ++ more) ≤ budget = is.affordable in
    record {
      feasible = feasible_front w front more is.feasible;
      affordable = omega (arith, total_both price front more);
      within = λ s in_it. is.within s (has-append_left front more s in_it);
    }
