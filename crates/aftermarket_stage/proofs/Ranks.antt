-- A rank of bundles that falls from a bundle to a preferred one.
use Rattle.std.proofs.Common.{ℕ, zero, suc, ◌≡◌, ◌<◌, ◌≤◌, ◌+◌, ◌-◌, ◌*◌, ◌==◌, ℤ, pos, negsuc, ◌≤ℤ◌, ◌<ℤ◌, Bool, true, false, List, [], ◌∷◌, length, All, Some, arith, refl, sym, ◌∙◌, ap, subst, inl, inr}
use Rattle.std.specs.Prelude.{slice_get, slice_set, if◌then◌else◌}
use Rattle.std.proofs.Math.Nat.{mul-le-mul_left}
use Rattle.std.proofs.lemmas.Bool.{cases_Bool, cases_order}
use Rattle.std.proofs.lemmas.Bool.Decides.{nat_tests}
use Rattle.std.proofs.lemmas.Int.{ints}
use Rattle.bundle_rules.specs.declared.menu.Rated.{Rated}
use Rattle.market_units.specs.Members.{has}
use Rattle.bundle_rules.specs.Sets.{DiffersFirstIn}
use Rattle.bundle_rules.specs.Wishes.{IsFeasible, utility}
use Rattle.bundle_rules.specs.Menus.{MenuData, wishes_of, rating_at, place_in}
use Rattle.bundle_rules.specs.Preferences.{IsPreferred}
use Rattle.bundle_rules.specs.Demand.{IsChoice, IsBest}
use Rattle.bundle_rules.specs.Best.{best}
use Rattle.bundle_rules.specs.Existence.Orders.{compared, not_both_preferred, not_preferred_itself}
use Rattle.bundle_rules.proofs.BestValue.{best-is}
use Rattle.demand_api.specs.Crowds.{Student, IsWithin}
use Rattle.demand_api.proofs.Counts.{total_none}

-- so many bits
pub power : ℕ → ℕ
power zero = 1
power (suc n) = 2 * power n

-- a set of sections below n as a number: its bits, the lowest section first
pub number_of : List ℕ → ℕ → ℕ
number_of bundle zero = 0
number_of bundle (suc n) = 2 * number_of bundle n + (if has bundle n then 1 else 0)

pub bit-le : (b : Bool) → (if b then 1 else 0) ≤ 1
bit-le true = omega arith
bit-le false = omega arith

pub number_of-lt : (bundle : List ℕ) (n : ℕ) → number_of bundle n < power n
unfolding number_of power
number_of-lt bundle zero = omega arith
number_of-lt bundle (suc n) = let less = number_of-lt bundle n in let bit = bit-le (has bundle n) in omega (arith, less, bit)

same_number : (a b : List ℕ) (n : ℕ) → ((t : ℕ) → t < n → has a t ≡ has b t) → number_of a n ≡ number_of b n
unfolding number_of
same_number a b zero same = refl
same_number a b (suc n) same =
    let before : number_of a n ≡ number_of b n = same_number a b n (λ t low. same t (omega arith)) in
    let last = ap {B = ℕ} (λ h. if h then 1 else 0) (same n (omega arith)) in
    omega (arith, before, last)

-- the set with the lowest section on which they differ has the greater number
pub greater_number : (a b : List ℕ) (n : ℕ) (first : DiffersFirstIn a b) → first.0 < n → number_of b n < number_of a n
unfolding number_of
greater_number a b zero first low = absurd (omega arith)
greater_number a b (suc n) first low = elim (cases_order first.0 n) [
  | inl here ↦
      let with_it : has a n ≡ true = subst (λ s. has a s ≡ true) here first.1 in
      let without : has b n ≡ false = subst (λ s. has b s ≡ false) here first.2 in
      let before : number_of a n ≡ number_of b n = same_number a b n (λ t less. first.3 t (omega arith)) in
      rw (with_it, without) (omega (arith, before))
  | inr (inl earlier) ↦
      let less : number_of b n < number_of a n = greater_number a b n first earlier in
      let bit = bit-le (has b n) in
      omega (arith, less, bit)
  | inr (inr later) ↦ absurd (omega arith)
]

-- how far a number is below another
gap : ℤ → ℤ → ℕ
gap (pos m) (pos n) = m - n
gap (pos m) (negsuc n) = m + suc n
gap (negsuc m) (pos n) = 0
gap (negsuc m) (negsuc n) = n - m

gap_falls : (top u v : ℤ) → u <ℤ v → v ≤ℤ top → gap top v < gap top u
unfolding gap
gap_falls (pos m) (pos u) (pos v) more most = omega (arith, ints)
gap_falls (pos m) (pos u) (negsuc v) more most = absurd (omega (arith, ints))
gap_falls (pos m) (negsuc u) (pos v) more most = omega (arith, ints)
gap_falls (pos m) (negsuc u) (negsuc v) more most = omega (arith, ints)
gap_falls (negsuc m) (pos u) (pos v) more most = absurd (omega (arith, ints))
gap_falls (negsuc m) (pos u) (negsuc v) more most = absurd (omega (arith, ints))
gap_falls (negsuc m) (negsuc u) (pos v) more most = absurd (omega (arith, ints))
gap_falls (negsuc m) (negsuc u) (negsuc v) more most = omega (arith, ints)

-- the best of all bundles that may be taken, whatever they cost
highest : MenuData → List ℕ
highest menu = best menu (λ s. 0) 0 (λ s. true)

at_most_highest : (menu : MenuData) (bundle : List ℕ) → IsFeasible (wishes_of menu) bundle
    → utility (wishes_of menu) bundle ≤ℤ utility (wishes_of menu) (highest menu)
unfolding highest
at_most_highest menu bundle feasible =
    let top : IsBest (wishes_of menu) (λ s. 0) 0 (λ s. true) (highest menu) = best-is menu (λ s. 0) 0 (λ s. true) in
    let choice : IsChoice (wishes_of menu) (λ s. 0) 0 (λ s. true) bundle =
    record { feasible = feasible; affordable = let none = total_none bundle in omega (arith, none); within = λ s in_it. refl } in
    elim (compared (wishes_of menu) (highest menu) bundle top.choice.feasible.set feasible.set) [
      | inl same ↦ let e = ap (utility (wishes_of menu)) same in omega (arith, ints, e)
      | inr (inl (inl less)) ↦ omega (arith, ints, less)
      | inr (inl (inr tie)) ↦ let e = tie.0 in omega (arith, ints, e)
      | inr (inr above) ↦
          absurd
          (not_both_preferred (wishes_of menu) bundle (highest menu) above
          (top.preferred bundle choice
          (λ e. not_preferred_itself (wishes_of menu) bundle (subst (λ b. IsPreferred (wishes_of menu) bundle b) (sym e) above))))
    ]

-- the rank of a bundle of sections below n: by utility, and then by its number, the greatest with the least rank
pub rank : ℕ → MenuData → List ℕ → ℕ
rank n menu bundle = power n * gap (utility (wishes_of menu) (highest menu)) (utility (wishes_of menu) bundle) + (power n - number_of bundle n)

pub rank_falls : (n : ℕ) (menu : MenuData) (before after : List ℕ) → IsFeasible (wishes_of menu) after → ((s : ℕ) → has after s ≡ true → s < n)
    → IsPreferred (wishes_of menu) after before → rank n menu after < rank n menu before
unfolding rank
rank_falls n menu before after feasible below (inl more) =
    let less =
    gap_falls (utility (wishes_of menu) (highest menu)) (utility (wishes_of menu) before) (utility (wishes_of menu) after) more
    (at_most_highest menu after feasible) in
    let times = mul-le-mul_left (power n) less in
    omega (arith, times, number_of-lt before n, number_of-lt after n)
rank_falls n menu before after feasible below (inr (same, first)) =
    let less = greater_number after before n first (below first.0 first.1) in
    let even = ap (λ u. power n * gap (utility (wishes_of menu) (highest menu)) u) same in
    omega (arith, less, even, number_of-lt before n, number_of-lt after n)

-- what holds of each section of a menu holds of each that is rated
pub of_rated : (P : ℕ → Type 0) (menu : MenuData) → All (λ one. P one.section.0) menu.places → (s : ℕ) → 0 < (wishes_of menu).rating s → P s
unfolding wishes_of
of_rated P menu each s rated = among menu.places each rated
  where
    among : (places : List Rated) → All (λ one. P one.section.0) places → 0 < rating_at places (place_in places s) → P s
    among [] all some = absurd (omega arith)
    among (x ∷ xs) all some = elim (cases_Bool (x.section.0 == s)) [
      | inl here ↦ let e : x.section.0 ≡ s = grind (arith, nat_tests) in subst P e (all 0 x (omega arith))
      | inr there ↦ among xs (λ i d low. all (suc i) d (let h : suc i < suc (length xs) = omega arith in h)) (rw there at some)
    ]

-- a rated section of a menu within n sections is below n
pub rated_below : (n : ℕ) (menu : MenuData) → IsWithin n menu → (s : ℕ) → 0 < (wishes_of menu).rating s → s < n
rated_below n menu within s rated = of_rated (λ t. t < n) menu within s rated

-- the ranks of all that is held
pub left : ℕ → List Student → List (List ℕ) → ℕ
left n [] held = 0
left n (x ∷ xs) [] = 0
left n (x ∷ xs) (b ∷ bs) = rank n x.menu b + left n xs bs

-- of which one changes
pub left_set : (n : ℕ) (students : List Student) (held : List (List ℕ)) (i : ℕ) (who : Student) (before after : List ℕ) → slice_get students i ≡ Some who
    → slice_get held i ≡ Some before
    → left n students (slice_set held i after) + rank n who.menu before ≡ left n students held + rank n who.menu after
unfolding left
left_set n [] held i who before after listed there = absurd (cc listed)
left_set n (x ∷ xs) [] i who before after listed there = absurd (cc there)
left_set n (x ∷ xs) (b ∷ bs) zero who before after listed there =
    let one : x ≡ who = cc listed in
    let two : b ≡ before = cc there in
    let same = ap (λ w. rank n w.menu after) one in
    let was = ap (λ w. rank n w.menu b) one ∙ ap (rank n who.menu) two in
    omega (arith, same, was)
left_set n (x ∷ xs) (b ∷ bs) (suc i) who before after listed there = omega (arith, left_set n xs bs i who before after listed there)
