-- The greatest of each course, added up from the last prospect to the first.
use Rattle.std.proofs.Common.{◌≡◌, ℕ, zero, suc, ◌+◌, ◌-◌, ◌*◌, ◌<◌, ◌≤◌, ◌≢◌, max, true, false, ◌==◌, ◌||◌, List, [], ◌∷◌, length, get_or, take, drop, drop-cons, add-one, refl, sym, ap, ◌∙◌, arith, inl, inr}
use Rattle.std.specs.Prelude.{if◌then◌else◌, All}
use Rattle.std.specs.Int.{bit_at}
use Rattle.std.proofs.lemmas.Bool.{cases_Bool, cases_eq, eq-eqb, ne_eqb}
use Rattle.bundle_bounds.specs.declared.prospects.Prospect.{Prospect}
use Rattle.bundle_bounds.specs.declared.prospects.Resource.{Resource}
use Rattle.bundle_bounds.specs.declared.prospects.Resource.TheVariants.{Count}
use Rattle.bundle_bounds.specs.Courses.{takes_of, has_course, greatest, by_course}
use Rattle.bundle_bounds.specs.Bounds.{over_price}
use Rattle.bundle_bounds.specs.Modest.{IsModest}
use Rattle.bundle_bounds.proofs.Steps.{by_course-step, greatest_none}

pub drop_here : (ps : List Prospect) (i : ℕ) (d : Prospect) → i < length ps → drop i ps ≡ get_or ps i d ∷ drop (i + 1) ps
drop_here ps i d low = rw (add-one, drop-cons ps i d) refl

greatest_first : (f : Prospect → ℕ) (p : Prospect) (ps : List Prospect) (c : ℕ)
    → greatest f c (p ∷ ps) ≡ max (if p.course == c then f p else 0) (greatest f c ps)
greatest_first f p ps c = elim (cases_Bool (p.course == c)) [
  | inl same ↦ rw same refl
  | inr other ↦ rw other (let g : ℕ = greatest f c ps in let goal : g ≡ max 0 g = omega arith in goal)
]

-- one more is looked at
pub greatest_more : (f : Prospect → ℕ) (ps : List Prospect) (c i most value more whole : ℕ) (d : Prospect) → i < length ps
    → max most (greatest f c (drop i ps)) ≡ whole
    → value ≡ (if (get_or ps i d).course == c then f (get_or ps i d) else 0) → more ≡ max most value → max more (greatest f c (drop (i + 1) ps)) ≡ whole
greatest_more f ps c i most value more whole d low so_far value_is more_is =
    let g : ℕ = greatest f c (drop (i + 1) ps) in
    let h : ℕ = greatest f c (drop i ps) in
    let v : ℕ = if (get_or ps i d).course == c then f (get_or ps i d) else 0 in
    let split : h ≡ max v g = ap (greatest f c) (drop_here ps i d low) ∙ greatest_first f (get_or ps i d) (drop (i + 1) ps) c in
    let so_far' : max most h ≡ whole = so_far in
    let value_is' : value ≡ v = value_is in
    let goal : max more g ≡ whole = omega arith in goal

-- one more is added in front
pub added_front : (f : Prospect → ℕ) (ps : List Prospect) (i sum more : ℕ) (d : Prospect) → i < length ps → sum ≡ by_course f (drop (i + 1) ps)
    → more ≡ f (get_or ps i d) - greatest f (get_or ps i d).course (drop (i + 1) ps) → sum + more ≡ by_course f (drop i ps)
added_front f ps i sum more d low sum_is more_is =
    let p = get_or ps i d in
    let later : ℕ = by_course f (drop (i + 1) ps) in
    let here : ℕ = f (get_or ps i d) - greatest f (get_or ps i d).course (drop (i + 1) ps) in
    let whole : ℕ = by_course f (drop i ps) in
    let split : whole ≡ here + later = ap (by_course f) (drop_here ps i d low) ∙ by_course-step f (get_or ps i d) (drop (i + 1) ps) in
    let sum_is' : sum ≡ later = sum_is in
    let more_is' : more ≡ here = more_is in
    let goal : sum + more ≡ whole = omega arith in goal

-- one more course is there
pub courses_more : (courses more : ℕ) (ps : List Prospect) (i at : ℕ) (d : Prospect) → i < length ps → at ≡ (get_or ps i d).course → bit_at more at ≡ 1
    → ((other : ℕ) → other ≢ at → bit_at more other ≡ bit_at courses other)
    → ((course : ℕ) → (bit_at courses course == 1) ≡ has_course (drop (i + 1) ps) course)
    → (course : ℕ) → (bit_at more course == 1) ≡ has_course (drop i ps) course
courses_more courses more ps i at d low at_is here others there course =
    let split : has_course (drop i ps) course ≡ ((get_or ps i d).course == course || has_course (drop (i + 1) ps) course) =
    ap (λ l. has_course l course) (drop_here ps i d low) in
    elim (cases_eq course at) [
      | inl same ↦
          let equal : ((get_or ps i d).course == course) ≡ true = eq-eqb (get_or ps i d).course course (sym at_is ∙ sym same) in
          let read : bit_at more course ≡ 1 = ap (bit_at more) same ∙ here in
          ap (λ n. n == 1) read ∙ sym (split ∙ rw equal refl)
      | inr other ↦
          let differ : ((get_or ps i d).course == course) ≡ false = ne_eqb (get_or ps i d).course course (λ e. other (sym e ∙ sym at_is)) in
          ap (λ n. n == 1) (others course other) ∙ there course ∙ sym (split ∙ rw differ refl)
    ]

-- what a prospect has over a price is within its range
pub peak_low : (resource : Resource) (price : ℕ) (p : Prospect) (own : ℕ) → IsModest p → own ≡ over_price resource price p → own ≤ 20000000
peak_low resource price p own modest own_is =
    let worth : p.worth ≤ 20000 = modest.worth_low in
    let paid : ℕ = price * takes_of resource p in
    let own_is' : own ≡ 1000 * p.worth - paid = own_is in
    let goal : own ≤ 20000000 = omega arith in goal

-- the highest of a course, one more of it in front
pub peak_front : (f : Prospect → ℕ) (ps : List Prospect) (i own most high : ℕ) (d : Prospect) → i < length ps → own ≡ f (get_or ps i d)
    → most ≡ greatest f (get_or ps i d).course (drop (i + 1) ps) → high ≡ max own most → high ≡ greatest f (get_or ps i d).course (drop i ps)
peak_front f ps i own most high d low own_is most_is high_is =
    let p = get_or ps i d in
    let same : (p.course == p.course) ≡ true = eq-eqb p.course p.course refl in
    let front : greatest f p.course (p ∷ drop (i + 1) ps) ≡ max (f p) (greatest f p.course (drop (i + 1) ps)) = rw same refl in
    high_is ∙ (λ j. max (own_is j) (most_is j)) ∙ sym (ap (greatest f p.course) (drop_here ps i d low) ∙ front)

-- the greatest worth of each course, a thousandfold, is at most so much for each prospect
pub plain_low : (ps : List Prospect) → All IsModest ps → by_course (λ p. 1000 * p.worth) ps ≤ 20000000 * length ps
plain_low [] all = omega arith
plain_low (p ∷ ps) all =
    let f : Prospect → ℕ = λ q. 1000 * q.worth in
    let here : p.worth ≤ 20000 = (all 0 p (omega arith)).worth_low in
    let whole : ℕ = by_course f (p ∷ ps) in
    let later : ℕ = by_course f ps in
    let most : ℕ = greatest f p.course ps in
    let rest : later ≤ 20000000 * length ps =
    plain_low ps (λ i d low. all (suc i) d (let h : suc i < suc (length ps) = omega arith in h)) in
    let split : whole ≡ (1000 * p.worth - most) + later = by_course-step f p ps in
    let goal : whole ≤ 20000000 * suc (length ps) = omega arith in goal

-- none of a course from a prospect on
pub none_from : (ps : List Prospect) (i c : ℕ) (d : Prospect) → i < length ps → ((get_or ps i d).course == c) ≡ false
    → has_course (drop (i + 1) ps) c ≡ false → has_course (drop i ps) c ≡ false
none_from ps i c d low other none = ap (λ l. has_course l c) (drop_here ps i d low) ∙ rw other none

-- the greatest of a course is among the first ones, where none of it is behind them
pub greatest_firsts : (f : Prospect → ℕ) (ps : List Prospect) (n c : ℕ) → has_course (drop n ps) c ≡ false → greatest f c (take n ps) ≡ greatest f c ps
greatest_firsts f [] zero c none = refl
greatest_firsts f [] (suc n) c none = refl
greatest_firsts f (p ∷ ps) zero c none = sym (greatest_none f (p ∷ ps) c none)
greatest_firsts f (p ∷ ps) (suc n) c none =
    elim (cases_Bool (p.course == c)) [
      | inl same ↦ rw same (ap (λ g. max (f p) g) (greatest_firsts f ps n c none))
      | inr other ↦ rw other (greatest_firsts f ps n c none)
    ]

-- what is left over the next price
pub over_next : (resource : Resource) (price : ℕ) (p : Prospect) → over_price resource (price + 1) p ≡ over_price resource price p - takes_of resource p
over_next resource price p =
    let t : ℕ = takes_of resource p in
    let a : ℕ = price * t in
    let split : (price + 1) * t ≡ a + t = omega arith in
    let w : ℕ = 1000 * p.worth in
    rw split (let goal : w - (a + t) ≡ (w - a) - t = omega arith in goal)

-- the sum of all is what the first adds and the sum of the others
pub record IsWithout (sum here rest : ℕ) : Type 0 where
  pub fits : here ≤ sum
  pub left : sum - here ≡ rest

pub sum_without : (f : Prospect → ℕ) (p : Prospect) (ps : List Prospect) (before sum here : ℕ) → sum ≡ before + by_course f (p ∷ ps)
    → here ≡ f p - greatest f p.course ps → IsWithout sum here (before + by_course f ps)
sum_without f p ps before sum here sum_is here_is =
    let whole : ℕ = by_course f (p ∷ ps) in
    let later : ℕ = by_course f ps in
    let more : ℕ = f p - greatest f p.course ps in
    let split : whole ≡ more + later = by_course-step f p ps in
    let sum_is' : sum ≡ before + whole = sum_is in
    let here_is' : here ≡ more = here_is in
    record { fits = omega arith; left = (let goal : sum - here ≡ before + later = omega arith in goal) }

plain_same : (p : Prospect) → over_price Count 0 p ≡ 1000 * p.worth
plain_same p = omega arith

pub plain_over : over_price Count 0 ≡ (λ p. 1000 * p.worth)
plain_over = λ i p. plain_same p i

pub plain_without : (p : Prospect) (ps : List Prospect) (sum here : ℕ) → sum ≡ by_course (λ q. 1000 * q.worth) (p ∷ ps)
    → here ≡ over_price Count 0 p - greatest (over_price Count 0) p.course ps → IsWithout sum here (by_course (λ q. 1000 * q.worth) ps)
plain_without p ps sum here sum_is here_is =
    let whole : ℕ = by_course (over_price Count 0) (p ∷ ps) in
    let later : ℕ = by_course (over_price Count 0) ps in
    let sum_is' : sum ≡ whole = sum_is ∙ ap (λ f. by_course f (p ∷ ps)) (sym plain_over) in
    let is = sum_without (over_price Count 0) p ps 0 sum here (let goal : sum ≡ 0 + whole = omega arith in goal) here_is in
    let left : sum - here ≡ 0 + later = is.left in
    record { fits = is.fits; left = (let goal : sum - here ≡ later = omega arith in goal) ∙ ap (λ f. by_course f ps) plain_over }

-- one more is added in front, of a course that has none behind it
pub added_new : (f : Prospect → ℕ) (ps : List Prospect) (i sum more : ℕ) (d : Prospect) → i < length ps → sum ≡ by_course f (drop (i + 1) ps)
    → more ≡ f (get_or ps i d) → has_course (drop (i + 1) ps) (get_or ps i d).course ≡ false → sum + more ≡ by_course f (drop i ps)
added_new f ps i sum more d low sum_is more_is none =
    let nothing : greatest f (get_or ps i d).course (drop (i + 1) ps) ≡ 0 = greatest_none f (drop (i + 1) ps) (get_or ps i d).course none in
    let whole : ℕ = f (get_or ps i d) in
    let most : ℕ = greatest f (get_or ps i d).course (drop (i + 1) ps) in
    let more_is' : more ≡ whole = more_is in
    let nothing' : most ≡ 0 = nothing in
    added_front f ps i sum more d low sum_is (let goal : more ≡ whole - most = omega arith in goal)

-- it is the highest of its course
pub peak_new : (f : Prospect → ℕ) (ps : List Prospect) (i own : ℕ) (d : Prospect) → i < length ps → own ≡ f (get_or ps i d)
    → has_course (drop (i + 1) ps) (get_or ps i d).course ≡ false → own ≡ greatest f (get_or ps i d).course (drop i ps)
peak_new f ps i own d low own_is none =
    let nothing : greatest f (get_or ps i d).course (drop (i + 1) ps) ≡ 0 = greatest_none f (drop (i + 1) ps) (get_or ps i d).course none in
    let most : own ≡ max own 0 = omega arith in
    peak_front f ps i own 0 own d low own_is (sym nothing) most

-- one more of a course that is there already
pub courses_same : (courses : ℕ) (ps : List Prospect) (i : ℕ) (d : Prospect) → i < length ps → bit_at courses (get_or ps i d).course ≡ 1
    → ((course : ℕ) → (bit_at courses course == 1) ≡ has_course (drop (i + 1) ps) course)
    → (course : ℕ) → (bit_at courses course == 1) ≡ has_course (drop i ps) course
courses_same courses ps i d low here there = courses_more courses courses ps i (get_or ps i d).course d low refl here (λ other apart. refl) there
