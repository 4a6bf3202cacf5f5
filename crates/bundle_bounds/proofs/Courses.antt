-- At most one of each course: what is chosen is no more than the greatest of each course.
use Rattle.std.proofs.Common.{◌≡◌, ◌≢◌, ℕ, ◌+◌, ◌*◌, ◌-◌, ◌≤◌, max, Bool, true, false, ◌==◌, List, [], ◌∷◌, refl, sym, ◌∙◌, arith, inl, inr}
use Rattle.std.specs.Prelude.{if◌then◌else◌, ⊤}
use Rattle.std.proofs.Math.Nat.{mul-add, mul-le-mul_left}
use Rattle.std.proofs.lemmas.Bool.{cases_Bool, eq-eqb, or_left, false≢true, true≢false}
use Rattle.std.proofs.lemmas.Bool.Decides.{nat_tests}
use Rattle.market_units.specs.Totals.{total}
use Rattle.market_units.specs.Subsets.{chosen}
use Rattle.market_units.specs.Members.{has}
use Rattle.bundle_rules.specs.Existence.Members.{has-here, has-there, has-cases}
use Rattle.bundle_bounds.specs.declared.prospects.Prospect.{Prospect}
use Rattle.bundle_bounds.specs.declared.prospects.Resource.{Resource}
use Rattle.bundle_bounds.specs.Courses.{takes_of, has_course, courses_of, greatest, by_course}
use Rattle.bundle_bounds.specs.Bounds.{over_price}

-- P of each
abbrev pub Each : (Prospect → Type 0) → List Prospect → Type 0
Each P [] = ⊤
Each P (p ∷ ps) = P p × Each P ps

pub each_weaker : (P Q : Prospect → Type 0) (ps : List Prospect) → ((p : Prospect) → P p → Q p) → Each P ps → Each Q ps
each_weaker P Q [] weaker all = tt
each_weaker P Q (p ∷ ps) weaker all = (weaker p all.0, each_weaker P Q ps weaker all.1)

-- no two of these are of one course
abbrev pub AreApartCourses : List Prospect → Type 0
AreApartCourses [] = ⊤
AreApartCourses (p ∷ ps) = (has_course ps p.course ≡ false) × AreApartCourses ps

-- the numbers without the first that is this one
abbrev pub without : ℕ → List ℕ → List ℕ
without c [] = []
without c (d ∷ ds) = if d == c then ds else d ∷ without c ds

pub total-without : (g : ℕ → ℕ) (c : ℕ) (ds : List ℕ) → has ds c ≡ true → total g ds ≡ g c + total g (without c ds)
total-without g c [] is = absurd (false≢true is)
total-without g c (d ∷ ds) is =
    elim (cases_Bool (d == c)) [
      | inl same ↦ let e : d ≡ c = grind (arith, nat_tests) in rw (same, e) refl
      | inr other ↦
          let later : has ds c ≡ true = rw other at is in
          let rest : total g ds ≡ g c + total g (without c ds) = total-without g c ds later in
          let a : ℕ = total g ds in
          let b : ℕ = total g (without c ds) in
          let rest' : a ≡ g c + b = rest in
          rw other (let goal : g d + a ≡ g c + (g d + b) = omega arith in goal)
    ]

pub has-without : (c d : ℕ) (ds : List ℕ) → d ≢ c → has ds d ≡ true → has (without c ds) d ≡ true
has-without c d [] apart is = is
has-without c d (x ∷ ds) apart is =
    elim (cases_Bool (x == c)) [
      | inl same ↦
          let e : x ≡ c = grind (arith, nat_tests) in
          elim (has-cases x ds d is) [
            | inl here ↦ absurd (apart (sym here ∙ e))
            | inr there ↦ rw same there
          ]
      | inr other ↦
          elim (has-cases x ds d is) [
            | inl here ↦ rw (other, here) (has-here d (without c ds))
            | inr there ↦ rw other (has-there x (without c ds) d (has-without c d ds apart there))
          ]
    ]

has_course-other : (ps : List Prospect) (c : ℕ) → has_course ps c ≡ false → Each (λ p. p.course ≢ c) ps
has_course-other [] c none = tt
has_course-other (p ∷ ps) c none =
    elim (cases_Bool (p.course == c)) [
      | inl same ↦ absurd (true≢false (sym (or_left (p.course == c) (has_course ps c) same) ∙ none))
      | inr other ↦ ((λ e. false≢true (sym other ∙ eq-eqb p.course c e)), has_course-other ps c (rw other at none))
    ]

both_each : (P Q : Prospect → Type 0) (ps : List Prospect) → Each P ps → Each Q ps → Each (λ p. P p × Q p) ps
both_each P Q [] a b = tt
both_each P Q (p ∷ ps) a b = ((a.0, b.0), both_each P Q ps a.1 b.1)

-- what has different courses among these adds up to no more than all of these
total_apart : (g : ℕ → ℕ) (qs : List Prospect) (cs : List ℕ) → AreApartCourses qs → Each (λ q. has cs q.course ≡ true) qs
    → total (λ q. g q.course) qs ≤ total g cs
total_apart g [] cs apart among = omega arith
total_apart g (q ∷ qs) cs apart among =
    let others = both_each (λ p. p.course ≢ q.course) (λ p. has cs p.course ≡ true) qs (has_course-other qs q.course apart.0) among.1 in
    let left : Each (λ p. has (without q.course cs) p.course ≡ true) qs =
    each_weaker _ (λ p. has (without q.course cs) p.course ≡ true) qs (λ p b. has-without q.course p.course cs b.0 b.1) others in
    let rest : total (λ p. g p.course) qs ≤ total g (without q.course cs) = total_apart g qs (without q.course cs) apart.1 left in
    let whole : total g cs ≡ g q.course + total g (without q.course cs) = total-without g q.course cs among.0 in
    let a : ℕ = total (λ p. g p.course) qs in
    let b : ℕ = total g (without q.course cs) in
    let c : ℕ = total g cs in
    let rest' : a ≤ b = rest in
    let whole' : c ≡ g q.course + b = whole in
    let goal : g q.course + a ≤ c = omega arith in goal

greatest-more : (f : Prospect → ℕ) (p : Prospect) (ps : List Prospect) (c : ℕ) → greatest f c ps ≤ greatest f c (p ∷ ps)
greatest-more f p ps c =
    elim (cases_Bool (p.course == c)) [
      | inl same ↦ rw same (let g : ℕ = greatest f c ps in let goal : g ≤ max (f p) g = omega arith in goal)
      | inr other ↦ rw other (omega arith)
    ]

-- each of the chosen is at most the greatest of its course
chosen_below : (f : Prospect → ℕ) (bs : List Bool) (ps : List Prospect) → Each (λ q. f q ≤ greatest f q.course ps) (chosen bs ps)
chosen_below f [] ps = tt
chosen_below f (b ∷ bs) [] = tt
chosen_below f (false ∷ bs) (p ∷ ps) =
    each_weaker _ _ (chosen bs ps) (λ q h. let more = greatest-more f p ps q.course in omega (arith, more)) (chosen_below f bs ps)
chosen_below f (true ∷ bs) (p ∷ ps) = (
  rw (eq-eqb p.course p.course refl) (let g : ℕ = greatest f p.course ps in let goal : f p ≤ max (f p) g = omega arith in goal),
  each_weaker _ _ (chosen bs ps) (λ q h. let more = greatest-more f p ps q.course in omega (arith, more)) (chosen_below f bs ps),
)

courses-more : (p : Prospect) (ps : List Prospect) (c : ℕ) → has (courses_of ps) c ≡ true → has (courses_of (p ∷ ps)) c ≡ true
courses-more p ps c is =
    elim (cases_Bool (has_course ps p.course)) [
      | inl again ↦ rw again is
      | inr new ↦ rw new (has-there p.course (courses_of ps) c is)
    ]

pub has_course-courses : (ps : List Prospect) (c : ℕ) → has_course ps c ≡ true → has (courses_of ps) c ≡ true
has_course-courses [] c is = absurd (false≢true is)
has_course-courses (p ∷ ps) c is =
    elim (cases_Bool (p.course == c)) [
      | inl same ↦
          let e : p.course ≡ c = grind (arith, nat_tests) in
          elim (cases_Bool (has_course ps p.course)) [
            | inl again ↦ rw again (has_course-courses ps c (rw e at again))
            | inr new ↦ rw (new, e) (has-here c (courses_of ps))
          ]
      | inr other ↦ courses-more p ps c (has_course-courses ps c (rw other at is))
    ]

chosen_courses : (bs : List Bool) (ps : List Prospect) → Each (λ q. has (courses_of ps) q.course ≡ true) (chosen bs ps)
chosen_courses [] ps = tt
chosen_courses (b ∷ bs) [] = tt
chosen_courses (false ∷ bs) (p ∷ ps) = each_weaker _ _ (chosen bs ps) (λ q h. courses-more p ps q.course h) (chosen_courses bs ps)
chosen_courses (true ∷ bs) (p ∷ ps) = (
  has_course-courses (p ∷ ps) p.course (or_left (p.course == p.course) (has_course ps p.course) (eq-eqb p.course p.course refl)),
  each_weaker _ _ (chosen bs ps) (λ q h. courses-more p ps q.course h) (chosen_courses bs ps),
)

total_each : (f g : Prospect → ℕ) (qs : List Prospect) → Each (λ q. f q ≤ g q) qs → total f qs ≤ total g qs
total_each f g [] each = omega arith
total_each f g (q ∷ qs) each =
    let rest : total f qs ≤ total g qs = total_each f g qs each.1 in
    let a : ℕ = total f qs in
    let b : ℕ = total g qs in
    let rest' : a ≤ b = rest in
    let here : f q ≤ g q = each.0 in
    let goal : f q + a ≤ g q + b = omega arith in goal

-- what is chosen, at most one of each course, is no more than the greatest of each course
pub chosen_by_course : (f : Prospect → ℕ) (bs : List Bool) (ps : List Prospect) → AreApartCourses (chosen bs ps) → total f (chosen bs ps) ≤ by_course f ps
chosen_by_course f bs ps apart =
    let below : total f (chosen bs ps) ≤ total (λ q. greatest f q.course ps) (chosen bs ps) =
    total_each f (λ q. greatest f q.course ps) (chosen bs ps) (chosen_below f bs ps) in
    let courses : total (λ q. greatest f q.course ps) (chosen bs ps) ≤ by_course f ps =
    total_apart (λ c. greatest f c ps) (chosen bs ps) (courses_of ps) apart (chosen_courses bs ps) in
    let a : ℕ = total f (chosen bs ps) in
    let b : ℕ = total (λ q. greatest f q.course ps) (chosen bs ps) in
    let c : ℕ = by_course f ps in
    let below' : a ≤ b = below in
    let courses' : b ≤ c = courses in
    let goal : a ≤ c = omega arith in goal

-- 1000 times the worth is no more than what is left over the price, and the price of what is taken
pub priced : (resource : Resource) (price : ℕ) (qs : List Prospect)
    → 1000 * total (λ p. p.worth) qs ≤ total (over_price resource price) qs + price * total (takes_of resource) qs
priced resource price [] = omega arith
priced resource price (p ∷ qs) =
    let rest = priced resource price qs in
    let a : ℕ = total (λ q. q.worth) qs in
    let o : ℕ = total (over_price resource price) qs in
    let t : ℕ = total (takes_of resource) qs in
    let m : ℕ = price * t in
    let rest' : 1000 * a ≤ o + m = rest in
    let q : ℕ = price * takes_of resource p in
    let split : price * (takes_of resource p + t) ≡ q + m = mul-add price (takes_of resource p) t in
    rw split (let goal : 1000 * (p.worth + a) ≤ (1000 * p.worth - q) + o + (q + m) = omega arith in goal)

pub priced_within : (resource : Resource) (price rest : ℕ) (qs : List Prospect) → total (takes_of resource) qs ≤ rest
    → 1000 * total (λ p. p.worth) qs ≤ total (over_price resource price) qs + price * rest
priced_within resource price rest qs fits =
    let a : ℕ = 1000 * total (λ p. p.worth) qs in
    let o : ℕ = total (over_price resource price) qs in
    let m : ℕ = price * total (takes_of resource) qs in
    let r : ℕ = price * rest in
    let first : a ≤ o + m = priced resource price qs in
    let second : m ≤ r = mul-le-mul_left price fits in
    let goal : a ≤ o + r = omega arith in goal
