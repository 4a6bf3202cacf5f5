-- What completes the chosen places is a choice of open ones.
use Rattle.std.proofs.Common.{◌≡◌, ◌≢◌, ℕ, zero, suc, ◌+◌, ◌-◌, ◌≤◌, ◌<◌, Bool, true, false, ◌==◌, List, [], ◌∷◌, ◌++◌, length, refl, sym, ap, ◌∙◌, arith, inl, inr, length-append}
use Rattle.std.specs.Prelude.{nat_le}
use Rattle.std.proofs.lemmas.Bool.{cases_Bool, cases_order, cases_lt, false≢true, true≢false}
use Rattle.std.proofs.lemmas.Bool.Decides.{nat_tests}
use Rattle.plain_facts.proofs.Numbers.{le_true}
use Rattle.market_units.specs.Totals.{total}
use Rattle.market_units.specs.Subsets.{chosen}
use Rattle.market_units.proofs.Sums.{total-append}
use Rattle.market_units.specs.Members.{has}
use Rattle.bundle_rules.specs.Sets.{AllAbove, IsAscending}
use Rattle.bundle_rules.specs.Existence.Members.{has-here, has-there, has-cases, has-above, has-append_left}
use Rattle.bundle_rules.specs.declared.menu.Rated.{Rated}
use Rattle.bundle_rules.specs.Menus.{course_at, IsMenu, clash_in, credits_at}
use Rattle.bundle_bounds.specs.Offers.{OfferData, price_at, allowed_at}
use Rattle.bundle_bounds.specs.Courses.{has_course}
use Rattle.bundle_bounds.specs.Opens.{budget_left, credits_left, courses_left, is_apart, is_open, opens_from, first_of_course, prospects}
use Rattle.bundle_bounds.proofs.Courses.{AreApartCourses}
use Rattle.bundle_rules.proofs.FirstDifference.{strip}
use Rattle.market_units.proofs.Memberships.{member_total}

-- places that may be taken together
pub record MayBeTaken (offer : OfferData) (ps : List ℕ) : Type 0 where
  pub ascending : IsAscending ps
  pub on_menu : (p : ℕ) → has ps p ≡ true → p < length offer.menu.places
  pub affordable : total (price_at offer) ps ≤ offer.budget
  pub credits : total (credits_at offer.menu.places) ps ≤ offer.menu.credits
  pub courses : length ps ≤ offer.menu.courses
  pub allowed : (p : ℕ) → has ps p ≡ true → allowed_at offer p ≡ true
  pub apart : (p q : ℕ) → has ps p ≡ true → has ps q ≡ true → p ≢ q → clash_in offer.menu.clashes p q ≡ false

pub not_below : (s : ℕ) (ss : List ℕ) (t : ℕ) → AllAbove s ss → t ≤ s → has ss t ≡ false
not_below s ss t above low =
    elim (cases_Bool (has ss t)) [
      | inl is ↦ let high = has-above s ss t above is in absurd (omega arith)
      | inr none ↦ none
    ]

-- two ascending lists with the same members below k, all of the one below k: the other begins with it
pub front_of : (k : ℕ) (cs ps : List ℕ) → IsAscending cs → IsAscending ps → ((c : ℕ) → has cs c ≡ true → c < k) → ((p : ℕ) → p < k → has ps p ≡ has cs p)
    → (ds : List ℕ) × (ps ≡ cs ++ ds) × ((d : ℕ) → has ds d ≡ true → k ≤ d)
front_of k [] ps up up' low same = (ps, refl, λ d is. elim (cases_lt d k) [ inl below ↦ absurd (true≢false (sym is ∙ same d below)) | inr above ↦ above ])
front_of k (c ∷ cs) [] up up' low same = absurd (false≢true (same c (low c (has-here c cs)) ∙ has-here c cs))
front_of k (c ∷ cs) (p ∷ ps) up up' low same =
    let c_low : c < k = low c (has-here c cs) in
    elim (cases_order p c) [
      | inl is ↦
          let rest = front_of k cs ps up.1 up'.1 (λ d h. low d (has-there c cs d h)) (λ q q_low.
          elim (cases_order c q) [
            | inl here ↦ not_below p ps q up'.0 (omega arith) ∙ sym (not_below c cs q up.0 (omega arith))
            | inr other ↦
                let apart : c ≢ q = λ e. elim other [ inl a ↦ absurd (omega arith) | inr b ↦ absurd (omega arith) ] in
                let apart' : p ≢ q = λ e. apart (sym is ∙ e) in sym (strip p ps q apart') ∙ same q q_low ∙ strip c cs q apart
          ]) in
          (rest.0, ap (λ l. p ∷ l) rest.1 ∙ ap (λ x. x ∷ (cs ++ rest.0)) is, rest.2)
      | inr (inl below) ↦
          let none : has (c ∷ cs) p ≡ false = strip c cs p (λ e. absurd (omega arith)) ∙ not_below c cs p up.0 (omega arith) in
          absurd (true≢false (sym (has-here p ps) ∙ same p (omega arith) ∙ none))
      | inr (inr above) ↦
          let none : has (p ∷ ps) c ≡ false = strip p ps c (λ e. absurd (omega arith)) ∙ not_below p ps c up'.0 (omega arith) in
          absurd (false≢true (sym none ∙ same c c_low ∙ has-here c cs))
    ]

member_length : (ds : List ℕ) (d : ℕ) → has ds d ≡ true → 1 ≤ length ds
member_length [] d is = absurd (false≢true is)
member_length (x ∷ ds) d is = omega arith

none_clash : (offer : OfferData) (cs : List ℕ) (d : ℕ) → ((c : ℕ) → has cs c ≡ true → clash_in offer.menu.clashes d c ≡ false) → is_apart offer cs d ≡ true
none_clash offer [] d none = refl
none_clash offer (c ∷ cs) d none = rw (none c (has-here c cs)) (none_clash offer cs d (λ t is. none t (has-there c cs t is)))

pub le_false : (a b : ℕ) → b < a → nat_le a b ≡ false
le_false a b h = grind (arith, nat_tests)

pub has-append_right : (xs ys : List ℕ) (s : ℕ) → has ys s ≡ true → has (xs ++ ys) s ≡ true
has-append_right [] ys s is = is
has-append_right (x ∷ xs) ys s is = has-there x (xs ++ ys) s (has-append_right xs ys s is)

-- each of what completes the chosen places is open
pub is_open-more : (offer : OfferData) (k : ℕ) (cs ds : List ℕ) → MayBeTaken offer (cs ++ ds) → ((c : ℕ) → has cs c ≡ true → c < k)
    → ((d : ℕ) → has ds d ≡ true → k ≤ d) → (d : ℕ) → has ds d ≡ true → is_open offer cs d ≡ true
is_open-more offer k cs ds may low high d is =
    let in_all : has (cs ++ ds) d ≡ true = has-append_right cs ds d is in
    let allowed = may.allowed d in_all in
    let apart : is_apart offer cs d ≡ true =
    none_clash offer cs d
    (λ c here. may.apart d c in_all (has-append_left cs ds c here) (λ e. let a = low c here in let b = high d is in absurd (omega arith))) in
    let price : price_at offer d ≤ budget_left offer cs =
    (let split = total-append (price_at offer) cs ds in
    let a : ℕ = total (price_at offer) (cs ++ ds) in
    let b : ℕ = total (price_at offer) cs in
    let c : ℕ = total (price_at offer) ds in
    let split' : a ≡ b + c = split in
    let member : price_at offer d ≤ c = member_total (price_at offer) ds d is in
    let all : a ≤ offer.budget = may.affordable in
    let goal : price_at offer d ≤ offer.budget - b = omega arith in goal) in
    let credits : credits_at offer.menu.places d ≤ credits_left offer cs =
    (let split = total-append (credits_at offer.menu.places) cs ds in
    let a : ℕ = total (credits_at offer.menu.places) (cs ++ ds) in
    let b : ℕ = total (credits_at offer.menu.places) cs in
    let c : ℕ = total (credits_at offer.menu.places) ds in
    let split' : a ≡ b + c = split in
    let member : credits_at offer.menu.places d ≤ c = member_total (credits_at offer.menu.places) ds d is in
    let all : a ≤ offer.menu.credits = may.credits in
    let goal : credits_at offer.menu.places d ≤ offer.menu.credits - b = omega arith in goal) in
    let courses : 1 ≤ courses_left offer cs =
    (let split : length (cs ++ ds) ≡ length cs + length ds = length-append cs ds in
    let some : 1 ≤ length ds = member_length ds d is in
    let all : length (cs ++ ds) ≤ offer.menu.courses = may.courses in
    let goal : 1 ≤ offer.menu.courses - length cs = omega arith in goal) in
    rw (
      allowed,
      apart,
      le_true (price_at offer d) (budget_left offer cs) price,
      le_true (credits_at offer.menu.places d) (credits_left offer cs) credits,
      le_true 1 (courses_left offer cs) courses,
    )
    refl

-- ascending open places are a choice of the open ones
pub among_opens : (offer : OfferData) (cs : List ℕ) (j count : ℕ) (ds : List ℕ) → IsAscending ds → ((d : ℕ) → has ds d ≡ true → j ≤ d)
    → ((d : ℕ) → has ds d ≡ true → d < j + count) → ((d : ℕ) → has ds d ≡ true → is_open offer cs d ≡ true)
    → (bs : List Bool) × (chosen bs (opens_from offer cs j count) ≡ ds)
among_opens offer cs j count [] up low high open_ = ([], refl)
among_opens offer cs j zero (d ∷ ds) up low high open_ = let a = low d (has-here d ds) in let b = high d (has-here d ds) in absurd (omega arith)
among_opens offer cs j (suc count) (d ∷ ds) up low high open_ =
    elim (cases_order j d) [
      | inl here ↦
          let opened : is_open offer cs j ≡ true = ap (is_open offer cs) here ∙ open_ d (has-here d ds) in
          let rest =
          among_opens offer cs (j + 1) count ds up.1 (λ x is. let above = has-above d ds x up.0 is in omega arith)
          (λ x is. let h = high x (has-there d ds x is) in omega arith) (λ x is. open_ x (has-there d ds x is)) in
          (true ∷ rest.0, rw opened (ap (λ l. j ∷ l) rest.1 ∙ ap (λ x. x ∷ ds) here))
      | inr (inl below) ↦
          let rest =
          among_opens offer cs (j + 1) count (d ∷ ds) up
          (λ x is. elim (has-cases d ds x is) [ inl e ↦ omega arith | inr there ↦ let above = has-above d ds x up.0 there in omega arith ])
          (λ x is. let h = high x is in omega arith) open_ in
          elim (cases_Bool (is_open offer cs j)) [
            | inl opened ↦ (false ∷ rest.0, rw opened rest.1)
            | inr shut ↦ (rest.0, rw shut rest.1)
          ]
      | inr (inr above) ↦ let a = low d (has-here d ds) in absurd (omega arith)
    ]

-- ---- what is known of chosen open places

abbrev pub course_of : OfferData → ℕ → ℕ
course_of offer place = first_of_course offer.menu.places (course_at offer.menu.places place)

module _ (offer : OfferData) (cs : List ℕ) where
  pub prices_of : (bs : List Bool) (os : List ℕ) → total (λ p. p.price) (chosen bs (prospects offer cs os)) ≡ total (price_at offer) (chosen bs os)
  prices_of [] os = refl
  prices_of (b ∷ bs) [] = refl
  prices_of (true ∷ bs) (r ∷ os) = ap (λ n. price_at offer r + n) (prices_of bs os)
  prices_of (false ∷ bs) (r ∷ os) = prices_of bs os

  pub credits_of : (bs : List Bool) (os : List ℕ)
      → total (λ p. p.credits) (chosen bs (prospects offer cs os)) ≡ total (credits_at offer.menu.places) (chosen bs os)
  credits_of [] os = refl
  credits_of (b ∷ bs) [] = refl
  credits_of (true ∷ bs) (r ∷ os) = ap (λ n. credits_at offer.menu.places r + n) (credits_of bs os)
  credits_of (false ∷ bs) (r ∷ os) = credits_of bs os

  pub count_of : (bs : List Bool) (os : List ℕ) → total (λ p. 1) (chosen bs (prospects offer cs os)) ≡ length (chosen bs os)
  count_of [] os = refl
  count_of (b ∷ bs) [] = refl
  count_of (true ∷ bs) (r ∷ os) = let rest = count_of bs os in omega arith
  count_of (false ∷ bs) (r ∷ os) = count_of bs os

  place_with : (bs : List Bool) (os : List ℕ) (c : ℕ) → has_course (chosen bs (prospects offer cs os)) c ≡ true
      → (q : ℕ) × (has (chosen bs os) q ≡ true) × (course_of offer q ≡ c)
  place_with [] os c is = absurd (false≢true is)
  place_with (b ∷ bs) [] c is = absurd (false≢true is)
  place_with (false ∷ bs) (r ∷ os) c is = place_with bs os c is
  place_with (true ∷ bs) (r ∷ os) c is =
      elim (cases_Bool (course_of offer r == c)) [
        | inl same ↦ (r, has-here r (chosen bs os), grind (arith, nat_tests))
        | inr other ↦ let rest = place_with bs os c (rw other at is) in (rest.0, has-there r (chosen bs os) rest.0 rest.1, rest.2)
      ]

  pub courses_apart : (bs : List Bool) (os : List ℕ) → IsAscending (chosen bs os)
      → ((p q : ℕ) → has (chosen bs os) p ≡ true → has (chosen bs os) q ≡ true → p ≢ q → course_of offer p ≢ course_of offer q)
      → AreApartCourses (chosen bs (prospects offer cs os))
  courses_apart [] os up apart = tt
  courses_apart (b ∷ bs) [] up apart = tt
  courses_apart (false ∷ bs) (r ∷ os) up apart = courses_apart bs os up apart
  courses_apart (true ∷ bs) (r ∷ os) up apart = (
    elim (cases_Bool (has_course (chosen bs (prospects offer cs os)) (course_of offer r))) [
      | inl again ↦
          let other = place_with bs os (course_of offer r) again in
          let above = has-above r (chosen bs os) other.0 up.0 other.1 in
          absurd (apart other.0 r (has-there r (chosen bs os) other.0 other.1) (has-here r (chosen bs os)) (λ e. absurd (omega arith)) other.2)
      | inr new ↦ new
    ],
    courses_apart bs os up.1 (λ p q is is' other. apart p q (has-there r (chosen bs os) p is) (has-there r (chosen bs os) q is') other),
  )

-- the first place of a place's course is of that course
course_at-first : (places : List Rated) (p : ℕ) → p < length places → course_at places (first_of_course places (course_at places p)) ≡ course_at places p
course_at-first [] p low = absurd (omega arith)
course_at-first (rated ∷ places) zero low = let same : (rated.course == rated.course) ≡ true = grind (arith, nat_tests) in rw same refl
course_at-first (rated ∷ places) (suc p) low =
    elim (cases_Bool (rated.course == course_at places p)) [
      | inl same ↦ rw same (grind (arith, nat_tests))
      | inr other ↦ rw other (course_at-first places p (omega arith))
    ]

-- places that do not clash are of different courses
pub other_course : (offer : OfferData) (p q : ℕ) → IsMenu offer.menu → p < length offer.menu.places → q < length offer.menu.places → p ≢ q
    → clash_in offer.menu.clashes p q ≡ false → course_of offer p ≢ course_of offer q
other_course offer p q menu low low' apart none same =
    let course : course_at offer.menu.places p ≡ course_at offer.menu.places q =
    sym (course_at-first offer.menu.places p low) ∙ ap (course_at offer.menu.places) same ∙ course_at-first offer.menu.places q low' in
    true≢false (sym ((menu.clashes.each p q low low').one_course apart course) ∙ none)
