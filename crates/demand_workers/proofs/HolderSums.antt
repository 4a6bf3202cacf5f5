-- How many holders are listed, and how many students take a section.
use Rattle.std.proofs.Common.{ℕ, zero, suc, Bool, true, false, ◌≡◌, ◌≢◌, ◌<◌, ◌≤◌, ◌+◌, ◌==◌, ◌∙◌, List, [], ◌∷◌, All, length, slice_index_or, refl, ap, sym, arith, inl, inr}
use Rattle.std.specs.Prelude.{if◌then◌else◌}
use Rattle.std.proofs.lemmas.Bool.{cases_Bool, false≢true, ne_eqb}
use Rattle.std.proofs.lemmas.Bool.Decides.{nat_tests}
use Rattle.std.proofs.lemmas.List.Elements.{All-tail}
use Rattle.std.proofs.lemmas.List.Sums.{sum_by-cons}
use Rattle.market_units.specs.Totals.{total}
use Rattle.market_units.proofs.Sums.{total-le}
use Rattle.market_units.specs.Members.{has}
use Rattle.bundle_rules.specs.Places.{places_from}
use Rattle.demand_api.specs.Crowds.{CrowdData, demands, count}
use Rattle.demand_api.specs.Prices.{with_price}
use Rattle.demand_api.proofs.Counts.{total_none, length-demands}
use Rattle.demand_workers.specs.Leaving.{takes, listed}

-- a sum of sums, number by number
total_split : (f g h : ℕ → ℕ) (ns : List ℕ) → ((i : ℕ) → f i ≡ g i + h i) → total f ns ≡ total g ns + total h ns
total_split f g h [] each = omega arith
total_split f g h (n ∷ ns) each = omega (arith, each n, total_split f g h ns each)

-- over the next numbers
total_next : (f : ℕ → ℕ) (first n : ℕ) → total f (places_from (suc first) n) ≡ total (λ i. f (suc i)) (places_from first n)
total_next f first zero = refl
total_next f first (suc n) = ap (λ more. f (suc first) + more) (total_next f (suc first) n)

-- a total over bundles, by their places
total_by_place : (g : List ℕ → ℕ) (bundles : List (List ℕ)) → total g bundles ≡ total (λ i. g (slice_index_or bundles i [])) (places_from 0 (length bundles))
total_by_place g [] = refl
total_by_place g (b ∷ bs) =
    ap (λ more. g b + more) (total_by_place g bs ∙ sym (total_next (λ i. g (slice_index_or (b ∷ bs) i [])) 0 (length bs)))

-- 1 at one number, 0 at the others
abbrev pub one_at : ℕ → ℕ → ℕ
one_at m i = if m == i then 1 else 0

-- the sum over numbers of which it is none, and over numbers of which it is one
none_at : (m first n : ℕ) → m < first → total (one_at m) (places_from first n) ≡ 0
none_at m first zero low = refl
none_at m first (suc n) low = rw (ne_eqb m first (λ e. absurd (omega arith))) (omega (arith, none_at m (suc first) n (omega arith)))

once_at : (m first n : ℕ) → first ≤ m → m < first + n → total (one_at m) (places_from first n) ≡ 1
once_at m first zero low high = absurd (omega arith)
once_at m first (suc n) low high = elim (cases_Bool (m == first)) [
  | inl is ↦ let e : m ≡ first = grind (arith, nat_tests) in rw is (omega (arith, none_at m (suc first) n (omega arith)))
  | inr apart ↦ let e : m ≢ first = λ e. grind (arith, nat_tests) in rw apart (omega (arith, once_at m (suc first) n (omega arith) (omega arith)))
]

-- one holder more
pub listed-cons : (i : ℕ) (h : ℕ × ℕ) (hs : List (ℕ × ℕ)) → listed i (h ∷ hs) ≡ one_at h.1 i + listed i hs
listed-cons i h hs = sum_by-cons (λ (holder : ℕ × ℕ). if holder.1 == i then 1 else 0) h hs

-- the holders are as many as they are listed
length_listed : (n : ℕ) (hs : List (ℕ × ℕ)) → All (λ (h : ℕ × ℕ). h.1 < n) hs → length hs ≡ total (λ i. listed i hs) (places_from 0 n)
length_listed n [] all = sym (total_none (places_from 0 n))
length_listed n (h ∷ hs) all =
    let low : h.1 < n = all 0 h (omega arith) in
    let one = once_at h.1 0 n (omega arith) (omega arith) in
    let rest = length_listed n hs (All-tail (λ (h : ℕ × ℕ). h.1 < n) h hs all) in
    let split = total_split (λ i. listed i (h ∷ hs)) (one_at h.1) (λ i. listed i hs) (places_from 0 n) (λ i. listed-cons i h hs) in
    omega arith

-- of numbers of which each is at most 1, the sum is at most how many they are
total_few : (f : ℕ → ℕ) (first n : ℕ) → ((i : ℕ) → f i ≤ 1) → total f (places_from first n) ≤ n
total_few f first zero few = omega arith
total_few f first (suc n) few = omega (arith, few first, total_few f (suc first) n few)

-- the holders are at most as many as the students, where each is listed once
pub few_holders : (n : ℕ) (hs : List (ℕ × ℕ)) → All (λ (h : ℕ × ℕ). h.1 < n) hs → ((i : ℕ) → listed i hs ≤ 1) → length hs ≤ n
few_holders n hs within once = omega (arith, length_listed n hs within, total_few (λ i. listed i hs) 0 n once)

-- who does not take the section is not listed, where all listed ones take it
not_listed : (t : ℕ → Bool) (hs : List (ℕ × ℕ)) (i : ℕ) → All (λ (h : ℕ × ℕ). t h.1 ≡ true) hs → t i ≡ false → listed i hs ≡ 0
not_listed t [] i all lacks = refl
not_listed t (h ∷ hs) i all lacks =
    let apart : (h.1 == i) ≡ false = ne_eqb h.1 i (λ e. false≢true (sym lacks ∙ ap t (sym e) ∙ all 0 h (omega arith))) in
    let rest : listed i hs ≡ 0 = not_listed t hs i (All-tail (λ (h : ℕ × ℕ). t h.1 ≡ true) h hs all) lacks in
    listed-cons i h hs ∙ rw apart (omega arith)

module _ (crowd : CrowdData) (price : ℕ → ℕ) (s p : ℕ) (hs : List (ℕ × ℕ)) (within : All (λ (h : ℕ × ℕ). h.1 < length crowd.students) hs) where
  abbrev ind : ℕ → ℕ
  ind i = if takes crowd price s p i then 1 else 0

  abbrev places : List ℕ
  places = places_from 0 (length crowd.students)

  counted : count crowd (with_price price s p) s ≡ total ind places
  counted =
      total_by_place (λ bundle. if has bundle s then 1 else 0) (demands crowd (with_price price s p))
      ∙ ap (λ n. total ind (places_from 0 n)) (length-demands crowd (with_price price s p))

  -- if each holder takes the section, and each is listed once, at least as many students take it
  pub count_at_least : ((i : ℕ) → listed i hs ≤ 1) → All (λ (h : ℕ × ℕ). takes crowd price s p h.1 ≡ true) hs → length hs ≤ count crowd (with_price price s p) s
  count_at_least once all =
      omega (arith, counted, length_listed (length crowd.students) hs within, total-le (λ i. listed i hs) ind places each)
    where
      each : (i : ℕ) → listed i hs ≤ ind i
      each i = elim (cases_Bool (takes crowd price s p i)) [
        | inl is ↦ rw is (once i)
        | inr lacks ↦ let none : listed i hs ≡ 0 = not_listed (takes crowd price s p) hs i all lacks in rw lacks (omega arith)
      ]

  -- if who takes the section is listed, at most as many students take it
  pub count_at_most : ((i : ℕ) → takes crowd price s p i ≡ true → 1 ≤ listed i hs) → count crowd (with_price price s p) s ≤ length hs
  count_at_most others =
      omega (arith, counted, length_listed (length crowd.students) hs within, total-le ind (λ i. listed i hs) places each)
    where
      each : (i : ℕ) → ind i ≤ listed i hs
      each i = elim (cases_Bool (takes crowd price s p i)) [
        | inl is ↦ rw is (others i is)
        | inr lacks ↦ rw lacks (omega arith)
      ]
