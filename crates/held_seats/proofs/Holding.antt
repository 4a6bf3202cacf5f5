-- What is held, with its counts, as one bundle changes.
use Rattle.std.proofs.Common.{ℕ, zero, suc, ◌≡◌, ◌<◌, ◌≤◌, ◌+◌, ◌||◌, ◌&&◌, ◌++◌, Bool, nat_eq, true, false, List, [], ◌∷◌, length, map, take, drop, All, Some, arith, refl, sym, ◌∙◌, ap, subst, inl, inr}
use Rattle.std.specs.Prelude.{option_map, slice_get, slice_index, slice_index_or, slice_set, nat_lt, if◌then◌else◌}
use Rattle.std.specs.Ordering.{nat_cmp}
use Rattle.std.specs.FinSet as set
use Rattle.std.proofs.lemmas.Bool.{cases_Bool, cases_lt, false≢true}
use Rattle.std.proofs.lemmas.Bool.Decides.{nat_tests}
use Rattle.std.specs.Cmp.Lexicographic.{pointwise}
use Rattle.std.proofs.lemmas.List.{get_or-map}
use Rattle.std.proofs.lemmas.Option.{slice_get_within, get_or_from_slice_get, slice_get-map, slice_get_read}
use Rattle.market_units.specs.declared.units.SectionNo.{SectionNo}
use Rattle.bundle_rules.specs.declared.bundle.Bundle.{Bundle}
use Rattle.bundle_rules.specs.Bundles.{sections_of}
use Rattle.market_units.specs.Members.{has}
use Rattle.bundle_rules.specs.Ordinals.{ordinals}
use Rattle.bundle_rules.specs.Places.{places_from}
use Rattle.demand_api.specs.Crowds.{holders}
use Rattle.demand_api.specs.Counting.{AreCounts, AreWithin, HasCounted}
use Rattle.demand_api.proofs.Takers.{listed_in, holders_few, index_same, lent_back, listed_by_place}
use Rattle.held_seats.specs.Choices.{is_free, may_choose}
use Rattle.held_seats.specs.Floors.{AreBelow}
use Rattle.held_seats.proofs.Freeing.{Tells, no_seats}
use Rattle.demand_api.proofs.Holders.{holders_set}

-- a bundle's sections have a count of 1 at least
pub holds_one : (s : ℕ) (held : List (List ℕ)) (i : ℕ) (bundle : List ℕ) → slice_get held i ≡ Some bundle → has bundle s ≡ true → 1 ≤ holders s held
holds_one s [] i bundle there in_it = absurd (cc there)
holds_one s (x ∷ xs) zero bundle there in_it =
    let same : x ≡ bundle = cc there in let is : has x s ≡ true = ap (λ b. has b s) same ∙ in_it in rw is (omega arith)
holds_one s (x ∷ xs) (suc i) bundle there in_it = let more = holds_one s xs i bundle there in_it in omega (arith, more)

-- what holds of each section of a bundle holds of each of its list
pub all_listed : (P : ℕ → Type 0) (sections : List SectionNo) (bundle : List ℕ) → ordinals sections ≡ bundle → ((s : ℕ) → has bundle s ≡ true → P s)
    → All (λ section. P section.0) sections
all_listed P sections bundle listed each =
    λ k d low. each (slice_index_or sections k d).0 (ap (λ b. has b (slice_index_or sections k d).0) (sym listed) ∙ listed_in sections k d low)

-- the bundle at a place has sections below the bound
pub below_at : (n : ℕ) (held : List (List ℕ)) (i : ℕ) (bundle : List ℕ) → AreBelow n held → slice_get held i ≡ Some bundle → (s : ℕ) → has bundle s ≡ true
    → s < n
below_at n held i bundle below there s in_it =
    let low = slice_get_within held i bundle there in
    let here = get_or_from_slice_get held i bundle bundle there in
    below i bundle low s (ap (λ b. has b s) here ∙ in_it)

-- the counts where a bundle was given up and another was taken
pub counts_after : (n : ℕ) (held : List (List ℕ)) (i : ℕ) (before after : List ℕ) (old between new : List ℕ) → AreCounts n held old
    → slice_get held i ≡ Some before → length between ≡ length old → length new ≡ length between
    → ((s : ℕ) → s < length old → HasCounted between old before s) → ((s : ℕ) → s < length between → HasCounted between new after s)
    → AreCounts n (slice_set held i after) new
counts_after n held i before after old between new are there size size' fewer more = record {
  len = size' ∙ size ∙ are.len;
  each = λ s low.
      let len = are.len in
      let was = are.each s low in
      let one : slice_index old s ≡ slice_index between s + (if has before s then 1 else 0) = fewer s (omega arith) in
      let two : slice_index new s ≡ slice_index between s + (if has after s then 1 else 0) = more s (omega arith) in
      let sums = holders_set s held i before after there in
      omega (arith, was, one, two, sums);
}

-- the counts leave room for a bundle
pub room_for : (n : ℕ) (held : List (List ℕ)) (before : List ℕ) (old between : List ℕ) (few : ℕ) → AreCounts n held old → length held ≤ 2000 → few ≤ 8
    → length between ≡ length old → ((s : ℕ) → s < length old → HasCounted between old before s)
    → All (λ count. count + few < 4294967296) between
room_for n held before old between few are short bundle size fewer k d low =
    let len = are.len in
    let at : slice_index old k ≡ holders k held = are.each k (omega arith) in
    let least : slice_index old k ≡ slice_index between k + (if has before k then 1 else 0) = fewer k (omega arith) in
    let most = holders_few k held in
    let read = index_same between k d low in
    omega (arith, at, least, most, read)

-- a section of neither bundle is as free as it was
unchanged : (n : ℕ) (held : List (List ℕ)) (i : ℕ) (before after : List ℕ) (old new seats : List ℕ) (s : ℕ) → n ≡ length seats → AreCounts n held old
    → AreCounts n (slice_set held i after) new → slice_get held i ≡ Some before → has before s ≡ false → has after s ≡ false
    → nat_lt (slice_index old s) (slice_index seats s) ≡ nat_lt (slice_index new s) (slice_index seats s)
unchanged n held i before after old new seats s size are are' there lacked leaves = elim (cases_lt s n) [
  | inl low ↦
      let was = are.each s low in
      let now = are'.each s low in
      let sums = rw (lacked, leaves) at (holders_set s held i before after there) in
      let same : slice_index old s ≡ slice_index new s = omega (arith, was, now, sums) in
      ap (λ count. nat_lt count (slice_index seats s)) same
  | inr past ↦ no_seats seats (slice_index old s) s (omega arith) ∙ sym (no_seats seats (slice_index new s) s (omega arith))
]

-- the free sections after both bundles' sections were looked at
pub free_after : (n : ℕ) (held : List (List ℕ)) (i : ℕ) (before after : List ℕ) (old new seats : List ℕ) (free between result : set.FinSet nat_cmp)
    → n ≡ length seats → AreCounts n held old → AreCounts n (slice_set held i after) new → slice_get held i ≡ Some before
    → ((s : ℕ) → set.contains free s ≡ nat_lt (slice_index old s) (slice_index seats s))
    → Tells (λ s. nat_lt (slice_index new s) (slice_index seats s)) free before between
    → Tells (λ s. nat_lt (slice_index new s) (slice_index seats s)) between after result
    → (s : ℕ) → set.contains result s ≡ nat_lt (slice_index new s) (slice_index seats s)
free_after n held i before after old new seats free between result size are are' there was first second s = elim (cases_Bool (has after s)) [
  | inl takes ↦ second s ∙ rw takes refl
  | inr leaves ↦ elim (cases_Bool (has before s)) [
    | inl had ↦ second s ∙ rw leaves (first s ∙ rw had refl)
    | inr lacked ↦ second s ∙ rw leaves (first s ∙ rw lacked (was s ∙ unchanged n held i before after old new seats s size are are' there lacked leaves))
  ]
]

-- what may be chosen, by the free sections that are kept
pub may_choose_of : (seats : List ℕ) (held : List (List ℕ)) (i : ℕ) (bundle : List ℕ) (counts : List ℕ) (free result : set.FinSet nat_cmp)
    → slice_get held i ≡ Some bundle → AreCounts (length seats) held counts
    → ((s : ℕ) → set.contains free s ≡ nat_lt (slice_index counts s) (slice_index seats s))
    → ((s : ℕ) → set.contains result s ≡ (has bundle s || set.contains free s)) → (s : ℕ) → set.contains result s ≡ may_choose seats held i s
may_choose_of seats held i bundle counts free result there are was told s =
    let own : slice_index_or held i [] ≡ bundle = get_or_from_slice_get held i bundle [] there in
    told s ∙ ap (λ b. b || set.contains free s) (ap (λ b. has b s) (sym own)) ∙ ap (λ b. has (slice_index_or held i []) s || b) (was s ∙ by_holders)
  where
    by_holders : nat_lt (slice_index counts s) (slice_index seats s) ≡ is_free seats held s
    by_holders = elim (cases_lt s (length seats)) [
      | inl low ↦ ap (λ count. nat_lt count (slice_index seats s)) (are.each s low)
      | inr past ↦ no_seats seats (slice_index counts s) s past ∙ sym (no_seats seats (holders s held) s past)
    ]

-- the bundle that is read at a place
pub there_at : (held : List Bundle) (i : ℕ) (item : Bundle) → i < length held → item ≡ slice_index_or held i item
    → slice_get (map sections_of held) i ≡ Some (sections_of item)
there_at held i item low is = slice_get-map sections_of held i ∙ ap (option_map sections_of) (slice_get_read held (length held) i item refl low is)

pub listed_at : (held : List Bundle) (i : ℕ) (item : Bundle) → i < length held → item ≡ slice_index_or held i item
    → sections_of item ≡ slice_index_or (map sections_of held) i []
listed_at held i item low is = ap sections_of is ∙ sym (get_or-map sections_of held i item [] low)

pub below_item : (n : ℕ) (held : List Bundle) (i : ℕ) (item : Bundle) → AreBelow n (map sections_of held) → i < length held → item ≡ slice_index_or held i item
    → (s : ℕ) → has (sections_of item) s ≡ true → s < n
below_item n held i item below low is = below_at n (map sections_of held) i (sections_of item) below (there_at held i item low is)

-- bundles that are each of sections below a number are so at each place
pub below_within : (n : ℕ) (bundles : List (List ℕ)) → AreBelow n bundles → AreWithin n bundles
below_within n [] below i s in_it = absurd (false≢true in_it)
below_within n (x ∷ xs) below zero s in_it = below 0 x (omega arith) s in_it
below_within n (x ∷ xs) below (suc i) s in_it =
    below_within n xs (λ k d low. below (suc k) d (let h : suc k < suc (length xs) = omega arith in h)) i s in_it

-- a greater bound
pub below_more : (n m : ℕ) (bundles : List (List ℕ)) → n ≤ m → AreBelow n bundles → AreBelow m bundles
below_more n m bundles up below k d low s in_it = let less = below k d low s in_it in omega (arith, less, up)

-- lists of numbers that test as equal are equal
pub same_lists : (xs ys : List ℕ) → pointwise nat_eq xs ys ≡ true → xs ≡ ys
same_lists [] [] same = refl
same_lists [] (y ∷ ys) same = absurd (false≢true same)
same_lists (x ∷ xs) [] same = absurd (false≢true same)
same_lists (x ∷ xs) (y ∷ ys) same =
    let first : x ≡ y = let head : nat_eq x y ≡ true = left_of (nat_eq x y) (pointwise nat_eq xs ys) same in grind (arith, nat_tests) in
    let rest : xs ≡ ys = same_lists xs ys (right_of (nat_eq x y) (pointwise nat_eq xs ys) same) in
    ap (λ z. z ∷ xs) first ∙ ap (λ zs. y ∷ zs) rest
  where
    left_of : (a b : Bool) → (a && b) ≡ true → a ≡ true
    left_of true b e = refl
    left_of false b e = absurd (false≢true e)

    right_of : (a b : Bool) → (a && b) ≡ true → b ≡ true
    right_of true b e = e
    right_of false b e = absurd (false≢true e)

-- and equal ones test so
pub equal_lists : (xs : List ℕ) → pointwise nat_eq xs xs ≡ true
equal_lists [] = refl
equal_lists (x ∷ xs) = let head : nat_eq x x ≡ true = grind (arith, nat_tests) in rw head (equal_lists xs)

-- the counts that were lent, after a bundle's sections were taken out of them
pub lent_is : (len : ℕ) (old lent between lent' : List ℕ) → len ≡ length old → lent ≡ old → length between ≡ length lent
    → lent' ≡ take len (between ++ drop (length between) old) → lent' ≡ between
lent_is len old lent between lent' size same kept is = is ∙ lent_back len between old (size ∙ ap length (sym same) ∙ sym kept)

-- the counts by the sections of the two bundles
pub recounted : (n i len : ℕ) (held : List (List ℕ)) (before after : List ℕ) (old lent between lent' new : List ℕ) (gone come : List SectionNo)
    → AreCounts n held old → slice_get held i ≡ Some before → len ≡ length old → ordinals gone ≡ before → ordinals come ≡ after
    → lent ≡ old → length between ≡ length lent → ((s : ℕ) → s < length lent → HasCounted between lent (ordinals gone) s)
    → lent' ≡ take len (between ++ drop (length between) old)
    → length new ≡ length lent' → ((s : ℕ) → s < length lent' → HasCounted lent' new (ordinals come) s) → AreCounts n (slice_set held i after) new
recounted n i len held before after old lent between lent' new gone come are there size listed listed' same kept fewer is kept' more =
    let back = lent_is len old lent between lent' size same kept is in
    counts_after n held i before after old between new are there (kept ∙ ap length same) (kept' ∙ ap length back)
    (λ s low. subst (λ l. HasCounted between l before s) same
    (subst (λ b. HasCounted between lent b s) listed (fewer s (let e = ap length same in omega (arith, e, low)))))
    (λ s low. subst (λ l. HasCounted l new after s) back
    (subst (λ b. HasCounted lent' new b s) listed' (more s (let e = ap length back in omega (arith, e, low)))))

-- what was told by lent counts and a lent list is told by the counts and the bundle
pub told_by : (seats read new : List ℕ) (free result : set.FinSet nat_cmp) (sections : List SectionNo) (bundle : List ℕ) → read ≡ new
    → ordinals sections ≡ bundle → Tells (λ s. nat_lt (slice_index read s) (slice_index seats s)) free (ordinals sections) result
    → Tells (λ s. nat_lt (slice_index new s) (slice_index seats s)) free bundle result
told_by seats read new free result sections bundle same listed told =
    subst (λ b. Tells (λ s. nat_lt (slice_index new s) (slice_index seats s)) free b result) listed
    (subst (λ r. Tells (λ s. nat_lt (slice_index r s) (slice_index seats s)) free (ordinals sections) result) same told)

-- each count is at most the number of students
pub counts_few : (n : ℕ) (held : List (List ℕ)) (counts : List ℕ) → AreCounts n held counts → length held ≤ 2000 → All (λ count. count ≤ 2000) counts
counts_few n held counts are few k d low =
    let size = are.len in
    let count = are.each k (omega (arith, low, size)) in
    let most = holders_few k held in
    omega (arith, count, most, index_same counts k d low)

-- the counts as a list
pub counts_are : (n : ℕ) (held : List (List ℕ)) (counts : List ℕ) → AreCounts n held counts → counts ≡ map (λ s. holders s held) (places_from 0 n)
counts_are n held counts are =
    listed_by_place (λ s. holders s held) counts 0
    (λ s low. are.each s (let size = are.len in omega (arith, low, size)) ∙ ap (λ t. holders t held) (let e : s ≡ 0 + s = omega arith in e))
    ∙ ap (λ m. map (λ s. holders s held) (places_from 0 m)) are.len
