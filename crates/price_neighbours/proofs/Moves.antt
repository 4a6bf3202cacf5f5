-- Vectors in which one section alone has another price.
use Rattle.std.proofs.Common.{Vec, Global, ℕ, zero, suc, ◌+◌, ◌-◌, ◌<◌, ◌≤◌, ◌≡◌, ◌∙◌, ◌++◌, ◌∷◌, [], true, false, List, length, map, get_or, refl, sym, ap, subst, arith, zero-add}
use Rattle.std.specs.Prelude.{All, flat_map, filter, slice_index, slice_index_or, Option, Some, nat_lt}
use Rattle.std.specs.List.{range_with_len, AllZip}
use Rattle.std.proofs.lemmas.Bool.Decides.{nat_tests}
use Rattle.std.proofs.lemmas.List.{get_or-map, length-map, append-nil, flat_map_more, length_push, map_push}
use Rattle.std.proofs.lemmas.List.Elements.{filter-append, All-map}
use Rattle.market_units.specs.declared.units.Tokens.{Tokens}
use Rattle.market_units.specs.declared.units.SectionNo.{SectionNo}
use Rattle.bundle_rules.specs.Places.{places_from}
use Rattle.bundle_rules.specs.Demand.{price_in}
use Rattle.demand_api.specs.Crowds.{CrowdData, IsCrowd, demands, count, counts}
use Rattle.demand_api.specs.Prices.{IsLeastFrom, AreLeastPrices}
use Rattle.demand_api.proofs.Takers.{holders_few}
use Rattle.price_neighbours.specs.Neighbours.{with_alone, least_fewer, alone}
use Rattle.price_neighbours.specs.Asked.{is_over, pair_of}
use Rattle.price_neighbours.proofs.Ranges.{range_more, range_at}
use Rattle.price_neighbours.proofs.Pairs.{over_then, over_still}
use Rattle.price_neighbours.proofs.Leasts.{least_asked}
use Rattle.price_neighbours.proofs.Distinctness.{vectors_of}
use Rattle.demand_api.proofs.Counts.{length-demands}
use Rattle.bundle_rules.proofs.PlaceLists.{length-places_from}

place_at : (first n i d : ℕ) → i < n → get_or (places_from first n) i d ≡ first + i
place_at first zero i d below = absurd (omega arith)
place_at first (suc n) zero d below = omega arith
place_at first (suc n) (suc i) d below = omega (arith, place_at (suc first) n i d (omega arith))

-- the count of a section in the list of all counts
pub count_at : (crowd : CrowdData) (price : ℕ → ℕ) (found : List ℕ) (s : ℕ) → found ≡ counts crowd price → s < crowd.sections
    → slice_index found s ≡ count crowd price s
count_at crowd price found s is low =
    ap (λ l. slice_index l s) is
    ∙ get_or-map (count crowd price) (places_from 0 crowd.sections) s 0 0 (rw (length-places_from 0 crowd.sections) low)
    ∙ ap (count crowd price) (place_at 0 crowd.sections s 0 low ∙ zero-add s)

pub length_counts : (crowd : CrowdData) (price : ℕ → ℕ) (found : List ℕ) → found ≡ counts crowd price → length found ≡ crowd.sections
length_counts crowd price found is = ap length is ∙ length-map (places_from 0 crowd.sections) (count crowd price) ∙ length-places_from 0 crowd.sections

-- what a section makes
pub alone_over : (least : ℕ → Option ℕ) (counted : ℕ → ℕ) (seats : List ℕ) (prices : List Tokens) (s p : ℕ) → slice_index seats s < counted s → least s ≡ Some p
    → alone least counted seats prices s ≡ with_alone prices s p ∷ []
alone_over least counted seats prices s p over is = let t : nat_lt (slice_index seats s) (counted s) ≡ true = grind (arith, nat_tests) in rw (t, is) refl

pub alone_free : (least : ℕ → Option ℕ) (counted : ℕ → ℕ) (seats : List ℕ) (prices : List Tokens) (s : ℕ) → counted s < slice_index seats s
    → 0 < price_in prices s → alone least counted seats prices s ≡ with_alone prices s 0 ∷ []
alone_free least counted seats prices s free paid =
    let f : nat_lt (slice_index seats s) (counted s) ≡ false = grind (arith, nat_tests) in
    let t : nat_lt (counted s) (slice_index seats s) ≡ true = grind (arith, nat_tests) in
    let u : nat_lt 0 (price_in prices s) ≡ true = grind (arith, nat_tests) in
    rw (f, t, u) refl

pub alone_full : (least : ℕ → Option ℕ) (counted : ℕ → ℕ) (seats : List ℕ) (prices : List Tokens) (s : ℕ) → counted s ≡ slice_index seats s
    → alone least counted seats prices s ≡ []
alone_full least counted seats prices s full =
    let f : nat_lt (slice_index seats s) (counted s) ≡ false = grind (arith, nat_tests) in
    let g : nat_lt (counted s) (slice_index seats s) ≡ false = grind (arith, nat_tests) in
    rw (f, g) refl

pub alone_unpaid : (least : ℕ → Option ℕ) (counted : ℕ → ℕ) (seats : List ℕ) (prices : List Tokens) (s : ℕ) → counted s < slice_index seats s
    → price_in prices s ≡ 0 → alone least counted seats prices s ≡ []
alone_unpaid least counted seats prices s free unpaid =
    let f : nat_lt (slice_index seats s) (counted s) ≡ false = grind (arith, nat_tests) in
    let t : nat_lt (counted s) (slice_index seats s) ≡ true = grind (arith, nat_tests) in
    let u : nat_lt 0 (price_in prices s) ≡ false = grind (arith, nat_tests) in
    rw (f, t, u) refl

-- what the next section makes comes last
pub moves_more : (f : ℕ → List (List Tokens)) (before now later made : List (List Tokens)) (n : ℕ) → now ≡ before ++ flat_map f (range_with_len 0 n)
    → f n ≡ made → later ≡ now ++ made → later ≡ before ++ flat_map f (range_with_len 0 (n + 1))
moves_more f before now later made n so_far is more =
    let at : 0 + n ≡ n = omega arith in
    let next : range_with_len 0 (n + 1) ≡ range_with_len 0 n ++ n ∷ [] = range_more 0 n ∙ ap (λ k. range_with_len 0 n ++ k ∷ []) at in
    rw (more, so_far, ← is, next) (flat_map_more f before (range_with_len 0 n) n)

-- the item beside one in the middle
zip_at : {A B C : Type 0} (R : B → C → Type 0) (f : A → B) (xs : List A) (y : A) (ys : List A) (found : List C) (d : C) → AllZip R (map f (xs ++ y ∷ ys)) found
    → (length xs < length found) × R (f y) (get_or found (length xs) d)
zip_at R f [] y ys [] d zip = absurd zip
zip_at R f [] y ys (p ∷ ps) d zip = (omega arith, zip.0)
zip_at R f (x ∷ xs) y ys [] d zip = absurd zip
zip_at R f (x ∷ xs) y ys (p ∷ ps) d zip = let later = zip_at R f xs y ys ps d zip.1 in (omega (arith, later.0), later.1)

-- the next least price is that of the section
pub asked_at : (crowd : CrowdData) (prices : List Tokens) (counts seats : List ℕ) (n s asked : ℕ) (pairs : List (SectionNo × ℕ)) (found : List Tokens)
    (d : Tokens)
    → pairs ≡ map (pair_of counts) (filter (is_over counts seats) (range_with_len 0 n)) → AreLeastPrices crowd (price_in prices) pairs found → s < n
    → slice_index seats s < slice_index counts s
    → asked ≡ length (filter (is_over counts seats) (range_with_len 0 s))
    → (asked < length found) × IsLeastFrom (price_in prices s) crowd (price_in prices) s (slice_index counts s - 1) (slice_index_or found asked d).0
asked_at crowd prices counts seats n s asked pairs found d is least low over at =
    let t : is_over counts seats s ≡ true = grind (arith, nat_tests) in
    let here = range_at 0 n s low in
    let zero_more : 0 + s ≡ s = omega arith in
    let split : filter (is_over counts seats) (range_with_len 0 n)
    ≡ filter (is_over counts seats) (range_with_len 0 s) ++ s ∷ filter (is_over counts seats) here.0 =
    ap (filter (is_over counts seats)) here.1 ∙ filter-append (is_over counts seats) (range_with_len 0 s) ((0 + s) ∷ here.0) ∙ (rw (zero_more, t) refl) in
    let zip : AreLeastPrices crowd (price_in prices)
    (map (pair_of counts) (filter (is_over counts seats) (range_with_len 0 s) ++ s ∷ filter (is_over counts seats) here.0)) found =
    subst (λ ss. AreLeastPrices crowd (price_in prices) (map (pair_of counts) ss) found) split
    (subst (λ ps. AreLeastPrices crowd (price_in prices) ps found) is least) in
    rw at
    (zip_at (λ pair (p : Tokens). IsLeastFrom (price_in prices pair.0.0) crowd (price_in prices) pair.0.0 pair.1 p.0) (pair_of counts)
    (filter (is_over counts seats) (range_with_len 0 s)) s (filter (is_over counts seats) here.0) found d zip)

-- one more was asked, or not
pub asked_then : (counts seats : List ℕ) (n asked : ℕ) → asked ≡ length (filter (is_over counts seats) (range_with_len 0 n))
    → slice_index seats n < slice_index counts n → asked + 1 ≡ length (filter (is_over counts seats) (range_with_len 0 (n + 1)))
asked_then counts seats n asked is over =
    let t : is_over counts seats n ≡ true = grind (arith, nat_tests) in
    rw (over_then counts seats n t, is) (sym (length_push (filter (is_over counts seats) (range_with_len 0 n)) n))

pub asked_still : (counts seats : List ℕ) (n asked : ℕ) → asked ≡ length (filter (is_over counts seats) (range_with_len 0 n))
    → slice_index counts n ≤ slice_index seats n → asked ≡ length (filter (is_over counts seats) (range_with_len 0 (n + 1)))
asked_still counts seats n asked is not_over =
    let f : is_over counts seats n ≡ false = grind (arith, nat_tests) in
    rw (over_still counts seats n f) is

-- the vectors so far, of the sections below a place, and how many least prices they used
pub record ArePushed (crowd : CrowdData) (prices : List Tokens) (counts seats : List ℕ) (before now : List (List Tokens)) (asked n : ℕ) : Type 0 where
  pub made : now ≡ before ++ flat_map (alone (least_fewer crowd (price_in prices)) (count crowd (price_in prices)) seats prices) (range_with_len 0 n)
  pub next : asked ≡ length (filter (is_over counts seats) (range_with_len 0 n))

module _ (crowd : CrowdData) (prices : List Tokens) (found seats : List ℕ) (before now : List (List Tokens)) (asked s : ℕ)
    (are : ArePushed crowd prices found seats before now asked s) (is : found ≡ counts crowd (price_in prices)) (low : s < crowd.sections) where
  -- a section that too many students take
  pub pushed_over : (later : List (List Tokens)) (p : ℕ) → slice_index seats s < slice_index found s
      → IsLeastFrom (price_in prices s) crowd (price_in prices) s (slice_index found s - 1) p → later ≡ now ++ with_alone prices s p ∷ []
      → ArePushed crowd prices found seats before later (asked + 1) (s + 1)
  pushed_over later p over least more =
      let here : slice_index found s ≡ count crowd (price_in prices) s = count_at crowd (price_in prices) found s is low in
      let is_least : least_fewer crowd (price_in prices) s ≡ Some p = least_asked crowd (price_in prices) s (slice_index found s - 1) p (omega arith) least in
      record {
        made =
            moves_more (alone (least_fewer crowd (price_in prices)) (count crowd (price_in prices)) seats prices) before now later (with_alone prices s p ∷ [])
            s
            are.made (alone_over (least_fewer crowd (price_in prices)) (count crowd (price_in prices)) seats prices s p (omega arith) is_least) more;
        next = asked_then found seats s asked are.next over;
      }

  -- a section with free seats and a price
  pub pushed_free : (later : List (List Tokens)) → slice_index found s < slice_index seats s → 0 < price_in prices s → later ≡ now ++ with_alone prices s 0 ∷ []
      → ArePushed crowd prices found seats before later asked (s + 1)
  pushed_free later free paid more =
      let here : slice_index found s ≡ count crowd (price_in prices) s = count_at crowd (price_in prices) found s is low in
      record {
        made =
            moves_more (alone (least_fewer crowd (price_in prices)) (count crowd (price_in prices)) seats prices) before now later (with_alone prices s 0 ∷ [])
            s
            are.made (alone_free (least_fewer crowd (price_in prices)) (count crowd (price_in prices)) seats prices s (omega arith) paid) more;
        next = asked_still found seats s asked are.next (omega arith);
      }

  -- a section that stays
  pub pushed_full : slice_index found s ≡ slice_index seats s → ArePushed crowd prices found seats before now asked (s + 1)
  pushed_full full =
      let here : slice_index found s ≡ count crowd (price_in prices) s = count_at crowd (price_in prices) found s is low in
      record {
        made =
            moves_more (alone (least_fewer crowd (price_in prices)) (count crowd (price_in prices)) seats prices) before now now [] s are.made
            (alone_full (least_fewer crowd (price_in prices)) (count crowd (price_in prices)) seats prices s (omega arith)) (sym (append-nil now));
        next = asked_still found seats s asked are.next (omega arith);
      }

  pub pushed_unpaid : slice_index found s < slice_index seats s → price_in prices s ≡ 0 → ArePushed crowd prices found seats before now asked (s + 1)
  pushed_unpaid free unpaid =
      let here : slice_index found s ≡ count crowd (price_in prices) s = count_at crowd (price_in prices) found s is low in
      record {
        made =
            moves_more (alone (least_fewer crowd (price_in prices)) (count crowd (price_in prices)) seats prices) before now now [] s are.made
            (alone_unpaid (least_fewer crowd (price_in prices)) (count crowd (price_in prices)) seats prices s (omega arith) unpaid) (sym (append-nil now));
        next = asked_still found seats s asked are.next (omega arith);
      }

-- one vector more
pub vector_pushed : (now later : List (Vec Tokens Global)) (vector : Vec Tokens Global) (prices : List Tokens) → later ≡ now ++ vector ∷ []
    → vector.items ≡ prices → vectors_of later ≡ vectors_of now ++ prices ∷ []
vector_pushed now later vector prices more is =
    ap vectors_of more ∙ map_push (λ (v : Vec Tokens Global). v.items) now vector ∙ ap (λ ps. vectors_of now ++ ps ∷ []) is

-- each count is one of students
pub counts_few : (crowd : CrowdData) (price : ℕ → ℕ) (found : List ℕ) → IsCrowd crowd → found ≡ counts crowd price → All (λ n. n ≤ 2000) found
counts_few crowd price found are is =
    let all : length (demands crowd price) ≡ length crowd.students = length-demands crowd price in
    let few : length crowd.students ≤ 2000 = are.few in
    rw is
    (All-map (λ n. n ≤ 2000) (count crowd price) (places_from 0 crowd.sections)
    (λ k d within. let most : count crowd price (get_or (places_from 0 crowd.sections) k d)
    ≤ length (demands crowd price) = holders_few (get_or (places_from 0 crowd.sections) k d) (demands crowd price) in omega arith))
