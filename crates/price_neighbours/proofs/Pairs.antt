-- The sections whose least prices are asked for.
use Rattle.std.proofs.Common.{ℕ, ◌+◌, ◌<◌, ◌≤◌, ◌≡◌, ◌∙◌, ◌++◌, ◌∷◌, [], true, false, List, length, map, get_or, arith, refl, sym, ap}
use Rattle.std.specs.Prelude.{All, filter}
use Rattle.std.specs.List.{range_with_len}
use Rattle.std.proofs.lemmas.List.{append-nil, map-append, length-map}
use Rattle.std.proofs.lemmas.List.Elements.{filter-append, All-map, All-filter}
use Rattle.std.proofs.lemmas.List.FromFn.{length-range_with_len, get_or-range_with_len}
use Rattle.plain_facts.proofs.Lists.{length-filter_le}
use Rattle.market_units.specs.declared.units.SectionNo.{SectionNo}
use Rattle.price_neighbours.specs.Asked.{is_over, pair_of}
use Rattle.price_neighbours.proofs.Ranges.{range_more}

-- the sections of one ordinal more
over_more : (counts seats : List ℕ) (n : ℕ)
    → filter (is_over counts seats) (range_with_len 0 (n + 1)) ≡ filter (is_over counts seats) (range_with_len 0 n) ++ filter (is_over counts seats) (n ∷ [])
over_more counts seats n =
    let at : 0 + n ≡ n = omega arith in
    let more : range_with_len 0 (n + 1) ≡ range_with_len 0 n ++ n ∷ [] = range_more 0 n ∙ ap (λ k. range_with_len 0 n ++ k ∷ []) at in
    rw more (filter-append (is_over counts seats) (range_with_len 0 n) (n ∷ []))

pub over_then : (counts seats : List ℕ) (n : ℕ) → is_over counts seats n ≡ true
    → filter (is_over counts seats) (range_with_len 0 (n + 1)) ≡ filter (is_over counts seats) (range_with_len 0 n) ++ n ∷ []
over_then counts seats n over = over_more counts seats n ∙ rw over refl

pub over_still : (counts seats : List ℕ) (n : ℕ) → is_over counts seats n ≡ false
    → filter (is_over counts seats) (range_with_len 0 (n + 1)) ≡ filter (is_over counts seats) (range_with_len 0 n)
over_still counts seats n not_over = over_more counts seats n ∙ rw not_over (append-nil (filter (is_over counts seats) (range_with_len 0 n)))

-- one pair more, or none
pub pairs_then : (counts seats : List ℕ) (n : ℕ) (pairs later : List (SectionNo × ℕ)) (pair : SectionNo × ℕ)
    → pairs ≡ map (pair_of counts) (filter (is_over counts seats) (range_with_len 0 n)) → is_over counts seats n ≡ true → pair ≡ pair_of counts n
    → later ≡ pairs ++ pair ∷ []
    → later ≡ map (pair_of counts) (filter (is_over counts seats) (range_with_len 0 (n + 1)))
pairs_then counts seats n pairs later pair so_far over is more =
    rw (more, so_far, is, over_then counts seats n over) (sym (map-append (pair_of counts) (filter (is_over counts seats) (range_with_len 0 n)) (n ∷ [])))

pub pairs_still : (counts seats : List ℕ) (n : ℕ) (pairs : List (SectionNo × ℕ))
    → pairs ≡ map (pair_of counts) (filter (is_over counts seats) (range_with_len 0 n)) → is_over counts seats n ≡ false
    → pairs ≡ map (pair_of counts) (filter (is_over counts seats) (range_with_len 0 (n + 1)))
pairs_still counts seats n pairs so_far not_over = rw (over_still counts seats n not_over) so_far

-- what may be asked: few pairs, each of a section
pub pairs_few : (counts seats : List ℕ) (n : ℕ) (pairs asked : List (SectionNo × ℕ)) → asked ≡ pairs
    → pairs ≡ map (pair_of counts) (filter (is_over counts seats) (range_with_len 0 n)) → n ≤ 400 → length asked ≤ 400
pairs_few counts seats n pairs asked same is few =
    let most : length (filter (is_over counts seats) (range_with_len 0 n)) ≤ length (range_with_len 0 n) =
    length-filter_le (is_over counts seats) (range_with_len 0 n) in
    let all : length (range_with_len 0 n) ≡ n = length-range_with_len 0 n in
    let long : length (map (pair_of counts) (filter (is_over counts seats) (range_with_len 0 n)))
    ≡ length (filter (is_over counts seats) (range_with_len 0 n)) =
    length-map (filter (is_over counts seats) (range_with_len 0 n)) (pair_of counts) in
    rw (same, is) (omega arith)

pub pairs_sections : (counts seats : List ℕ) (n m : ℕ) (pairs asked : List (SectionNo × ℕ)) → asked ≡ pairs
    → pairs ≡ map (pair_of counts) (filter (is_over counts seats) (range_with_len 0 n)) → n ≡ m → All (λ pair. pair.0.0 < m) asked
pairs_sections counts seats n m pairs asked same is whole =
    rw (same, is, ← whole) (All-map (λ (pair : SectionNo × ℕ). pair.0.0 < n) (pair_of counts) (filter (is_over counts seats) (range_with_len 0 n))
    (All-filter (is_over counts seats) (λ s. s < n) (range_with_len 0 n) (λ k d within. let at : get_or (range_with_len 0 n) k d ≡ 0 + k = get_or-range_with_len 0 n k d (rw (length-range_with_len 0 n) at within) in let low : k < n = rw (length-range_with_len 0 n) at within in omega arith)))

-- as many were asked for as there are such sections below a place
pub asked_few : (counts seats : List ℕ) (n asked : ℕ) → asked ≡ length (filter (is_over counts seats) (range_with_len 0 n)) → asked ≤ n
asked_few counts seats n asked is =
    let most : length (filter (is_over counts seats) (range_with_len 0 n)) ≤ length (range_with_len 0 n) =
    length-filter_le (is_over counts seats) (range_with_len 0 n) in
    let all : length (range_with_len 0 n) ≡ n = length-range_with_len 0 n in
    omega arith
