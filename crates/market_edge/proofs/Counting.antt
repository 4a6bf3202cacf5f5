-- A count of one file of a shelf in memory rises.
use Rattle.std.proofs.Common.{ℕ, zero, suc, ◌≡◌, ◌<◌, ◌≤◌, ◌^◌, List, [], ◌∷◌, length, get_or, set, Some, None, arith}
use Rattle.std.specs.Prelude.{Option, IsTrue}
use Rattle.std.specs.Option.{option_map_or}
use Rattle.std.proofs.lemmas.Bool.Decides.{nat_tests}
use Rattle.std.proofs.lemmas.Grind.{get_or_default_zero}
use Rattle.std.proofs.lemmas.List.{get_or-set_same}
use Rattle.market_units.specs.Counts.{one_more}
use Rattle.market_edge.specs.Faults.{Rose}
use Rattle.market_edge.specs.MemoryFiles.{File, count_of, is_same_place, place_of}

kept : (counts : List ℕ) (at more i : ℕ) → get_or counts at 0 ≤ more → get_or counts i 0 ≤ get_or (set counts at more) i 0
kept [] at more i up = omega arith
kept (y ∷ ys) zero more zero up = up
kept (y ∷ ys) zero more (suc i) up = omega arith
kept (y ∷ ys) (suc at) more zero up = omega arith
kept (y ∷ ys) (suc at) more (suc i) up = kept ys at more i up

none_fell : (counts : List ℕ) (others at more : ℕ) → get_or counts at 0 ≤ more → (place : Option ℕ)
    → option_map_or (λ file. get_or counts file 0) place others ≤ option_map_or (λ file. get_or (set counts at more) file 0) place others
none_fell counts others at more up None = omega arith
none_fell counts others at more up (Some i) = kept counts at more i up

one_rose : (counts : List ℕ) (others at more : ℕ) → at < length counts → Rose (get_or counts at 0) more → (place : Option ℕ)
    → IsTrue (is_same_place (Some at) place)
    → Rose (option_map_or (λ file. get_or counts file 0) place others) (option_map_or (λ file. get_or (set counts at more) file 0) place others)
one_rose counts others at more within rose None same = absurd cc
one_rose counts others at more within rose (Some i) same =
    let e : i ≡ at = grind (arith, nat_tests) in
    rw (e, get_or-set_same counts at more 0 within) rose

-- the count of the file at a place is one more: no count fell
pub no_count_fell : (files : List File) (counts : List ℕ) (others at x more : ℕ) → at < length counts → x ≡ get_or counts at x → x < 2 ^ 64
    → more ≡ one_more x → (other : List ℕ) → count_of files counts others other ≤ count_of files (set counts at more) others other
no_count_fell files counts others at x more within is small up other =
    let e : get_or counts at x ≡ get_or counts at 0 = get_or_default_zero counts at x within in
    let least : get_or counts at 0 ≤ more = omega arith in
    none_fell counts others at more least (place_of files other)

-- and the count of each name of this file rose
pub its_count_rose : (files : List File) (counts : List ℕ) (others at x more : ℕ) → at < length counts → x ≡ get_or counts at x
    → more ≡ one_more x → (other : List ℕ) → IsTrue (is_same_place (Some at) (place_of files other))
    → Rose (count_of files counts others other) (count_of files (set counts at more) others other)
its_count_rose files counts others at x more within is up other same =
    let e : get_or counts at x ≡ get_or counts at 0 = get_or_default_zero counts at x within in
    let rose : Rose (get_or counts at 0) more = omega arith in
    one_rose counts others at more within rose (place_of files other) same
