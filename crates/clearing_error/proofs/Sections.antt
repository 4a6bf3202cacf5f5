-- The error of one section more, and of prices that are cut.
use Rattle.std.proofs.Common.{ℕ, zero, suc, ◌≡◌, ◌<◌, ◌≤◌, ◌+◌, min, List, [], ◌∷◌, length, take, arith, refl, map}
use Rattle.std.specs.Prelude.{slice_index_or, nat_lt}
use Rattle.std.proofs.lemmas.Bool.Decides.{nat_tests}
use Rattle.std.proofs.lemmas.List.{take_all}
use Rattle.market_units.specs.declared.units.Tokens.{Tokens}
use Rattle.clearing_error.specs.Errors.{part, squared, error}

pub error_more : (counts seats : List ℕ) (prices : List Tokens) (i dc ds : ℕ) (dp : Tokens) → length seats ≡ length counts → length prices ≡ length counts
    → i < length counts
    → error (take (i + 1) counts) (take (i + 1) seats) (take (i + 1) prices)
    ≡ error (take i counts) (take i seats) (take i prices)
    + squared (part (slice_index_or counts i dc) (slice_index_or seats i ds) (slice_index_or prices i dp).0)
error_more [] seats prices i dc ds dp same same' low = absurd (omega arith)
error_more (c ∷ cs) [] prices i dc ds dp same same' low = absurd (omega arith)
error_more (c ∷ cs) (s ∷ ss) [] i dc ds dp same same' low = absurd (omega arith)
error_more (c ∷ cs) (s ∷ ss) (p ∷ ps) zero dc ds dp same same' low = omega arith
error_more (c ∷ cs) (s ∷ ss) (p ∷ ps) (suc i) dc ds dp same same' low =
    let rest = error_more cs ss ps i dc ds dp (omega arith) (omega arith) (omega arith) in
    let one_more : suc i + 1 ≡ suc (i + 1) = omega arith in
    rw one_more (omega (arith, rest))

-- all sections are added
pub error_all : (counts seats : List ℕ) (prices : List Tokens) (i n : ℕ) → length seats ≡ length counts → length prices ≡ length counts → length counts ≤ i
    → n ≡ error (take i counts) (take i seats) (take i prices) → n ≡ error counts seats prices
error_all counts seats prices i n same same' past is = rw (take_all i counts past, take_all i seats (rw same past), take_all i prices (rw same' past)) at is

pub error_by_top : (counts seats : List ℕ) (one other : List Tokens) (top : ℕ) → 1 ≤ top
    → map (λ price. min price.0 top) one ≡ map (λ price. min price.0 top) other → error counts seats one ≡ error counts seats other
error_by_top [] seats one other top some same = refl
error_by_top (c ∷ cs) [] one other top some same = refl
error_by_top (c ∷ cs) (s ∷ ss) [] [] top some same = refl
error_by_top (c ∷ cs) (s ∷ ss) [] (q ∷ qs) top some same = absurd cc
error_by_top (c ∷ cs) (s ∷ ss) (p ∷ ps) [] top some same = absurd cc
error_by_top (c ∷ cs) (s ∷ ss) (p ∷ ps) (q ∷ qs) top some same =
    let head : min p.0 top ≡ min q.0 top = cc in
    let tail : map (λ price. min price.0 top) ps ≡ map (λ price. min price.0 top) qs = cc in
    let above : nat_lt 0 p.0 ≡ nat_lt 0 q.0 = grind (arith, nat_tests) in
    rw (above, error_by_top cs ss ps qs top some tail) refl
