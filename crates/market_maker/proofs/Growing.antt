-- Texts with one line or one part more.
use Rattle.std.proofs.Common.{ℕ, ◌≡◌, ◌+◌, Bool, true, false, cond, List, [], ◌∷◌, ◌++◌, map, ap, sym, ◌∙◌}
use Rattle.std.specs.List.{filter, flat_map, range_with_len}
use Rattle.std.proofs.lemmas.List.{append-nil, flat_map_more, map-id}
use Rattle.std.proofs.lemmas.List.Concat.{flat_map-append}
use Rattle.std.proofs.lemmas.List.Elements.{filter-append}
use Rattle.std.proofs.lemmas.List.FromFn.{map-range_with_len_more}
use Rattle.market_maker.specs.Lines.{ended, numbers_to, text_of}

-- a text with the line of one number more
pub line_more : (line : ℕ → List ℕ) (from n number : ℕ) (begun text new : List ℕ) → from + n ≡ number
    → text ≡ begun ++ text_of (map line (range_with_len from n)) → new ≡ text ++ ended (line number)
    → new ≡ begun ++ text_of (map line (range_with_len from (n + 1)))
line_more line from n number begun text new e so is =
    is
    ∙ ap (λ t. t ++ ended (line number)) so
    ∙ flat_map_more ended begun (map line (range_with_len from n)) (line number)
    ∙ ap (λ ls. begun ++ text_of ls) (sym (map-range_with_len_more line from n number e))

one_more : (n number : ℕ) → 1 + n ≡ number → numbers_to (n + 1) ≡ numbers_to n ++ number ∷ []
one_more n number e =
    sym (map-id (numbers_to (n + 1))) ∙ map-range_with_len_more (λ x. x) 1 n number e ∙ ap (λ ns. ns ++ number ∷ []) (map-id (numbers_to n))

-- a text with the lines of one number more, where it is among those that are asked for
pub lines_more : (is_in : ℕ → Bool) (lines : ℕ → List (List ℕ)) (n number : ℕ) (text new : List ℕ) → 1 + n ≡ number → is_in number ≡ true
    → text ≡ text_of (flat_map lines (filter is_in (numbers_to n))) → new ≡ text ++ text_of (lines number)
    → new ≡ text_of (flat_map lines (filter is_in (numbers_to (n + 1))))
lines_more is_in lines n number text new e among so is =
    let front = filter is_in (numbers_to n) in
    let more : filter is_in (numbers_to (n + 1)) ≡ front ++ number ∷ [] =
    ap (filter is_in) (one_more n number e) ∙ filter-append is_in (numbers_to n) (number ∷ []) ∙ ap (λ b. front ++ cond b (number ∷ []) []) among in
    is
    ∙ ap (λ t. t ++ text_of (lines number)) so
    ∙ sym (
    ap (λ ns. text_of (flat_map lines ns)) more
    ∙ ap text_of (flat_map-append lines front (number ∷ []) ∙ ap (λ ls. flat_map lines front ++ ls) (append-nil (lines number)))
    ∙ flat_map-append ended (flat_map lines front) (lines number)
    )

-- the same text, where it is not
pub lines_same : (is_in : ℕ → Bool) (lines : ℕ → List (List ℕ)) (n number : ℕ) (text : List ℕ) → 1 + n ≡ number → is_in number ≡ false
    → text ≡ text_of (flat_map lines (filter is_in (numbers_to n)))
    → text ≡ text_of (flat_map lines (filter is_in (numbers_to (n + 1))))
lines_same is_in lines n number text e out so =
    let front = filter is_in (numbers_to n) in
    let more : filter is_in (numbers_to (n + 1)) ≡ front =
    ap (filter is_in) (one_more n number e) ∙ filter-append is_in (numbers_to n) (number ∷ []) ∙ ap (λ b. front ++ cond b (number ∷ []) []) out
    ∙ append-nil front in
    so ∙ ap (λ ns. text_of (flat_map lines ns)) (sym more)
