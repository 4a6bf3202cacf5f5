-- What stands before a byte, and behind it.
use Rattle.std.proofs.Common.{ℕ, ◌≡◌, ◌==◌, ◌<◌, ◌^◌, true, false, List, [], ◌∷◌, ◌++◌, get_or, ap, sym, ◌∙◌, arith}
use Rattle.std.specs.List.{AllByRecursion, join_with_byte, slice_split}
use Rattle.std.specs.Fmt.{decimal}
use Rattle.std.proofs.lemmas.Bool.{ne_eqb}
use Rattle.std.proofs.lemmas.Bool.Decides.{nat_tests}
use Rattle.std.proofs.lemmas.Fmt.{decimal_is_IsNumeral}
use Rattle.std.proofs.lemmas.List.{append_cancel_left, get_or_default}
use Rattle.std.proofs.lemmas.List.Elements.{All-append, All-cons, All-head, All-nil, All-tail}
use Rattle.std.proofs.lemmas.List.Splits.{slice_split_at, slice_split_none}
use Rattle.std.proofs.lemmas.Str.Parse.{digit_at}
use Rattle.market_certificate.specs.Lines.{Lacks}

pub cut_once : (stop : ℕ) (a b y z : List ℕ) → Lacks stop a → Lacks stop b → a ++ stop ∷ y ≡ b ++ stop ∷ z → (a ≡ b) × (y ≡ z)
cut_once stop a b y z free free' e =
    let at : (stop == stop) ≡ true = grind (arith, nat_tests) in
    let cut =
    sym (slice_split_at (λ c. c == stop) a stop y free at) ∙ ap (slice_split (λ c. c == stop)) e ∙ slice_split_at (λ c. c == stop) b stop z free' at in
    let front : a ≡ b = cc cut in
    let behind = append_cancel_left b (stop ∷ y) (stop ∷ z) (ap (λ w. w ++ stop ∷ y) (sym front) ∙ e) in
    (front, cc behind)

pub lacks_not : (stop : ℕ) (a b : List ℕ) → Lacks stop (a ++ stop ∷ b) → ⊥
lacks_not stop [] b all =
    let same : (stop == stop) ≡ true = grind (arith, nat_tests) in
    let other = All-head (λ byte. (byte == stop) ≡ false) stop b all in
    cc
lacks_not stop (x ∷ a) b all = lacks_not stop a b (All-tail (λ byte. (byte == stop) ≡ false) x (a ++ stop ∷ b) all)

-- a number's spelling has digits alone
pub digits_lack : (stop n : ℕ) → stop < 48 → n < 2 ^ 64 → Lacks stop (decimal n)
digits_lack stop n low small k d inside =
    let same : get_or (decimal n) k d ≡ get_or (decimal n) k 0 = get_or_default (decimal n) k d 0 inside in
    ne_eqb (get_or (decimal n) k d) stop (λ e. absurd (omega (arith, e, same, digit_at (decimal n) k (decimal_is_IsNumeral n small).0.1 inside)))

pub lacks_more : (stop : ℕ) (a b : List ℕ) (c : ℕ) → (c == stop) ≡ false → Lacks stop a → Lacks stop b → Lacks stop (a ++ c ∷ b)
lacks_more stop a b c other free free' = All-append (λ byte. (byte == stop) ≡ false) a (c ∷ b) free (All-cons (λ byte. (byte == stop) ≡ false) c b other free')

-- parts that lack a byte, joined by it
pub joined_lack : (c stop : ℕ) (parts : List (List ℕ)) → (c == stop) ≡ false → AllByRecursion (Lacks stop) parts → Lacks stop (join_with_byte c parts)
joined_lack c stop [] other free = All-nil (λ byte. (byte == stop) ≡ false)
joined_lack c stop (x ∷ []) other free = free.0
joined_lack c stop (x ∷ y ∷ parts) other free = lacks_more stop x (join_with_byte c (y ∷ parts)) c other free.0 (joined_lack c stop (y ∷ parts) other free.1)

-- the parts of a joined text
pub parts_of : (stop : ℕ) (x : List ℕ) (parts : List (List ℕ)) → AllByRecursion (Lacks stop) (x ∷ parts)
    → slice_split (λ c. c == stop) (join_with_byte stop (x ∷ parts)) ≡ x ∷ parts
parts_of stop x [] free = slice_split_none (λ c. c == stop) x free.0
parts_of stop x (y ∷ parts) free =
    let at : (stop == stop) ≡ true = grind (arith, nat_tests) in
    slice_split_at (λ c. c == stop) x stop (join_with_byte stop (y ∷ parts)) free.0 at ∙ ap (λ (rest : List (List ℕ)). x ∷ rest) (parts_of stop y parts free.1)
