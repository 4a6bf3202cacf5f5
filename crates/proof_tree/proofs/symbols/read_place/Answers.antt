use Rattle.std.proofs.Common.{rules, ◌≡◌, ◌<◌, ◌≤◌, ◌-◌, ◌∷◌, [], ℕ, List, length, take, drop, slice_index_or, refl, sym, subst, ◌∙◌, arith}
use Rattle.plain_facts.proofs.Lists.{first_rest}
use Rattle.proof_tree.specs.Texts.{IsDigit, NoDigitFirst}
use Rattle.proof_tree.proofs.Digits.{NoPlace, none_in_nothing, none_without_digit, none_after_zero, one_of}
use Rattle.proof_tree.proofs.symbols.read_place.Goals as goal

empty : (xs : List ℕ) → length xs < 1 → xs ≡ []
empty [] low = refl
empty (x ∷ xs) low = absurd (omega arith)

pub returns-then-not-is_digit-clause-none : goal.returns-then-not-is_digit-clause-none
returns-then-not-is_digit-clause-none c =
    let whole : c.args.text.now ≡ slice_index_or c.args.text.now 0 0 ∷ take (length c.args.text.now - 1) (drop 1 c.args.text.now) =
    first_rest c.args.text.now 0 c.in-len1-up.len_at_least in
    let other : ¬ IsDigit (slice_index_or c.args.text.now 0 0) = search rules in
    subst NoPlace (sym whole) (none_without_digit (slice_index_or c.args.text.now 0 0) (take (length c.args.text.now - 1) (drop 1 c.args.text.now)) other)

pub returns-then-ends_here-clause-some : goal.returns-then-ends_here-clause-some
returns-then-ends_here-clause-some c =
    let whole : c.args.text.now ≡ slice_index_or c.args.text.now 0 0 ∷ take (length c.args.text.now - 1) (drop 1 c.args.text.now) =
    first_rest c.args.text.now 0 c.in-len1-up.len_at_least in
    let digit : IsDigit (slice_index_or c.args.text.now 0 0) = search rules in
    let low : 48 ≤ slice_index_or c.args.text.now 0 0 = digit.0 in
    let high : slice_index_or c.args.text.now 0 0 ≤ 57 = digit.1 in
    let ends : NoDigitFirst (take (length c.args.text.now - 1) (drop 1 c.args.text.now)) = search rules in
    (whole ∙ one_of (slice_index_or c.args.text.now 0 0) low high (take (length c.args.text.now - 1) (drop 1 c.args.text.now)), omega arith, ends)

pub returns-then-first-eq48-clause-none : goal.returns-then-first-eq48-clause-none
returns-then-first-eq48-clause-none c =
    let whole : c.args.text.now ≡ slice_index_or c.args.text.now 0 0 ∷ take (length c.args.text.now - 1) (drop 1 c.args.text.now) =
    first_rest c.args.text.now 0 c.in-len1-up.len_at_least in
    let more : ¬ NoDigitFirst (take (length c.args.text.now - 1) (drop 1 c.args.text.now)) = search rules in
    subst NoPlace (sym whole)
    (none_after_zero (take (length c.args.text.now - 1) (drop 1 c.args.text.now)) (slice_index_or c.args.text.now 0 0) c.if-first-eq48.true more)

pub returns-in-empty-clause-none : goal.returns-in-empty-clause-none
returns-in-empty-clause-none c =
    let none : c.args.text.now ≡ [] = empty c.args.text.now c.in-empty.len_below in
    subst NoPlace (sym none) none_in_nothing
