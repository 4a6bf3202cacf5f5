use Rattle.std.proofs.Common.{rules, ◌≡◌, ◌≤◌, ◌-◌, ◌∷◌, length, take, drop, slice_index_or, sym, subst, ap, ◌∙◌, arith}
use Rattle.plain_facts.proofs.Lists.{first_rest}
use Rattle.proof_tree.specs.Texts.{IsDigit, NoDigitFirst}
use Rattle.proof_tree.proofs.Digits.{NoPlace, none_of_three, two_of}
use Rattle.proof_tree.proofs.symbols.read_second.Goals as goal

pub returns-then-not-ends_here-clause-none : goal.returns-then-not-ends_here-clause-none
returns-then-not-ends_here-clause-none c =
    let whole : c.args.text.now ≡ slice_index_or c.args.text.now 0 0 ∷ take (length c.args.text.now - 1) (drop 1 c.args.text.now) =
    first_rest c.args.text.now 0 c.in-len1-up.len_at_least in
    let third : ¬ NoDigitFirst (take (length c.args.text.now - 1) (drop 1 c.args.text.now)) = search rules in
    subst (λ t. NoPlace (c.args.first ∷ t)) (sym whole)
    (none_of_three c.args.first (slice_index_or c.args.text.now 0 0) (take (length c.args.text.now - 1) (drop 1 c.args.text.now))
    (subst (λ t. ¬ NoDigitFirst t) whole c.requires.second) third)

pub returns-else-not-is_digit-clause-some : goal.returns-else-not-is_digit-clause-some
returns-else-not-is_digit-clause-some c =
    let first : c.args.first ≤ 57 = c.requires.first.1 in
    let first_low : 49 ≤ c.args.first = c.requires.first.0 in
    let second : IsDigit (slice_index_or c.args.text.now 0 0) = search rules in
    let low : 48 ≤ slice_index_or c.args.text.now 0 0 = second.0 in
    let high : slice_index_or c.args.text.now 0 0 ≤ 57 = second.1 in
    let ends : NoDigitFirst (take (length c.args.text.now - 1) (drop 1 c.args.text.now)) = search rules in
    let whole : c.args.text.now ≡ slice_index_or c.args.text.now 0 0 ∷ take (length c.args.text.now - 1) (drop 1 c.args.text.now) = first_rest c.args.text.now 0 c.in-len1-up.len_at_least in (
      ap (λ t. c.args.first ∷ t) whole
          ∙ two_of c.args.first (slice_index_or c.args.text.now 0 0) first_low first low high (take (length c.args.text.now - 1) (drop 1 c.args.text.now)),
      omega arith,
      ends,
    )
