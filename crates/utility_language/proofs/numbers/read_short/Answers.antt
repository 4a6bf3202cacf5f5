use Rattle.std.proofs.Common.{arith, sym, ◌∙◌}
use Rattle.std.proofs.lemmas.Fmt.{decimal_injective}
use Rattle.std.proofs.lemmas.List.{take_rest}
use Rattle.utility_language.proofs.Digits.{no_signed_word}
use Rattle.utility_language.proofs.numbers.read_short.Goals as goal

pub returns-in_err-n-2-clause-none : goal.returns-in_err-n-2-clause-none
returns-in_err-n-2-clause-none c =
    rw c.from_residual-in_err-n-2.ensures
    (no_signed_word c.args.word.now c.if-word-ne45.false (λ n some short e. c.in_err-n-2.ensures.none n (omega arith) (take_rest c.args.word.now 1 ∙ e)))

pub returns-then-n-eq0-clause-none : goal.returns-then-n-eq0-clause-none
returns-then-n-eq0-clause-none c =
    no_signed_word c.args.word.now c.if-word-ne45.false (λ n some short e.
    let zeros = sym c.in_ok-n-2.ensures.spelled ∙ take_rest c.args.word.now 1 ∙ e in
    let same = decimal_injective c.in_ok-n-2.n n (omega arith) (omega arith) zeros in
    absurd (omega (arith, same)))
