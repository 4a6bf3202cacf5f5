use Rattle.std.proofs.Common.{◌∷◌, sym, ap, arith}
use Rattle.std.proofs.lemmas.Fmt.{decimal_digit}
use Rattle.proof_tree.proofs.Digits.{two_digits}
use Rattle.proof_tree.proofs.symbol_bytes.Symbol.numbered.Goals as goal

pub returns-then-place-lt10 : goal.returns-then-place-lt10
returns-then-place-lt10 c = ap (λ ds. c.args.letter ∷ ds) (sym (decimal_digit c.args.place (omega arith)))

pub returns : goal.returns
returns c = ap (λ ds. c.args.letter ∷ ds) (sym (two_digits c.args.place (omega arith) (omega arith)))
