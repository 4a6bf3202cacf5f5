use Rattle.std.proofs.Common.{ℕ, ◌≡◌, arith, ◌∙◌, ◌≤◌, ◌<◌, ◌^◌, length, ap}
use Rattle.std.specs.Fmt.{decimal}
use Rattle.std.proofs.lemmas.Fmt.{length-decimal-le}
use Rattle.std.specs.Prelude.{ℤ, unsigned_abs}
use Rattle.std.proofs.lemmas.Int.{to_z-of_z}
use mir.Val.{SFits, to_z, of_z}
use mir.Syntax.{w32}
use Rattle.utility_language.proofs.Rooms.{drop_further}
use Rattle.utility_language.proofs.printing.put_short.Goals as goal
use Rattle.utility_language.proofs.printing.put_short.Goals.{then-n-lt0, else-n-lt0}

magnitude : (n : ℤ) (r : ℕ) → SFits w32 n → r ≡ unsigned_abs (to_z w32 (of_z w32 n)) → unsigned_abs n < 10 ^ 6 → r < 10 ^ 6
magnitude n r fits e short = let is = to_z-of_z w32 n fits in rw (e, is) short

pub put-requires : goal.put-requires
put-requires c =
    let abs : c.from.result < 10 ^ 6 = magnitude c.args.n c.from.result c.ranges.n (c.from.ensures ∙ c.unsigned_abs.ensures.value) c.requires.short in
    let short : length (decimal c.from.result) ≤ 6 = length-decimal-le 6 c.from.result (omega arith) abs (omega arith) in
    let digits = ap length c.put_number-len.ensures.spelling in
    elim c.if-n-lt0.branch [
      | then-n-lt0 w ↦ let sign = ap (λ s. length s.now) w.sign-is in omega (arith, sign, digits)
      | else-n-lt0 w ↦ let sign = ap (λ s. length s.now) w.sign-is in omega (arith, sign, digits)
    ]

pub returns-clause-rest : goal.returns-clause-rest
returns-clause-rest c =
    c.put.ensures.rest ∙ drop_further c.put-place.result c.put.result _ _ c.put-place.ensures.rest (omega arith)
