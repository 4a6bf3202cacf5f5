use Rattle.std.proofs.Common.{◌∷◌, []}
use Rattle.std.proofs.lemmas.Bool.Decides.{Decides-eqb}
use Rattle.std.proofs.lemmas.Slice.Eq.{strip_suffix_is}
use Rattle.market_certificate.proofs.Places.{in_two}
use Rattle.market_certificate.proofs.reading.values.in_brackets.Goals as goal

pub returns-clause-some : goal.returns-clause-some
returns-clause-some c =
    in_two c.args.bytes.now c.in_ok-rest.rest.now c.strip_suffix.result c.in_ok-rest.ensures.some
    (strip_suffix_is Decides-eqb c.in_ok-rest.rest.now (93 ∷ []) c.strip_suffix.result c.strip_suffix.ensures.cases)
