use Rattle.std.proofs.Common.{◌≡◌, ◌++◌, ◌∷◌, take}
use Rattle.std.specs.Fmt.{decimal}
use Rattle.std.specs.List.{flat_map}
use Rattle.market_certificate.proofs.writing.fields.put_number_fields.Given as goal

abbrev pub invariant-numbers : goal.invariant-numbers
invariant-numbers l = l.text.items ≡ l.initial.text.items ++ flat_map (λ n. 32 ∷ decimal n) (take l.n-index l.numbers)
