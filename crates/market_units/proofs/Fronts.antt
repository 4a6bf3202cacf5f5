-- Lists that begin with other lists.
use Rattle.std.proofs.Common.{◌++◌, [], ◌∙◌, List, refl, sym, ap, append_assoc}
use Rattle.std.proofs.lemmas.List.{append-nil}
use Rattle.market_units.specs.Beginnings.{BeginsWith}

-- a list begins with itself
pub begins-itself : {A : Type 0} (xs : List A) → BeginsWith xs xs
begins-itself xs = ([], sym (append-nil xs))

-- and with nothing
pub begins-nothing : {A : Type 0} (xs : List A) → BeginsWith xs []
begins-nothing xs = (xs, refl)

-- what a longer list begins with: the front of its front
pub begins-longer : {A : Type 0} (xs front more : List A) → BeginsWith xs front → BeginsWith (xs ++ more) front
begins-longer xs front more (rest, is) = (rest ++ more, ap (λ l. l ++ more) is ∙ append_assoc front rest more)

-- a front of a front is a front
pub begins-front : {A : Type 0} (xs ys zs : List A) → BeginsWith xs ys → BeginsWith ys zs → BeginsWith xs zs
begins-front xs ys zs (first, is) (second, was) = (second ++ first, is ∙ ap (λ l. l ++ first) was ∙ append_assoc zs second first)
