-- What holds of images.
use Rattle.std.proofs.Common.{List, map, subst, arith}
use Rattle.std.specs.Prelude.{All}
use Rattle.std.proofs.lemmas.List.{get_or-map, length-map}

-- what holds of each image holds so of each item
pub unmapped : {X Y : Type 0} (P : Y → Type 0) (f : X → Y) (xs : List X) → All P (map f xs) → All (λ x. P (f x)) xs
unmapped P f xs each k d inside = subst P (get_or-map f xs k d (f d) inside) (each k (f d) (omega (arith, length-map xs f)))
