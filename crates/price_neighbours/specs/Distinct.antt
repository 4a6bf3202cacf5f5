-- Lists without what stands there already.
use Rattle.std.specs.Prelude.{Bool, not, List, [], ◌∷◌, map, filter, nat_eq}
use Rattle.std.specs.Cmp.Lexicographic.{pointwise}
use Rattle.market_units.specs.declared.units.Tokens.{Tokens}

-- each item once, at its first place
abbrev pub once : {A : Type 0} → (A → A → Bool) → List A → List A
once same [] = []
once same (x ∷ xs) = x ∷ filter (λ other. not (same x other)) (once same xs)

-- whether two vectors have the same price for each section
abbrev pub same_prices : List Tokens → List Tokens → Bool
same_prices one other = pointwise nat_eq (map (λ price. price.0) one) (map (λ price. price.0) other)
