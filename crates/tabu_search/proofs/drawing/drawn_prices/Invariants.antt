use Rattle.std.proofs.Common.{◌≡◌, ◌%◌, map, take}
use Rattle.tabu_search.proofs.drawing.drawn_prices.Given as goal

abbrev pub invariant-loop-word : goal.invariant-loop-word
invariant-loop-word l = l.prices.items ≡ map (λ word. record { 0 = word % l.top.0 }) (take l.word-index l.word-items)
