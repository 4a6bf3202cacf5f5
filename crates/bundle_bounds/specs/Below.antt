-- How many nodes are below a node.
use Rattle.std.specs.Prelude.{ℕ, zero, suc, ◌+◌}

-- how many nodes a node with so many undecided places has below it at most, with itself
abbrev pub nodes_below : ℕ → ℕ
nodes_below zero = 1
nodes_below (suc undecided) = suc (nodes_below undecided + nodes_below undecided)
