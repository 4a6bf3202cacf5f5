use Rattle.std.proofs.Common.{◌≡◌, ◌≤◌, ◌+◌, ◌-◌, IsTrue, length}
use Rattle.market_edge.specs.Openings.{Changes, with_begun}
use Rattle.market_edge.proofs.Reading.{IsReadTo}
use Rattle.market_edge.proofs.whole_text.read_whole.Given as goal

abbrev pub invariant-pieces : goal.invariant-pieces
invariant-pieces g l = record {
  begun : IsTrue (g.H.Shelf.shows l.shelf).is_begun;
  serves : IsTrue ((g.H.Shelf.shows l.shelf).serves l.name);
  holds : (g.H.Shelf.shows l.shelf).holds ≡ (g.H.Shelf.shows l.fn.shelf).holds;
  opened : Changes (g.H.Shelf.shows l.fn.shelf).openings (g.H.Shelf.shows l.shelf).openings (with_begun l.name);
  within : length l.text.items ≤ l.limit;
  so_far : IsReadTo (g.H.Shelf.shows l.fn.shelf).holds l.name l.text.items (g.H.Shelf.shows l.shelf).left;
  uncounted : (g.H.Shelf.shows l.shelf).faults ≡ (g.H.Shelf.shows l.fn.shelf).faults;
}

-- each turn takes at least one byte
abbrev pub decreases-pieces : goal.decreases-pieces
decreases-pieces g l = l.limit + 1 - length l.text.items
