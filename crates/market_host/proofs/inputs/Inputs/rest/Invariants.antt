use Rattle.std.proofs.Common.{◌≡◌, ◌+◌, ℕ, List, length}
use Rattle.std.specs.Vec.{vec_len}
use Rattle.market_units.specs.Totals.{total}
use Rattle.market_words.specs.declared.words.Form.{Form}
use Rattle.market_words.specs.Kinds.{front_of}
use Rattle.market_host.specs.Taking.{HasRead}
use Rattle.market_host.proofs.Rest.{AreReadSoFar}
use Rattle.market_host.proofs.inputs.Inputs.rest.Given as goal

-- the streams so far were read
abbrev pub invariant-streams : goal.invariant-streams
invariant-streams g l = record {
  place : l.self.read ≡ l.fn.self.read + l.index;
  call : l.self.call ≡ l.fn.self.call;
  many : length l.lists.items ≡ l.index;
  room : total vec_len l.lists.items + l.room ≡ 200000;
  read : (form : Form) (names texts : List (List ℕ)) (start : _) → length texts ≡ length (front_of form)
      → HasRead g.H.Shelf form names l.fn.self texts start l.fn.shelf
      → AreReadSoFar g.H.Shelf form names texts g.S.StreamItem.is_item_of l.self l.lists.items l.room start l.shelf;
}
