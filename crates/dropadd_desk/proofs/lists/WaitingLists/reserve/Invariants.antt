use Rattle.std.proofs.Common.{◌≡◌, ◌+◌, [], replicate}
use Rattle.row_region.specs.Rows.{spare_of}
use Rattle.dropadd_desk.specs.Fronts.{fronts_in, AreLive}
use Rattle.dropadd_desk.proofs.lists.WaitingLists.reserve.Given as goal

-- so many rows are taken, each with an empty front
abbrev pub invariant-lists : goal.invariant-lists
invariant-lists l = record {
  live : AreLive l.region l.fronts.items;
  lists : fronts_in l.region.live l.fronts.items ≡ replicate l.counter [];
  spare : spare_of l.region + l.counter ≡ l.fn.lists;
  wide : l.region.width ≡ l.fn.width;
}
