use Rattle.std.proofs.Common.{◌≡◌, ◌+◌, length, map}
use Rattle.preference_desk.specs.DeskView.{commands_left, entries_of, names_of}
use Rattle.published_parts.specs.Markets.{names_in}
use Rattle.published_parts.specs.Views.{market_in}
use Rattle.certificate_checker.proofs.Replaying.{HasReplayed}
use Rattle.certificate_checker.proofs.orders.replay.Given as goal

abbrev pub invariant-entries : goal.invariant-entries
invariant-entries l = record {
  names : names_of l.desk ≡ names_in (market_in l.market);
  room : commands_left l.desk + l.place ≡ length l.order;
  replayed : HasReplayed (map (λ stream. stream.items) l.streams) l.order l.place (entries_of l.desk) l.said.items;
}
