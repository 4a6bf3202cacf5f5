use Rattle.std.proofs.Common.{◌≤◌, ◌<◌, arith, length}
use Rattle.chronicle.proofs.SeatLists.{all_at_their_numbers}
use Rattle.desk_tests.proofs.tests.histories.close_in_order.Goals as goal

pub close-requires-clause-all : goal.close-requires-clause-all
close-requires-clause-all c =
    let count : length c.args.chronicle.allotments ≤ length c.args.seats.items = c.requires.count in
    all_at_their_numbers (length c.args.chronicle.allotments) c.args.seats.items c.requires.count
    (λ n d below. c.requires.numbers n d (let goal : n < length c.args.seats.items = omega arith in goal))
