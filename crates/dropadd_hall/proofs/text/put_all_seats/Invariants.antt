use Rattle.std.proofs.Common.{◌≡◌, ◌++◌, map}
use Rattle.std.specs.List.{range_with_len}
use Rattle.market_certificate.specs.Lines.{joined}
use Rattle.dropadd_desk.specs.HallView.{market_of, state_of}
use Rattle.dropadd_hall.specs.Texts.{seats_line}
use Rattle.dropadd_hall.proofs.text.put_all_seats.Given as goal

-- the lines of so many sections
abbrev pub invariant-sections : goal.invariant-sections
invariant-sections l = l.text.items ≡ l.initial.text.items ++ joined (map (seats_line (market_of l.named.desk.now) (state_of l.named.desk.now)) (range_with_len 0 l.section))
