use Rattle.std.proofs.Common.{◌≡◌, ◌++◌}
use Rattle.std.specs.List.{flat_map, range_with_len}
use Rattle.market_certificate.specs.Lines.{joined}
use Rattle.dropadd_desk.specs.HallView.{market_of, state_of}
use Rattle.dropadd_hall.specs.Texts.{wait_lines}
use Rattle.dropadd_hall.proofs.text.put_lists.Given as goal

-- the lists of so many sections
abbrev pub invariant-sections : goal.invariant-sections
invariant-sections l = l.text.items ≡ l.initial.text.items ++ joined (flat_map (wait_lines (market_of l.named.desk.now) (state_of l.named.desk.now)) (range_with_len 0 l.section))
