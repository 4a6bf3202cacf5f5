use Rattle.std.proofs.Common.{◌≡◌, ◌++◌, map}
use Rattle.std.specs.List.{range_with_len}
use Rattle.market_certificate.specs.Lines.{joined}
use Rattle.dropadd_desk.specs.HallView.{market_of, state_of}
use Rattle.dropadd_hall.specs.Texts.{held_line}
use Rattle.dropadd_hall.proofs.text.put_bundles.Given as goal

-- the lines of so many students
abbrev pub invariant-students : goal.invariant-students
invariant-students l = l.text.items ≡ l.initial.text.items ++ joined (map (held_line (market_of l.named.desk.now) (state_of l.named.desk.now)) (range_with_len 0 l.student))
