use Rattle.std.proofs.Common.{◌≡◌, ◌++◌, map, take}
use Rattle.market_certificate.specs.Lines.{joined}
use Rattle.dropadd_hall.specs.Texts.{entry_line}
use Rattle.dropadd_hall.proofs.text.put_entries.Given as goal

-- the lines of the steps so far
abbrev pub invariant-steps : goal.invariant-steps
invariant-steps l = l.text.items ≡ l.initial.text.items ++ joined (map (entry_line (record { catalog = l.catalog; roll = l.roll })) (take l.step-index l.steps))
