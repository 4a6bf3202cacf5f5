-- What a call writes.
use Rattle.std.specs.Prelude.{ℕ, ◌≡◌, List, Err, Ok, Result, Vec}
use Rattle.std.proofs.Common.{Global}
use Rattle.certificate_checker.specs.declared.findings.CheckEnd.{CheckEnd}
use Rattle.certificate_checker.specs.declared.findings.CheckEnd.TheVariants as end
use Rattle.certificate_checker.specs.Words.{finding_line}
use Rattle.market_certificate.specs.Tables.{Tables}
use Rattle.market_host.specs.declared.ended.Ended.{Ended}
use Rattle.market_host.specs.declared.ended.Output.{Output}
use Rattle.market_host.specs.declared.ended.Output.TheVariants.{Text, Line}
use Rattle.market_host.specs.declared.status.Status.TheVariants.{Done, Found}

abbrev pub bytes_of : Output → List ℕ
bytes_of (Text text) = text.items
bytes_of (Line line) = line

-- how a call ends that has looked at a published text: with what it was told of it, or with the
-- first finding on it
abbrev pub IsToldEnd : Tables → Result (Vec ℕ Global) CheckEnd → Ended → Type 0
IsToldEnd tables (Ok text) ended = (ended.status ≡ Done) × (bytes_of ended.output ≡ text.items)
IsToldEnd tables (Err (end.Found finding)) ended =
    (ended.status ≡ Found finding) × (bytes_of ended.output ≡ finding_line tables finding)
IsToldEnd tables (Err end.NoMemory) ended = ⊥
