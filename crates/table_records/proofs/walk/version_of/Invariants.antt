use Rattle.std.proofs.Common.{◌≡◌, drop}
use Rattle.std.specs.Cmp.Lexicographic.{pointwise}
use Rattle.std.specs.List.{position_from}
use Rattle.std.specs.Str.{bytes_eq}
use Rattle.csv.specs.Records.{fields_of}
use Rattle.table_records.proofs.HeaderFacts.{headers_of}
use Rattle.table_records.proofs.walk.version_of.Given as goal

-- the first header that the fields are is among those that are left
abbrev pub invariant-loop-place : goal.invariant-loop-place
invariant-loop-place l =
    position_from (pointwise bytes_eq (fields_of l.fields)) l.place (drop l.place (headers_of l.headers))
    ≡ position_from (pointwise bytes_eq (fields_of l.fn.fields)) 0 (headers_of l.fn.headers)
