use Rattle.std.proofs.Common.{◌≡◌, length, map, drop}
use Rattle.std.specs.Cmp.Lexicographic.{pointwise}
use Rattle.std.specs.Str.{bytes_eq}
use Rattle.csv.specs.Records.{fields_of}
use Rattle.table_records.proofs.walk.is_header.Given as goal

-- whether the fields so far are the header's is decided by the fields that are left
abbrev pub invariant-loop-i : goal.invariant-loop-i
invariant-loop-i l = record {
  as_long : length (fields_of l.fields) ≡ length l.header;
  left : pointwise bytes_eq (drop l.i (fields_of l.fields)) (drop l.i (map (λ f. f.now) l.header))
      ≡ pointwise bytes_eq (fields_of l.fn.fields) (map (λ f. f.now) l.fn.header);
}
