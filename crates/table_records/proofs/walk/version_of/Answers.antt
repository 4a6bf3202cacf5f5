use Rattle.std.proofs.Common.{arith, ◌∙◌, sym, Some, None}
use Rattle.std.specs.Cmp.Lexicographic.{pointwise}
use Rattle.std.specs.Str.{bytes_eq}
use Rattle.csv.specs.Records.{fields_of}
use Rattle.table_records.proofs.HeaderFacts.{header_is, header_is_not, header_none, headers_of, version_of-place}
use Rattle.table_records.proofs.walk.version_of.Goals as goal

pub returns-then-is_header : goal.returns-then-is_header
returns-then-is_header c =
    let test = pointwise bytes_eq (fields_of c.args.fields.now) in
    sym (version_of-place test (headers_of c.args.headers.now) (Some c.loop-place.place)
    (header_is test c.loop-place.place c.args.headers.now _ _ (omega arith) c.loop-place.invariant (sym (sym c.is_header.ensures ∙ c.if-is_header.true))))

pub loop-place-preserved : goal.loop-place-preserved
loop-place-preserved c =
    header_is_not (pointwise bytes_eq (fields_of c.args.fields.now)) c.loop-place.place c.args.headers.now _ _ (omega arith) c.loop-place.invariant
    (sym (sym c.is_header.ensures ∙ c.if-is_header.false))

pub returns : goal.returns
returns c =
    let test = pointwise bytes_eq (fields_of c.args.fields.now) in
    sym
    (version_of-place test (headers_of c.args.headers.now) None
    (header_none test c.loop-place.place c.args.headers.now _ (omega arith) c.loop-place.invariant))
