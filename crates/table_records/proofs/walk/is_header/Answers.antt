use Rattle.std.proofs.Common.{rules, arith, ◌≡◌, Bool, true, false, not}
use Rattle.csv.specs.Records.{fields_of}
use Rattle.table_records.proofs.HeaderFacts.{field_is, field_is_not}
use Rattle.table_records.proofs.walk.is_header.Goals as goal

opposite_true : (b : Bool) → true ≡ not b → false ≡ b
opposite_true b h = search rules

opposite_false : (b : Bool) → false ≡ not b → true ≡ b
opposite_false b h = search rules

pub returns-then-ne : goal.returns-then-ne
returns-then-ne c =
    field_is_not c.loop-i.i (fields_of c.args.fields.now) c.args.header.now _ _ (omega (arith, c.loop-i.invariant.as_long)) (omega arith)
    c.loop-i.invariant.left (opposite_true _ (rw c.field_in.ensures at c.if-ne.ensures))

pub loop-i-preserved : goal.loop-i-preserved
loop-i-preserved c = record {
  as_long = c.loop-i.invariant.as_long;
  left =
      field_is c.loop-i.i (fields_of c.args.fields.now) c.args.header.now _ _ (omega (arith, c.loop-i.invariant.as_long)) (omega arith) c.loop-i.invariant.left
      (opposite_false _ (rw c.field_in.ensures at c.if-ne.ensures));
}
