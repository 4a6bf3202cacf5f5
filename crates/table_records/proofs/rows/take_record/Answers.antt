use Rattle.std.proofs.Common.{rules, arith, ◌≡◌, ◌∙◌, ◌+◌, ◌++◌, ◌∷◌, [], Some, None, length, ap, Ok, true}
use Rattle.std.specs.Prelude.{position}
use Rattle.std.specs.Str.{bytes_eq}
use Rattle.std.proofs.lemmas.List.{length-map}
use Rattle.std.proofs.lemmas.Grind.{common_steps}
use Rattle.csv.specs.Records.{fields_of}
use Rattle.market_units.specs.Name.{name_bytes}
use Rattle.table_records.specs.Columns.{is_name, name_of}
use Rattle.table_records.specs.Records.{first_field}
use Rattle.table_records.specs.Reading.{bytes_of, header_of, refusal_if_full}
use Rattle.table_records.proofs.WalkFacts.{answer_to-row, named}
use Rattle.table_records.proofs.rows.take_record.Goals as goal

pub returns-clause-taken : goal.returns-clause-taken
returns-clause-taken g c =
    let rules_of = g.T.Table.rules c.args.table.now in
    let names = bytes_of c.args.rows.now.names.keys in
    let fields = fields_of c.args.fields.now in
    let name = name_bytes c.in-Some-name_in.name in
    let count : length names ≡ length c.args.rows.now.names.keys = length-map c.args.rows.now.names.keys name_bytes in
    let room : None ≡ refusal_if_full rules_of.most (length c.args.rows.now.names.keys) = grind (arith, common_steps) in
    let version = c.args.rows.now.version in
    let width : length fields ≡ length (header_of rules_of.headers version) = omega (arith, c.if-len-width_of.false, c.width_of.ensures) in
    let is : Some name ≡ name_of (first_field fields) = c.in-Some-name_in.ensures in
    let knows : true ≡ rules_of.knows name = search rules in
    let new : None ≡ position (bytes_eq name) names = rw c.in-Ok-None.field-0-is at c.in-Ok-None.ensures.is_place in
    let read : Ok c.in-Ok.read ≡ rules_of.row version (length names + 2) fields = rw (count, ← c.len-2.ensures.len) c.in-Ok.ensures.row in
    let same : name ≡ first_field fields = (named (is_name (first_field fields)) (first_field fields) name is).1 in
    record {
      row = c.in-Ok.read;
      answer = answer_to-row rules_of version names fields name c.in-Ok.read (rw count room) width is knows new read;
      version = search rules;
      rows = search rules;
      names = rw c.in-Ok-None.field-0-is at c.in-Ok-None.ensures.added ∙ ap (λ n. names ++ n ∷ []) same;
      named = c.in-Ok.ensures.name ∙ same;
      kept = c.in-Ok.ensures.kept;
      distinct = c.in-Ok-None.ensures.distinct;
    }
