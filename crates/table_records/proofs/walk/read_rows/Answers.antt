use Rattle.std.proofs.Common.{arith, refl, ◌≡◌, ◌∙◌, [], ◌∷◌, ◌++◌, length, ap, sym, Some, None}
use Rattle.std.proofs.lemmas.List.{length-map}
use Rattle.std.proofs.lemmas.Result.{err_from_is_err_and}
use Rattle.csv.specs.Records.{fields_of}
use Rattle.market_units.specs.Name.{name_bytes}
use Rattle.table_records.specs.Records.{first_field}
use Rattle.table_records.specs.Reading.{version_of}
use Rattle.table_records.proofs.RecordFacts.{given-all, given-begin, given-count, given-more}
use Rattle.table_records.proofs.WalkFacts.{read-all, read-none, read-other, read-refused, read-row}
use Rattle.table_records.proofs.walk.read_rows.Goals as goal

pub returns-in-None-clause-refused : goal.returns-in-None-clause-refused
returns-in-None-clause-refused g c =
    let has = c.records_in-records.ensures in
    let s = rw c.in-None.is at ((c.next.ensures.steps has.left has.untrimmed).0 has.ready) in
    rw (given-all c.args.text.now c.records_in-records.result c.next.new.self [] has s) (rw c.refuse.ensures refl)

pub returns-in_default-clause-refused : goal.returns-in_default-clause-refused
returns-in_default-clause-refused g c =
    let has = c.records_in-records.ensures in
    let step = rw (c.in-Some-Ok.is, c.in-Some-Ok.field-0-is) at (c.next.ensures.steps has.left has.untrimmed) in
    let s = step.0 has.ready in
    let given = given-more c.args.text.now c.records_in-records.result c.next.new.self [] (fields_of c.in-Some-Ok.first) has s.0 s.1 s.2 step.3 in
    let (rest, all) = given-begin c.args.text.now c.next.new.self (fields_of c.in-Some-Ok.first ∷ []) given in
    let other : version_of (g.T.Table.rules c.args.table.now).headers (fields_of c.in-Some-Ok.first) ≡ None =
    rw (← c.headers.ensures) (sym c.in_default.ensures) in
    rw all (read-other (g.T.Table.rules c.args.table.now) (fields_of c.in-Some-Ok.first) rest other ∙ rw c.refuse-in_default.ensures refl)

pub loop-next-init : goal.loop-next-init
loop-next-init g c =
    let has = c.records_in-records.ensures in
    let step = rw (c.in-Some-Ok.is, c.in-Some-Ok.field-0-is) at (c.next.ensures.steps has.left has.untrimmed) in
    let s = step.0 has.ready in
    let given = given-more c.args.text.now c.records_in-records.result c.next.new.self [] (fields_of c.in-Some-Ok.first) has s.0 s.1 s.2 step.3 in
    let same : version_of (g.T.Table.rules c.args.table.now).headers (fields_of c.in-Some-Ok.first) ≡ Some c.in-Some.version =
    rw (← c.headers.ensures) (sym c.in-Some.ensures) in
    rw c.into_iter-next-iterator.ensures.into_iter_gives (
      fields_of c.in-Some-Ok.first,
      [],
      given,
      read-none (g.T.Table.rules c.args.table.now) g.T.Table.name_of g.T.Table.is_row (fields_of c.in-Some-Ok.first) _ same c.new.ensures.empty
          c.new-2.ensures.items,
    )

pub take_record-requires-clause-version : goal.take_record-requires-clause-version
take_record-requires-clause-version g c = c.loop-next.invariant.3.known

pub take_record-requires-clause-count : goal.take_record-requires-clause-count
take_record-requires-clause-count g c =
    let (first, later, has, read) = c.loop-next.invariant in
    let step = rw (c.in-Some-next.is, c.in-Ok.is) at (c.next-in-loop-next.ensures.steps has.left has.untrimmed) in
    let s = step.0 has.ready in
    let given =
    given-more c.args.text.now c.loop-next.next-iterator c.next-in-loop-next.new.self (first ∷ later) (fields_of c.in-Ok.fields) has s.0 s.1 s.2 step.3 in
    omega (
      arith,
      given-count c.args.text.now c.next-in-loop-next.new.self first (fields_of c.in-Ok.fields) later c.requires given,
      ap length read.names,
      length-map later first_field,
      length-map c.loop-next.rows.names.keys name_bytes,
    )

pub returns-in_err-take_record-clause-refused : goal.returns-in_err-take_record-clause-refused
returns-in_err-take_record-clause-refused g c =
    let (first, later, has, read) = c.loop-next.invariant in
    let step = rw (c.in-Some-next.is, c.in-Ok.is) at (c.next-in-loop-next.ensures.steps has.left has.untrimmed) in
    let s = step.0 has.ready in
    let given =
    given-more c.args.text.now c.loop-next.next-iterator c.next-in-loop-next.new.self (first ∷ later) (fields_of c.in-Ok.fields) has s.0 s.1 s.2 step.3 in
    let (rest, all) = given-begin c.args.text.now c.next-in-loop-next.new.self ((first ∷ later) ++ fields_of c.in-Ok.fields ∷ []) given in
    let p = err_from_is_err_and c.from_residual.result c.from_residual.ensures.1 in
    rw (p.1, p.2, all)
    (read-refused (g.T.Table.rules c.args.table.now) g.T.Table.name_of g.T.Table.is_row first later (fields_of c.in-Ok.fields) rest c.loop-next.rows _ read
    c.in_err-take_record.ensures.refused)

pub loop-next-preserved : goal.loop-next-preserved
loop-next-preserved g c =
    let (first, later, has, read) = c.loop-next.invariant in
    let step = rw (c.in-Some-next.is, c.in-Ok.is) at (c.next-in-loop-next.ensures.steps has.left has.untrimmed) in
    let s = step.0 has.ready in
    let given =
    given-more c.args.text.now c.loop-next.next-iterator c.next-in-loop-next.new.self (first ∷ later) (fields_of c.in-Ok.fields) has s.0 s.1 s.2 step.3 in (
      first,
      later ++ fields_of c.in-Ok.fields ∷ [],
      given,
      read-row (g.T.Table.rules c.args.table.now) g.T.Table.name_of g.T.Table.is_row first later (fields_of c.in-Ok.fields) c.loop-next.rows
          c.take_record.new.rows read c.in_ok-take_record.ensures.taken,
    )

pub returns-clause-rows : goal.returns-clause-rows
returns-clause-rows g c =
    let (first, later, has, read) = c.loop-next.invariant in
    let s = rw c.in-None-next.is at ((c.next-in-loop-next.ensures.steps has.left has.untrimmed).0 has.ready) in
    rw (given-all c.args.text.now c.loop-next.next-iterator c.next-in-loop-next.new.self (first ∷ later) has s)
    (read-all (g.T.Table.rules c.args.table.now) g.T.Table.name_of g.T.Table.is_row first later c.loop-next.rows read)

pub returns-clause-distinct : goal.returns-clause-distinct
returns-clause-distinct g c = c.loop-next.invariant.3.distinct

pub returns-clause-version : goal.returns-clause-version
returns-clause-version g c = c.loop-next.invariant.3.known
