use Rattle.std.proofs.Common.{◌∙◌, sym, refl, inr}
use Rattle.csv.specs.Reading.{Reached, strip_bom}
use Rattle.table_records.proofs.walk.records_in.Goals as goal

pub returns : goal.returns
unfolding Reached
returns c =
    let made = c.from_reader.ensures in
    let flexible = c.flexible.ensures in
    let headers = c.has_headers.ensures in
    rw c.into_byte_records.ensures.rdr (record {
      untrimmed = rw (flexible, headers) at made.trim ∙ c.new.ensures.trim;
      ready = inr (inr (rw (flexible, headers) at made.has_headers, made.headers));
      flexible = rw flexible at made.flexible;
      left = c.into_byte_records.ensures.left;
      config = rw (flexible, headers) at made.config ∙ c.new.ensures.config;
      rest = strip_bom c.args.text.now;
      source = made.source;
      reached = (sym made.state, refl);
    })
