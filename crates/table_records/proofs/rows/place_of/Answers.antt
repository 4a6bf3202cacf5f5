use Rattle.std.proofs.Common.{◌∙◌}
use Rattle.std.specs.Str.{bytes_eq}
use Rattle.market_units.specs.Name.{name_bytes}
use Rattle.table_records.specs.Reading.{bytes_of}
use Rattle.table_records.proofs.NameFacts.{position-bytes_of, stands_at}
use Rattle.table_records.proofs.rows.place_of.Goals as goal

pub returns-clause-place : goal.returns-clause-place
returns-clause-place c = c.get_index_of.ensures.index ∙ position-bytes_of (bytes_eq (name_bytes c.args.name.now)) c.args.names.now.keys

pub returns-clause-found : goal.returns-clause-found
returns-clause-found c =
    stands_at (name_bytes c.args.name.now) (bytes_of c.args.names.now.keys) c.get_index_of.result
    (c.get_index_of.ensures.index ∙ position-bytes_of (bytes_eq (name_bytes c.args.name.now)) c.args.names.now.keys)
