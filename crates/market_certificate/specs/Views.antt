-- What publications and tables are seen as.
use Rattle.std.specs.Prelude.{map}
use Rattle.bundle_rules.specs.Bundles.{sections_of}
use Rattle.market_certificate.specs.declared.publication.Proved as proved
use Rattle.market_certificate.specs.declared.publication.ProvedTurn as turn
use Rattle.market_certificate.specs.declared.publication.Publication as publication
use Rattle.market_certificate.specs.declared.tables.TableNames as tables
use Rattle.market_units.specs.Name.{name_bytes}
use Rattle.market_certificate.specs.Tables.{Tables}
use Rattle.market_certificate.specs.Publications.{Proved, ProvedTurn, Publication}

-- a bundle with its tree, as their lists
abbrev pub proved_of : proved.Proved → Proved
proved_of p = record { bundle = sections_of p.bundle; tree = p.tree.items }

-- a turn, its student as a number, its bundle and tree as their lists
abbrev pub turn_of : turn.ProvedTurn → ProvedTurn
turn_of t =
    record {
      pass = t.pass;
      student = t.student.0;
      bundle = sections_of t.bundle;
      tree = t.tree.items;
    }

-- the lists of a publication, its amounts, students and sections as numbers
abbrev pub publication_of : publication.Publication → Publication
publication_of p = record {
  order = p.order.items;
  budgets = map (λ budget. budget.0) p.budgets.items;
  start = map (λ price. price.0) p.start.items;
  error = p.error;
  prices = map (λ price. price.0) p.prices.items;
  bundles = map proved_of p.bundles.items;
  turns = map turn_of p.turns.items;
  allocation = map sections_of p.allocation.items;
  used = p.used.items;
}

-- the names of both tables as their bytes
abbrev pub seen : tables.TableNames → Tables
seen t =
    record {
      version = t.version;
      students = map name_bytes t.students.items;
      sections = map name_bytes t.sections.items;
    }
