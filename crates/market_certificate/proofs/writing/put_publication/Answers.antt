use Rattle.std.proofs.Common.{◌≡◌, map, subst}
use Rattle.bundle_rules.specs.Bundles.{sections_of}
use Rattle.market_units.specs.Name.{name_bytes}
use Rattle.market_certificate.specs.Lines.{joined}
use Rattle.market_certificate.specs.Tables.{Tables}
use Rattle.market_certificate.specs.Texts.{bundle_line, each_line, final_line, text_of, turn_line}
use Rattle.market_certificate.specs.Views.{proved_of, publication_of, seen, turn_of}
use Rattle.market_certificate.proofs.Written.{same_parts, text_written}
use Rattle.market_certificate.proofs.writing.put_publication.Goals as goal

pub returns : goal.returns
returns c =
    let p = publication_of c.args.publication.now in
    let tables : Tables = seen c.in_ok-tables.tables in
    let written =
    text_written tables p c.new-text.result.items c.put_head.new.text.items c.put_order.new.text.items c.put_amounts.new.text.items
    c.put_amounts-2.new.text.items c.put_error.new.text.items c.put_amounts-3.new.text.items
    c.put_bundles.new.text.items c.put_turns.new.text.items c.put_allocation.new.text.items c.put_seats.new.text.items c.extend_from_slice.new.self.items
    c.new-text.ensures.items c.in_ok-put_head.ensures
    (rw c.deref.ensures.value at c.in_ok-put_order.ensures) (rw (c.deref-2.ensures.value, c.deref-3.ensures.value) at c.in_ok-put_amounts.ensures)
    (rw (c.deref-4.ensures.value, c.deref-5.ensures.value) at c.in_ok-put_amounts-2.ensures) c.in_ok-put_error.ensures
    (rw (c.deref-6.ensures.value, c.deref-7.ensures.value) at c.in_ok-put_amounts-3.ensures)
    (same_parts (λ sections students bundles. joined (each_line (bundle_line (map name_bytes sections)) (map name_bytes students) (map proved_of bundles)))
    c.in_ok-tables.tables.sections.items c.deref-8.result.now c.in_ok-tables.tables.students.items c.deref-9.result.now c.args.publication.now.bundles.items
    c.deref-10.result.now c.put_amounts-3.new.text.items c.put_bundles.new.text.items c.deref-8.ensures.value c.deref-9.ensures.value
    c.deref-10.ensures.value c.in_ok-put_bundles.ensures)
    (same_parts (λ students sections turns. joined (map (turn_line (map name_bytes students) (map name_bytes sections)) (map turn_of turns)))
    c.in_ok-tables.tables.students.items c.deref-11.result.now c.in_ok-tables.tables.sections.items c.deref-12.result.now c.args.publication.now.turns.items
    c.deref-13.result.now c.put_bundles.new.text.items c.put_turns.new.text.items c.deref-11.ensures.value c.deref-12.ensures.value c.deref-13.ensures.value
    c.in_ok-put_turns.ensures)
    (same_parts (λ sections students bundles. joined (each_line (final_line (map name_bytes sections)) (map name_bytes students) (map sections_of bundles)))
    c.in_ok-tables.tables.sections.items c.deref-14.result.now c.in_ok-tables.tables.students.items c.deref-15.result.now
    c.args.publication.now.allocation.items c.deref-16.result.now c.put_turns.new.text.items c.put_allocation.new.text.items c.deref-14.ensures.value
    c.deref-15.ensures.value c.deref-16.ensures.value c.in_ok-put_allocation.ensures)
    (rw (c.deref-17.ensures.value, c.deref-18.ensures.value) at c.in_ok-put_seats.ensures)
    c.in_ok-extend_from_slice.ensures.items in
    subst (λ (tables : Tables). c.extend_from_slice.new.self.items ≡ text_of tables p) c.in_ok-tables.ensures written
