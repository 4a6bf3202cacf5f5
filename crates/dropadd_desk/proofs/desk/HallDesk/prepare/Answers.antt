use Rattle.std.proofs.Common.{◌∙◌, [], ap, sym, subst, length, map, replicate}
use Rattle.std.proofs.lemmas.List.{length-map}
use Rattle.bundle_rules.specs.Bundles.{sections_of}
use Rattle.held_seats.specs.Floors.{IsFloor, held_on}
use Rattle.dropadd_desk.proofs.BundleParts.{bundles_ascend}
use Rattle.dropadd_desk.proofs.StateLemmas.{opening_of}
use Rattle.dropadd_desk.proofs.desk.HallDesk.prepare.Goals as goal

pub invariant_of-result : goal.invariant_of-result
invariant_of-result c = record {
  is_market = c.seats.ensures.market;
  counted = subst (λ l. IsFloor l c.in_ok-floor.floor) c.seats.ensures.seats c.in_ok-floor.ensures.floor;
  hall =
      opening_of c.in_ok-rules.rules (record { catalog = c.args.catalog.now; roll = c.args.roll.now }) (held_on c.in_ok-floor.floor)
      (map sections_of c.args.final_bundles.now) c.in_ok-lists.lists c.in_ok-rules.ensures c.in_ok-floor.ensures.held
      (length-map c.args.final_bundles.now sections_of ∙ c.requires.each) c.requires.within (bundles_ascend c.args.final_bundles.now)
      (ap (λ l. l.lists) c.in_ok-lists.ensures ∙ ap (λ n. replicate n []) c.len.ensures.count);
  wide = ap (λ l. l.width) c.in_ok-lists.ensures ∙ c.len-2.ensures.len ∙ ap (λ m. length m.roll.students) (sym c.in_ok-rules.ensures);
}
