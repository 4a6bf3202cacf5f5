use Rattle.std.proofs.Common.{◌≡◌, ◌<◌, ◌≤◌, length, below_more, ap, arith, rules, sym, ◌∙◌}
use Rattle.std.proofs.lemmas.List.{length-map}
use Rattle.bundle_rules.specs.Bundles.{sections_of}
use Rattle.market_certificate.specs.Views.{publication_of}
use Rattle.published_parts.specs.Holdings.{demanded, held_after}
use Rattle.certificate_checker.proofs.Allocating.{are_equal, are_unequal}
use Rattle.certificate_checker.proofs.Reading.{HasLengths, fewer, lengths}
use Rattle.certificate_checker.proofs.Turning.{after_length}
use Rattle.certificate_checker.proofs.allocation.check_allocation.Goals as goal

pub index-requires-in-loop-place : goal.index-requires-in-loop-place
index-requires-in-loop-place c =
    let p = publication_of c.args.printed.now.publication.now in
    let long : HasLengths c.args.printed.now.terms.now c.args.printed.now.publication.now = lengths c.args.printed.now.terms.now c.args.printed.now.publication.now c.args.printed.now.can in
    let held : length c.args.floor.now.held.items ≡ length c.args.printed.now.terms.now.crowd.menus.items =
    sym (length-map c.args.floor.now.held.items sections_of) ∙ ap length c.requires.floor.held
    ∙ after_length c.args.printed.now.terms.now c.args.printed.now.publication.now p.turns c.args.printed.now.can in
    omega arith

pub overflow_cast-result : goal.overflow_cast-result
overflow_cast-result c =
    let long : HasLengths c.args.printed.now.terms.now c.args.printed.now.publication.now = lengths c.args.printed.now.terms.now c.args.printed.now.publication.now c.args.printed.now.can in
    let few : c.loop-place.place ≤ 2000 = omega arith in
    search rules

pub returns-then-ne : goal.returns-then-ne
returns-then-ne c =
    let p = publication_of c.args.printed.now.publication.now in
    let long : HasLengths c.args.printed.now.terms.now c.args.printed.now.publication.now = lengths c.args.printed.now.terms.now c.args.printed.now.publication.now c.args.printed.now.can in
    let held : length c.args.floor.now.held.items ≡ length c.args.printed.now.terms.now.crowd.menus.items =
    sym (length-map c.args.floor.now.held.items sections_of) ∙ ap length c.requires.floor.held
    ∙ after_length c.args.printed.now.terms.now c.args.printed.now.publication.now p.turns c.args.printed.now.can in
    let low : c.loop-place.place < length c.args.printed.now.publication.now.allocation.items = omega arith in
    let small : c.loop-place.place < length c.args.floor.now.held.items = omega arith in (
      tt,
      record {
        before = c.requires.before;
        found = record {
          within = omega arith;
          before = c.loop-place.invariant;
          fails =
              are_unequal c.args.printed.now.publication.now.allocation.items c.args.floor.now.held.items (held_after (demanded p) p.turns) c.loop-place.place
              c.index.result.now c.index-in-loop-place.result.now low small c.index.ensures c.index-in-loop-place.ensures c.requires.floor.held
              (sym c.ne.ensures ∙ c.if-ne.true);
        };
      },
    )

pub loop-place-preserved : goal.loop-place-preserved
loop-place-preserved c =
    let p = publication_of c.args.printed.now.publication.now in
    let long : HasLengths c.args.printed.now.terms.now c.args.printed.now.publication.now = lengths c.args.printed.now.terms.now c.args.printed.now.publication.now c.args.printed.now.can in
    let held : length c.args.floor.now.held.items ≡ length c.args.printed.now.terms.now.crowd.menus.items =
    sym (length-map c.args.floor.now.held.items sections_of) ∙ ap length c.requires.floor.held
    ∙ after_length c.args.printed.now.terms.now c.args.printed.now.publication.now p.turns c.args.printed.now.can in
    let low : c.loop-place.place < length c.args.printed.now.publication.now.allocation.items = omega arith in
    let small : c.loop-place.place < length c.args.floor.now.held.items = omega arith in
    below_more _ _ c.loop-place.invariant
    (are_equal c.args.printed.now.publication.now.allocation.items c.args.floor.now.held.items (held_after (demanded p) p.turns) c.loop-place.place c.index.result.now
    c.index-in-loop-place.result.now low small c.index.ensures c.index-in-loop-place.ensures c.requires.floor.held (sym c.ne.ensures ∙ c.if-ne.false))

pub returns : goal.returns
returns c =
    let long : HasLengths c.args.printed.now.terms.now c.args.printed.now.publication.now = lengths c.args.printed.now.terms.now c.args.printed.now.publication.now c.args.printed.now.can in
    ((c.requires.before, fewer _ c.loop-place.place _ (omega arith) c.loop-place.invariant), tt)
