use Rattle.std.proofs.Common.{ℕ, ◌≡◌, ◌<◌, ◌∙◌, arith, below_more, length, sym, vec_len}
use Rattle.held_seats.specs.Floors.{held_on}
use Rattle.certificate_checker.specs.Views.{printed_in}
use Rattle.certificate_checker.proofs.Allocating.{use_is}
use Rattle.certificate_checker.proofs.Reading.{HasLengths, denied, lengths}
use Rattle.certificate_checker.proofs.seats.check_used.Goals as goal

pub index-told-requires : goal.index-told-requires
index-told-requires c =
    let terms = c.args.printed.now.terms.now in
    let publication = c.args.printed.now.publication.now in
    let long : HasLengths terms publication = lengths terms publication c.args.printed.now.can in
    let inside : c.loop-place.place < length publication.used.items = omega arith in
    let whole : vec_len publication.used ≡ length publication.used.items = publication.used.ok.0 in
    omega arith

pub returns-then-not-is_used-clause-first : goal.returns-then-not-is_used-clause-first
returns-then-not-is_used-clause-first c =
    let terms = c.args.printed.now.terms.now in
    let publication = c.args.printed.now.publication.now in
    let k : ℕ = c.loop-place.place in
    let long : HasLengths terms publication = lengths terms publication c.args.printed.now.can in
    let seats : length terms.seats.items ≡ terms.crowd.sections = long.seats in
    let used : length publication.used.items ≡ terms.crowd.sections = long.used in
    let inside : k < length terms.seats.items = omega arith in
    let said =
    use_is publication.used.items terms.seats.items c.args.floor.now.used.items (held_on c.args.floor.now) (printed_in c.args.printed.now).allocation k
    c.index-told.result.now c.index.result.now c.index-in-loop-place.result.now (used ∙ sym seats) c.requires.floor.is_floor.counts c.requires.floor.held inside
    c.index-told.ensures c.index.ensures c.index-in-loop-place.ensures in
    record {
      before = c.requires.before;
      found = record {
        within = omega arith;
        before = c.loop-place.invariant;
        fails = λ is. denied c.is_used.result c.is_used.ensures c.if-not-is_used.true (said.1 is);
      };
    }

pub loop-place-preserved : goal.loop-place-preserved
loop-place-preserved c =
    let terms = c.args.printed.now.terms.now in
    let publication = c.args.printed.now.publication.now in
    let k : ℕ = c.loop-place.place in
    let long : HasLengths terms publication = lengths terms publication c.args.printed.now.can in
    let seats : length terms.seats.items ≡ terms.crowd.sections = long.seats in
    let used : length publication.used.items ≡ terms.crowd.sections = long.used in
    let inside : k < length terms.seats.items = omega arith in
    let said =
    use_is publication.used.items terms.seats.items c.args.floor.now.used.items (held_on c.args.floor.now) (printed_in c.args.printed.now).allocation k
    c.index-told.result.now c.index.result.now c.index-in-loop-place.result.now (used ∙ sym seats) c.requires.floor.is_floor.counts c.requires.floor.held inside
    c.index-told.ensures c.index.ensures c.index-in-loop-place.ensures in
    below_more _ _ c.loop-place.invariant (said.0 (c.is_used.ensures.0 c.if-not-is_used.false))
