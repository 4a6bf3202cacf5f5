use Rattle.std.proofs.Common.{◌<◌, ◌∙◌, ◌||◌, length, ap, arith}
use Rattle.std.specs.FinSet as set
use Rattle.std.proofs.lemmas.List.{length-map}
use Rattle.market_units.specs.Members.{has}
use Rattle.bundle_rules.specs.Bundles.{sections_of}
use Rattle.held_seats.specs.Floors.{held_on}
use Rattle.held_seats.proofs.Holding.{all_listed, below_item, there_at, may_choose_of}
use Rattle.held_seats.proofs.floor.Floor.choices.Goals as goal

pub with_all-requires : goal.with_all-requires
with_all-requires c =
    let low : c.args.place < length c.args.self.now.held.items =
    let inside = c.requires.place in omega (arith, inside, length-map c.args.self.now.held.items sections_of) in
    all_listed (λ s. s < 400) c.sections.result.now (sections_of c.index.result.now) c.sections.ensures.value
    (below_item 400 c.args.self.now.held.items c.args.place c.index.result.now c.requires.below low c.index.ensures)

pub returns : goal.returns
returns c = λ seats floor s.
    let low : c.args.place < length c.args.self.now.held.items =
    let inside = c.requires.place in omega (arith, inside, length-map c.args.self.now.held.items sections_of) in
    may_choose_of seats (held_on c.args.self.now) c.args.place (sections_of c.index.result.now) c.args.self.now.used.items c.args.self.now.free
    c.with_all.result (there_at c.args.self.now.held.items c.args.place c.index.result.now low c.index.ensures) floor.counts floor.free
    (λ t. c.with_all.ensures t ∙ ap (λ bundle. has bundle t || set.contains c.args.self.now.free t) c.sections.ensures.value) s
