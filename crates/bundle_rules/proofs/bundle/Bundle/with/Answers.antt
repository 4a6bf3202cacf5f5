use Rattle.std.proofs.Common.{◌<◌, ◌≡◌, length, length-set, ◌∙◌, arith}
use Rattle.bundle_rules.specs.Bundles.{sections_of}
use Rattle.bundle_rules.proofs.Bundled.{length-sections_of, ordinals-put, padding-put}
use Rattle.bundle_rules.proofs.bundle.Bundle.with.Goals as goal

pub bounds-sections-from : goal.bounds-sections-from
bounds-sections-from c = omega (arith, length-sections_of c.args.self, c.requires.room, c.from.ensures)

pub invariant_of-result : goal.invariant_of-result
unfolding sections_of
invariant_of-result c =
    let whole : length c.args.self.sections ≡ 8 = c.args.self.whole in
    let room : c.args.self.len < 8 = omega (arith, length-sections_of c.args.self, c.requires.room) in
    record {
      whole = length-set c.args.self.sections c.from.result c.args.section ∙ whole;
      short = omega arith;
      ascending = rw (ordinals-put c.args.self.sections c.args.self.len c.from.result c.args.section c.from.ensures (omega arith)) c.requires.above;
      padded = padding-put c.args.self.sections c.args.self.len c.from.result c.args.section c.from.ensures room c.args.self.padded;
    }

pub returns : goal.returns
unfolding sections_of
returns c =
    let whole : length c.args.self.sections ≡ 8 = c.args.self.whole in
    let room : c.args.self.len < 8 = omega (arith, length-sections_of c.args.self, c.requires.room) in
    ordinals-put c.args.self.sections c.args.self.len c.from.result c.args.section c.from.ensures (omega arith)
