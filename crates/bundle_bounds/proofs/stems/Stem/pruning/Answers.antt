use Rattle.std.proofs.Common.{◌≡◌, Option, None, Some, inl, refl, drop, sym, subst, arith, to_z, of_z, w64}
use Rattle.std.specs.Prelude.{pos, ◌*ℤ◌, IfSome, IfNone, All}
use Rattle.std.proofs.lemmas.Int.{ints}
use Rattle.bundle_bounds.specs.declared.nodes.Leaf.TheVariants.{Plain}
use Rattle.bundle_bounds.specs.Bounds.{all_bounds}
use Rattle.bundle_bounds.specs.Limits.{IsFirstBelow}
use Rattle.bundle_bounds.specs.Modest.{IsModest}
use Rattle.bundle_bounds.specs.Stems.{IsQuiet}
use Rattle.bundle_bounds.specs.Tangents.{AreTangents}
use Rattle.bundle_bounds.proofs.BelowLimit.{few_of_room, rest_of_room}
use Rattle.bundle_bounds.proofs.StemSteps.{stem_first, stem_none, stem_asked, none_at, none_told}
use Rattle.bundle_bounds.proofs.stems.Stem.pruning.Goals as goal

pub returns-then-self-clause-none : goal.returns-then-self-clause-none
returns-then-self-clause-none c =
    stem_none _ _ _ _ _ c.requires.stem c.len.ensures.menu c.requires.node c.requires.champion None (c.requires.stem.quiet c.if-self.true)

pub returns-then-is_plain_below-clause-first : goal.returns-then-is_plain_below-clause-first
returns-then-is_plain_below-clause-first c =
    let told = c.of-base.ensures in
    let b : c.of-base.result.number ≡ pos 1000 *ℤ c.args.self.now.utility = omega (arith, ints, told) in
    let l : to_z w64 (of_z w64 c.args.self.now.limit) ≡ c.args.self.now.limit = omega (arith, ints) in
    let below = rw (b, l, c.requires.stem.keeps.plain_is) at (c.is_plain_below.ensures.0 c.if-is_plain_below.true) in
    stem_first _ _ _ _ _ c.requires.stem c.len.ensures.menu c.requires.node c.requires.champion (Some Plain) (inl (below, refl))

pub invariant_of-all : goal.invariant_of-all
invariant_of-all c =
    let whole = c.requires.stem.keeps.whole in
    record {
      modest = subst (All IsModest) (sym (rest_of_room c.args.self.now.room c.args.self.now.start whole)) c.requires.stem.keeps.modest;
      few = few_of_room c.args.self.now.room c.args.self.now.start whole;
    }

pub returns : goal.returns
returns c =
    let is = c.requires.stem in
    let menu = c.len.ensures.menu in
    let rests = c.args.self.now.rests in
    let leaf = c.first_with-leaf.result in
    let room = rest_of_room c.args.self.now.room c.args.self.now.start is.keeps.whole in
    let told = c.of-base.ensures in
    let b : c.of-base.result.number ≡ pos 1000 *ℤ c.args.self.now.utility = omega (arith, ints, told) in
    let l : to_z w64 (of_z w64 c.args.self.now.limit) ≡ c.args.self.now.limit = omega (arith, ints) in
    let none : IfNone leaf (IsQuiet c.args.self.now.limit c.args.self.now.utility rests (drop c.args.self.now.start c.args.self.now.room)) =
    none_at leaf _ _ _ _ _ _ _ _ _ l b room c.first_with-leaf.ensures.none in
    record {
      first = stem_first _ _ _ _ _ is menu c.requires.node c.requires.champion leaf
          (subst
          (λ ps. IfSome leaf
          (IsFirstBelow c.args.self.now.limit (all_bounds (pos 1000 *ℤ c.args.self.now.utility) rests.budget rests.credits rests.courses ps)))
          room (rw (b, l) at c.first_with-leaf.ensures.first));
      none = stem_none _ _ _ _ _ is menu c.requires.node c.requires.champion leaf none;
      stem = stem_asked _ _ _ _ _ is c.first_with-leaf.new.tangents c.is_none-self.result
          (subst (λ ps. AreTangents rests.budget rests.credits rests.courses ps c.first_with-leaf.new.tangents) room c.first_with-leaf.ensures.tangents)
          (λ yes. subst
          (λ (r : Option _). IfNone r (IsQuiet c.args.self.now.limit c.args.self.now.utility rests (drop c.args.self.now.start c.args.self.now.room)))
          (none_told leaf c.is_none-self.result c.is_none-self.ensures yes) none);
    }
