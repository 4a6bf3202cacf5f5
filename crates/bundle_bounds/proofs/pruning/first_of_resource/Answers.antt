use Rattle.std.proofs.Common.{◌≡◌, ◌≤◌, subst, arith, sym, ◌∙◌, to_z, of_z, w64}
use Rattle.std.proofs.lemmas.Int.{ints}
use Rattle.std.proofs.lemmas.Bool.{true≢false}
use Rattle.market_units.specs.Totals.{total}
use Rattle.bundle_bounds.specs.Courses.{takes_of}
use Rattle.bundle_bounds.proofs.Steps.{no_prospect}
use Rattle.bundle_bounds.proofs.Prefixes.{none_more, first_at, none_where_known}
use Rattle.bundle_bounds.proofs.Ample.{none_where_ample}
use Rattle.bundle_bounds.proofs.pruning.first_of_resource.Goals as goal

pub returns-then-fits-clause-none : goal.returns-then-fits-clause-none
returns-then-fits-clause-none c =
    none_where_ample c.args.base.number c.args.limit c.args.left.rest c.args.left.resource c.args.all.now.list.now c.requires.plain
    (subst (λ n. total (takes_of c.args.left.resource) c.args.all.now.list.now ≤ n) c.from.ensures (c.fits.ensures c.if-fits.true)) c.args.all.now.modest

pub returns-then-is_all-clause-none : goal.returns-then-is_all-clause-none
returns-then-is_all-clause-none c =
    let l : to_z w64 (of_z w64 c.args.limit) ≡ c.args.limit = omega (arith, ints) in
    none_where_known c.args.base.number c.args.limit c.args.left.rest c.args.left.resource c.args.all.now.list.now c.loop-prospect.known
    (rw l at c.loop-prospect.invariant.known_is) (c.is_all.ensures c.if-is_all.true) c.args.all.now.list.now c.args.all.now.modest

pub returns-then-is_below-clause-first : goal.returns-then-is_below-clause-first
returns-then-is_below-clause-first c =
    let l : to_z w64 (of_z w64 c.args.limit) ≡ c.args.limit = omega (arith, ints) in
    rw c.leaf_of.ensures
    (first_at c.args.base.number c.args.limit c.args.left.rest c.args.left.resource c.args.all.now.list.now c.args.all.now.list.now c.loop-prospect.prospect-index no_prospect
    c.loop-prospect-test.true (rw l at c.loop-prospect.invariant.none_is) ((rw l at c.is_below.ensures.below).0 c.if-is_below.true))

pub returns-then-is_below-clause-last : goal.returns-then-is_below-clause-last
returns-then-is_below-clause-last c = c.is_below.ensures.last c.loop-prospect.invariant.last_is

pub loop-prospect-preserved : goal.loop-prospect-preserved
loop-prospect-preserved c =
    let l : to_z w64 (of_z w64 c.args.limit) ≡ c.args.limit = omega (arith, ints) in
    rw l (record {
      known_is = rw l at c.is_below.ensures.known;
      last_is = c.is_below.ensures.last c.loop-prospect.invariant.last_is;
      none_is =
          none_more c.args.base.number c.args.limit c.args.left.rest c.args.left.resource c.args.all.now.list.now c.args.all.now.list.now c.loop-prospect.prospect-index no_prospect
          c.loop-prospect-test.true (rw l at c.loop-prospect.invariant.none_is)
          (λ below. true≢false (sym ((rw l at c.is_below.ensures.below).1 below) ∙ c.if-is_below.false));
    })
