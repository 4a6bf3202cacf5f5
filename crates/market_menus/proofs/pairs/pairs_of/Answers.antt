use Rattle.std.proofs.Common.{sym, ◌∙◌}
use Rattle.preference_desk.specs.Rows.{pair_entry}
use Rattle.market_menus.specs.PairPlaces.{pair_among}
use Rattle.market_menus.proofs.PairFacts.{one_kept, one_left_out}
use Rattle.market_menus.proofs.pairs.pairs_of.Goals.{in-Some+in_ok-push, in_default}
use Rattle.market_menus.proofs.pairs.pairs_of.Goals as goal

pub pairs-preserved : goal.pairs-preserved
pairs-preserved c = elim c.match-pair_among.branch [
  | in-Some+in_ok-push w ↦ rw (w.kept-is, w.in_ok-push.ensures.items)
      (one_kept (λ pair. pair_among c.args.places.now.rated.now (pair_entry pair)) c.args.pairs.now c.pairs.pair-index _ w.in-Some.pair c.pairs.kept.items
      c.pairs-test.true c.pairs.invariant (sym c.pair_among.ensures ∙ w.in-Some.is))
  | in_default w ↦ rw w.kept-is
      (one_left_out (λ pair. pair_among c.args.places.now.rated.now (pair_entry pair)) c.args.pairs.now c.pairs.pair-index _ c.pairs.kept.items
      c.pairs-test.true
      c.pairs.invariant (sym c.pair_among.ensures ∙ w.in_default.is))
]
