use Rattle.std.proofs.Common.{◌∙◌, ap, below_more, get_or, sym}
use Rattle.std.specs.Prelude.{position}
use Rattle.dropadd_desk.specs.Fits.{fits}
use Rattle.dropadd_desk.specs.HallView.{market_of, state_of}
use Rattle.dropadd_desk.proofs.DeskLemmas.{fit_for, fits_told, position_found, position_none}
use Rattle.dropadd_desk.proofs.desk.HallDesk.first_fitting.Goals as goal

pub bundle-held-requires : goal.bundle-held-requires
bundle-held-requires c = c.waiting-waiting.ensures.students c.loop-place.place 0 c.loop-place-test.true

pub obstacle-requires-clause-known : goal.obstacle-requires-clause-known
obstacle-requires-clause-known c =
    record { student = c.waiting-waiting.ensures.students c.loop-place.place 0 c.loop-place-test.true; section = c.requires }

pub returns-then-is_none : goal.returns-then-is_none
returns-then-is_none c =
    position_found (fit_for (market_of c.args.self.now) (state_of c.args.self.now) c.args.section.0) c.waiting-waiting.result.now c.loop-place.place
    c.loop-place-test.true c.loop-place.invariant
    (ap (fits (market_of c.args.self.now) (get_or c.waiting-waiting.result.now c.loop-place.place 0) c.args.section.0) (sym c.bundle-held.ensures.value)
    ∙ fits_told _ _ _ c.obstacle.result c.is_none.result c.obstacle.ensures.obstacle c.is_none.ensures ∙ c.if-is_none.true)
    ∙ ap (position (fit_for (market_of c.args.self.now) (state_of c.args.self.now) c.args.section.0)) c.waiting-waiting.ensures.waiting

pub loop-place-preserved : goal.loop-place-preserved
loop-place-preserved c =
    below_more _ _ c.loop-place.invariant
    (ap (fits (market_of c.args.self.now) (get_or c.waiting-waiting.result.now c.loop-place.place 0) c.args.section.0) (sym c.bundle-held.ensures.value)
    ∙ fits_told _ _ _ c.obstacle.result c.is_none.result c.obstacle.ensures.obstacle c.is_none.ensures ∙ c.if-is_none.false)

pub returns : goal.returns
returns c =
    position_none (fit_for (market_of c.args.self.now) (state_of c.args.self.now) c.args.section.0) c.waiting-waiting.result.now c.loop-place.place
    c.loop-place-test.false c.loop-place.invariant
    ∙ ap (position (fit_for (market_of c.args.self.now) (state_of c.args.self.now) c.args.section.0)) c.waiting-waiting.ensures.waiting
