use Rattle.std.proofs.Common.{rules, sym, subst, ◌∙◌}
use Rattle.chronicle.specs.Turn.{IsWaiting}
use Rattle.chronicle.proofs.TurnSteps.{looks_at, served, not_served}
use Rattle.chronicle.proofs.chronicle.Chronicle.wait.Goals as goal

pub load-requires : goal.load-requires
load-requires g c = (
  search rules,
  search rules,
  looks_at g.O.Object.base g.O.Object.state g.O.Object.room g.O.Object.sound g.O.Object.after g.O.Object.reply _ _ c.loop.place.me c.args.ticket
      (subst (λ me. IsWaiting c.args.ticket me) (sym c.loop.invariant.2) c.requires.waits),
)

pub loop-preserved : goal.loop-preserved
loop-preserved g c =
    let waits = subst (λ me. IsWaiting c.args.ticket me) (sym c.loop.invariant.2) c.requires.waits in (
      c.load.ensures.0 ∙ c.loop.invariant.0,
      c.load.ensures.1 ∙ c.loop.invariant.1,
      not_served g.O.Object.base g.O.Object.state g.O.Object.room g.O.Object.sound g.O.Object.after g.O.Object.reply c.loop.place.me c.load.new.seat.me
          c.load.result c.args.ticket
          waits c.load.ensures.2 c.if-load-ticket.false ∙ c.loop.invariant.2,
    )

pub returns-then-load-ticket-clause-turn : goal.returns-then-load-ticket-clause-turn
returns-then-load-ticket-clause-turn g c =
    let waits = subst (λ me. IsWaiting c.args.ticket me) (sym c.loop.invariant.2) c.requires.waits in
    λ v at. served g.O.Object.base g.O.Object.state g.O.Object.room g.O.Object.sound g.O.Object.after g.O.Object.reply c.loop.place.me c.load.new.seat.me
    c.load.result c.args.ticket
    waits c.load.ensures.2 c.if-load-ticket.true v (c.loop.invariant.2 ∙ at)
