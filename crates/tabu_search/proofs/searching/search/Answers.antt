use Rattle.std.proofs.Common.{◌≡◌, ◌<◌, ◌∙◌, replicate, ap, sym, subst, arith}
use Rattle.std.proofs.lemmas.Bool.{false≢true}
use Rattle.tabu_search.specs.Search.{IsBest}
use Rattle.tabu_search.specs.Walks.{IsStart}
use Rattle.tabu_search.proofs.Walks.{end_of, best_of}
use Rattle.tabu_search.proofs.searching.search.Goals as goal

pub visit_at-requires-clause-seated : goal.visit_at-requires-clause-seated
visit_at-requires-clause-seated g c = λ lifetimes outlives. record { known = c.top-top.ensures.crowd; each = c.requires }

pub turns-init : goal.turns-init
turns-init g c =
    let start : IsStart (g.D.Demands.crowd c.args.demands.now) c.args.seats.now c.in_ok-start.start =
    record {
      seated = record { known = c.top-top.ensures.crowd; each = c.requires };
      is = c.in_ok-start.ensures.visit;
      zero = c.in_ok-start.ensures.prices ∙ c.in_ok-zero.ensures ∙ ap (λ n. replicate n (record { 0 = 0 })) c.requires;
    } in
    record {
      same = c.visit_at.ensures.crowd;
      walk = c.in_ok-walk.ensures.walk (g.D.Demands.crowd c.args.demands.now) c.args.seats.now start c.top-top.ensures.value;
      few = omega (arith, c.in_ok-walk.ensures.turns);
      before = λ n low. absurd (omega (arith, c.in_ok-walk.ensures.turns, low));
    }

pub returns-then-best-settings-clause-none : goal.returns-then-best-settings-clause-none
returns-then-best-settings-clause-none g c = λ least is.
    let same : c.turns.walk.best.error ≡ least = cc in
    let end =
    end_of (g.D.Demands.crowd c.args.demands.now) c.args.seats.now c.args.settings.now c.turns.walk c.turns.invariant.walk c.turns.invariant.few
    c.turns.invariant.before (λ on. false≢true (sym c.turns-test.false ∙ c.goes_on.ensures.1 on)) in
    let best = best_of (g.D.Demands.crowd c.args.demands.now) c.args.seats.now c.args.settings.now c.turns.walk c.turns.invariant.walk end in
    let more : c.args.settings.now.accept < c.turns.walk.best.error = c.if-best-settings.true in (
      c.turns.walk.best.prices.items,
      c.turns.walk.turns,
      subst (λ n. IsBest (g.D.Demands.crowd c.args.demands.now) c.args.seats.now c.args.settings.now c.turns.walk.best.prices.items n c.turns.walk.turns) same
          best,
      subst (λ n. c.args.settings.now.accept < n) same more,
    )
