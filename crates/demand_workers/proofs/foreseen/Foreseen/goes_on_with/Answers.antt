use Rattle.std.proofs.Common.{◌≡◌, ◌<◌, ◌+◌, ◌∙◌, [], List, Vec, Global, length, slice_index_or, sym, subst, arith, inl, inr}
use Rattle.std.specs.Arc.{arc_value}
use Rattle.std.proofs.lemmas.Bool.{cases_order, false≢true}
use Rattle.std.proofs.lemmas.List.{length-map}
use Rattle.market_units.specs.declared.units.Tokens.{Tokens}
use Rattle.demand_workers.specs.Rounds.{prices_of}
use Rattle.demand_workers.proofs.Rounds.{versions_same}
use Rattle.demand_workers.proofs.foreseen.Foreseen.goes_on_with.Goals as goal

pub loop-place-preserved : goal.loop-place-preserved
loop-place-preserved c =
    let versions : List (Vec Tokens Global) = (arc_value c.args.self.now.survey.found.inquiries.round).versions.items in
    let begun = c.if-self-versions.false in
    let enough = c.if-versions-self.false in
    let next = c.loop-place-test.true in
    let inside : c.args.self.now.done + c.loop-place.place < length c.versions-versions.result.now = omega arith in
    let listed : c.versions-versions.result.now ≡ versions =
    c.versions-versions.ensures in
    let at =
    versions_same versions c.args.batch.now (c.args.self.now.done + c.loop-place.place) c.loop-place.place c.index-versions-self.result
    c.index-batch-place.result c.deref.result.now c.deref-in-loop-place.result.now (rw (← listed) inside)
    (rw (← listed) c.index-versions-self.is) c.deref.ensures.value next c.index-batch-place.is c.deref-in-loop-place.ensures.value in
    record {
      same = λ v below. elim (cases_order v c.loop-place.place) [
        | inl here ↦
            subst (λ w. slice_index_or (prices_of versions) (c.args.self.now.done + w) [] ≡ slice_index_or (prices_of c.args.batch.now) w []) (sym here)
            (at.0 (c.are_same.ensures.0 c.if-not-are_same.false))
        | inr (inl less) ↦ c.loop-place.invariant.same v less
        | inr (inr more) ↦ absurd (omega (arith, below, more))
      ];
    }

pub returns-then-not-are_same : goal.returns-then-not-are_same
returns-then-not-are_same c =
    let versions : List (Vec Tokens Global) = (arc_value c.args.self.now.survey.found.inquiries.round).versions.items in
    let begun = c.if-self-versions.false in
    let enough = c.if-versions-self.false in
    let next = c.loop-place-test.true in
    let inside : c.args.self.now.done + c.loop-place.place < length c.versions-versions.result.now = omega arith in
    let listed : c.versions-versions.result.now ≡ versions =
    c.versions-versions.ensures in
    let at =
    versions_same versions c.args.batch.now (c.args.self.now.done + c.loop-place.place) c.loop-place.place c.index-versions-self.result
    c.index-batch-place.result c.deref.result.now c.deref-in-loop-place.result.now (rw (← listed) inside)
    (rw (← listed) c.index-versions-self.is) c.deref.ensures.value next c.index-batch-place.is c.deref-in-loop-place.ensures.value in (
      λ yes. absurd (false≢true yes),
      λ all.
          let low : c.loop-place.place < length (prices_of c.args.batch.now) =
          rw (length-map c.args.batch.now (λ (w : Vec Tokens Global). w.items)) next in
          absurd (false≢true (sym c.if-not-are_same.true ∙ c.are_same.ensures.1 (at.1 (all.same c.loop-place.place low)))),
    )
