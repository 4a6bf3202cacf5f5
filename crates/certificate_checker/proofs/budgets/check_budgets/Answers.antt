use Rattle.std.proofs.Common.{◌≡◌, ◌<◌, ◌≤◌, length, get_or, map, below_more, arith, rules, sym, vec_len, ◌∙◌}
use Rattle.market_units.specs.declared.units.Tokens.{Tokens}
use Rattle.demand_api.specs.Views.{data_of}
use Rattle.published_parts.specs.Offers.{student_in}
use Rattle.certificate_checker.proofs.Reading.{HasLengths, are_apart, are_same, drawn_is, fewer, lengths, printed_is}
use Rattle.certificate_checker.proofs.budgets.check_budgets.Goals as goal
use Rattle.certificate_checker.proofs.budgets.check_budgets.Goals.{After-ne}

-- the budget that is printed at the place, and the one that is drawn
compared : (c : After-ne) → (get_or (map (λ (t : Tokens). t.0) c.args.printed.now.publication.now.budgets.items) c.loop-place.place 0 ≡ c.index.result.now.0)
    ×
    ((student_in (data_of c.args.printed.now.terms.now.crowd) c.loop-place.place).budget
    ≡ c.index-in-loop-place.result.now.0)
compared c =
    let terms = c.args.printed.now.terms.now in
    let place = c.loop-place.place in
    let long : HasLengths terms c.args.printed.now.publication.now = lengths terms c.args.printed.now.publication.now c.args.printed.now.can in
    let below : place < length c.args.printed.now.publication.now.budgets.items = omega arith in
    let inside : place < length terms.crowd.menus.items = omega arith in (
      printed_is c.args.printed.now.publication.now.budgets.items place c.index.result.now below c.index.ensures,
      drawn_is terms.crowd place c.index-in-loop-place.result.now inside c.index-in-loop-place.ensures,
    )

pub index-requires-in-loop-place : goal.index-requires-in-loop-place
index-requires-in-loop-place c =
    let terms = c.args.printed.now.terms.now in
    let place = c.loop-place.place in
    let long : HasLengths terms c.args.printed.now.publication.now = lengths terms c.args.printed.now.publication.now c.args.printed.now.can in
    let inside : place < length terms.crowd.budgets.items = omega arith in
    let whole : vec_len terms.crowd.budgets ≡ length terms.crowd.budgets.items = terms.crowd.budgets.ok.0 in
    omega arith

pub overflow_cast-result : goal.overflow_cast-result
overflow_cast-result c =
    let long : HasLengths c.args.printed.now.terms.now c.args.printed.now.publication.now = lengths c.args.printed.now.terms.now c.args.printed.now.publication.now c.args.printed.now.can in
    let few : c.loop-place.place ≤ 2000 = omega arith in
    search rules

pub returns-then-ne : goal.returns-then-ne
returns-then-ne c =
    let is = compared (goal.at.returns-then-ne c).After-ne in
    let long : HasLengths c.args.printed.now.terms.now c.args.printed.now.publication.now = lengths c.args.printed.now.terms.now c.args.printed.now.publication.now c.args.printed.now.can in (
      tt,
      record {
        before = tt;
        found = record {
          within = omega arith;
          before = c.loop-place.invariant;
          fails = λ has. are_apart c.index.result.now.0 c.index-in-loop-place.result.now.0 (sym c.ne.ensures ∙ c.if-ne.true) (sym is.0 ∙ has ∙ is.1);
        };
      },
    )

pub loop-place-preserved : goal.loop-place-preserved
loop-place-preserved c =
    let is = compared (goal.at.loop-place-preserved c).After-ne in
    below_more _ _ c.loop-place.invariant
    (is.0 ∙ are_same c.index.result.now.0 c.index-in-loop-place.result.now.0 (sym c.ne.ensures ∙ c.if-ne.false) ∙ sym is.1)

pub returns : goal.returns
returns c =
    let long : HasLengths c.args.printed.now.terms.now c.args.printed.now.publication.now = lengths c.args.printed.now.terms.now c.args.printed.now.publication.now c.args.printed.now.can in
    (fewer _ c.loop-place.place _ (omega arith) c.loop-place.invariant, tt)
