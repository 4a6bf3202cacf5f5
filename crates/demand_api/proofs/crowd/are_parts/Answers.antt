use Rattle.std.proofs.Common.{◌≤◌, ◌≡◌, ◌∙◌, length, arith, sym}
use Rattle.std.proofs.lemmas.Bool.{false≢true, true≢false}
use Rattle.demand_api.proofs.Parts.{parts_few, parts_high, parts_whole, parts_within}
use Rattle.demand_api.proofs.crowd.are_parts.Goals as goal

pub returns-then-menus-from : goal.returns-then-menus-from
returns-then-menus-from c = (
  (λ yes. absurd (false≢true yes)),
  (λ are.
      let few : length c.args.menus.now ≤ 2000 = parts_few c.args.menus.now c.args.budgets.now c.args.sections are.0 are.1 in
      absurd (omega (arith, few, c.if-menus-from.true, c.from.ensures))),
)

pub returns-then-sections-gt-MAX_SECTIONS : goal.returns-then-sections-gt-MAX_SECTIONS
returns-then-sections-gt-MAX_SECTIONS c = (
  (λ yes. absurd (false≢true yes)),
  (λ are.
      let low : c.args.sections ≤ 400 = are.1.sections in
      absurd (omega (arith, low, c.if-sections-gt-MAX_SECTIONS.true))),
)

pub returns-then-not-all_at_most : goal.returns-then-not-all_at_most
returns-then-not-all_at_most c = (
  (λ yes. absurd (false≢true yes)),
  (λ are. absurd
      (true≢false
      (sym (c.all_at_most.ensures.1 (parts_high c.args.menus.now c.args.budgets.now c.args.sections are.0 are.1)) ∙ c.if-not-all_at_most.true))),
)

pub returns : goal.returns
returns c = (
  (λ all.
      let same : length c.args.budgets.now ≡ length c.args.menus.now = c.if-budgets-menus.false in
      let few : length c.args.menus.now ≤ 2000 = omega (arith, c.if-menus-from.false, c.from.ensures) in
      let low : c.args.sections ≤ 400 = omega (arith, c.if-sections-gt-MAX_SECTIONS.false) in (
        same,
        parts_whole c.args.menus.now c.args.budgets.now c.args.sections same few (c.all_at_most.ensures.0 c.if-not-all_at_most.false) low
            (c.all_within.ensures.0 all),
      )),
  (λ are. c.all_within.ensures.1 (parts_within c.args.menus.now c.args.budgets.now c.args.sections are.0 are.1)),
)
