use Rattle.std.proofs.Common.{sym, subst, ◌∙◌, true≢false}
use Rattle.plain_facts.proofs.Lists.{first_rest}
use Rattle.bundle_rules.specs.Apart.{ClashesWithNone}
use Rattle.bundle_rules.specs.Menus.{by_place}
use Rattle.bundle_rules.proofs.preferences.+clashes_with_none.Goals as goal

pub returns-then-not-clash : goal.returns-then-not-clash
unfolding by_place
returns-then-not-clash t c =
    let split = first_rest c.args.others.now.places.now 0 c.in-len1-up.len_at_least in (
      (λ yes'. subst (ClashesWithNone (by_place c.args.others.now.menu.now) c.args.place) (sym split)
          (sym c.clash.ensures ∙ c.if-not-clash.true, c.clashes_with_none.ensures.0 yes')),
      (λ none. c.clashes_with_none.ensures.1 (subst (ClashesWithNone (by_place c.args.others.now.menu.now) c.args.place) split none).1),
    )

pub returns-else-not-clash : goal.returns-else-not-clash
unfolding by_place
returns-else-not-clash t c =
    let split = first_rest c.args.others.now.places.now 0 c.in-len1-up.len_at_least in
    rw c.if-not-clash.false (
      (λ yes'. absurd (true≢false (sym yes'))),
      (λ none. absurd
          (true≢false
          (sym c.if-not-clash.false ∙ c.clash.ensures ∙ (subst (ClashesWithNone (by_place c.args.others.now.menu.now) c.args.place) split none).0))),
    )
