use Rattle.std.proofs.Common.{◌∙◌, pos, sym, subst, true≢false}
use Rattle.plain_facts.proofs.Lists.{first_rest}
use Rattle.bundle_rules.specs.Menus.{AreDifferent}
use Rattle.bundle_rules.proofs.conditions.+are_different.Goals as goal

pub returns-else-all_name_others : goal.returns-else-all_name_others
returns-else-all_name_others t c = (
  (λ yes'. absurd (true≢false (sym yes' ∙ c.if-all_name_others.false))),
  (λ different. c.all_name_others.ensures.1 (subst AreDifferent (first_rest c.args.pairs.now (0, 0, pos 0) c.in-len1-up.len_at_least) different).0),
)
