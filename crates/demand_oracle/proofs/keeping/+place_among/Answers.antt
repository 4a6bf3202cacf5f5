use Rattle.std.proofs.Common.{◌-◌, drop, length, slice_index_or, sym, take, ◌∙◌}
use Rattle.std.proofs.lemmas.Bool.{true≢false}
use Rattle.plain_facts.proofs.Lists.{first_rest}
use Rattle.bundle_rules.specs.Menus.{wishes_of}
use Rattle.demand_oracle.specs.Names.{IsPreferredByName, name_of}
use Rattle.demand_oracle.specs.SummedNodes.{chosen_of}
use Rattle.demand_oracle.proofs.Inserting.{insert_here, insert_later}
use Rattle.demand_oracle.proofs.keeping.+place_among.Goals as goal

pub returns-then-is_preferred-clause-inserted : goal.returns-then-is_preferred-clause-inserted
returns-then-is_preferred-clause-inserted t c =
    insert_here
    (λ a b. IsPreferredByName (name_of c.args.question.now.names.now) (wishes_of c.args.question.now.offer.now.menu.now) (chosen_of a) (chosen_of b))
    c.args.summed.now c.first-item.result (slice_index_or c.args.nodes.now 0 c.first-item.result) c.args.nodes.now
    (take (length c.args.nodes.now - 1) (drop 1 c.args.nodes.now)) (first_rest c.args.nodes.now c.first-item.result c.in-len1-up.len_at_least) c.first-item.is
    (c.is_preferred.ensures.0 c.if-is_preferred.true)

pub returns-else-is_preferred-clause-inserted : goal.returns-else-is_preferred-clause-inserted
returns-else-is_preferred-clause-inserted t c =
    insert_later
    (λ a b. IsPreferredByName (name_of c.args.question.now.names.now) (wishes_of c.args.question.now.offer.now.menu.now) (chosen_of a) (chosen_of b))
    c.args.summed.now c.first-item.result (slice_index_or c.args.nodes.now 0 c.first-item.result) c.args.nodes.now
    (take (length c.args.nodes.now - 1) (drop 1 c.args.nodes.now)) c.place_among.result
    (first_rest c.args.nodes.now c.first-item.result c.in-len1-up.len_at_least) c.first-item.is
    (λ pref. true≢false (sym (c.is_preferred.ensures.1 pref) ∙ c.if-is_preferred.false)) c.place_among.ensures.inserted
