use Rattle.std.proofs.Common.{rules, ◌≡◌, ◌∙◌, [], List, length, slice_index_or, ap, sym, subst}
use Rattle.std.specs.Arc.{arc_value}
use Rattle.std.specs.Prelude.{IfOk, IfSome}
use Rattle.bundle_rules.specs.declared.bundle.Bundle.{Bundle}
use Rattle.demand_api.specs.Crowds.{CrowdData}
use Rattle.demand_api.specs.Views.{data_of}
use Rattle.demand_api.proofs.Parts.{students_length}
use Rattle.demand_api.proofs.Takers.{lent_back}
use Rattle.price_board.specs.declared.terms.Terms.{Terms}
use Rattle.demand_workers.specs.Remembered.{AreTaken}
use Rattle.demand_workers.specs.Views.{crowd_of}
use Rattle.demand_workers.proofs.memory.Asker+AnyGate.all_bundles.Goals as goal

pub returns-in-Some-clause-len : goal.returns-in-Some-clause-len
returns-in-Some-clause-len g c =
    let crowd = arc_value c.args.self.now.crowd.now in
    let same : crowd_of (arc_value c.in-Some.kept) ≡ data_of crowd =
    subst (λ o. IfSome o (λ kept. crowd_of (arc_value kept) ≡ data_of (arc_value c.args.self.now.crowd.now))) c.in-Some.is c.requires.same in
    let many = ap (λ (w : CrowdData). length w.students) same ∙ students_length crowd in
    subst (λ n. IfOk c.bundles_near.result (λ bundles. length bundles.items ≡ n)) many c.bundles_near.ensures.len

pub read_all-requires-clause-same : goal.read_all-requires-clause-same
read_all-requires-clause-same g c =
    let crowd = arc_value c.args.self.now.crowd.now in
    let many : length c.deref_mut.result.now ≡ length (arc_value c.args.self.now.crowd.now).menus.items = search rules in
    many ∙ sym (students_length crowd) ∙ sym (ap (λ (t : Terms). length t.crowd.students) c.in_ok-answers.ensures.terms)

pub returns-clause-taken : goal.returns-clause-taken
returns-clause-taken g c =
    subst (λ (b : List Bundle). AreTaken (data_of (arc_value c.args.self.now.crowd.now)) c.args.prices.now b)
    (sym (lent_back c.in_ok-bundles.bundles.len c.read_all.new.bundles c.in_ok-bundles.bundles.items (search rules)))
    (subst (λ (t : Terms). AreTaken t.crowd (slice_index_or t.versions 0 []) c.read_all.new.bundles) c.in_ok-answers.ensures.terms c.read_all.ensures.taken)
