use Rattle.std.proofs.Common.{rules, ◌≡◌, ◌≤◌, ◌<◌, ◌*◌, ◌∙◌, ℕ, None, length, replicate, ap, sym, subst}
use Rattle.std.specs.Arc.{arc_value}
use Rattle.std.specs.List.{All}
use Rattle.demand_api.specs.declared.crowd.Crowd.{Crowd}
use Rattle.demand_api.specs.Views.{data_of}
use Rattle.demand_workers.specs.Rounds.{prices_of, AreVersionsFor}
use Rattle.price_board.specs.declared.round.Round.{Round}
use Rattle.price_board.specs.declared.terms.Terms.{Terms}
use Rattle.price_board.specs.Openings.{IsAskOf, IsRound, terms_of}
use Rattle.price_board.specs.Terms.{task_count}
use Rattle.demand_tests.proofs.Driving.{started, tasks_of_four}
use Rattle.demand_tests.proofs.Rounds.{versions_are_round}
use Rattle.demand_tests.proofs.tests.driver.Driver.start.Goals as goal

pub start-requires-clause-round : goal.start-requires-clause-round
start-requires-clause-round g c =
    let crowd = c.rivals-crowd.result in
    let versions = c.in_ok-versions.versions.items in
    let asks = c.args.round.asks.items in
    let are : AreVersionsFor (data_of crowd) versions = search rules in
    let some : 1 ≤ length versions = search rules in
    let few : length versions ≤ 16 = search rules in
    let many : length asks ≡ length versions = search rules in
    let among : All (IsAskOf 1) asks = search rules in
    let one : crowd.sections ≡ 1 = search rules in
    let same : arc_value c.in_ok-try_clone.field-0 ≡ crowd = search rules in
    let copied : prices_of c.args.round.versions.items ≡ prices_of versions = search rules in
    let there : arc_value c.in_ok-round.round ≡ record { versions = c.args.round.versions; asks = c.args.round.asks; list = None } = search rules in
    subst (λ (x : Round). IsRound (terms_of (arc_value c.in_ok-try_clone.field-0) x)) (sym there)
    (subst (λ (x : Crowd). IsRound (terms_of x (record { versions = c.args.round.versions; asks = c.args.round.asks; list = None }))) (sym same)
    (versions_are_round crowd versions c.args.round.versions.items asks are some few many
    (subst (λ (n : ℕ). All (IsAskOf n) asks) (sym one) among) copied))

pub invariant_of-result : goal.invariant_of-result
invariant_of-result g c =
    let crowd = arc_value c.in_ok-crowd.crowd in
    let versions = c.in_ok-versions.versions.items in
    let board = c.in_ok-board.board in
    let seats = c.in_ok-board.seats.items in
    let kept : crowd ≡ c.rivals-crowd.result = search rules in
    let same : arc_value c.in_ok-try_clone.field-0 ≡ crowd = search rules in
    let are : AreVersionsFor (data_of c.rivals-crowd.result) versions = search rules in
    let four : length c.rivals-crowd.result.menus.items ≡ 4 = search rules in
    let count : length seats ≡ c.args.workers = c.in_ok-board.ensures.begun.count in
    let there : arc_value c.in_ok-round.round ≡ record { versions = c.args.round.versions; asks = c.args.round.asks; list = None } = search rules in
    let terms = c.in_ok-board.ensures.terms ∙ ap (terms_of (arc_value c.in_ok-try_clone.field-0)) there in
    let each : board.base.list ≡ None = ap (λ (t : Terms). t.list) terms in
    let copied : prices_of c.args.round.versions.items ≡ prices_of versions = search rules in
    let its_crowd : board.base.crowd ≡ data_of crowd = ap (λ (t : Terms). t.crowd) terms ∙ ap data_of same in
    let its_versions : board.base.versions ≡ prices_of versions = ap (λ (t : Terms). t.versions) terms ∙ copied in
    let told : c.tasks_of-tasks.result ≡ length versions * 4 = search rules in
    let enough : c.tasks_of-tasks.result ≤ task_count board.base =
    subst (λ (n : ℕ). n ≤ task_count board.base) (sym told)
    (tasks_of_four board crowd versions its_crowd its_versions each (ap (λ (x : Crowd). length x.menus.items) kept ∙ four)) in
    started board crowd versions c.tasks_of-tasks.result seats c.in_ok-notes.notes.items its_crowd its_versions each
    (subst (λ (x : Crowd). AreVersionsFor (data_of x) versions) (sym kept) are) enough
    (c.in_ok-board.ensures.begun.allotments ∙ sym count)
    (λ n d low. c.in_ok-board.ensures.begun.numbers n d (subst (λ (k : ℕ). n < k) count low))
    c.in_ok-board.ensures.begun.free c.in_ok-board.ensures.begun.fresh
    (c.in_ok-notes.ensures ∙ ap (λ (k : ℕ). replicate k (None, 0)) (sym count))
