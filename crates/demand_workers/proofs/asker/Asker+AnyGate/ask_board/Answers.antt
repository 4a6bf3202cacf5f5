use Rattle.std.proofs.Common.{rules, ℕ, ◌≡◌, ◌+◌, ◌-◌, ◌^◌, ◌∙◌, ◌++◌, [], ◌∷◌, List, Vec, Global, length, map, min, None, ap, sym, subst, arith}
use Rattle.std.specs.Arc.{arc_value}
use Rattle.std.specs.Prelude.{IfSome}
use Rattle.market_units.specs.declared.units.Tokens.{Tokens}
use Rattle.demand_api.specs.declared.crowd.Crowd.{Crowd}
use Rattle.demand_api.specs.Views.{data_of}
use Rattle.demand_api.proofs.Halving.{rose_by}
use Rattle.price_board.specs.declared.round.Ask.{Ask}
use Rattle.price_board.specs.declared.round.Round.{Round}
use Rattle.price_board.specs.Openings.{IsRound, terms_of}
use Rattle.price_board.specs.Terms.{task_count}
use Rattle.demand_workers.specs.Views.{crowd_of}
use Rattle.demand_workers.proofs.Rounds.{one_is_round}
use Rattle.demand_workers.proofs.asker.Asker+AnyGate.ask_board.Goals as goal

pub start-requires-clause-round : goal.start-requires-clause-round
start-requires-clause-round g c =
    let crowd = arc_value c.args.self.now.crowd.now in
    let version_is : c.in_ok-version.version.items ≡ c.args.prices.now = c.in_ok-version.ensures.items_if_clones_equal (λ x y is. is) in
    let listed : map (λ (w : Vec Tokens Global). w.items) c.push.new.self.items ≡ c.args.prices.now ∷ [] =
    ap (map (λ (w : Vec Tokens Global). w.items))
    (c.in_ok-push.ensures.items ∙ ap (λ (l : List (Vec Tokens Global)). l ++ c.in_ok-version.version ∷ []) c.in_ok-versions.ensures.items)
    ∙ ap (λ (p : List Tokens). p ∷ []) version_is in
    let asked : c.in_ok-asks.asks.items ≡ c.args.ask ∷ [] = c.in_ok-asks.ensures.items_if_clones_equal (λ y is. is) in
    let versions = map (λ (v : Vec Tokens Global). v.items) c.push.new.self.items in
    let made : Round = record { versions = c.push.new.self; asks = c.in_ok-asks.asks; list = None } in
    let is : arc_value c.in_ok-shared.shared ≡ made = c.in_ok-shared.ensures ∙ c.in_ok-round.ensures.ok in
    subst (λ (r : Round). IsRound (terms_of (arc_value c.in_ok-crowd.crowd) r)) (sym is)
    (subst (λ (w : Crowd). IsRound (record { crowd = data_of w; versions = versions; asks = c.in_ok-asks.asks.items; list = None })) (sym c.in_ok-crowd.ensures)
    (subst (λ (l : List (List Tokens)). IsRound (record { crowd = data_of crowd; versions = l; asks = c.in_ok-asks.asks.items; list = None })) (sym listed)
    (subst (λ (a : List Ask). IsRound (record { crowd = data_of crowd; versions = c.args.prices.now ∷ []; asks = a; list = None })) (sym asked)
    (one_is_round crowd c.args.prices.now c.args.ask c.requires.prices c.requires.section))))

pub invariant_of-lent-clause-same : goal.invariant_of-lent-clause-same
invariant_of-lent-clause-same g c =
    subst (λ (w : Crowd). IfSome c.args.remembered (λ memory. crowd_of memory.now ≡ data_of w)) (sym c.deref.ensures) c.requires.same

pub returns-clause-inquiries : goal.returns-clause-inquiries
returns-clause-inquiries g c =
    let answers = c.work_and_close-answers.result.0 in
    let n : ℕ = length (data_of (arc_value c.args.self.now.crowd.now)).students in
    let terms : answers.terms
    ≡ record { crowd = data_of (arc_value c.args.self.now.crowd.now); versions = c.args.prices.now ∷ []; asks = c.args.ask ∷ []; list = None } = search rules in
    rose_by n (task_count answers.terms) c.args.inquiries.now c.work_and_close-answers.new.inquiries c.work_and_close-answers.ensures.counted
    (omega (arith, ap task_count terms))

pub returns-clause-counted : goal.returns-clause-counted
returns-clause-counted g c =
    let answers = c.work_and_close-answers.result.0 in
    let n : ℕ = length (data_of (arc_value c.args.self.now.crowd.now)).students in
    let terms : answers.terms
    ≡ record { crowd = data_of (arc_value c.args.self.now.crowd.now); versions = c.args.prices.now ∷ []; asks = c.args.ask ∷ []; list = None } = search rules in
    let all : task_count answers.terms ≡ n = ap task_count terms ∙ omega arith in
    subst (λ (k : ℕ). c.work_and_close-answers.new.inquiries ≡ min (c.args.inquiries.now + k) (2 ^ 64 - 1)) all c.work_and_close-answers.ensures.counted
