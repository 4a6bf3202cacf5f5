use Rattle.std.proofs.Common.{rules, ℕ, ◌≡◌, ◌∙◌, length, ap, sym, subst, arith}
use Rattle.std.specs.Arc.{arc_value}
use Rattle.std.specs.Prelude.{IfSome}
use Rattle.demand_api.specs.declared.crowd.Crowd.{Crowd}
use Rattle.demand_api.specs.Asking.{RoseBy}
use Rattle.demand_api.proofs.Halving.{rose_by}
use Rattle.demand_api.specs.Views.{data_of}
use Rattle.demand_api.proofs.Takers.{lent_back}
use Rattle.price_board.specs.declared.round.Round.{Round}
use Rattle.price_board.specs.declared.terms.Terms.{Terms}
use Rattle.price_board.specs.Openings.{IsRound, terms_of}
use Rattle.price_board.specs.Terms.{task_count}
use Rattle.demand_workers.specs.declared.inquiry.Inquiries.{Inquiries}
use Rattle.demand_workers.specs.declared.remembered.Remembered.{Remembered}
use Rattle.demand_workers.specs.Found.{AreFound, tasks_of}
use Rattle.demand_workers.specs.Notes.{IsNoted}
use Rattle.demand_workers.proofs.Rounds.{listed_count, listed_is_round, read_found}
use Rattle.demand_workers.proofs.asker.listing.Asker+AnyGate.inquire.Goals as goal

pub start-requires-clause-round : goal.start-requires-clause-round
start-requires-clause-round g c =
    let inquiries = c.args.listed in
    let crowd : Crowd = arc_value (arc_value inquiries.remembered).crowd in
    let crowd_is : arc_value c.in_ok-crowd.crowd ≡ crowd =
    c.in_ok-crowd.ensures ∙ ap (λ (r : Remembered). arc_value r.crowd) c.deref-remembered.ensures in
    subst (λ (w : Crowd). IsRound (terms_of w (arc_value c.in_ok-round.round))) (sym crowd_is)
    (subst (λ (r : Round). IsRound (terms_of crowd r)) (sym c.in_ok-round.ensures)
    (listed_is_round crowd (arc_value inquiries.round) inquiries.priced inquiries.asked inquiries.listed inquiries.plain))

pub invariant_of-result : goal.invariant_of-result
invariant_of-result g c =
    let inquiries = c.args.listed in
    let note = c.work_and_close-answers.result.1 in
    let crowd_is : c.deref.result.now ≡ arc_value (arc_value inquiries.remembered).crowd =
    c.deref.ensures ∙ ap (λ (r : Remembered). arc_value r.crowd) c.deref-remembered.ensures in
    let round_is : c.deref-2.result.now ≡ arc_value inquiries.round = c.deref-2.ensures in
    record {
      right =
          subst (AreFound inquiries)
          (sym (lent_back c.in_ok-bundles.bundles.len c.read_list.new.found c.in_ok-bundles.bundles.items (search rules)))
          (read_found inquiries c.work_and_close-answers.result.0.terms c.read_list.new.found
          (c.work_and_close-answers.ensures.terms ∙ (λ i. terms_of (crowd_is i) (round_is i)))
          (record { each = c.read_list.ensures.each; right = c.read_list.ensures.right }));
      noted = subst (λ (w : Crowd). IfSome note (IsNoted (data_of w))) crowd_is c.work_and_close-answers.ensures.noted;
    }

-- as many are counted as are listed
counted : (inquiries : Inquiries) (crowd : Crowd) (round : Round) (terms : Terms) → crowd ≡ arc_value (arc_value inquiries.remembered).crowd
    → round ≡ arc_value inquiries.round → terms ≡ terms_of crowd round → task_count terms ≡ length (tasks_of inquiries)
counted inquiries crowd round terms crowd_is round_is is =
    listed_count (arc_value (arc_value inquiries.remembered).crowd) (arc_value inquiries.round) terms (is ∙ (λ i. terms_of (crowd_is i) (round_is i)))
    inquiries.listed

pub returns-clause-inquiries : goal.returns-clause-inquiries
returns-clause-inquiries g c =
    let many = counted c.args.listed c.deref.result.now c.deref-2.result.now c.work_and_close-answers.result.0.terms
    (c.deref.ensures ∙ ap (λ (r : Remembered). arc_value r.crowd) c.deref-remembered.ensures) c.deref-2.ensures
    c.work_and_close-answers.ensures.terms in
    rose_by (length (tasks_of c.args.listed)) (task_count c.work_and_close-answers.result.0.terms) c.args.inquiries.now _
    c.work_and_close-answers.ensures.counted (omega (arith, many))

pub returns-clause-counted : goal.returns-clause-counted
returns-clause-counted g c =
    subst (λ (k : ℕ). RoseBy k c.args.inquiries.now c.work_and_close-answers.new.inquiries)
    (counted c.args.listed c.deref.result.now c.deref-2.result.now c.work_and_close-answers.result.0.terms
    (c.deref.ensures ∙ ap (λ (r : Remembered). arc_value r.crowd) c.deref-remembered.ensures) c.deref-2.ensures
    c.work_and_close-answers.ensures.terms)
    c.work_and_close-answers.ensures.counted
