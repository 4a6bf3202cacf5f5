use Rattle.std.proofs.Common.{◌≡◌, ◌<◌, ◌+◌, ◌*◌, ◌∙◌, ap, sym, subst, arith, length, slice_index}
use Rattle.std.proofs.lemmas.List.{get_or-replicate}
use Rattle.chronicle.specs.Views.{sum_of}
use Rattle.task_board.specs.Openings.{opening_of}
use Rattle.task_board.specs.Shared.{progress}
use Rattle.task_board.proofs.Beginnings.{new_free, sum_of-replicate}
use Rattle.task_board.proofs.board.Board.start.Goals as goal

pub start-requires-clause-room : goal.start-requires-clause-room
start-requires-clause-room g c =
    let same : sum_of c.in_ok-allotments.allotments.items ≡ c.in_ok-state.state.room =
    ap sum_of (c.in_ok-allotments.ensures.items_if_clones_equal (λ y is. is)) ∙ sum_of-replicate c.from-2.result (2 * c.from.result + 1)
    ∙ ap (λ w. w * (2 * c.from.result + 1)) c.from-2.ensures
    ∙ ap (λ n. c.args.workers * (2 * n + 1)) (c.from.ensures ∙ c.count.ensures ∙ ap g.T.Tasks.rules.count c.in_ok-state.ensures.terms)
    ∙ sym c.in_ok-state.ensures.room in
    omega arith

pub returns-clause-begun : goal.returns-clause-begun
returns-clause-begun g c =
    let board = c.in_ok-chronicle.chronicle in
    let many : length c.in_ok-allotments.allotments.items ≡ c.args.workers =
    omega (arith, c.in_ok-allotments.ensures.len, c.in_ok-allotments.allotments.ok.0, c.from-2.ensures) in
    let opening : board.opening ≡ opening_of g.T.Tasks.rules board.base =
    c.in_ok-chronicle.ensures.chronicle.1 ∙ ap progress c.in_ok-state.ensures.opening
    ∙ ap (opening_of g.T.Tasks.rules) (sym (c.in_ok-chronicle.ensures.chronicle.0 ∙ c.in_ok-state.ensures.terms)) in
    let count : length c.in_ok-chronicle.seats.items ≡ c.args.workers =
    omega (arith, c.in_ok-chronicle.ensures.count, c.in_ok-chronicle.seats.ok.0, many) in
    record {
      allotments = ap length c.in_ok-chronicle.ensures.chronicle.2 ∙ many;
      count = count;
      numbers = λ n d low. ap (λ s. s.number) (c.in_ok-chronicle.ensures.seats n d (omega (arith, low, many)));
      free =
          λ k d below. let low : k < c.args.workers = subst (λ n. k < n) count below in
          new_free g.T.Tasks.rules board k (slice_index c.in_ok-allotments.allotments.items k) _
          (c.in_ok-chronicle.ensures.seats k d (omega (arith, low, many))) opening
          (ap (λ l. slice_index l k) (c.in_ok-allotments.ensures.items_if_clones_equal (λ y is. is))
          ∙ get_or-replicate c.from-2.result k (2 * c.from.result + 1) 0 (omega (arith, low, c.from-2.ensures))
          ∙ ap (λ n. 2 * n + 1) (c.from.ensures ∙ c.count.ensures ∙ ap g.T.Tasks.rules.count (sym c.in_ok-chronicle.ensures.chronicle.0)));
      fresh =
          λ k d below. let is = c.in_ok-chronicle.ensures.seats k d (omega (arith, below, count, many)) in
          (ap (λ s. s.seen) is, ap (λ s. s.own) is);
    }
