use Rattle.std.proofs.Common.{rules, ◌≡◌, ◌<◌, ◌≤◌, ℕ, None, Some, length, sym, subst, arith, slice_index_or}
use Rattle.std.specs.List.{All}
use Rattle.chronicle.proofs.SeatLists.{all_at_their_numbers}
use Rattle.price_board.specs.declared.drawn.Draw.TheVariants.{Done}
use Rattle.demand_tests.proofs.Driving.{Note, worker_ended}
use Rattle.demand_tests.proofs.tests.driver.Driver.close.Goals as goal

pub close-requires : goal.close-requires
close-requires g c =
    let k : ℕ = length c.self.inside.board.allotments in
    let m : ℕ = length c.self.inside.seats.items in
    let same : k ≡ m = c.self.invariant.all in
    let done : All (λ (note : Note). note.0 ≡ Some Done) c.self.inside.notes.items = search rules in
    record {
      back = record {
        all =
            all_at_their_numbers k c.self.inside.seats.items (let goal : k ≤ m = omega arith in goal)
            (λ n d low. (c.self.invariant.each n d (None, 0) (let b : n < k = low in let goal : n < m = omega arith in goal)).number);
        finished =
            λ n d low. worker_ended _ n (slice_index_or c.self.inside.seats.items n d) _ (c.self.invariant.each n d (None, 0) low)
            (done n (None, 0) (subst (λ (l : ℕ). n < l) (sym c.self.invariant.noted) low));
      };
    }
