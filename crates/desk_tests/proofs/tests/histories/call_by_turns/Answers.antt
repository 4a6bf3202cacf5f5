use Rattle.std.proofs.Common.{rules, arith, ◌≡◌, ◌<◌, ◌∷◌, [], ℕ, zero, suc, List, length, length-set, slice_index_or, slice_set, subst, ◌∙◌}
use Rattle.chronicle.specs.declared.standing.Standing.{Standing}
use Rattle.desk_tests.proofs.tests.histories.call_by_turns.Goals as goal

-- two seats stand at their numbers after calls of both
numbers_of_two : {B S Q A : Type 0} (seats : List (Standing B S Q A)) (a b c : Standing B S Q A) → length seats ≡ 2 → c.number ≡ 0 → b.number ≡ 1
    → (n : ℕ) (d : Standing B S Q A) → n < 2 → (slice_index_or (slice_set (slice_set (slice_set seats 0 a) 1 b) 0 c) n d).number ≡ n
numbers_of_two [] a b c two first second n d below = absurd (omega arith)
numbers_of_two (x ∷ []) a b c two first second n d below = absurd (omega arith)
numbers_of_two (x ∷ (y ∷ ys)) a b c two first second zero d below = first
numbers_of_two (x ∷ (y ∷ ys)) a b c two first second (suc zero) d below = second
numbers_of_two (x ∷ (y ∷ ys)) a b c two first second (suc (suc n)) d below = absurd (omega arith)

pub close_in_order-closed-requires-clause-numbers : goal.close_in_order-closed-requires-clause-numbers
close_in_order-closed-requires-clause-numbers g c = λ n d below.
    let seats = c.in_ok-chronicle.seats.items in
    let first = c.call-first.new.seat in
    let second = c.call-second.new.seat in
    let third = c.call-third.new.seat in
    let two : length seats ≡ 2 = search rules in
    let named_first : third.number ≡ 0 = search rules in
    let named_second : second.number ≡ 1 = search rules in
    let long =
    length-set (slice_set (slice_set seats 0 first) 1 second) 0 third ∙ length-set (slice_set seats 0 first) 1 second ∙ length-set seats 0 first ∙ two in
    numbers_of_two seats first second third two named_first named_second n d (subst (λ m. n < m) long below)
