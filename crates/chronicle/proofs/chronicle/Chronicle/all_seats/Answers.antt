use Rattle.std.proofs.Common.{arith, ◌≡◌, ◌+◌, ◌≤◌, ◌<◌, ◌∷◌, [], ℕ, length, length-append, ap, ◌∙◌}
use Rattle.chronicle.proofs.Dealing.{one_more_seat, every_seat, first_at_rest, first_tells}
use Rattle.chronicle.proofs.chronicle.Chronicle.all_seats.Goals as goal

pub loop-number-preserved : goal.loop-number-preserved
loop-number-preserved g c =
    let inv = c.loop-number.invariant in
    let count = c.requires.count.2 in
    let number : ℕ = c.loop-number.number in
    let below : number < length c.args.self.now.allotments = omega arith in
    let pushed = c.push_reserved.ensures in
    let made : ℕ = length c.loop-number.seats.items in
    let counted : made + 1 ≡ number = inv.4 in (
      c.deal.ensures.own.0 ∙ inv.0,
      c.deal.ensures.dealing,
      pushed.items ∙ one_more_seat c.args.self.now number c.loop-number.seats.items c.deal.result inv.3 below inv.2 c.deal.ensures.seat,
      (let goal : 1 ≤ number + 1 = omega arith in goal),
      ap (λ n. n + 1) (ap length pushed.items ∙ length-append c.loop-number.seats.items (c.deal.result ∷ []) ∙ counted),
      pushed.capacity ∙ inv.5,
    )

pub invariant_of-seat : goal.invariant_of-seat
invariant_of-seat g c =
    first_at_rest c.args.self.now c.loop-number.number c.loop-number.first.me c.loop-number.invariant.1
    (let goal : length c.args.self.now.allotments ≤ c.loop-number.number = omega arith in goal)

pub returns : goal.returns
returns g c =
    let inv = c.loop-number.invariant in
    let self = c.args.self.now in
    let first = c.loop-number.first in
    let number : ℕ = c.loop-number.number in
    let some_seat : 1 ≤ length self.allotments = omega arith in
    let all : length self.allotments ≤ number = omega arith in
    c.in_ok-insert.ensures.items
    ∙ every_seat self number c.loop-number.seats.items _ some_seat all inv.2 (first_tells self first.table_id number first.me inv.1 all inv.0)
