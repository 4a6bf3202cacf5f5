use Rattle.std.proofs.Common.{arith, ◌≡◌, ◌<◌, ◌∙◌, [], length, ap, slice_index, slice_index_or, zero-add}
use Rattle.std.specs.Prelude.{Some}
use Rattle.chronicle.specs.Seats.{standing}
use Rattle.chronicle.proofs.Dealing.{length-new_seats, new_seats-at}
use Rattle.chronicle.proofs.chronicle.Chronicle.start.Goals as goal

pub returns-clause-count : goal.returns-clause-count
returns-clause-count g c =
    let chronicle = c.in_ok-chronicle.chronicle in
    let allotments : chronicle.allotments ≡ c.args.allotments.items =
    ap (λ o. o.allotments) c.in_ok-chronicle.ensures.chronicle ∙ ap (λ v. v.items) c.of-2.ensures in
    let long : length c.in_ok-seats.seats.items ≡ length c.args.allotments.items =
    ap length c.in_ok-seats.ensures ∙ length-new_seats _ _ chronicle 0 chronicle.allotments ∙ ap length allotments in
    omega (arith, c.in_ok-seats.seats.ok.0, c.args.allotments.ok.0)

pub returns-clause-seats : goal.returns-clause-seats
returns-clause-seats g c = λ n d below.
    let chronicle = c.in_ok-chronicle.chronicle in
    let allotments : chronicle.allotments ≡ c.args.allotments.items =
    ap (λ o. o.allotments) c.in_ok-chronicle.ensures.chronicle ∙ ap (λ v. v.items) c.of-2.ensures in
    let long : length chronicle.allotments ≡ length c.args.allotments.items = ap length allotments in
    let at : n < length chronicle.allotments = omega (arith, c.args.allotments.ok.0) in
    ap (λ l. slice_index_or l n d) c.in_ok-seats.ensures ∙ new_seats-at chronicle 0 chronicle.allotments n d at
    ∙ (λ i. standing (Some chronicle) (zero-add n i) (slice_index (allotments i) n) [] [])
