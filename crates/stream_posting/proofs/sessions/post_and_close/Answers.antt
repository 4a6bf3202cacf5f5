use Rattle.std.proofs.Common.{◌<◌, ◌∙◌, arith, slice_index_or, sym, subst}
use Rattle.stream_posting.specs.Postings.{IsReady}
use Rattle.stream_posting.proofs.Merging.{all_posted, every_seat, seats_of_chronicle, steps_merge}
use Rattle.stream_posting.proofs.sessions.post_and_close.Goals as goal

pub post_all-requires-clause-ready : goal.post_all-requires-clause-ready
post_all-requires-clause-ready g c κs within = λ n d none below.
    let inside : n < c.args.seats.len = omega (arith, c.as_mut_slice.ensures.len) in
    subst (λ all. IsReady g.O.Object.sound c.args.chronicle (slice_index_or c.args.streams.now n none).items (slice_index_or all n d)) (sym c.as_mut_slice.ensures.value)
    (c.requires.ready n d none inside)

pub close-requires-clause-chronicle : goal.close-requires-clause-chronicle
close-requires-clause-chronicle g c =
    let streams = c.args.streams.now in
    let seats = c.args.seats in
    let all =
    all_posted c.args.chronicle streams seats.len c.as_mut_slice.result.now seats.items c.post_all.new.seats (c.as_mut_slice.ensures.len ∙ c.requires.count.0)
    (sym c.as_mut_slice.ensures.len) c.post_all.ensures.count c.post_all.ensures.numbers c.post_all.ensures.posted in
    seats_of_chronicle c.args.chronicle streams _ all

pub close-requires-clause-all : goal.close-requires-clause-all
close-requires-clause-all g c = λ n below.
    let streams = c.args.streams.now in
    let seats = c.args.seats in
    let all =
    all_posted c.args.chronicle streams seats.len c.as_mut_slice.result.now seats.items c.post_all.new.seats (c.as_mut_slice.ensures.len ∙ c.requires.count.0)
    (sym c.as_mut_slice.ensures.len) c.post_all.ensures.count c.post_all.ensures.numbers c.post_all.ensures.posted in
    every_seat c.args.chronicle streams _ all n (subst (λ m. n < m) c.requires.count.1 below)

pub returns-clause-merges : goal.returns-clause-merges
returns-clause-merges g c =
    let streams = c.args.streams.now in
    let seats = c.args.seats in
    let all =
    all_posted c.args.chronicle streams seats.len c.as_mut_slice.result.now seats.items c.post_all.new.seats (c.as_mut_slice.ensures.len ∙ c.requires.count.0)
    (sym c.as_mut_slice.ensures.len) c.post_all.ensures.count c.post_all.ensures.numbers c.post_all.ensures.posted in
    steps_merge c.args.chronicle streams _ c.close.result.1 all c.close.ensures.seats c.close.ensures.own
