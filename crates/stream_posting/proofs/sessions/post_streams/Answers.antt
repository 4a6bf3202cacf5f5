use Rattle.std.proofs.Common.{ℕ, ◌≡◌, ◌≤◌, ◌<◌, ◌∙◌, arith, length, slice_index, slice_index_or, true, ap, sym, subst}
use Rattle.std.specs.Vec.{vec_len}
use Rattle.std.proofs.lemmas.List.{get_or-map, length-map}
use Rattle.market_units.specs.Totals.{total}
use Rattle.chronicle.specs.History.{IsLegal, state_after}
use Rattle.chronicle.specs.Views.{sum_of}
use Rattle.stream_posting.proofs.Merging.{sum_of-lengths}
use Rattle.stream_posting.proofs.sessions.post_streams.Goals as goal

pub start-requires-clause-room : goal.start-requires-clause-room
start-requires-clause-room g c =
    let calls : ℕ = sum_of c.in_ok-allotments.allotments.items in
    let asked : ℕ = total vec_len c.args.streams.now in
    let same : calls ≡ asked = ap sum_of c.in_ok-allotments.ensures ∙ sum_of-lengths c.args.streams.now in
    let goal : calls ≤ g.O.Object.room c.args.object = omega (arith, c.requires.room) in goal

pub post_and_close-object-requires-clause-count : goal.post_and_close-object-requires-clause-count
post_and_close-object-requires-clause-count g c κs within =
    let streams = c.args.streams.now in
    let many = c.in_ok-allotments.allotments.ok.0 ∙ ap length c.in_ok-allotments.ensures ∙ length-map streams vec_len in (
      c.in_ok-chronicle.ensures.count ∙ many,
      ap length c.in_ok-chronicle.ensures.chronicle.2 ∙ ap length c.in_ok-allotments.ensures ∙ length-map streams vec_len,
    )

pub post_and_close-object-requires-clause-ready : goal.post_and_close-object-requires-clause-ready
post_and_close-object-requires-clause-ready g c κs within = λ n d none below.
    let streams = c.args.streams.now in
    let allotted : ℕ = vec_len c.in_ok-allotments.allotments in
    let lent : ℕ = vec_len c.in_ok-chronicle.seats in
    let same : lent ≡ allotted = c.in_ok-chronicle.ensures.count in
    let count : allotted ≡ length streams = c.in_ok-allotments.allotments.ok.0 ∙ ap length c.in_ok-allotments.ensures ∙ length-map streams vec_len in
    let there : n < length streams = omega arith in
    let seat = c.in_ok-chronicle.ensures.seats n d (let goal : n < allotted = omega arith in goal) in
    record {
      of = ap (λ s. s.chronicle) seat;
      left =
          ap (λ s. s.left) seat ∙ ap (λ lengths. slice_index lengths n) c.in_ok-allotments.ensures ∙ get_or-map vec_len streams n none 0 there
          ∙ (slice_index_or streams n none).ok.0;
      own = ap (λ s. s.own) seat;
      requests_sound =
          λ request. subst (λ base. g.O.Object.sound base request ≡ true) (sym c.in_ok-chronicle.ensures.chronicle.0) (c.requires.sound request);
    }

pub returns-clause-base : goal.returns-clause-base
returns-clause-base g c = c.post_and_close-object.ensures.base ∙ c.in_ok-chronicle.ensures.chronicle.0

pub returns-clause-legal : goal.returns-clause-legal
returns-clause-legal g c =
    let journal = c.post_and_close-object.result.1 in
    subst (λ s. IsLegal g.O.Object.sound g.O.Object.after g.O.Object.reply (g.O.Object.base c.args.object) s journal) c.in_ok-chronicle.ensures.chronicle.1
    (subst (λ b. IsLegal g.O.Object.sound g.O.Object.after g.O.Object.reply b c.in_ok-chronicle.chronicle.opening journal) c.in_ok-chronicle.ensures.chronicle.0
    c.post_and_close-object.ensures.legal)

pub returns-clause-state : goal.returns-clause-state
returns-clause-state g c =
    let journal = c.post_and_close-object.result.1 in
    c.post_and_close-object.ensures.state
    ∙ ap (λ b. state_after g.O.Object.after b c.in_ok-chronicle.chronicle.opening journal) c.in_ok-chronicle.ensures.chronicle.0
    ∙ ap (λ s. state_after g.O.Object.after (g.O.Object.base c.args.object) s journal) c.in_ok-chronicle.ensures.chronicle.1
