use Rattle.std.proofs.Common.{◌≡◌, ◌<◌, ◌≤◌, ◌∙◌, ℕ, arith, length, slice_index_or, ap, sym, subst}
use Rattle.stream_posting.specs.Postings.{IsReady}
use Rattle.stream_posting.proofs.posting.post_all.Goals as goal

pub for_each_mut-requires-clause-accepts : goal.for_each_mut-requires-clause-accepts
for_each_mut-requires-clause-accepts g c κs within = λ i p below is.
    let number : p.now.number ≡ i = ap (λ seat. seat.number) is ∙ c.requires.numbers i p.now below in
    let streams : ℕ = length c.args.streams.now in
    let count : length c.args.seats.now ≡ streams = c.requires.count.0 in
    let few : streams ≤ 64 = c.requires.count.2 in (
      (let goal : i < streams = omega arith in goal),
      (let goal : p.now.number < 64 = omega arith in goal),
      λ none. subst
          (λ seat. IsReady g.O.Object.sound c.args.chronicle.now (slice_index_or c.args.streams.now i none).items seat) (sym is) (c.requires.ready i p.now none below),
    )
