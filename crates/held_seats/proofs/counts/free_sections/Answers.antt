use Rattle.std.proofs.Common.{◌+◌, ◌<◌, ◌≤◌, ◌∙◌, length, subst, sym, rules}
use Rattle.std.specs.Prelude.{slice_index}
use Rattle.held_seats.proofs.Freeing.{FreeBelow, free_none, free_one, free_same, free_all}
use Rattle.held_seats.proofs.counts.free_sections.Goals.{then-counts-place, else-counts-place}
use Rattle.held_seats.proofs.counts.free_sections.Goals as goal

pub loop-place-init : goal.loop-place-init
loop-place-init c =
    subst (λ free. FreeBelow c.args.filled.now.counts.now c.args.filled.now.seats.now 0 free) (sym c.empty-free.ensures)
    (free_none c.args.filled.now.counts.now c.args.filled.now.seats.now)

pub loop-place-preserved : goal.loop-place-preserved
loop-place-preserved c =
    elim c.if-counts-place.branch [
      | then-counts-place w ↦
          subst (λ free. FreeBelow c.args.filled.now.counts.now c.args.filled.now.seats.now (c.loop-place.place + 1) free)
          (sym (w.free-is ∙ w.with-free.ensures))
          (free_one c.args.filled.now.counts.now c.args.filled.now.seats.now c.loop-place.place c.loop-place.free c.loop-place.invariant
          (subst (λ n. slice_index c.args.filled.now.counts.now c.loop-place.place < n) c.from.ensures w.if-counts-place.true))
      | else-counts-place w ↦
          subst (λ free. FreeBelow c.args.filled.now.counts.now c.args.filled.now.seats.now (c.loop-place.place + 1) free) (sym w.free-is)
          (free_same c.args.filled.now.counts.now c.args.filled.now.seats.now c.loop-place.place c.loop-place.free c.loop-place.invariant
          (subst (λ n. n ≤ slice_index c.args.filled.now.counts.now c.loop-place.place) c.from.ensures w.if-counts-place.false))
    ]

pub returns : goal.returns
returns c =
    let past : length c.args.filled.now.seats.now ≤ c.loop-place.place = search rules in
    free_all c.args.filled.now.counts.now c.args.filled.now.seats.now c.loop-place.place c.loop-place.free past c.loop-place.invariant
