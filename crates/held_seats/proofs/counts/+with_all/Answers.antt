use Rattle.std.proofs.Common.{◌∙◌, ap, refl}
use Rattle.std.specs.Prelude.{slice_index_or}
use Rattle.std.specs.FinSet as set
use Rattle.held_seats.proofs.Freeing.{with_first}
use Rattle.held_seats.proofs.counts.+with_all.Goals as goal

pub returns-in-len1-up : goal.returns-in-len1-up
returns-in-len1-up t c =
    λ s. ap (λ all. set.contains all s) c.with.ensures
    ∙ with_first c.args.free c.with_all.result c.args.sections.now (slice_index_or c.args.sections.now 0 (record { 0 = 0 })).0 c.in-len1-up.len_at_least
    refl c.with_all.ensures s
