use Rattle.std.proofs.Common.{ℕ, Bool, true, false, ◌≡◌, ◌<◌, ◌≤◌, refl, subst, sym}
use Rattle.std.specs.Prelude.{nat_lt, slice_index, slice_index_or}
use Rattle.std.proofs.lemmas.Bool.{lt-ltb, le-ltb}
use Rattle.bundle_rules.specs.Ordinals.{ordinals}
use Rattle.held_seats.proofs.Freeing.{Tells, freed_first, taken_first}
use Rattle.held_seats.proofs.counts.+freed.Goals as goal

pub returns-then-counts-place : goal.returns-then-counts-place
returns-then-counts-place t c =
    let test : ℕ → Bool = λ s. nat_lt (slice_index c.args.filled.now.counts.now s) (slice_index c.args.filled.now.seats.now s) in
    let room : slice_index c.args.filled.now.counts.now c.from-place.result < slice_index c.args.filled.now.seats.now c.from-place.result =
    subst (λ n. slice_index c.args.filled.now.counts.now c.from-place.result < n) c.from.ensures c.if-counts-place.true in
    let is : test (slice_index_or c.args.sections.now 0 (record { 0 = 0 })).0 ≡ true =
    subst (λ p. test p ≡ true) c.from-place.ensures
    (lt-ltb (slice_index c.args.filled.now.counts.now c.from-place.result) (slice_index c.args.filled.now.seats.now c.from-place.result) room) in
    subst (λ free. Tells test c.args.free (ordinals c.args.sections.now) free) (sym c.with.ensures)
    (freed_first test c.args.free c.freed-rest.result c.args.sections.now (slice_index_or c.args.sections.now 0 (record { 0 = 0 })).0
    c.in-len1-up.len_at_least refl is c.freed-rest.ensures)

pub returns-else-counts-place : goal.returns-else-counts-place
returns-else-counts-place t c =
    let test : ℕ → Bool = λ s. nat_lt (slice_index c.args.filled.now.counts.now s) (slice_index c.args.filled.now.seats.now s) in
    let full : slice_index c.args.filled.now.seats.now c.from-place.result ≤ slice_index c.args.filled.now.counts.now c.from-place.result =
    subst (λ n. n ≤ slice_index c.args.filled.now.counts.now c.from-place.result) c.from.ensures c.if-counts-place.false in
    let is : test (slice_index_or c.args.sections.now 0 (record { 0 = 0 })).0 ≡ false =
    subst (λ p. test p ≡ false) c.from-place.ensures
    (le-ltb (slice_index c.args.filled.now.counts.now c.from-place.result) (slice_index c.args.filled.now.seats.now c.from-place.result) full) in
    subst (λ free. Tells test c.args.free (ordinals c.args.sections.now) free) (sym c.without.ensures)
    (taken_first test c.args.free c.freed-rest.result c.args.sections.now (slice_index_or c.args.sections.now 0 (record { 0 = 0 })).0
    c.in-len1-up.len_at_least refl is c.freed-rest.ensures)
