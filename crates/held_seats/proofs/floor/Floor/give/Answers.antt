use Rattle.std.proofs.Common.{◌≡◌, ◌<◌, ◌≤◌, ◌∙◌, ◌++◌, take, drop, refl, ℕ, length, ap, arith, sym, subst, rules, Some, true, nat_eq}
use Rattle.std.specs.Prelude.{nat_lt, slice_index, slice_set}
use Rattle.std.specs.FinSet as set
use Rattle.std.proofs.lemmas.List.{length-map, map-set}
use Rattle.bundle_rules.specs.Bundles.{sections_of}
use Rattle.demand_api.specs.Counting.{AreCounts, HasCounted}
use Rattle.demand_api.proofs.Takers.{lent_back, sections_few}
use Rattle.held_seats.specs.Floors.{held_on}
use Rattle.held_seats.proofs.Freeing.{Tells}
use Rattle.held_seats.proofs.Holding.{all_listed, below_item, there_at, holds_one, lent_is, recounted, room_for, free_after, told_by, same_lists, equal_lists}
use Rattle.std.specs.Cmp.Lexicographic.{pointwise}
use Rattle.std.proofs.lemmas.Bool.{false≢true}
use Rattle.held_seats.proofs.Gets.{set_again}
use Rattle.held_seats.proofs.floor.Floor.give.Goals as goal

pub returns-then-eq-clause-held : goal.returns-then-eq-clause-held
returns-then-eq-clause-held c =
    let low : c.args.place < length c.args.self.now.held.items =
    let inside = c.requires.place in omega (arith, inside, length-map c.args.self.now.held.items sections_of) in
    let same = same_lists (sections_of c.index.result.now) (sections_of c.args.bundle) (sym c.eq.ensures ∙ c.if-eq.true) in
    sym
    (set_again (held_on c.args.self.now) c.args.place (sections_of c.args.bundle)
    (there_at c.args.self.now.held.items c.args.place c.index.result.now low c.index.ensures ∙ ap (λ b. Some b) same))

pub returns-then-eq-clause-quiet : goal.returns-then-eq-clause-quiet
returns-then-eq-clause-quiet c = λ e.
    let low : c.args.place < length c.args.self.now.held.items =
    let inside = c.requires.place in omega (arith, inside, length-map c.args.self.now.held.items sections_of) in
    let same = same_lists (sections_of c.index.result.now) (sections_of c.args.bundle) (sym c.eq.ensures ∙ c.if-eq.true) in
    there_at c.args.self.now.held.items c.args.place c.index.result.now low c.index.ensures ∙ ap (λ b. Some b) same

pub returns-clause-moved : goal.returns-clause-moved
returns-clause-moved c = λ e there.
    let low : c.args.place < length c.args.self.now.held.items =
    let inside = c.requires.place in omega (arith, inside, length-map c.args.self.now.held.items sections_of) in
    let both : Some (sections_of c.index.result.now) ≡ Some (sections_of c.args.bundle) =
    sym (there_at c.args.self.now.held.items c.args.place c.index.result.now low c.index.ensures) ∙ there in
    let same : sections_of c.index.result.now ≡ sections_of c.args.bundle = cc both in
    let test : pointwise nat_eq (sections_of c.index.result.now) (sections_of c.args.bundle) ≡ true =
    subst (λ b. pointwise nat_eq (sections_of c.index.result.now) b ≡ true) same (equal_lists (sections_of c.index.result.now)) in
    false≢true (sym c.if-eq.false ∙ c.eq.ensures ∙ test)

pub uncount_bundle-requires-clause-range : goal.uncount_bundle-requires-clause-range
uncount_bundle-requires-clause-range c =
    let low : c.args.place < length c.args.self.now.held.items =
    let inside = c.requires.place in omega (arith, inside, length-map c.args.self.now.held.items sections_of) in
    all_listed (λ s. s < length c.deref_mut.result.now) c.sections.result.now (sections_of c.index.result.now) c.sections.ensures.value (λ s in_it.
    let below = below_item (length c.args.seats.now) c.args.self.now.held.items c.args.place c.index.result.now c.requires.below low c.index.ensures s in_it in
    let same = ap length c.deref_mut.ensures.value in
    let size = c.requires.floor.counts.len in
    omega (arith, below, same, size))

pub uncount_bundle-requires-clause-counted : goal.uncount_bundle-requires-clause-counted
uncount_bundle-requires-clause-counted c =
    let low : c.args.place < length c.args.self.now.held.items =
    let inside = c.requires.place in omega (arith, inside, length-map c.args.self.now.held.items sections_of) in
    all_listed (λ s. 1 ≤ slice_index c.deref_mut.result.now s) c.sections.result.now (sections_of c.index.result.now) c.sections.ensures.value (λ s in_it.
    let below = below_item (length c.args.seats.now) c.args.self.now.held.items c.args.place c.index.result.now c.requires.below low c.index.ensures s in_it in
    let same = ap (λ counts. slice_index counts s) c.deref_mut.ensures.value in
    let count = c.requires.floor.counts.each s below in
    let one =
    holds_one s (held_on c.args.self.now) c.args.place (sections_of c.index.result.now)
    (there_at c.args.self.now.held.items c.args.place c.index.result.now low c.index.ensures) in_it in
    omega (arith, same, count, one))

pub count_bundle-requires-clause-range : goal.count_bundle-requires-clause-range
count_bundle-requires-clause-range c =
    let back =
    lent_is c.args.self.now.used.len c.args.self.now.used.items c.deref_mut.result.now c.uncount_bundle.new.counts c.deref_mut-2.result.now (search rules)
    c.deref_mut.ensures.value c.uncount_bundle.ensures.len c.deref_mut-2.ensures.value in
    all_listed (λ s. s < length c.deref_mut-2.result.now) c.sections-2.result.now (sections_of c.args.bundle) c.sections-2.ensures.value (λ s in_it.
    let below = c.requires.within s in_it in
    let one = ap length back in
    let two = c.uncount_bundle.ensures.len in
    let same = ap length c.deref_mut.ensures.value in
    let size = c.requires.floor.counts.len in
    omega (arith, below, one, two, same, size))

pub count_bundle-requires-clause-room : goal.count_bundle-requires-clause-room
count_bundle-requires-clause-room c =
    let back =
    lent_is c.args.self.now.used.len c.args.self.now.used.items c.deref_mut.result.now c.uncount_bundle.new.counts c.deref_mut-2.result.now (search rules)
    c.deref_mut.ensures.value c.uncount_bundle.ensures.len c.deref_mut-2.ensures.value in
    rw back (room_for (length c.args.seats.now) (held_on c.args.self.now) (sections_of c.index.result.now) c.args.self.now.used.items c.uncount_bundle.new.counts (length c.sections-2.result.now) c.requires.floor.counts c.requires.few
    (sections_few c.sections-2.result.now (sections_of c.args.bundle) c.sections-2.ensures.value c.sections-2.ensures.bundle)
    (c.uncount_bundle.ensures.len ∙ ap length c.deref_mut.ensures.value)
    (λ s less. subst (λ l. HasCounted c.uncount_bundle.new.counts l (sections_of c.index.result.now) s) c.deref_mut.ensures.value (subst (λ b. HasCounted c.uncount_bundle.new.counts c.deref_mut.result.now b s) c.sections.ensures.value
    (c.uncount_bundle.ensures.each s (let same = ap length c.deref_mut.ensures.value in omega (arith, same, less))))))

pub freed-free-requires : goal.freed-free-requires
freed-free-requires c =
    let low : c.args.place < length c.args.self.now.held.items =
    let inside = c.requires.place in omega (arith, inside, length-map c.args.self.now.held.items sections_of) in
    all_listed (λ s. s < length c.args.seats.now) c.sections-3.result.now (sections_of c.index.result.now) c.sections-3.ensures.value
    (below_item (length c.args.seats.now) c.args.self.now.held.items c.args.place c.index.result.now c.requires.below low c.index.ensures)

pub freed-self-requires : goal.freed-self-requires
freed-self-requires c =
    all_listed (λ s. s < length c.args.seats.now) c.sections-4.result.now (sections_of c.args.bundle) c.sections-4.ensures.value c.requires.within

pub returns-clause-held : goal.returns-clause-held
returns-clause-held c = map-set sections_of c.args.self.now.held.items c.args.place c.args.bundle

pub returns-clause-floor : goal.returns-clause-floor
returns-clause-floor c =
    let low : c.args.place < length c.args.self.now.held.items =
    let inside = c.requires.place in omega (arith, inside, length-map c.args.self.now.held.items sections_of) in
    let there = there_at c.args.self.now.held.items c.args.place c.index.result.now low c.index.ensures in
    let size : c.args.self.now.used.len ≡ length c.args.self.now.used.items = search rules in
    let counts : AreCounts (length c.args.seats.now) (slice_set (held_on c.args.self.now) c.args.place (sections_of c.args.bundle)) c.count_bundle.new.counts =
    recounted (length c.args.seats.now) c.args.place c.args.self.now.used.len (held_on c.args.self.now) (sections_of c.index.result.now)
    (sections_of c.args.bundle) c.args.self.now.used.items c.deref_mut.result.now c.uncount_bundle.new.counts c.deref_mut-2.result.now
    c.count_bundle.new.counts
    c.sections.result.now c.sections-2.result.now c.requires.floor.counts there size c.sections.ensures.value c.sections-2.ensures.value
    c.deref_mut.ensures.value c.uncount_bundle.ensures.len c.uncount_bundle.ensures.each c.deref_mut-2.ensures.value
    c.count_bundle.ensures.len c.count_bundle.ensures.each in
    let kept : length c.uncount_bundle.new.counts ≡ length c.args.self.now.used.items = c.uncount_bundle.ensures.len ∙ ap length c.deref_mut.ensures.value in
    let back =
    lent_is c.args.self.now.used.len c.args.self.now.used.items c.deref_mut.result.now c.uncount_bundle.new.counts c.deref_mut-2.result.now size
    c.deref_mut.ensures.value c.uncount_bundle.ensures.len c.deref_mut-2.ensures.value in
    let whole : c.args.self.now.used.len ≡ length c.count_bundle.new.counts = size ∙ sym kept ∙ sym (ap length back) ∙ sym c.count_bundle.ensures.len in
    let last =
    lent_back c.args.self.now.used.len c.count_bundle.new.counts
    (take c.args.self.now.used.len (c.uncount_bundle.new.counts ++ drop (length c.uncount_bundle.new.counts) c.args.self.now.used.items)) whole in
    let all =
    take c.args.self.now.used.len
    (c.count_bundle.new.counts
    ++ drop (length c.count_bundle.new.counts)
    (take c.args.self.now.used.len (c.uncount_bundle.new.counts ++ drop (length c.uncount_bundle.new.counts) c.args.self.now.used.items))) in
    let first : Tells (λ s. nat_lt (slice_index c.count_bundle.new.counts s) (slice_index c.args.seats.now s)) c.args.self.now.free
    (sections_of c.index.result.now) c.freed-free.result =
    told_by c.args.seats.now c.deref.result.now c.count_bundle.new.counts c.args.self.now.free c.freed-free.result c.sections-3.result.now
    (sections_of c.index.result.now) (c.deref.ensures.value ∙ last) c.sections-3.ensures.value c.freed-free.ensures in
    let second : Tells (λ s. nat_lt (slice_index c.count_bundle.new.counts s) (slice_index c.args.seats.now s)) c.freed-free.result (sections_of c.args.bundle)
    c.freed-self.result =
    told_by c.args.seats.now c.deref.result.now c.count_bundle.new.counts c.freed-free.result c.freed-self.result c.sections-4.result.now
    (sections_of c.args.bundle) (c.deref.ensures.value ∙ last) c.sections-4.ensures.value c.freed-self.ensures in
    record {
      counts =
          subst (λ held. AreCounts (length c.args.seats.now) held all) (sym (map-set sections_of c.args.self.now.held.items c.args.place c.args.bundle))
          (subst (λ counted. AreCounts (length c.args.seats.now) (slice_set (held_on c.args.self.now) c.args.place (sections_of c.args.bundle)) counted)
          (sym last) counts);
      free = subst (λ counted. (s : ℕ) → set.contains c.freed-self.result s ≡ nat_lt (slice_index counted s) (slice_index c.args.seats.now s)) (sym last)
          (free_after (length c.args.seats.now) (held_on c.args.self.now) c.args.place (sections_of c.index.result.now) (sections_of c.args.bundle) c.args.self.now.used.items c.count_bundle.new.counts c.args.seats.now c.args.self.now.free c.freed-free.result c.freed-self.result
          refl c.requires.floor.counts counts there c.requires.floor.free first second);
    }
