use Rattle.std.proofs.Common.{ℕ, ◌≡◌, ◌<◌, ◌≤◌, ◌==◌, ◌∙◌, cond, Bool, List, map, sym, ap, arith}
use Rattle.std.proofs.lemmas.Int.{to_z-of_z}
use mir.Val.{SFits, to_z, of_z}
use mir.Syntax.{w16}
use Rattle.std.specs.Prelude.{ℤ, unsigned_abs, Option, Some, None}
use Rattle.std.proofs.lemmas.List.{length-map}
use Rattle.market_units.specs.declared.units.SectionNo.{SectionNo}
use Rattle.preference_desk.specs.Places.{place_in, stands}
use Rattle.preference_desk.specs.Writes.{written, has_room}
use Rattle.preference_desk.specs.StudentPreferences.{pair_cmp}
use Rattle.preference_desk.specs.Rows.{ArePairs, pair_entry}
use Rattle.preference_desk.proofs.RowLemmas.{place_fits, place_inside}
use Rattle.preference_desk.proofs.PairLemmas.{IsAdjusted, adjusted_set}
use Rattle.preference_desk.proofs.RatingLemmas.{same_place}
use Rattle.preference_desk.proofs.pairs.Pairs.set.Goals as goal

-- the place in the row as it was seen is its place, and so whether the pair stands there
place_is : (first second : SectionNo) (seen items : List (SectionNo × SectionNo × ℤ)) (place : ℕ)
    → place ≡ place_in pair_cmp (first.0, second.0) (map pair_entry seen) → seen ≡ items → place ≡ place_in pair_cmp (first.0, second.0) (map pair_entry items)
place_is first second seen items place e is = same_place (λ items. place_in pair_cmp (first.0, second.0) (map pair_entry items)) seen items place e is

stands_is : (first second : SectionNo) (seen items : List (SectionNo × SectionNo × ℤ)) (here : Bool)
    → here ≡ stands pair_cmp (first.0, second.0) (map pair_entry seen) → seen ≡ items → here ≡ stands pair_cmp (first.0, second.0) (map pair_entry items)
stands_is first second seen items here e is = same_place (λ items. stands pair_cmp (first.0, second.0) (map pair_entry items)) seen items here e is

pub write-requires-clause-place : goal.write-requires-clause-place
write-requires-clause-place c =
    let items = c.args.self.now.items.items in
    let place = place_is c.args.sections.lower c.args.sections.higher _ items _ c.place_of-place.ensures c.deref.ensures.value in
    omega (arith, place, place_fits pair_cmp (c.args.sections.lower.0, c.args.sections.higher.0) (map pair_entry items), length-map items pair_entry)

pub write-requires-clause-inside : goal.write-requires-clause-inside
write-requires-clause-inside c here =
    let items = c.args.self.now.items.items in
    let place = place_is c.args.sections.lower c.args.sections.higher _ items _ c.place_of-place.ensures c.deref.ensures.value in
    let stands = sym (stands_is c.args.sections.lower c.args.sections.higher _ items _ c.stands_at-stands.ensures c.deref-2.ensures.value) ∙ here in
    omega (arith, place, place_inside pair_cmp (c.args.sections.lower.0, c.args.sections.higher.0) (map pair_entry items) stands, length-map items pair_entry)

-- what was made of the adjustment as it was passed on is what the adjustment makes
entry_is : (first second : SectionNo) (n : ℤ) → SFits w16 n → (x : Option (SectionNo × SectionNo × ℤ))
    → x ≡ cond (unsigned_abs (to_z w16 (of_z w16 n)) == 0) None (Some (first, second, to_z w16 (of_z w16 n)))
    → x ≡ cond (unsigned_abs n == 0) None (Some (first, second, n))
entry_is first second n fits x is = is ∙ ap (λ m. cond (unsigned_abs m == 0) None (Some (first, second, m))) (to_z-of_z w16 n fits)

-- what the write leaves, where the row is as it was seen
after_write : (first second : SectionNo) (n : ℤ) (seen seen' items new : List (SectionNo × SectionNo × ℤ)) (x : Option (SectionNo × SectionNo × ℤ)) (place : ℕ)
    (here result : Bool)
    → ArePairs items → first.0 < second.0 → unsigned_abs n ≤ 200 → x ≡ cond (unsigned_abs n == 0) None (Some (first, second, n))
    → place ≡ place_in pair_cmp (first.0, second.0) (map pair_entry seen) → seen ≡ items → here ≡ stands pair_cmp (first.0, second.0) (map pair_entry seen')
    → seen' ≡ items
    → result ≡ has_room 200 items here x → new ≡ cond result (written items place here x) items → IsAdjusted items new (first.0, second.0) n result
after_write first second n seen seen' items new x place here result kept order small x_is place_at one here_at other room is =
    adjusted_set items new first second n x place here result kept order small x_is (place_is first second seen items place place_at one)
    (stands_is first second seen' items here here_at other) room is

pub invariant_of-self : goal.invariant_of-self
invariant_of-self c =
    let set =
    after_write c.args.sections.lower c.args.sections.higher c.args.n _ _ _ _ _ _ _ _ c.args.self.now.kept c.args.sections.order c.requires.small
    (entry_is c.args.sections.lower c.args.sections.higher c.args.n c.ranges.n _ c.adjusted-entry.ensures) c.place_of-place.ensures c.deref.ensures.value
    c.stands_at-stands.ensures c.deref-2.ensures.value c.write.ensures.room c.write.ensures.items in
    record { kept = set.kept; room = omega (arith, c.args.self.now.room, c.write.ensures.capacity) }

pub returns-clause-room : goal.returns-clause-room
returns-clause-room c =
    let set =
    after_write c.args.sections.lower c.args.sections.higher c.args.n _ _ _ _ _ _ _ _ c.args.self.now.kept c.args.sections.order c.requires.small
    (entry_is c.args.sections.lower c.args.sections.higher c.args.n c.ranges.n _ c.adjusted-entry.ensures) c.place_of-place.ensures c.deref.ensures.value
    c.stands_at-stands.ensures c.deref-2.ensures.value c.write.ensures.room c.write.ensures.items in
    set.room

pub returns-clause-set : goal.returns-clause-set
returns-clause-set c =
    let set =
    after_write c.args.sections.lower c.args.sections.higher c.args.n _ _ _ _ _ _ _ _ c.args.self.now.kept c.args.sections.order c.requires.small
    (entry_is c.args.sections.lower c.args.sections.higher c.args.n c.ranges.n _ c.adjusted-entry.ensures) c.place_of-place.ensures c.deref.ensures.value
    c.stands_at-stands.ensures c.deref-2.ensures.value c.write.ensures.room c.write.ensures.items in
    set.view
