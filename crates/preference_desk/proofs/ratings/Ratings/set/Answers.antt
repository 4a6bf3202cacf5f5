use Rattle.std.proofs.Common.{ℕ, ◌≡◌, ◌≤◌, ◌==◌, ◌∙◌, cond, Bool, List, nat_cmp, map, sym, arith}
use Rattle.std.specs.Prelude.{Option, Some, None}
use Rattle.std.proofs.lemmas.List.{length-map}
use Rattle.market_units.specs.declared.units.SectionNo.{SectionNo}
use Rattle.preference_desk.specs.Places.{place_in, stands}
use Rattle.preference_desk.specs.Writes.{written, has_room}
use Rattle.preference_desk.specs.Rows.{AreRatings, rating_entry}
use Rattle.preference_desk.proofs.RowLemmas.{place_fits, place_inside}
use Rattle.preference_desk.proofs.RatingLemmas.{IsRated, rated_set, same_place}
use Rattle.preference_desk.proofs.ratings.Ratings.set.Goals as goal

-- the place in the row as it was seen is its place, and so whether the section stands there
place_is : (section : SectionNo) (seen items : List (SectionNo × ℕ)) (place : ℕ) → place ≡ place_in nat_cmp section.0 (map rating_entry seen) → seen ≡ items
    → place ≡ place_in nat_cmp section.0 (map rating_entry items)
place_is section seen items place e is = same_place (λ items. place_in nat_cmp section.0 (map rating_entry items)) seen items place e is

stands_is : (section : SectionNo) (seen items : List (SectionNo × ℕ)) (here : Bool) → here ≡ stands nat_cmp section.0 (map rating_entry seen) → seen ≡ items
    → here ≡ stands nat_cmp section.0 (map rating_entry items)
stands_is section seen items here e is = same_place (λ items. stands nat_cmp section.0 (map rating_entry items)) seen items here e is

pub write-requires-clause-place : goal.write-requires-clause-place
write-requires-clause-place c =
    let items = c.args.self.now.items.items in
    let place = place_is c.args.section _ items _ c.place_of-place.ensures c.deref.ensures.value in
    omega (arith, place, place_fits nat_cmp c.args.section.0 (map rating_entry items), length-map items rating_entry)

pub write-requires-clause-inside : goal.write-requires-clause-inside
write-requires-clause-inside c here =
    let items = c.args.self.now.items.items in
    let place = place_is c.args.section _ items _ c.place_of-place.ensures c.deref.ensures.value in
    let stands = sym (stands_is c.args.section _ items _ c.stands_at-stands.ensures c.deref-2.ensures.value) ∙ here in
    omega (arith, place, place_inside nat_cmp c.args.section.0 (map rating_entry items) stands, length-map items rating_entry)

-- what the write leaves, where the row is as it was seen
after_write : (section : SectionNo) (rating : ℕ) (seen seen' items new : List (SectionNo × ℕ)) (x : Option (SectionNo × ℕ)) (place : ℕ) (here result : Bool)
    → AreRatings items → rating ≤ 100 → x ≡ cond (rating == 0) None (Some (section, rating))
    → place ≡ place_in nat_cmp section.0 (map rating_entry seen) → seen ≡ items → here ≡ stands nat_cmp section.0 (map rating_entry seen') → seen' ≡ items
    → result ≡ has_room 60 items here x → new ≡ cond result (written items place here x) items → IsRated items new section.0 rating result
after_write section rating seen seen' items new x place here result kept small x_is place_at one here_at other room is =
    rated_set items new section rating x place here result kept small x_is (place_is section seen items place place_at one)
    (stands_is section seen' items here here_at other) room is

pub invariant_of-self : goal.invariant_of-self
invariant_of-self c =
    let set =
    after_write c.args.section c.args.rating.n _ _ _ _ _ _ _ _ c.args.self.now.kept c.args.rating.small c.rated-entry.ensures c.place_of-place.ensures
    c.deref.ensures.value c.stands_at-stands.ensures c.deref-2.ensures.value c.write.ensures.room c.write.ensures.items in
    record { kept = set.kept; room = omega (arith, c.args.self.now.room, c.write.ensures.capacity) }

pub returns-clause-room : goal.returns-clause-room
returns-clause-room c =
    let set =
    after_write c.args.section c.args.rating.n _ _ _ _ _ _ _ _ c.args.self.now.kept c.args.rating.small c.rated-entry.ensures c.place_of-place.ensures
    c.deref.ensures.value c.stands_at-stands.ensures c.deref-2.ensures.value c.write.ensures.room c.write.ensures.items in
    set.room

pub returns-clause-set : goal.returns-clause-set
returns-clause-set c =
    let set =
    after_write c.args.section c.args.rating.n _ _ _ _ _ _ _ _ c.args.self.now.kept c.args.rating.small c.rated-entry.ensures c.place_of-place.ensures
    c.deref.ensures.value c.stands_at-stands.ensures c.deref-2.ensures.value c.write.ensures.room c.write.ensures.items in
    set.view
