-- A desk's state, as its parts change.
use Rattle.std.proofs.Common.{ℕ, zero, suc, ◌≡◌, ◌<◌, ◌≤◌, ◌+◌, ◌∙◌, Bool, true, false, not, List, [], length, arith, refl, sym, ap, subst, get_or}
use Rattle.std.specs.Prelude.{slice_set, replicate, nat_lt, is_some, ◌&&◌, All}
use Rattle.std.specs.FinSet as set
use Rattle.std.proofs.lemmas.Bool.{false≢true, ltb-false}
use Rattle.std.proofs.lemmas.List.{length-map, length-replicate}
use Rattle.course_catalog.specs.Sections.{Section}
use Rattle.student_roll.specs.Students.{no_student}
use Rattle.market_units.specs.Members.{has}
use Rattle.bundle_rules.specs.Sets.{IsAscending}
use Rattle.held_seats.specs.declared.floor.Floor.{Floor}
use Rattle.held_seats.specs.Floors.{AreBelow, IsFloor, held_on}
use Rattle.dropadd_desk.specs.declared.shared.HallState.{HallState}
use Rattle.dropadd_desk.specs.Fits.{fits, lowest_clash, exceeds_credits, exceeds_courses}
use Rattle.dropadd_desk.specs.Halls.{IsHall, IsQueue, opening}
use Rattle.dropadd_desk.specs.Lists.{Lists}
use Rattle.dropadd_desk.specs.Market.{IsMarket, Market, enrolled, section_count, seats_in, student_count}
use Rattle.dropadd_desk.specs.Step.{has_free_seat, with_held, with_waiting}

-- one bundle is another
pub held_changed : (held new waiting : List (List ℕ)) (at i : ℕ) (set set' : List ℕ) → new ≡ slice_set held at set → at ≡ i → set ≡ set'
    → ◌≡◌ {A = HallState} (record { held = new; waiting = waiting }) (with_held (record { held = held; waiting = waiting }) i set')
held_changed held new waiting at i set set' is here same =
    let whole : new ≡ slice_set held i set' = is ∙ ap (λ n. slice_set held n set) here ∙ ap (slice_set held i) same in
    λ k. record { held = whole k; waiting = waiting }

-- one list is another
pub waiting_changed : (held : List (List ℕ)) (old new : Lists) (at s : ℕ) (list list' : List ℕ)
    → new ≡ record { width = old.width; lists = slice_set old.lists at list } → at ≡ s → list ≡ list'
    → ◌≡◌ {A = HallState} (record { held = held; waiting = new.lists }) (with_waiting (record { held = held; waiting = old.lists }) s list')
waiting_changed held old new at s list list' is here same =
    let whole : new.lists ≡ slice_set old.lists s list' =
    ap (λ (l : Lists). l.lists) is ∙ ap (λ n. slice_set old.lists n list) here ∙ ap (slice_set old.lists s) same in
    λ k. record { held = held; waiting = whole k }

-- nobody waits in a list that was just made
pub nobody_waits : (n s : ℕ) → get_or (replicate {A = List ℕ} n []) s [] ≡ []
nobody_waits zero s = refl
nobody_waits (suc n) zero = refl
nobody_waits (suc n) (suc s) = nobody_waits n s

-- the opening is a state
pub opening_hall : (market : Market) (held : List (List ℕ)) → length held ≡ student_count market → AreBelow (section_count market) held → All IsAscending held
    → IsHall market (opening market held)
opening_hall market held count within up = record {
  each_student = count;
  within = within;
  ascending = up;
  each_section = length-replicate (section_count market) [];
  queues =
      λ s. subst (IsQueue (student_count market)) (sym (nobody_waits (section_count market) s))
      (record { once = λ i. omega arith; within = λ i there. absurd (false≢true there) });
  apart = λ i s there. absurd (false≢true (sym (ap (λ l. has l i) (nobody_waits (section_count market) s)) ∙ there));
}

-- a section is free on the floor where it has a free seat
pub free_on : (market : Market) (floor : Floor) (waiting : List (List ℕ)) (s : ℕ) → IsFloor (seats_in market) floor → s < section_count market
    → set.contains floor.free s ≡ has_free_seat market (record { held = held_on floor; waiting = waiting }) s
free_on market floor waiting s is low =
    let inside : s < length (seats_in market) = subst (λ n. s < n) (sym (length-map market.catalog.sections (λ (section : Section). section.seats))) low in
    is.free s ∙ ap (λ n. nat_lt n (get_or (seats_in market) s 0)) (is.counts.each s inside)

-- whom a section fits has fewer than 8
pub fits_few : (market : Market) (i s : ℕ) (set : List ℕ) → IsMarket market → i < student_count market → fits market i s set ≡ true → length set < 8
fits_few market i s set is low fit =
    let few : (enrolled market i).courses ≤ 8 = (is.roll.each i no_student low).is_student.courses in
    let room : length set + 1 ≤ (enrolled market i).courses =
    ltb-false (enrolled market i).courses (length set + 1)
    (last_of (is_some (lowest_clash market s set)) (exceeds_credits market i s set) (exceeds_courses market i set) fit) in
    omega (arith, few, room)
  where
    last_of : (a b c : Bool) → (not a && not b && not c) ≡ true → c ≡ false
    last_of true b c e = absurd (false≢true e)
    last_of false true c e = absurd (false≢true e)
    last_of false false true e = absurd (false≢true e)
    last_of false false false e = refl

-- the same, of what was made for the opening
pub opening_of : (made market : Market) (held bundles : List (List ℕ)) (lists : Lists) → made ≡ market → held ≡ bundles → length bundles ≡ student_count market
    → AreBelow (section_count market) bundles → All IsAscending bundles → lists.lists ≡ replicate (section_count market) []
    → IsHall made (record { held = held; waiting = lists.lists })
opening_of made market held bundles lists is same count within up none =
    let state : ◌≡◌ {A = HallState} (record { held = held; waiting = lists.lists }) (opening market bundles) =
    λ i. record { held = same i; waiting = none i } in
    subst (λ m. IsHall m (record { held = held; waiting = lists.lists })) (sym is)
    (subst (IsHall market) (sym state) (opening_hall market bundles count within up))
