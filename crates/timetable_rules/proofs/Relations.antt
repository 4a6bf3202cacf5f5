-- The tests of overlaps and clashes, and the relations.
use Rattle.std.proofs.Common.{ℕ, ◌≡◌, ◌≢◌, ◌⊎◌, ◌↔◌, IsTrue, Bool, true, false, ◌&&◌, ◌||◌, not, nat_eq, List, [], get_or, arith, sym, refl, inl, inr}
use Rattle.std.specs.Prelude.{Any}
use Rattle.std.specs.List.{list_any}
use Rattle.std.proofs.lemmas.Bool.Decides.{nat_tests, same_from_decides}
use Rattle.std.proofs.lemmas.List.Folds.{Any-from_list_any, list_any-from_Any}
use Rattle.timetable_rules.specs.declared.meeting.Meeting.{Meeting}
use Rattle.timetable_rules.specs.declared.parts.Parts.{Parts}
use Rattle.timetable_rules.specs.Parts.{SharePart, no_part, share_part}
use Rattle.timetable_rules.specs.Overlap.{Overlap, SomeOverlap, overlaps, some_overlap}
use Rattle.timetable_rules.specs.Clash.{Clash, clashes}
use Rattle.timetable_rules.specs.Laws.{AreMutual}

-- where some element has a property, it has each that follows from it
Any-map : {X : Type 0} (P Q : X → Type 0) (xs : List X) → ((x : X) → P x → Q x) → Any P xs → Any Q xs
Any-map P Q xs then (k, x, inside, here, has) = (k, x, inside, here, then x has)

overlap_from_test : (m n : Meeting) → overlaps m n ≡ true → Overlap m n
overlap_from_test m n t = record { same_day = grind (arith, nat_tests); first_starts = grind (arith, nat_tests); second_starts = grind (arith, nat_tests) }

test_from_overlap : (m n : Meeting) → Overlap m n → overlaps m n ≡ true
test_from_overlap m n o = grind (arith, nat_tests, o.same_day, o.first_starts, o.second_starts)

and_true : (a b : Bool) → IsTrue (a && b) ↔ (IsTrue a × IsTrue b)
and_true true b = (λ t. (refl, t), λ both. both.1)
and_true false b = (λ t. absurd (cc), λ both. absurd (cc (both.0)))

or_true : (a b : Bool) (P Q : Type 0) → IsTrue a ↔ P → IsTrue b ↔ Q → IsTrue (a || b) ↔ (P ⊎ Q)
or_true true b P Q one other = (λ t. inl (one.0 refl), λ some. refl)
or_true false b P Q one other = (λ t. inr (other.0 t), λ some. elim some [ inl p ↦ absurd (cc (one.1 p)) | inr q ↦ other.1 q ])

pub some_overlap-relation : (ones others : List Meeting) → IsTrue (some_overlap ones others) ↔ SomeOverlap ones others
some_overlap-relation ones others = (
  λ t. Any-map (λ m. list_any (overlaps m) others ≡ true) (λ m. Any (λ n. Overlap m n) others) ones
      (λ m t2. Any-map (λ n. overlaps m n ≡ true) (λ n. Overlap m n) others (overlap_from_test m) (Any-from_list_any (overlaps m) others t2))
      (Any-from_list_any (λ m. list_any (overlaps m) others) ones t),
  λ some. list_any-from_Any (λ m. list_any (overlaps m) others) ones
      (Any-map (λ m. Any (λ n. Overlap m n) others) (λ m. list_any (overlaps m) others ≡ true) ones
      (λ m any. list_any-from_Any (overlaps m) others (Any-map (λ n. Overlap m n) (λ n. overlaps m n ≡ true) others (test_from_overlap m) any)) some),
)

-- the test of a shared part of the term is the relation
pub share_part-relation : (ones others : Parts) → IsTrue (share_part ones others) ↔ SharePart ones others
share_part-relation ones others = or_true _ _ _ _ (and_true ones.first others.first) (and_true ones.second others.second)

clash_by_test : (a b c d : ℕ) (p o : Bool) (P Q : Type 0) → IsTrue p ↔ P → IsTrue o ↔ Q → not (nat_eq a b) && (nat_eq c d || (p && o)) ≡ true
    → (a ≢ b) × ((c ≡ d) ⊎ (P × Q))
clash_by_test a b c d true true P Q share met t = (grind (arith, nat_tests), inr (share.0 refl, met.0 refl))
clash_by_test a b c d true false P Q share met t = (grind (arith, nat_tests), inl (grind (arith, nat_tests)))
clash_by_test a b c d false o P Q share met t = (grind (arith, nat_tests), inl (grind (arith, nat_tests)))

test_by_clash : (a b c d : ℕ) (p o : Bool) (P Q : Type 0) → IsTrue p ↔ P → IsTrue o ↔ Q → a ≢ b → (c ≡ d) ⊎ (P × Q)
    → not (nat_eq a b) && (nat_eq c d || (p && o)) ≡ true
test_by_clash a b c d p o P Q share met different (inl same) = grind (arith, nat_tests)
test_by_clash a b c d p o P Q share met different (inr (shared, overlap)) = let t = share.1 shared in let u = met.1 overlap in grind (arith, nat_tests)

pub clashes-relation : (meetings : List (List Meeting)) (courses : List ℕ) (parts : List Parts) (a b : ℕ)
    → IsTrue (clashes meetings courses parts a b) ↔ Clash meetings courses parts a b
clashes-relation meetings courses parts a b =
    let share = share_part-relation (get_or parts a no_part) (get_or parts b no_part) in
    let met = some_overlap-relation (get_or meetings a []) (get_or meetings b []) in (
      λ t. let both = clash_by_test a b (get_or courses a 0) (get_or courses b 0) _ _ _ _ share met t in record { different = both.0; cause = both.1 },
      λ clash. test_by_clash a b (get_or courses a 0) (get_or courses b 0) _ _ _ _ share met clash.different clash.cause,
    )

-- a test of equal numbers, whichever is named first
pub eqb-other_way : (x y : ℕ) → nat_eq x y ≡ nat_eq y x
eqb-other_way x y = grind (arith, nat_tests)

SomeOverlap-other_way : (ones others : List Meeting) → SomeOverlap ones others → SomeOverlap others ones
SomeOverlap-other_way ones others (k, m, inside, here, (j, n, within, there, o)) =
    (j, n, within, there, (k, m, inside, here, record { same_day = sym o.same_day; first_starts = o.second_starts; second_starts = o.first_starts }))

pub some_overlap-other_way : (ones others : List Meeting) → some_overlap ones others ≡ some_overlap others ones
some_overlap-other_way ones others =
    let there = some_overlap-relation ones others in
    let back = some_overlap-relation others ones in
    same_from_decides (some_overlap ones others) (some_overlap others ones) there
    (λ t. SomeOverlap-other_way others ones (back.0 t), λ some. back.1 (SomeOverlap-other_way ones others some))

and-other_way : (a b : Bool) → (a && b) ≡ (b && a)
and-other_way true true = refl
and-other_way true false = refl
and-other_way false true = refl
and-other_way false false = refl

pub share_part-other_way : (ones others : Parts) → share_part ones others ≡ share_part others ones
share_part-other_way ones others = rw (and-other_way ones.first others.first, and-other_way ones.second others.second) refl

pub clashes_mutual : (meetings : List (List Meeting)) (courses : List ℕ) (parts : List Parts) (a b : ℕ) → AreMutual meetings courses parts a b
clashes_mutual meetings courses parts a b = record {
  other_way =
      rw (
        eqb-other_way a b,
        eqb-other_way (get_or courses a 0) (get_or courses b 0),
        share_part-other_way (get_or parts a no_part) (get_or parts b no_part),
        some_overlap-other_way (get_or meetings a []) (get_or meetings b []),
      )
      refl;
  not_itself = grind (arith, nat_tests);
}
