-- The clashes of places, as a menu has them.
use Rattle.std.proofs.Common.{ℕ, zero, suc, ◌≡◌, ◌≢◌, ◌<◌, ◌≤◌, ◌∙◌, ◌&&◌, true, false, ap, List, [], ◌∷◌, map, length, sym, inl, inr, arith}
use Rattle.std.specs.Prelude.{nat_lt}
use Rattle.std.proofs.lemmas.Bool.{cases_lt}
use Rattle.std.proofs.lemmas.Bool.Decides.{nat_tests}
use Rattle.bundle_rules.specs.declared.menu.Rated.{Rated}
use Rattle.bundle_rules.specs.Menus.{AreClashes, clash_in, course_at, section_at}
use Rattle.bundle_rules.specs.Sets.{AllAbove, IsAscending}
use Rattle.course_catalog.specs.Courses.{course_number}
use Rattle.course_catalog.specs.Sections.{Section, section_at as listed, sections_clash}
use Rattle.course_catalog.proofs.ClashFacts.{clashes_mutual, one_number-one_course, sections_clash-relation}
use Rattle.market_menus.specs.ClashWords.{AreClashWords}

above_at : (s : ℕ) (places : List Rated) (k : ℕ) → AllAbove s (map (λ (rated : Rated). rated.section.0) places) → k < length places → s < section_at places k
above_at s [] k above inside = absurd (omega arith)
above_at s (rated ∷ more) zero above inside = above.0
above_at s (rated ∷ more) (suc k) above inside = above_at s more k above.1 (omega arith)

-- a later place has a higher section
pub later_is_higher : (places : List Rated) (a b : ℕ) → IsAscending (map (λ (rated : Rated). rated.section.0) places) → a < b → b < length places
    → section_at places a < section_at places b
later_is_higher [] a b up less inside = absurd (omega arith)
later_is_higher (rated ∷ more) a zero up less inside = absurd (omega arith)
later_is_higher (rated ∷ more) zero (suc b) up less inside = above_at rated.section.0 more b up.0 (omega arith)
later_is_higher (rated ∷ more) (suc a) (suc b) up less inside = later_is_higher more a b up.1 (omega arith) (omega arith)

other_section : (places : List Rated) (a b : ℕ) → IsAscending (map (λ (rated : Rated). rated.section.0) places) → a < length places → b < length places → a ≢ b
    → section_at places a ≢ section_at places b
other_section places a b up first second apart = elim (cases_lt a b) [
  | inl less ↦ λ same. absurd (omega (arith, later_is_higher places a b up less second))
  | inr more ↦ λ same. let less : b < a = omega arith in absurd (omega (arith, later_is_higher places b a up less first))
]

-- what the words say of two places of the menu
pub on_menu : (catalog : List Section) (places : List Rated) (words : List ℕ) (a b : ℕ) → AreClashWords catalog places words → a < length places
    → b < length places
    → clash_in words a b ≡ sections_clash catalog (section_at places a) (section_at places b)
on_menu catalog places words a b is first second =
    let l : nat_lt b (length places) ≡ true = grind (arith, nat_tests) in
    is.each a b first ∙ ap (λ t. t && sections_clash catalog (section_at places a) (section_at places b)) l

-- and of no further one
pub off_menu : (catalog : List Section) (places : List Rated) (words : List ℕ) (a b : ℕ) → AreClashWords catalog places words → a < length places
    → length places ≤ b → clash_in words a b ≡ false
off_menu catalog places words a b is first far =
    let l : nat_lt b (length places) ≡ false = grind (arith, nat_tests) in
    is.each a b first ∙ ap (λ t. t && sections_clash catalog (section_at places a) (section_at places b)) l

-- the words of the places are such as a menu has
pub are_clashes : (catalog : List Section) (places : List Rated) (words : List ℕ) → IsAscending (map (λ (rated : Rated). rated.section.0) places)
    → ((k : ℕ) → k < length places → course_at places k ≡ course_number catalog (listed catalog (section_at places k)).course)
    → ((k : ℕ) → k < length places → section_at places k < length catalog)
    → AreClashWords catalog places words → AreClashes places words
are_clashes catalog places words up courses within is = record {
  words = is.whole;
  not_itself = λ a first. on_menu catalog places words a a is first first ∙ (clashes_mutual catalog (section_at places a) (section_at places a)).not_itself;
  each = λ a b first second. record {
    both_ways =
        on_menu catalog places words a b is first second ∙ (clashes_mutual catalog (section_at places a) (section_at places b)).other_way
        ∙ sym (on_menu catalog places words b a is second first);
    one_course = λ apart same.
        let one = section_at places a in
        let other = section_at places b in
        let numbers = sym (courses a first) ∙ same ∙ courses b second in
        on_menu catalog places words a b is first second
        ∙ (sections_clash-relation catalog one other).1
        (record {
          different = other_section places a b up first second apart;
          cause = inl ((one_number-one_course catalog one other (within a first) (within b second)).0 numbers);
        });
  };
}
