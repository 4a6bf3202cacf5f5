-- A student has one menu.
use Rattle.std.proofs.Common.{ℕ, ◌≡◌, ◌<◌, ◌≤◌, ◌∙◌, ◌==◌, List, [], ◌∷◌, length, get_or, refl, ap, sym, subst, inl, inr, arith}
use Rattle.std.specs.Int.{bit_at}
use Rattle.std.proofs.lemmas.Bool.{cases_lt}
use Rattle.std.proofs.lemmas.Bool.Decides.{nat_tests}
use Rattle.std.proofs.lemmas.Nat.Bits.{bit_at-lt, same_from_bits}
use Rattle.std.proofs.lemmas.Grind.{same_number_lists}
use Rattle.bundle_rules.specs.declared.menu.Rated.{Rated}
use Rattle.bundle_rules.specs.Menus.{MenuData, clash_in, section_at}
use Rattle.course_catalog.specs.Sections.{Section, sections_clash}
use Rattle.preference_desk.specs.StudentPreferences.{StudentPreferences}
use Rattle.student_roll.specs.Students.{Student}
use Rattle.market_menus.specs.MenusOf.{AreMenusOf, IsMenuOf}

-- two bits of which each is set where the other is are equal
same_bit : (a b : ℕ) → a < 2 → b < 2 → (a == 1) ≡ (b == 1) → a ≡ b
same_bit a b low small e = grind (arith, nat_tests)

-- two words that say the same of each place are equal
same_word : (a b : ℕ) → ((k : ℕ) → (bit_at a k == 1) ≡ (bit_at b k == 1)) → a ≡ b
same_word a b so = same_from_bits a b (λ k. same_bit (bit_at a k) (bit_at b k) (bit_at-lt a k) (bit_at-lt b k) (so k))

-- the clashes of two menus with the same places
same_clashes : (catalog : List Section) (student : Student) (wanted : StudentPreferences) (one other : MenuData) → IsMenuOf catalog student wanted one
    → IsMenuOf catalog student wanted other → one.places ≡ other.places
    → (a b : ℕ) → a < length one.places → clash_in one.clashes a b ≡ clash_in other.clashes a b
same_clashes catalog student wanted one other is so e a b below =
    let first : a < length other.places = subst (λ (places : List Rated). a < length places) e below in
    elim (cases_lt b (length one.places)) [
      | inl within ↦
          is.clashes a b below within ∙ ap (λ (places : List Rated). sections_clash catalog (section_at places a) (section_at places b)) e
          ∙ sym (so.clashes a b first (subst (λ (places : List Rated). b < length places) e within))
      | inr far ↦ is.no_more a b below far ∙ sym (so.no_more a b first (subst (λ (places : List Rated). length places ≤ b) e far))
    ]

pub one_menu : (catalog : List Section) (student : Student) (wanted : StudentPreferences) (one other : MenuData) → IsMenuOf catalog student wanted one
    → IsMenuOf catalog student wanted other → one ≡ other
one_menu catalog student wanted one other is so =
    let places : one.places ≡ other.places = is.places ∙ sym so.places in
    let pairs : one.pairs ≡ other.pairs = is.pairs ∙ sym so.pairs in
    let long : length one.clashes ≡ length other.clashes = is.words ∙ ap (λ (all : List Rated). length all) places ∙ sym so.words in
    let clashes : one.clashes ≡ other.clashes =
    same_number_lists one.clashes other.clashes long
    (λ a below. same_word (get_or one.clashes a 0) (get_or other.clashes a 0)
    (λ b. same_clashes catalog student wanted one other is so places a b (subst (λ n. a < n) is.words below))) in
    let credits : one.credits ≡ other.credits = is.credits ∙ sym so.credits in
    let courses : one.courses ≡ other.courses = is.courses ∙ sym so.courses in
    λ i. record { places = places i; pairs = pairs i; clashes = clashes i; credits = credits i; courses = courses i }

pub one_list : (catalog : List Section) (students : List Student) (preferences : List StudentPreferences) (one other : List MenuData)
    → AreMenusOf catalog students preferences one → AreMenusOf catalog students preferences other → one ≡ other
one_list catalog [] [] [] [] is so = refl
one_list catalog (s ∷ students) (w ∷ preferences) (m ∷ one) (n ∷ other) is so =
    let head : m ≡ n = one_menu catalog s w m n is.0 so.0 in
    let tail : one ≡ other = one_list catalog students preferences one other is.1 so.1 in
    cc
one_list catalog [] [] [] (n ∷ other) is so = absurd so
one_list catalog [] [] (m ∷ one) other is so = absurd is
one_list catalog [] (w ∷ preferences) one other is so = absurd is
one_list catalog (s ∷ students) [] one other is so = absurd is
one_list catalog (s ∷ students) (w ∷ preferences) [] other is so = absurd is
one_list catalog (s ∷ students) (w ∷ preferences) (m ∷ one) [] is so = absurd so
