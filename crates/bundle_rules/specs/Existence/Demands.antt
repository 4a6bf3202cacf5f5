-- Exactly one bundle is the best.
use Rattle.std.proofs.Common.{◌≡◌, ◌<◌, ◌≤◌, ◌+◌, ◌++◌, max, ℕ, zero, suc, Bool, true, true≢false, List, [], ◌∷◌, length, arith, sym, subst, inl, inr, append_assoc}
use Rattle.std.proofs.lemmas.Bool.{cases_lt}
use Rattle.bundle_rules.specs.declared.menu.Rated.{Rated}
use Rattle.market_units.specs.Members.{has}
use Rattle.bundle_rules.specs.Sets.{AllAbove, IsAscending}
use Rattle.bundle_rules.specs.Wishes.{Wishes}
use Rattle.bundle_rules.specs.Preferences.{IsPreferred}
use Rattle.bundle_rules.specs.Demand.{IsChoice, IsBest}
use Rattle.bundle_rules.specs.Extensions.{IsBestExtension}
use Rattle.bundle_rules.specs.Demand.{HasOneBest}
use Rattle.bundle_rules.specs.Menus.{MenuData, wishes_of, place_in, section_at}
use Rattle.bundle_rules.specs.Existence.Members.{has-here, has-there, IsAscending-front, IsAscending-middle}
use Rattle.bundle_rules.specs.Existence.Orders.{compared, not_both_preferred, not_preferred_itself}
use Rattle.bundle_rules.specs.Existence.Extending.{nothing_later, best_with, best_not_with, best_without, best_of_all}
use Rattle.bundle_rules.specs.Existence.Decisions.{choice_or_not}
use Rattle.bundle_rules.specs.Existence.Places.{rated_on_menu, section_at-place_in}

module _ (w : Wishes) (price : ℕ → ℕ) (budget : ℕ) (allowed : ℕ → Bool) where
  -- of the choices that extend a front one is the best
  pub best_extension : (later front : List ℕ) → IsAscending (front ++ later)
      → IsChoice w price budget allowed front
      → (best : List ℕ) × IsBestExtension w price budget allowed front later best
  best_extension [] front up choice = (front, nothing_later w price budget allowed front choice)
  best_extension (s ∷ rest) front up choice =
      let longer : IsAscending ((front ++ s ∷ []) ++ rest) = rw append_assoc up in
      let without = best_extension rest front (IsAscending-middle front s rest up) choice in
      elim (choice_or_not w price budget allowed (front ++ s ∷ []) (IsAscending-front (front ++ s ∷ []) rest longer)) [
        | inr none ↦ (without.0, best_without w price budget allowed front s rest without.0 up none without.1)
        | inl wider ↦
            let with_it = best_extension rest (front ++ s ∷ []) longer wider in
            elim (compared w with_it.0 without.0 with_it.1.choice.feasible.set without.1.choice.feasible.set) [
              | inl same ↦ (without.0, best_not_with w price budget allowed front s rest with_it.0 without.0 up with_it.1 without.1 (λ more. not_preferred_itself w without.0 (subst (λ b. IsPreferred w b without.0) same more)))
              | inr (inl more) ↦ (with_it.0, best_with w price budget allowed front s rest with_it.0 without.0 up with_it.1 without.1 more)
              | inr (inr less) ↦ (without.0, best_not_with w price budget allowed front s rest with_it.0 without.0 up with_it.1 without.1 (λ more. not_both_preferred w with_it.0 without.0 more less))
            ]
      ]

  pub no_section : IsChoice w price budget allowed []
  no_section = record {
    feasible =
        record {
          set = tt;
          rated = λ s none. absurd (true≢false (sym none));
          apart = λ s t none. absurd
              (true≢false (sym none));
          credits = omega arith;
          courses = omega arith;
        };
    affordable = omega arith;
    within = λ s none. absurd (true≢false (sym none));
  }

  -- two that are the best are one
  pub best_once : (a b : List ℕ) → IsBest w price budget allowed a → IsBest w price budget allowed b
      → b ≡ a
  best_once a b p q = elim (compared w a b p.choice.feasible.set q.choice.feasible.set) [
    | inl same ↦ sym same
    | inr (inl over) ↦ absurd (not_both_preferred w a b over (q.preferred a p.choice (λ e. not_preferred_itself w a (subst (IsPreferred w a) (sym e) over))))
    | inr (inr under) ↦ absurd (not_both_preferred w a b (p.preferred b q.choice (λ e. not_preferred_itself w b (subst (IsPreferred w b) (sym e) under))) under)
  ]

  -- where the rated sections are among those of a set, one bundle is the best
  pub one_best_among : (all : List ℕ) → IsAscending all
      → ((s : ℕ) → 0 < w.rating s → has all s ≡ true) → HasOneBest w price budget allowed
  one_best_among all up rated =
      let best = best_extension all [] up no_section in
      let is : IsBest w price budget allowed best.0 = best_of_all w price budget allowed all best.0 (λ other choice s in_it. rated s (choice.feasible.rated s in_it)) best.1 in
      (best.0, is, λ other so. best_once best.0 other is so)

-- the sections from one number on, so many
from : ℕ → ℕ → List ℕ
from s zero = []
from s (suc n) = s ∷ from (suc s) n

from-above : (s t n : ℕ) → s < t → AllAbove s (from t n)
unfolding from
from-above s t zero low = tt
from-above s t (suc n) low = (low, from-above s (suc t) n (omega arith))

from-ascending : (s n : ℕ) → IsAscending (from s n)
unfolding from
from-ascending s zero = tt
from-ascending s (suc n) = (from-above s (suc s) n (omega arith), from-ascending (suc s) n)

from-has : (s n t : ℕ) → s ≤ t → t < s + n → has (from s n) t ≡ true
unfolding from
from-has s zero t low high = absurd (omega arith)
from-has s (suc n) t low high = elim (cases_lt s t) [
  | inl above ↦ has-there s (from (suc s) n) t (from-has (suc s) n t (omega arith) (omega arith))
  | inr at ↦ let same : s ≡ t = omega arith in subst (λ u. has (s ∷ from (suc s) n) u ≡ true) same (has-here s (from (suc s) n))
]

-- where the rated sections are below a bound, one bundle is the best
pub one_best_below : (w : Wishes) (price : ℕ → ℕ) (budget : ℕ) (allowed : ℕ → Bool) (n : ℕ)
    → ((s : ℕ) → 0 < w.rating s → s < n) → HasOneBest w price budget allowed
one_best_below w price budget allowed n low = one_best_among w price budget allowed (from 0 n) (from-ascending 0 n) (λ s rated. from-has 0 n s (omega arith) (let h : s < n = low s rated in omega arith))

-- a number above each section of a menu
above_all : List Rated → ℕ
above_all [] = 0
above_all (rated ∷ more) = max (suc rated.section.0) (above_all more)

section_at-below : (places : List Rated) (k : ℕ) → k < length places
    → section_at places k < above_all places
unfolding above_all
section_at-below [] k low = absurd (omega arith)
section_at-below (r ∷ rs) zero low = omega arith
section_at-below (r ∷ rs) (suc k) low = let h : section_at rs k < above_all rs = section_at-below rs k (omega arith) in omega arith

rated-below : (menu : MenuData) (s : ℕ) → 0 < (wishes_of menu).rating s → s < above_all menu.places
unfolding wishes_of
rated-below menu s rated =
    let low = rated_on_menu menu.places (place_in menu.places s) rated in
    subst (λ t. t < above_all menu.places) (section_at-place_in menu.places s low)
    (section_at-below menu.places (place_in menu.places s) low)

-- every menu has one best bundle
pub one_best : (menu : MenuData) (price : ℕ → ℕ) (budget : ℕ) (allowed : ℕ → Bool)
    → HasOneBest (wishes_of menu) price budget allowed
one_best menu price budget allowed =
    one_best_below (wishes_of menu) price budget allowed (above_all menu.places) (rated-below menu)

-- an ascending list that has each rated section
pub all_sections : MenuData → List ℕ
all_sections menu = from 0 (above_all menu.places)

pub all_sections-ascending : (menu : MenuData) → IsAscending (all_sections menu)
unfolding all_sections
all_sections-ascending menu = from-ascending 0 (above_all menu.places)

pub all_sections-has : (menu : MenuData) (s : ℕ) → 0 < (wishes_of menu).rating s
    → has (all_sections menu) s ≡ true
unfolding all_sections
all_sections-has menu s rated = from-has 0 (above_all menu.places) s (omega arith) (let h : s < above_all menu.places = rated-below menu s rated in omega arith)
