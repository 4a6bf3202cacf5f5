-- Feasible bundles, by the places of their sections.
use Rattle.std.proofs.Common.{◌≡◌, ◌≢◌, ◌<◌, ◌+◌, ◌+ℤ◌, ℕ, zero, suc, true, false, true≢false, List, [], ◌∷◌, All, length, map, arith, refl, ap, sym, subst, ◌∙◌, inl, inr}
use Rattle.std.proofs.lemmas.List.{length-map}
use Rattle.market_units.specs.Totals.{total}
use Rattle.bundle_rules.specs.declared.menu.Rated.{Rated}
use Rattle.market_units.specs.Members.{has}
use Rattle.bundle_rules.specs.Sets.{IsAscending}
use Rattle.bundle_rules.specs.Wishes.{Wishes, adjustments, utility, AllRated, IsFeasible}
use Rattle.bundle_rules.specs.Apart.{ClashesWithNone, AreApart, MayTake}
use Rattle.bundle_rules.specs.Menus.{MenuData, by_place, wishes_of, place_in, section_at, credits_at, adjustment_in, IsMenu}
use Rattle.bundle_rules.specs.Existence.Members.{has-here, has-there, has-cases, has-above, all_of_has, has_of_all}
use Rattle.bundle_rules.specs.Existence.Places.{rated_on_menu, on_menu_rated, section_at-place_in}

-- sections of a set that are apart one by one are apart
none_from : (w : Wishes) (s : ℕ) (ss : List ℕ) → ClashesWithNone w s ss → (t : ℕ) → has ss t ≡ true → w.clash s t ≡ false
none_from w s [] none t is = absurd (true≢false (sym is))
none_from w s (x ∷ xs) none t is =
    elim (has-cases x xs t is) [ inl here ↦ subst (λ u. w.clash s u ≡ false) here none.0 | inr there ↦ none_from w s xs none.1 t there ]

pub apart_from : (w : Wishes) (ss : List ℕ) → ((s t : ℕ) → has ss s ≡ true → has ss t ≡ true → w.clash s t ≡ w.clash t s) → AreApart w ss → (s t : ℕ)
    → has ss s ≡ true → has ss t ≡ true → s ≢ t → w.clash s t ≡ false
apart_from w [] both apart s t is is' other = absurd (true≢false (sym is))
apart_from w (x ∷ xs) both apart s t is is' other =
    elim (has-cases x xs s is) [
      | inl here ↦ elim (has-cases x xs t is') [
        | inl here' ↦ absurd (other (sym here ∙ here'))
        | inr there' ↦ subst (λ u. w.clash u t ≡ false) here (none_from w x xs apart.0 t there')
      ]
      | inr there ↦ elim (has-cases x xs t is') [
        | inl here' ↦ both s t is is' ∙ subst (λ u. w.clash u s ≡ false) here' (none_from w x xs apart.0 s there)
        | inr there' ↦ apart_from w xs (λ u v in_u in_v. both u v (has-there x xs u in_u) (has-there x xs v in_v)) apart.1 s t there there' other
      ]
    ]

-- and sections that are apart are apart one by one
none_of : (w : Wishes) (s : ℕ) (ss : List ℕ) → ((t : ℕ) → has ss t ≡ true → w.clash s t ≡ false) → ClashesWithNone w s ss
none_of w s [] each = tt
none_of w s (x ∷ xs) each = (each x (has-here x xs), none_of w s xs (λ t is. each t (has-there x xs t is)))

pub apart_of : (w : Wishes) (ss : List ℕ) → IsAscending ss → ((s t : ℕ) → has ss s ≡ true → has ss t ≡ true → s ≢ t → w.clash s t ≡ false) → AreApart w ss
apart_of w [] up each = tt
apart_of w (x ∷ xs) up each = (
  none_of w x xs (λ t is. each x t (has-here x xs) (has-there x xs t is) (let low : x < t = has-above x xs t up.0 is in omega arith)),
  apart_of w xs up.1 (λ s t is is'. each s t (has-there x xs s is) (has-there x xs t is')),
)

-- the places of sections say the same
none_by_place : (m : MenuData) (s : ℕ) (ss : List ℕ) → ClashesWithNone (by_place m) (place_in m.places s) (map (place_in m.places) ss)
    → ClashesWithNone (wishes_of m) s ss
unfolding by_place wishes_of
none_by_place m s [] none = tt
none_by_place m s (x ∷ xs) none = (none.0, none_by_place m s xs none.1)

apart_by_place : (m : MenuData) (ss : List ℕ) → AreApart (by_place m) (map (place_in m.places) ss) → AreApart (wishes_of m) ss
apart_by_place m [] apart = tt
apart_by_place m (x ∷ xs) apart = (none_by_place m x xs apart.0, apart_by_place m xs apart.1)

none_at_places : (m : MenuData) (s : ℕ) (ss : List ℕ) → ClashesWithNone (wishes_of m) s ss
    → ClashesWithNone (by_place m) (place_in m.places s) (map (place_in m.places) ss)
unfolding by_place wishes_of
none_at_places m s [] none = tt
none_at_places m s (x ∷ xs) none = (none.0, none_at_places m s xs none.1)

apart_at_places : (m : MenuData) (ss : List ℕ) → AreApart (wishes_of m) ss → AreApart (by_place m) (map (place_in m.places) ss)
apart_at_places m [] apart = tt
apart_at_places m (x ∷ xs) apart = (none_at_places m x xs apart.0, apart_at_places m xs apart.1)

pub credits_by_place : (m : MenuData) (ss : List ℕ) → total (by_place m).credits (map (place_in m.places) ss) ≡ total (wishes_of m).credits ss
unfolding by_place wishes_of
credits_by_place m [] = refl
credits_by_place m (x ∷ xs) = ap (λ n. credits_at m.places (place_in m.places x) + n) (credits_by_place m xs)

adjustments_by_place : (m : MenuData) (s : ℕ) (ss : List ℕ)
    → adjustments (by_place m) (place_in m.places s) (map (place_in m.places) ss) ≡ adjustments (wishes_of m) s ss
unfolding by_place wishes_of
adjustments_by_place m s [] = refl
adjustments_by_place m s (x ∷ xs) = ap (λ n. adjustment_in m.pairs (place_in m.places s) (place_in m.places x) +ℤ n) (adjustments_by_place m s xs)

-- the utility of sections is that of their places
pub utility_by_place : (m : MenuData) (ss : List ℕ) → utility (by_place m) (map (place_in m.places) ss) ≡ utility (wishes_of m) ss
unfolding by_place wishes_of
utility_by_place m [] = refl
utility_by_place m (x ∷ xs) = rw (adjustments_by_place m x xs, utility_by_place m xs) refl

-- rated sections have places
pub places_of_rated : (m : MenuData) (ss : List ℕ) → AllRated (wishes_of m) ss → All (λ place. place < length m.places) (map (place_in m.places) ss)
unfolding wishes_of
places_of_rated m ss rated =
    all_of_has (λ place. place < length m.places) (place_in m.places) ss (λ s is. rated_on_menu m.places (place_in m.places s) (rated s is))

pub place_of_rated : (m : MenuData) (ss : List ℕ) → AllRated (wishes_of m) ss → (s : ℕ) → has ss s ≡ true → place_in m.places s < length m.places
unfolding wishes_of
place_of_rated m ss rated s is = rated_on_menu m.places (place_in m.places s) (rated s is)

pub rated_from_places : (m : MenuData) (ss : List ℕ) → IsMenu m → All (λ place. place < length m.places) (map (place_in m.places) ss)
    → AllRated (wishes_of m) ss
unfolding wishes_of
rated_from_places m ss menu all s is =
    on_menu_rated m.places (place_in m.places s) menu.places.each (has_of_all (λ place. place < length m.places) (place_in m.places) ss all s is)

both_ways : (m : MenuData) (ss : List ℕ) → IsMenu m → AllRated (wishes_of m) ss → (s t : ℕ) → has ss s ≡ true → has ss t ≡ true
    → (wishes_of m).clash s t ≡ (wishes_of m).clash t s
unfolding wishes_of
both_ways m ss menu rated s t is is' =
    (menu.clashes.each (place_in m.places s) (place_in m.places t) (rated_on_menu m.places (place_in m.places s) (rated s is))
    (rated_on_menu m.places (place_in m.places t) (rated t is'))).both_ways

-- places that may be taken are those of a feasible bundle
pub feasible_from : (m : MenuData) (ss : List ℕ) → IsMenu m → IsAscending ss → MayTake m (map (place_in m.places) ss) → IsFeasible (wishes_of m) ss
unfolding by_place wishes_of
feasible_from m ss menu up may =
    let rated = rated_from_places m ss menu may.on_menu in record {
      set = up;
      rated = rated;
      apart = apart_from (wishes_of m) ss (both_ways m ss menu rated) (apart_by_place m ss may.apart);
      credits = rw (← credits_by_place m ss) may.within.credits;
      courses = rw (← length-map ss (place_in m.places)) may.within.courses;
    }

pub feasible_to : (m : MenuData) (ss : List ℕ) → IsFeasible (wishes_of m) ss → MayTake m (map (place_in m.places) ss)
unfolding by_place wishes_of
feasible_to m ss feasible = record {
  on_menu = places_of_rated m ss feasible.rated;
  within = record { courses = rw length-map feasible.courses; credits = rw (credits_by_place m ss) feasible.credits };
  apart = apart_at_places m ss (apart_of (wishes_of m) ss feasible.set feasible.apart);
}

-- rated sections are among those of the menu
pub section_has : (places : List Rated) (k : ℕ) → k < length places → has (map (λ rated. rated.section.0) places) (section_at places k) ≡ true
section_has [] k low = absurd (omega arith)
section_has (r ∷ rs) zero low = has-here r.section.0 (map (λ rated. rated.section.0) rs)
section_has (r ∷ rs) (suc k) low = has-there r.section.0 (map (λ rated. rated.section.0) rs) (section_at rs k) (section_has rs k (omega arith))

pub among_sections : (m : MenuData) (ss : List ℕ) → AllRated (wishes_of m) ss → (s : ℕ) → has ss s ≡ true
    → has (map (λ rated. rated.section.0) m.places) s ≡ true
among_sections m ss rated s is =
    let low = place_of_rated m ss rated s is in
    subst (λ t. has (map (λ rated. rated.section.0) m.places) t ≡ true) (section_at-place_in m.places s low) (section_has m.places (place_in m.places s) low)
