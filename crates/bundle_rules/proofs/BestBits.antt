-- The best bundle and its bits.
use Rattle.std.proofs.Common.{◌≡◌, ◌↔◌, ◌<◌, ℕ, zero, suc, Bool, true, false, ◌==◌, List, [], ◌∷◌, map, length, arith, refl, ap, sym, subst, ◌∙◌, inl, inr}
use Rattle.std.proofs.lemmas.Bool.{eq-eqb, ne_eqb}
use Rattle.std.proofs.lemmas.List.{length-map}
use Rattle.market_units.specs.Subsets.{chosen}
use Rattle.bundle_rules.specs.declared.menu.Rated.{Rated}
use Rattle.market_units.specs.Members.{has}
use Rattle.bundle_rules.specs.Sets.{AllAbove, IsAscending}
use Rattle.bundle_rules.specs.Wishes.{Wishes, utility}
use Rattle.bundle_rules.specs.Preferences.{IsPreferred}
use Rattle.bundle_rules.specs.Demand.{IsChoice, IsBest}
use Rattle.bundle_rules.specs.Menus.{MenuData, IsMenu, wishes_of, by_place, place_in}
use Rattle.bundle_rules.specs.Places.{bits_of, menu_sections, menu_places, places_from, PrefersBits, AreBestBits}
use Rattle.bundle_rules.proofs.Bits.{bits_of-chosen, chosen-bits_of, earlier-differs, differs-earlier}
use Rattle.bundle_rules.proofs.Feasibility.{among_sections, utility_by_place}

-- preference of sets is preference of their bits
pub prefers_bits : (w : Wishes) (all : List ℕ) (a b : List Bool) → IsAscending all → length a ≡ length all → length b ≡ length all
    → PrefersBits w all a b ↔ IsPreferred w (chosen a all) (chosen b all)
prefers_bits w all a b up same same' = (there, back)
  where
    there : PrefersBits w all a b → IsPreferred w (chosen a all) (chosen b all)
    there (inl more) = inl more
    there (inr tie) = inr (tie.0, earlier-differs a b all up same same' tie.1)

    back : IsPreferred w (chosen a all) (chosen b all) → PrefersBits w all a b
    back (inl more) = inl more
    back (inr tie) = inr (tie.0, differs-earlier a b all up same same' tie.1)

module _ (w : Wishes) (price : ℕ → ℕ) (budget : ℕ) (allowed : ℕ → Bool) (all : List ℕ) (up : IsAscending all)
    (among : (other : List ℕ) → IsChoice w price budget allowed other → (s : ℕ) → has other s ≡ true → has all s ≡ true) where
  -- the best bits choose the best bundle
  pub best_from_bits : (bits : List Bool) → AreBestBits w all price budget allowed bits → IsBest w price budget allowed (chosen bits all)
  best_from_bits bits best = record {
    choice = best.choice;
    preferred = λ other is apart.
        let whole : length (bits_of all other) ≡ length all = length-map all (has other) in
        let back : chosen (bits_of all other) all ≡ other = chosen-bits_of all other up is.feasible.set (among other is) in
        let over =
        best.preferred (bits_of all other) whole (subst (IsChoice w price budget allowed) (sym back) is)
        (λ e. apart (sym back ∙ ap (λ bs. chosen bs all) e)) in
        subst (IsPreferred w (chosen bits all)) back ((prefers_bits w all bits (bits_of all other) up best.whole whole).0 over);
  }

  -- and the bits of the best bundle are the best
  pub best_to_bits : (bundle : List ℕ) → IsBest w price budget allowed bundle → AreBestBits w all price budget allowed (bits_of all bundle)
  best_to_bits bundle best =
      let whole : length (bits_of all bundle) ≡ length all = length-map all (has bundle) in
      let back : chosen (bits_of all bundle) all ≡ bundle = chosen-bits_of all bundle up best.choice.feasible.set (among bundle best.choice) in
      record {
        whole = whole;
        choice = subst (IsChoice w price budget allowed) (sym back) best.choice;
        preferred = λ other same is apart.
            (prefers_bits w all (bits_of all bundle) other up whole same).1
            (subst (λ b. IsPreferred w b (chosen other all)) (sym back)
            (best.preferred (chosen other all) is (λ e. apart (sym (bits_of-chosen other all up same) ∙ ap (bits_of all) e))));
      }

-- every choice of a menu is among its sections
pub choice_among : (menu : MenuData) (price : ℕ → ℕ) (budget : ℕ) (allowed : ℕ → Bool) (other : List ℕ) → IsChoice (wishes_of menu) price budget allowed other
    → (s : ℕ) → has other s ≡ true → has (menu_sections menu) s ≡ true
choice_among menu price budget allowed other is s in_it = among_sections menu other is.feasible.rated s in_it

-- the place of the section at each place is that place
places_above : (r : Rated) (rs : List Rated) (ss : List ℕ) → AllAbove r.section.0 ss → map (place_in (r ∷ rs)) ss ≡ map (λ s. suc (place_in rs s)) ss
places_above r rs [] above = refl
places_above r rs (s ∷ ss) above =
    let other : (r.section.0 == s) ≡ false = ne_eqb r.section.0 s (λ e. let low : r.section.0 < s = above.0 in absurd (omega arith)) in
    rw (other, places_above r rs ss above.1) refl

shifted : (first : ℕ) (count : ℕ) → map suc (places_from first count) ≡ places_from (suc first) count
shifted first zero = refl
shifted first (suc count) = ap (λ ps. suc first ∷ ps) (shifted (suc first) count)

map_suc : (rs : List Rated) (ss : List ℕ) → map (λ s. suc (place_in rs s)) ss ≡ map suc (map (place_in rs) ss)
map_suc rs [] = refl
map_suc rs (s ∷ ss) = ap (λ ps. suc (place_in rs s) ∷ ps) (map_suc rs ss)

pub places_of_sections : (places : List Rated) → IsAscending (map (λ rated. rated.section.0) places)
    → map (place_in places) (map (λ rated. rated.section.0) places) ≡ places_from 0 (length places)
places_of_sections [] up = refl
places_of_sections (r ∷ rs) up =
    let here : (r.section.0 == r.section.0) ≡ true = eq-eqb r.section.0 r.section.0 refl in
    rw here (
    ap (λ ps. 0 ∷ ps)
    (places_above r rs (map (λ rated. rated.section.0) rs) up.0 ∙ map_suc rs (map (λ rated. rated.section.0) rs) ∙ ap (map suc) (places_of_sections rs up.1)
    ∙ shifted 0 (length rs))
    )

chosen-map : (f : ℕ → ℕ) (bits : List Bool) (ss : List ℕ) → chosen bits (map f ss) ≡ map f (chosen bits ss)
chosen-map f [] ss = refl
chosen-map f (b ∷ bits) [] = refl
chosen-map f (true ∷ bits) (s ∷ ss) = ap (λ xs. f s ∷ xs) (chosen-map f bits ss)
chosen-map f (false ∷ bits) (s ∷ ss) = chosen-map f bits ss

-- the places of the chosen sections are the chosen places
pub chosen_places : (menu : MenuData) (bits : List Bool) → IsMenu menu
    → map (place_in menu.places) (chosen bits (menu_sections menu)) ≡ chosen bits (menu_places menu)
chosen_places menu bits is =
    sym (chosen-map (place_in menu.places) bits (menu_sections menu)) ∙ ap (chosen bits) (places_of_sections menu.places is.places.ascending)

-- so the utility of bits is that of their places
pub utility-chosen : (menu : MenuData) (bits : List Bool) → IsMenu menu
    → utility (wishes_of menu) (chosen bits (menu_sections menu)) ≡ utility (by_place menu) (chosen bits (menu_places menu))
utility-chosen menu bits is = sym (utility_by_place menu (chosen bits (menu_sections menu))) ∙ ap (utility (by_place menu)) (chosen_places menu bits is)
