-- Which of two bundles has the lowest section on which they differ, by the places of their sections.
use Rattle.std.proofs.Common.{◌≡◌, ◌≢◌, ◌↔◌, ◌<◌, ℕ, zero, suc, true, ◌==◌, List, [], ◌∷◌, length, map, nat_lt, ap, sym, subst, ◌∙◌, arith, inl, inr}
use Rattle.std.proofs.lemmas.Bool.{cases_Bool, cases_order, false≢true, true≢false}
use Rattle.std.proofs.lemmas.Bool.Decides.{nat_tests}
use Rattle.bundle_rules.specs.declared.menu.Rated.{Rated}
use Rattle.market_units.specs.Members.{has}
use Rattle.bundle_rules.specs.Sets.{AllAbove, IsAscending, DiffersFirstIn}
use Rattle.bundle_rules.specs.Ahead.{is_ahead}
use Rattle.bundle_rules.specs.Menus.{section_at, place_in}
use Rattle.bundle_rules.specs.Existence.Members.{has-here, has-there, has-above}
use Rattle.bundle_rules.specs.Existence.Orders.{same_head, other_head, longer_first}
use Rattle.bundle_rules.specs.Existence.Places.{section_at-place_in}
use Rattle.bundle_rules.proofs.Feasibility.{section_has}

-- a later place has a later section
pub section_at-rises : (places : List Rated) (i j : ℕ) → IsAscending (map (λ rated. rated.section.0) places) → i < j → j < length places
    → section_at places i < section_at places j
section_at-rises [] i j up rises low = absurd (omega arith)
section_at-rises (rated ∷ places) i zero up rises low = absurd (omega arith)
section_at-rises (rated ∷ places) zero (suc j) up rises low =
    has-above rated.section.0 (map (λ r. r.section.0) places) (section_at places j) up.0 (section_has places j (omega arith))
section_at-rises (rated ∷ places) (suc i) (suc j) up rises low = section_at-rises places i j up.1 (omega arith) (omega arith)

-- each of these sections is on the menu
abbrev pub AllOnMenu : List Rated → List ℕ → Type 0
AllOnMenu places ss = (s : ℕ) → has ss s ≡ true → place_in places s < length places

-- a later section has a later place
pub place_in-rises : (places : List Rated) (s t : ℕ) → IsAscending (map (λ rated. rated.section.0) places) → place_in places s < length places
    → place_in places t < length places → s < t → place_in places s < place_in places t
place_in-rises places s t up on on' rises =
    let first : section_at places (place_in places s) ≡ s = section_at-place_in places s on in
    let second : section_at places (place_in places t) ≡ t = section_at-place_in places t on' in
    elim (cases_order (place_in places s) (place_in places t)) [
      | inl same ↦ let e : section_at places (place_in places s) ≡ section_at places (place_in places t) = ap (section_at places) same in absurd (omega arith)
      | inr (inl below) ↦ below
      | inr (inr above) ↦
          let e : section_at places (place_in places t) < section_at places (place_in places s) =
          section_at-rises places (place_in places t) (place_in places s) up above on in
          absurd (omega arith)
    ]

module _ (places : List Rated) (up : IsAscending (map (λ rated. rated.section.0) places)) where
  same_section : (s t : ℕ) → place_in places s < length places → place_in places t < length places → place_in places s ≡ place_in places t → s ≡ t
  same_section s t on on' same = sym (section_at-place_in places s on) ∙ ap (section_at places) same ∙ section_at-place_in places t on'

  -- the test over places tells the first difference of the sections
  pub ahead_by_places : (a b : List ℕ) → IsAscending a → IsAscending b → AllOnMenu places a → AllOnMenu places b
      → (is_ahead (length places) (map (place_in places) a) (map (place_in places) b) ≡ true) ↔ DiffersFirstIn a b
  ahead_by_places [] b up_a up_b on_a on_b = ((λ is. absurd (false≢true is)), (λ d. absurd (false≢true d.1)))
  ahead_by_places (x ∷ xs) [] up_a up_b on_a on_b =
      let low : place_in places x < length places = on_a x (has-here x xs) in
      ((λ is. longer_first x xs up_a.0), (λ d. let is : nat_lt (place_in places x) (length places) ≡ true = grind (arith, nat_tests) in is))
  ahead_by_places (x ∷ xs) (y ∷ ys) up_a up_b on_a on_b =
      let on_x : place_in places x < length places = on_a x (has-here x xs) in
      let on_y : place_in places y < length places = on_b y (has-here y ys) in
      elim (cases_Bool (place_in places x == place_in places y)) [
        | inl one ↦
            let same : x ≡ y = same_section x y on_x on_y (grind (arith, nat_tests)) in
            let rest = ahead_by_places xs ys up_a.1 up_b.1 (λ s is. on_a s (has-there x xs s is)) (λ s is. on_b s (has-there y ys s is)) in
            let under = same_head x xs ys up_a.0 (subst (λ s. AllAbove s ys) (sym same) up_b.0) in
            rw one (
              (λ is. subst (λ s. DiffersFirstIn (x ∷ xs) (s ∷ ys)) same (under.0 (rest.0 is))),
              (λ d. rest.1 (under.1 (subst (λ s. DiffersFirstIn (x ∷ xs) (s ∷ ys)) (sym same) d))),
            )
        | inr two ↦
            let apart : x ≢ y =
            λ e. (let same : place_in places x ≡ place_in places y = ap (place_in places) e in true≢false (sym (grind (arith, nat_tests)) ∙ two)) in
            let lower = other_head x xs y ys up_a.0 up_b.0 apart in
            rw two (
              (λ is. lower.0 (elim (cases_order x y) [
                | inl same ↦ absurd (apart same)
                | inr (inl below) ↦ below
                | inr (inr above) ↦
                    let rises : place_in places y < place_in places x = place_in-rises places y x up on_y on_x above in
                    let low : place_in places x < place_in places y = grind (arith, nat_tests) in absurd (omega arith)
              ])),
              (λ d. let rises : place_in places x
                  < place_in places y = place_in-rises places x y up on_x on_y (lower.1 d) in let is : nat_lt (place_in places x) (place_in places y)
                  ≡ true = grind (arith, nat_tests) in is),
            )
      ]
