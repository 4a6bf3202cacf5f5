-- Sections named one position after another.
use Rattle.std.proofs.Common.{◌≡◌, ◌<◌, ◌≤◌, ℕ, suc, true, false, List, ◌∷◌, All, length, arith, ap, sym, subst, ◌∙◌}
use Rattle.std.specs.Prelude.{Some}
use Rattle.std.specs.List.{slice_get}
use Rattle.std.proofs.lemmas.List.{length-map}
use Rattle.market_units.specs.Members.{has}
use Rattle.market_units.specs.declared.units.SectionNo.{SectionNo}
use Rattle.bundle_rules.specs.declared.menu.Rated.{Rated}
use Rattle.bundle_rules.specs.Ordinals.{ordinals}
use Rattle.bundle_rules.specs.Sets.{IsAscending}
use Rattle.bundle_rules.specs.Wishes.{AllRated}
use Rattle.bundle_rules.specs.Menus.{MenuData, wishes_of, IsMenu}
use Rattle.bundle_rules.specs.Ranks.{place_at, IsRenamed, section_of, put, named}
use Rattle.bundle_rules.specs.Existence.Members.{has-here, has-there}
use Rattle.bundle_rules.specs.Existence.Orders.{none_below}
use Rattle.bundle_rules.specs.Existence.Places.{section_at-is}
use Rattle.bundle_rules.proofs.Ends.{all_of_ordinals, ordinals_of_all}
use Rattle.bundle_rules.proofs.Renamed.{rated_below, named_has_at, named_length}

module _ (order : List ℕ) (m r : MenuData) (menu : IsMenu m) (menu' : IsMenu r) (is : IsRenamed order m r) where
  -- rated positions are positions of the order, as the code lists them
  pub all_on_order : (ps : List ℕ) (positions : List SectionNo) → AllRated (wishes_of r) ps → ordinals positions ≡ ps
      → All (λ position. position.0 < length m.places) positions
  all_on_order ps positions rated same =
      all_of_ordinals (λ p. p < length m.places) positions
      (λ p in'. rated_below order m r menu menu' is ps rated p (subst (λ l. has l p ≡ true) same in'))

  module _ (positions rest : List SectionNo) (first : SectionNo) (split : positions ≡ first ∷ rest)
      (up : IsAscending (ordinals positions)) (on : All (λ position. position.0 < length m.places) positions) where
    all : (p : ℕ) → has (ordinals (first ∷ rest)) p ≡ true → p < length m.places
    all = subst (λ l. (p : ℕ) → has (ordinals l) p ≡ true → p < length m.places) split (ordinals_of_all (λ p. p < length m.places) positions on)

    rises : IsAscending (ordinals (first ∷ rest))
    rises = subst (λ l. IsAscending (ordinals l)) split up

    -- the section of the first position is none of the others
    pub next_is_new : (rated : Rated) (k : ℕ) → k ≡ place_at order first.0 → slice_get m.places k ≡ Some rated → (bundle : List ℕ)
        → bundle ≡ named m order (ordinals rest) → has bundle rated.section.0 ≡ false
    next_is_new rated k at read bundle is_named =
        let section : section_of m order first.0 ≡ rated.section.0 =
        section_at-is m.places (place_at order first.0) rated (subst (λ j. slice_get m.places j ≡ Some rated) at read) in
        ap (λ b. has b rated.section.0) is_named ∙ ap (has (named m order (ordinals rest))) (sym section)
        ∙ named_has_at order m r menu menu' is (ordinals rest) first.0 (λ p in'. all p (has-there first.0 (ordinals rest) p in')) (all first.0 (has-here first.0 (ordinals rest)))
        ∙ none_below first.0 (ordinals rest) rises.0 first.0 (omega arith)

    pub next_named : (rated : Rated) (k : ℕ) → k ≡ place_at order first.0 → slice_get m.places k ≡ Some rated → (bundle more : List ℕ)
        → bundle ≡ named m order (ordinals rest) → more ≡ put rated.section.0 bundle → more ≡ named m order (ordinals positions)
    next_named rated k at read bundle more is_named is_put =
        let section : section_of m order first.0 ≡ rated.section.0 =
        section_at-is m.places (place_at order first.0) rated (subst (λ j. slice_get m.places j ≡ Some rated) at read) in
        is_put ∙ ap (put rated.section.0) is_named ∙ ap (λ s. put s (named m order (ordinals rest))) (sym section)
        ∙ ap (λ l. named m order (ordinals l)) (sym split)

  -- the others leave room
  pub room_left : (positions rest : List SectionNo) (first : SectionNo) (bundle : List ℕ) → positions ≡ first ∷ rest → length positions ≤ 8
      → bundle ≡ named m order (ordinals rest) → length bundle < 8
  room_left positions rest first bundle split few is_named =
      let long : length bundle ≡ length rest = ap length is_named ∙ named_length order m r menu menu' is (ordinals rest) ∙ length-map rest (λ section. section.0) in
      let all : length positions ≡ suc (length rest) = ap length split in
      omega arith
