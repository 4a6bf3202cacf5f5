-- Bundles without one section.
use Rattle.std.proofs.Common.{◌≡◌, ◌<◌, ◌≤◌, ◌+◌, ◌++◌, ◌==◌, ◌∙◌, ℕ, suc, Bool, true, false, not, List, [], ◌∷◌, length, get_or, take, refl, ap, sym, subst, arith, inl, inr}
use Rattle.std.specs.List.{filter}
use Rattle.std.proofs.lemmas.Bool.{cases_Bool}
use Rattle.std.proofs.lemmas.List.{length-map, length-take-le, take_more, map-append}
use Rattle.std.proofs.lemmas.List.Elements.{filter-append}
use Rattle.market_units.specs.declared.units.SectionNo.{SectionNo}
use Rattle.bundle_rules.specs.Ordinals.{ordinals}
use Rattle.bundle_rules.specs.Sets.{AllAbove, IsAscending, without_section}
use Rattle.bundle_rules.proofs.Ends.{ascending-next}

filter_above : (p : ℕ → Bool) (s : ℕ) (xs : List ℕ) → AllAbove s xs → AllAbove s (filter p xs)
filter_above p s [] above = tt
filter_above p s (x ∷ xs) above = elim (cases_Bool (p x)) [
  | inl kept ↦ rw kept (above.0, filter_above p s xs above.1)
  | inr gone ↦ rw gone (filter_above p s xs above.1)
]

-- what is left of a set is a set
pub filter_up : (p : ℕ → Bool) (xs : List ℕ) → IsAscending xs → IsAscending (filter p xs)
filter_up p [] up = tt
filter_up p (x ∷ xs) up = elim (cases_Bool (p x)) [
  | inl kept ↦ rw kept (filter_above p x xs up.0, filter_up p xs up.1)
  | inr gone ↦ rw gone (filter_up p xs up.1)
]

-- and has no more sections
pub filter_few : (p : ℕ → Bool) (xs : List ℕ) → length (filter p xs) ≤ length xs
filter_few p [] = omega arith
filter_few p (x ∷ xs) =
    let rest : length (filter p xs) ≤ length xs = filter_few p xs in
    elim (cases_Bool (p x)) [
      | inl kept ↦ rw kept (let m : ℕ = length (filter p xs) in let n : ℕ = length xs in let h : m ≤ n = rest in let goal : suc m ≤ suc n = omega arith in goal)
      | inr gone ↦ rw gone (let m : ℕ = length (filter p xs) in let n : ℕ = length xs in let h : m ≤ n = rest in let goal : m ≤ suc n = omega arith in goal)
    ]

module _ (s : ℕ) (items : List SectionNo) (k : ℕ) (d : SectionNo) (low : k < length items) where
  one_more : without_section s (ordinals (take (k + 1) items)) ≡ without_section s (ordinals (take k items)) ++ without_section s ((get_or items k d).0 ∷ [])
  one_more =
      ap (λ l. without_section s (ordinals l)) (take_more items k d low)
      ∙ ap (without_section s) (map-append (λ (section : SectionNo). section.0) (take k items) (get_or items k d ∷ []))
      ∙ filter-append (λ t. not (t == s)) (ordinals (take k items)) ((get_or items k d).0 ∷ [])

  -- one more section that stays
  pub one_stays : ((get_or items k d).0 == s) ≡ false
      → without_section s (ordinals (take (k + 1) items)) ≡ without_section s (ordinals (take k items)) ++ (get_or items k d).0 ∷ []
  one_stays other =
      one_more
      ∙ ap (λ l. without_section s (ordinals (take k items)) ++ l)
      (let goal : without_section s ((get_or items k d).0 ∷ []) ≡ (get_or items k d).0 ∷ [] = rw other refl in goal)

  -- the one that stays is above those before it
  pub stays_above : ((get_or items k d).0 == s) ≡ false → IsAscending (ordinals items)
      → IsAscending (without_section s (ordinals (take k items)) ++ (get_or items k d).0 ∷ [])
  stays_above other up =
      subst IsAscending (one_stays other)
      (filter_up (λ t. not (t == s)) (ordinals (take (k + 1) items))
      (subst IsAscending (sym (ap ordinals (take_more items k d low) ∙ map-append (λ (section : SectionNo). section.0) (take k items) (get_or items k d ∷ []))) (ascending-next items k d low up)))

  -- and those before it are fewer than all
  pub room_left : length items ≤ 8 → length (without_section s (ordinals (take k items))) < 8
  room_left few =
      let m : ℕ = length (without_section s (ordinals (take k items))) in
      let n : ℕ = length (ordinals (take k items)) in
      let h1 : m ≤ n = filter_few (λ t. not (t == s)) (ordinals (take k items)) in
      let h2 : n ≡ length (take k items) = length-map (take k items) (λ (section : SectionNo). section.0) in
      let j : ℕ = length items in
      let within : k < j = low in
      let h3 : length (take k items) ≡ k = length-take-le k items (let goal : k ≤ j = omega arith in goal) in
      let goal : m < 8 = omega arith in goal
