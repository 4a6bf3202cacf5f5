-- Whom and what the rows of an allocation name.
use Rattle.std.proofs.Common.{◌≡◌, ◌<◌, ◌≤◌, ◌+◌, ◌∙◌, ℕ, zero, suc, Bool, Option, Some, None, List, [], ◌∷◌, All, length, refl, sym, subst, arith, inl, inr}
use Rattle.std.specs.Prelude.{IfSome, option_map}
use Rattle.std.specs.List.{find, range_with_len}
use Rattle.std.proofs.lemmas.Bool.{cases_Bool}
use Rattle.std.proofs.lemmas.List.{length-map}
use Rattle.std.proofs.lemmas.List.Elements.{All-map}
use Rattle.std.proofs.lemmas.List.FromFn.{get_or-range_with_len, length-range_with_len}
use Rattle.std.proofs.lemmas.List.Sums.{count_by-le-length}
use Rattle.bundle_rules.specs.declared.menu.Rated.{Rated}
use Rattle.bundle_rules.specs.Menus.{MenuData, place_in, section_at, wishes_of}
use Rattle.market_units.specs.Members.{has}
use Rattle.bundle_rules.specs.Existence.Places.{rated_on_menu, section_at-place_in}
use Rattle.bundle_rules.proofs.BestValue.{best-is}
use Rattle.demand_api.specs.Crowds.{IsCrowd, IsWithin}
use Rattle.fairness_audit.specs.Allocations.{Allocation, IsAllocation, bundle_at, menu_at, student_count, students}
use Rattle.fairness_audit.specs.Envy.{seen}
use Rattle.fairness_audit.specs.Rows.{ends_but_for, envies, has_envy_beyond_one, has_higher_envy, has_lower_envy, row, rows, sight}
use Rattle.fairness_audit.specs.Texts.{AreRowsAmong, IsRowAmong, IsSightAmong}
use Rattle.market_units.proofs.Memberships.{all_within, found_in}

-- what is found is one of those that were looked at
found_below : (p : ℕ → Bool) (n first j : ℕ) → find p (range_with_len first n) ≡ Some j → j < first + n
found_below p zero first j is = (let h : None ≡ Some j = is in absurd (none_some j h))
  where
    none_some : (k : ℕ) → None ≡ Some k → ⊥
    none_some k h = cc
found_below p (suc n) first j is = elim (cases_Bool (p first)) [
  | inl passes ↦ (let h : Some first ≡ Some j = rw passes at is in let same : first ≡ j = cc in let goal : j < first + suc n = omega arith in goal)
  | inr fails ↦ (let later : j < first + 1 + n = found_below p n (first + 1) j (rw fails at is) in let goal : j < first + suc n = omega arith in goal)
]

-- what a menu rates is of the market
section_low : (n : ℕ) (places : List Rated) (k : ℕ) → All (λ (rated : Rated). rated.section.0 < n) places → k < length places → section_at places k < n
section_low n [] k all low = absurd (omega arith)
section_low n (r ∷ rs) zero all low = all 0 r (omega arith)
section_low n (r ∷ rs) (suc k) all low =
    section_low n rs k (λ i d h. all (suc i) d (let m : ℕ = length rs in let b : i < m = h in let goal : suc i < suc m = omega arith in goal)) (omega arith)

rated_low : (n : ℕ) (menu : MenuData) (s : ℕ) → IsWithin n menu → 0 < (wishes_of menu).rating s → s < n
unfolding wishes_of
rated_low n menu s within rated =
    let low = rated_on_menu menu.places (place_in menu.places s) rated in
    subst (λ t. t < n) (section_at-place_in menu.places s low) (section_low n menu.places (place_in menu.places s) within low)

module _ (a : Allocation) (crowd : IsCrowd a.crowd) (are : IsAllocation a) where
  within : (i : ℕ) → i < student_count a → IsWithin a.crowd.sections (menu_at a i)
  within i low = crowd.menus i _ low

  sight_among : (i j : ℕ) → i < student_count a → j < student_count a → IsSightAmong (student_count a) a.crowd.sections (sight a i j)
  sight_among i j low low' = record {
    student = low';
    bundle =
        all_within a.crowd.sections (seen (menu_at a i) (bundle_at a j))
        (λ s is. rated_low a.crowd.sections (menu_at a i) s (within i low)
        ((best-is (menu_at a i) (λ t. 0) 0 (has (bundle_at a j))).choice.feasible.rated s is));
    without = named (ends_but_for a i j) refl;
  }
    where
      named : (o : Option ℕ) → ends_but_for a i j ≡ o → IfSome o (λ s. s < a.crowd.sections)
      named None is = tt
      named (Some s) is = rated_low a.crowd.sections (menu_at a j) s (within j low') ((are.feasible j low').rated s (found_in _ (bundle_at a j) s is))

  row_among : (i : ℕ) → i < student_count a → IsRowAmong (student_count a) a.crowd.sections (row a i)
  row_among i low =
      let n : ℕ = student_count a in
      let l : ℕ = length (students a) in
      let whole : l ≡ n = length-range_with_len 0 n in
      record {
        lower = subst (λ m. (row a i).lower ≤ m) whole (count_by-le-length (has_lower_envy a i) (students a));
        higher = subst (λ m. (row a i).higher ≤ m) whole (count_by-le-length (has_higher_envy a i) (students a));
        beyond = subst (λ m. (row a i).beyond ≤ m) whole (count_by-le-length (has_envy_beyond_one a i) (students a));
        first = named (find (envies a i) (students a)) refl;
      }
    where
      named : (o : Option ℕ) → find (envies a i) (students a) ≡ o → IfSome (option_map (sight a i) o) (IsSightAmong (student_count a) a.crowd.sections)
      named None is = tt
      named (Some j) is =
          sight_among i j low (let n : ℕ = student_count a in let h : j < 0 + n = found_below (envies a i) n 0 j is in let goal : j < n = omega arith in goal)

  -- a row for each student, which names students and sections of the crowd
  pub rows_among : AreRowsAmong (student_count a) a.crowd.sections (rows a)
  rows_among = record {
    each = length-map (students a) (row a) ∙ length-range_with_len 0 (student_count a);
    among = All-map (IsRowAmong (student_count a) a.crowd.sections) (row a) (students a) (λ k d below.
        let n : ℕ = student_count a in
        let low : k < n = subst (λ m. k < m) (length-range_with_len 0 n) below in
        subst (λ i. IsRowAmong n a.crowd.sections (row a i)) (sym (get_or-range_with_len 0 n k d low ∙ (let goal : 0 + k ≡ k = omega arith in goal))) (row_among k low));
  }
