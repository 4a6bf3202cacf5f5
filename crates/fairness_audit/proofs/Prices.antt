-- Envy where all have what they take at one price vector.
use Rattle.std.proofs.Common.{◌≡◌, ◌≢◌, ◌<◌, ◌≤◌, ◌+◌, ◌++◌, ◌==◌, ◌&&◌, ◌∙◌, ℕ, zero, suc, Bool, true, false, not, List, [], ◌∷◌, refl, ap, sym, subst, arith, inl, inr}
use Rattle.std.specs.Prelude.{ℤ, ◌<ℤ◌, nat_le, nat_lt}
use Rattle.std.specs.List.{count_by, range_with_len}
use Rattle.std.proofs.lemmas.Bool.{cases_Bool, false≢true}
use Rattle.std.proofs.lemmas.Bool.Decides.{nat_tests}
use Rattle.std.proofs.lemmas.Int.{ints}
use Rattle.std.proofs.lemmas.List.{get_or-map}
use Rattle.plain_facts.proofs.Numbers.{true_lt_signed}
use Rattle.market_units.specs.Totals.{total}
use Rattle.bundle_rules.specs.Best.{best}
use Rattle.bundle_rules.specs.Demand.{IsBest, IsChoice}
use Rattle.bundle_rules.specs.Menus.{wishes_of, worth}
use Rattle.bundle_rules.specs.Preferences.{IsPreferred}
use Rattle.market_units.specs.Members.{has}
use Rattle.bundle_rules.specs.Wishes.{Wishes, utility}
use Rattle.bundle_rules.proofs.BestValue.{best-is}
use Rattle.bundle_rules.proofs.Parts.{total_part}
use Rattle.demand_api.specs.Crowds.{demand, demands}
use Rattle.fairness_audit.specs.Allocations.{Allocation, budget_at, bundle_at, menu_at, student_count}
use Rattle.fairness_audit.specs.Envy.{is_more, seen}
use Rattle.fairness_audit.specs.Laws.{AreTakenAt}
use Rattle.fairness_audit.specs.Rows.{envies, has_lower_envy, own_worth}
use Rattle.fairness_audit.proofs.OneMore.{count_more, range_more}

-- no other choice is worth more than a best bundle
pub best_worth : (w : Wishes) (price : ℕ → ℕ) (budget : ℕ) (allowed : ℕ → Bool) (own other : List ℕ) → IsBest w price budget allowed own
    → IsChoice w price budget allowed other → utility w own <ℤ utility w other → ⊥
best_worth w price budget allowed own other best choice more =
    let apart : other ≢ own = λ same. none_below (utility w own) (subst (λ l. utility w own <ℤ utility w l) same more) in
    decide (best.preferred other choice apart)
  where
    none_below : (z : ℤ) → z <ℤ z → ⊥
    none_below z low = omega (arith, ints)

    decide : IsPreferred w own other → ⊥
    decide (inl above) = omega (arith, ints)
    decide (inr level) = none_below (utility w own) (subst (λ z. utility w own <ℤ z) (sym level.0) more)

module _ (a : Allocation) (price : ℕ → ℕ) (taken : AreTakenAt a price) where
  all : ℕ → Bool
  all s = nat_lt s a.crowd.sections

  has_best : (i : ℕ) → i < student_count a → IsBest (wishes_of (menu_at a i)) price (budget_at a i) all (bundle_at a i)
  unfolding all demands
  has_best i low =
      let is : bundle_at a i ≡ best (menu_at a i) price (budget_at a i) all =
      taken i low ∙ get_or-map (demand a.crowd.sections price) a.crowd.students i _ [] low in
      subst (IsBest (wishes_of (menu_at a i)) price (budget_at a i) all) (sym is) (best-is (menu_at a i) price (budget_at a i) all)

  -- what is seen in the bundle of one with no greater budget could have been bought
  could_buy : (i j : ℕ) → j < student_count a → budget_at a j ≤ budget_at a i
      → IsChoice (wishes_of (menu_at a i)) price (budget_at a i) all (seen (menu_at a i) (bundle_at a j))
  could_buy i j low cheap =
      let theirs = has_best j low in
      let best_seen = best-is (menu_at a i) (λ s. 0) 0 (has (bundle_at a j)) in
      let b : ℕ = budget_at a j in
      let c : ℕ = budget_at a i in
      let cost : ℕ = total price (bundle_at a j) in
      let part : ℕ = total price (seen (menu_at a i) (bundle_at a j)) in
      let paid : cost ≤ b = theirs.choice.affordable in
      let less : part ≤ cost =
      total_part price (seen (menu_at a i) (bundle_at a j)) (bundle_at a j) best_seen.choice.feasible.set theirs.choice.feasible.set
      best_seen.choice.within in
      let no_more : b ≤ c = cheap in
      record {
        feasible = best_seen.choice.feasible;
        affordable = (let goal : part ≤ c = omega arith in goal);
        within = λ s in_it. theirs.choice.within s (best_seen.choice.within s in_it);
      }

  pub none_lower : (i j : ℕ) → i < student_count a → j < student_count a → has_lower_envy a i j ≡ false
  none_lower i j low low' = elim (cases_Bool (envies a i j)) [
    | inr content ↦ rw content refl
    | inl envious ↦ elim (cases_Bool (nat_le (budget_at a j) (budget_at a i))) [
      | inr dearer ↦ rw (envious, dearer) refl
      | inl cheap ↦
          let b : ℕ = budget_at a j in
          let c : ℕ = budget_at a i in
          let test : nat_le b c ≡ true = cheap in
          let no_more : b ≤ c = grind (arith, nat_tests) in
          absurd (best_worth (wishes_of (menu_at a i)) price (budget_at a i) all (bundle_at a i) (seen (menu_at a i) (bundle_at a j)) (has_best i low) (could_buy i j low' no_more)
          (true_lt_signed (own_worth a i) (worth (menu_at a i) (seen (menu_at a i) (bundle_at a j))) (right (not (j == i)) (is_more (menu_at a i) (own_worth a i) (bundle_at a j)) envious)))
    ]
  ]
    where
      right : (b c : Bool) → (b && c) ≡ true → c ≡ true
      right true c both = both
      right false c both = absurd (false≢true both)

-- a count of what never holds
none_counted : (p : ℕ → Bool) (n : ℕ) → ((j : ℕ) → j < n → p j ≡ false) → count_by p (range_with_len 0 n) ≡ 0
none_counted p zero none = refl
none_counted p (suc n) none =
    let rest : count_by p (range_with_len 0 n) ≡ 0 = none_counted p n (λ j low. none j (omega arith)) in
    let last : p n ≡ false = none n (omega arith) in
    ap (count_by p) (range_more 0 n ∙ ap (λ m. range_with_len 0 n ++ m ∷ []) (let goal : 0 + n ≡ n = omega arith in goal)) ∙ count_more p (range_with_len 0 n) n
    ∙ (let m : ℕ = count_by p (range_with_len 0 n) in let h : m ≡ 0 = rest in rw last (let goal : m + 0 ≡ 0 = omega arith in goal))

pub none_counted_lower : (a : Allocation) (price : ℕ → ℕ) → AreTakenAt a price → (i : ℕ) → i < student_count a
    → count_by (has_lower_envy a i) (range_with_len 0 (student_count a)) ≡ 0
none_counted_lower a price taken i low = none_counted (has_lower_envy a i) (student_count a) (λ j low'. none_lower a price taken i j low low')
