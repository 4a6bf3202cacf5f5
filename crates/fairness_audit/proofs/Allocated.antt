-- What is read of an allocation.
use Rattle.std.proofs.Common.{◌≡◌, ◌<◌, ◌≤◌, ◌+◌, ◌++◌, ◌∙◌, ℕ, List, [], ◌∷◌, length, ap, sym, subst, arith}
use Rattle.std.specs.Prelude.{ℤ, None, Some, nat_le, slice_index_or}
use Rattle.std.specs.List.{range_with_len}
use Rattle.std.proofs.lemmas.List.{get_or-map, length-map}
use Rattle.std.proofs.lemmas.List.FromFn.{length-range_with_len}
use Rattle.plain_facts.proofs.Lists.{range_next}
use Rattle.market_units.specs.declared.units.Tokens.{Tokens}
use Rattle.bundle_rules.specs.Bundles.{sections_of}
use Rattle.bundle_rules.specs.Menus.{MenuData, wishes_of}
use Rattle.bundle_rules.specs.Wishes.{IsFeasible, utility}
use Rattle.bundle_rules.specs.declared.bundle.Bundle.{Bundle}
use Rattle.demand_api.specs.declared.crowd.Crowd.{Crowd}
use Rattle.demand_api.specs.Crowds.{Student}
use Rattle.demand_api.proofs.Parts.{menus_few, student_of, students_length}
use Rattle.fairness_audit.specs.Allocations.{Allocation, IsAllocation, allocation_of, budget_at, bundle_at, menu_at, student_count}
use Rattle.fairness_audit.specs.Rows.{RowData, SeenData, envied, own_worth, row_over}
use Rattle.fairness_audit.specs.Tallies.{with_sight}
use Rattle.fairness_audit.proofs.OneMore.{counts_few, is_envied, not_better, not_itself}

module _ (crowd : Crowd) (bundles : List Bundle) where
  abbrev a : Allocation
  a = allocation_of crowd bundles

  pub count_is : student_count a ≡ length crowd.menus.items
  count_is = students_length crowd

  pub menu_is : (i : ℕ) (menu : MenuData) → i < length crowd.menus.items → menu ≡ slice_index_or crowd.menus.items i menu → menu_at a i ≡ menu
  menu_is i menu low is = ap (λ (s : Student). s.menu) (student_of crowd i _ menu (record { 0 = 0 }) low) ∙ sym is

  pub budget_is : (i : ℕ) (budget : Tokens) → i < length crowd.menus.items → budget ≡ slice_index_or crowd.budgets.items i budget → budget_at a i ≡ budget.0
  budget_is i budget low is =
      ap (λ (s : Student). s.budget)
      (student_of crowd i _ (record { places = []; pairs = []; clashes = []; credits = 0; courses = 0 }) budget low)
      ∙ ap (λ (b : Tokens). b.0) (sym is)

  pub bundle_is : (i : ℕ) (bundle : Bundle) → i < length bundles → bundle ≡ slice_index_or bundles i bundle → bundle_at a i ≡ sections_of bundle
  bundle_is i bundle low is = get_or-map sections_of bundles i bundle [] low ∙ ap sections_of (sym is)

  module _ (are : IsAllocation a) where
    -- one bundle for each menu
    pub as_many : length bundles ≡ length crowd.menus.items
    as_many = sym (length-map bundles sections_of) ∙ are.each ∙ count_is

    module _ (i : ℕ) (menu : MenuData) (mine : Bundle) (low : i < length crowd.menus.items) (is : menu ≡ slice_index_or crowd.menus.items i menu)
        (has_it : mine ≡ slice_index_or bundles i mine) where
      within : i < length bundles
      within = subst (λ n. i < n) (sym as_many) low

      pub own_feasible : IsFeasible (wishes_of menu) (sections_of mine)
      own_feasible =
          subst (λ m. IsFeasible (wishes_of m) (sections_of mine)) (menu_is i menu low is)
          (subst (IsFeasible (wishes_of (menu_at a i))) (bundle_is i mine within has_it) (are.feasible i (subst (λ n. i < n) (sym count_is) low)))

      module _ (own : ℤ) (own_is : own ≡ utility (wishes_of menu) (sections_of mine)) where
        worth_is : own_worth a i ≡ own
        worth_is =
            ap (λ m. utility (wishes_of m) (bundle_at a i)) (menu_is i menu low is) ∙ ap (utility (wishes_of menu)) (bundle_is i mine within has_it)
            ∙ sym own_is

        module _ (k : ℕ) (row : RowData) (so_far : row ≡ row_over a i (range_with_len 0 k)) (low_k : k < length bundles) where
          grown : (next : RowData) → row_over a i (range_with_len 0 k ++ k ∷ []) ≡ next → next ≡ row_over a i (range_with_len 0 (k + 1))
          grown next is_next = sym is_next ∙ ap (row_over a i) (sym (range_next k))

          -- past the student itself
          pub past_itself : k ≡ i → row ≡ row_over a i (range_with_len 0 (k + 1))
          past_itself here = grown row (not_itself a i (range_with_len 0 k) k here ∙ sym so_far)

          module _ (theirs : Bundle) (have_it : theirs ≡ slice_index_or bundles k theirs) where
            envied_by : envied (menu_at a i) (own_worth a i) k (bundle_at a k) ≡ envied menu own k (sections_of theirs)
            envied_by =
                ap (λ m. envied m (own_worth a i) k (bundle_at a k)) (menu_is i menu low is) ∙ ap (λ z. envied menu z k (bundle_at a k)) worth_is
                ∙ ap (envied menu own k) (bundle_is k theirs low_k have_it)

            -- past one who is not envied
            pub past_content : envied menu own k (sections_of theirs) ≡ None → row ≡ row_over a i (range_with_len 0 (k + 1))
            past_content none = grown row (not_better a i (range_with_len 0 k) k (envied_by ∙ none) ∙ sym so_far)

            -- past one who is
            pub past_envied : (seen : SeenData) (budget other : Tokens) → ¬ (k ≡ i) → envied menu own k (sections_of theirs) ≡ Some seen
                → budget ≡ slice_index_or crowd.budgets.items i budget → other ≡ slice_index_or crowd.budgets.items k other
                → with_sight row seen (nat_le other.0 budget.0) ≡ row_over a i (range_with_len 0 (k + 1))
            past_envied seen budget other apart some mine_is their_is =
                let low_menu : k < length crowd.menus.items = subst (λ n. k < n) as_many low_k in
                grown (with_sight row seen (nat_le other.0 budget.0))
                (is_envied a i (range_with_len 0 k) k seen (nat_le other.0 budget.0) apart (envied_by ∙ some)
                (ap (λ n. nat_le n budget.0) (sym (budget_is k other low_menu their_is)) ∙ ap (nat_le (budget_at a k)) (sym (budget_is i budget low mine_is)))
                ∙ ap (λ (r : RowData). with_sight r seen (nat_le other.0 budget.0)) (sym so_far))

          pub few_so_far : (row.lower ≤ 2000) × (row.higher ≤ 2000) × (row.beyond ≤ 2000)
          few_so_far =
              let few : length crowd.menus.items ≤ 2000 = menus_few crowd in
              let n : ℕ = length crowd.menus.items in
              let m : ℕ = length bundles in
              let same_many : m ≡ n = as_many in
              let l : ℕ = length (range_with_len 0 k) in
              let long : l ≡ k = length-range_with_len 0 k in
              counts_few a i (range_with_len 0 k) row so_far (let goal : l ≤ 2000 = omega arith in goal)

        -- the row over all
        pub row_whole : (k : ℕ) (row : RowData) → row ≡ row_over a i (range_with_len 0 k) → k ≡ length bundles
            → row ≡ row_over a i (range_with_len 0 (student_count a))
        row_whole k row so_far ends = so_far ∙ ap (λ n. row_over a i (range_with_len 0 n)) (ends ∙ as_many ∙ sym count_is)
