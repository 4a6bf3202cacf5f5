-- The row of a student over one more of the others.
use Rattle.std.proofs.Common.{◌≡◌, ◌≤◌, ◌+◌, ◌++◌, ◌==◌, ◌&&◌, ◌∙◌, ℕ, zero, suc, Bool, true, false, not, List, [], ◌∷◌, Option, Some, None, cond, length, refl, ap, sym, subst, arith, inl, inr}
use Rattle.std.specs.Prelude.{nat_le, nat_lt, option_map, is_none}
use Rattle.std.specs.List.{count_by, find, range_with_len}
use Rattle.std.specs.Option.{option_or}
use Rattle.std.proofs.lemmas.Bool.{cases_Bool}
use Rattle.std.proofs.lemmas.Bool.Decides.{nat_tests}
use Rattle.std.proofs.lemmas.List.Folds.{find-append}
use Rattle.std.proofs.lemmas.List.Sums.{count_by-le-length, sum_by-append}
use Rattle.fairness_audit.specs.Allocations.{Allocation, budget_at, bundle_at, menu_at}
use Rattle.fairness_audit.specs.Envy.{is_more}
use Rattle.fairness_audit.specs.Rows.{RowData, SeenData, ends_but_for, envied, envies, has_envy_beyond_one, has_higher_envy, has_lower_envy, own_worth, row_over, sight}
use Rattle.fairness_audit.specs.Tallies.{with_sight}

-- a range of one number more
pub range_more : (a n : ℕ) → range_with_len a (suc n) ≡ range_with_len a n ++ (a + n) ∷ []
range_more a zero = ap (λ m. m ∷ []) (let goal : a ≡ a + 0 = omega arith in goal)
range_more a (suc n) =
    ap (λ l. a ∷ l) (range_more (a + 1) n ∙ ap (λ m. range_with_len (a + 1) n ++ m ∷ []) (let goal : a + 1 + n ≡ a + suc n = omega arith in goal))

module _ {X : Type 0} (p : X → Bool) where
  pub count_more : (xs : List X) (x : X) → count_by p (xs ++ x ∷ []) ≡ count_by p xs + cond (p x) 1 0
  count_more xs x =
      let m : ℕ = count_by p xs in
      let n : ℕ = cond (p x) 1 0 in
      sum_by-append (λ y. cond (p y) 1 0) xs (x ∷ []) ∙ (let goal : m + (0 + n) ≡ m + n = omega arith in goal)

  find_more : {Y : Type 0} (f : X → Y) (xs : List X) (x : X)
      → option_map f (find p (xs ++ x ∷ [])) ≡ option_or (option_map f (find p xs)) (cond (p x) (Some (f x)) None)
  find_more f xs x = ap (option_map f) (find-append p xs (x ∷ [])) ∙ both (find p xs)
    where
      one : option_map f (find p (x ∷ [])) ≡ cond (p x) (Some (f x)) None
      one = elim (cases_Bool (p x)) [ inl passes ↦ rw passes refl | inr fails ↦ rw fails refl ]

      both : (o : Option X) → option_map f (option_or o (find p (x ∷ []))) ≡ option_or (option_map f o) (cond (p x) (Some (f x)) None)
      both None = one
      both (Some y) = refl

or_none : {X : Type 0} (o : Option X) → option_or o None ≡ o
or_none None = refl
or_none (Some x) = refl

module _ (a : Allocation) (i : ℕ) (others : List ℕ) (k : ℕ) where
  -- one more who is not envied
  pub not_envied : envies a i k ≡ false → row_over a i (others ++ k ∷ []) ≡ row_over a i others
  not_envied not_so = λ j. record {
    lower = none_more (has_lower_envy a i) (rw not_so refl) j;
    higher = none_more (has_higher_envy a i) (rw not_so refl) j;
    beyond = none_more (has_envy_beyond_one a i) (rw not_so refl) j;
    first =
        (find_more (envies a i) (sight a i) others k
        ∙ ap (λ b. option_or (option_map (sight a i) (find (envies a i) others)) (cond b (Some (sight a i k)) None)) not_so
        ∙ or_none (option_map (sight a i) (find (envies a i) others)))
        j;
  }
    where
      none_more : (p : ℕ → Bool) → p k ≡ false → count_by p (others ++ k ∷ []) ≡ count_by p others
      none_more p other =
          let m : ℕ = count_by p others in
          count_more p others k ∙ ap (λ b. count_by p others + cond b 1 0) other ∙ (let goal : m + 0 ≡ m = omega arith in goal)

  -- the student itself
  pub not_itself : k ≡ i → row_over a i (others ++ k ∷ []) ≡ row_over a i others
  not_itself same = not_envied (let here : (k == i) ≡ true = grind (arith, nat_tests) in rw here refl)

  apart_test : ¬ (k ≡ i) → (k == i) ≡ false
  apart_test apart = grind (arith, nat_tests)

  -- one in whose bundle nothing better is seen
  pub not_better : envied (menu_at a i) (own_worth a i) k (bundle_at a k) ≡ None → row_over a i (others ++ k ∷ []) ≡ row_over a i others
  not_better none = not_envied (elim (cases_Bool (is_more (menu_at a i) (own_worth a i) (bundle_at a k))) [
    | inl more ↦ (let h : Some (sight a i k) ≡ None = rw more at none in cc)
    | inr less ↦ rw less (and_false (not (k == i)))
  ])
    where
      and_false : (b : Bool) → (b && false) ≡ false
      and_false true = refl
      and_false false = refl

  -- and one who is envied
  pub is_envied : (seen : SeenData) (is_lower : Bool) → ¬ (k ≡ i) → envied (menu_at a i) (own_worth a i) k (bundle_at a k) ≡ Some seen
      → is_lower ≡ nat_le (budget_at a k) (budget_at a i)
      → row_over a i (others ++ k ∷ []) ≡ with_sight (row_over a i others) seen is_lower
  is_envied seen is_lower apart some lower =
      let found = is_sight in
      λ j. record {
        lower = (count_more (has_lower_envy a i) others k ∙ ap (λ b. count_by (has_lower_envy a i) others + cond b 1 0) (test_lower ∙ sym lower)) j;
        higher = (count_more (has_higher_envy a i) others k ∙ ap (λ n. count_by (has_higher_envy a i) others + n) test_higher) j;
        beyond = (count_more (has_envy_beyond_one a i) others k ∙ ap (λ b. count_by (has_envy_beyond_one a i) others + cond b 1 0) test_beyond) j;
        first = (find_more (envies a i) (sight a i) others k ∙ ap (λ b. option_or (option_map (sight a i) (find (envies a i) others)) (cond b (Some (sight a i k)) None)) found.0
            ∙ ap (λ s. option_or (option_map (sight a i) (find (envies a i) others)) (Some s)) found.1) j;
      }
    where
      is_sight : (envies a i k ≡ true) × (sight a i k ≡ seen)
      is_sight = elim (cases_Bool (is_more (menu_at a i) (own_worth a i) (bundle_at a k))) [
        | inl more ↦ (let h : Some (sight a i k) ≡ Some seen = rw more at some in (rw (apart_test apart, more) refl, cc))
        | inr less ↦ (let h : None ≡ Some seen = rw less at some in cc)
      ]

      test_lower : has_lower_envy a i k ≡ nat_le (budget_at a k) (budget_at a i)
      test_lower = let yes_so : envies a i k ≡ true = is_sight.0 in ap (λ b. b && nat_le (budget_at a k) (budget_at a i)) yes_so

      one_if : Bool → ℕ
      one_if b = cond b 1 0

      one_unless : Bool → ℕ
      one_unless b = cond b 0 1

      test_higher : one_if (has_higher_envy a i k) ≡ one_unless is_lower
      test_higher =
          ap (λ b. one_if (b && nat_lt (budget_at a i) (budget_at a k))) is_sight.0 ∙ either (budget_at a k) (budget_at a i) ∙ ap one_unless (sym lower)
        where
          either : (m n : ℕ) → one_if (nat_lt n m) ≡ one_unless (nat_le m n)
          either m n = elim (cases_Bool (nat_le m n)) [
            | inl low ↦ (let above : nat_lt n m ≡ false = grind (arith, nat_tests) in rw (low, above) refl)
            | inr high ↦ (let above : nat_lt n m ≡ true = grind (arith, nat_tests) in rw (high, above) refl)
          ]

      test_beyond : has_envy_beyond_one a i k ≡ is_none seen.without
      test_beyond = ap (λ b. b && is_none (ends_but_for a i k)) is_sight.0 ∙ ap (λ (s : SeenData). is_none s.without) is_sight.1

-- no count is above the number of those who were looked at
pub counts_few : (a : Allocation) (i : ℕ) (others : List ℕ) (row : RowData) → row ≡ row_over a i others → length others ≤ 2000
    → (row.lower ≤ 2000) × (row.higher ≤ 2000) × (row.beyond ≤ 2000)
counts_few a i others row is few =
    let n : ℕ = length others in
    let low : count_by (has_lower_envy a i) others ≤ n = count_by-le-length (has_lower_envy a i) others in
    let high : count_by (has_higher_envy a i) others ≤ n = count_by-le-length (has_higher_envy a i) others in
    let far : count_by (has_envy_beyond_one a i) others ≤ n = count_by-le-length (has_envy_beyond_one a i) others in
    subst (λ (r : RowData). (r.lower ≤ 2000) × (r.higher ≤ 2000) × (r.beyond ≤ 2000)) (sym is) (omega arith, omega arith, omega arith)
