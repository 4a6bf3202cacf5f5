-- A version that is settled stays settled, whichever bundle is posted next.
use Rattle.std.proofs.Common.{◌≡◌, ◌≢◌, ◌<◌, ◌≤◌, ◌+◌, ◌-◌, ◌*◌, ◌==◌, ◌∙◌, ℕ, zero, suc, Bool, true, false, List, [], ◌∷◌, length, take, drop, Option, None, Some, refl, sym, ap, subst, arith, slice_index_or, slice_set, cond, nat_lt, nat_le, inl, inr}
use Rattle.std.specs.Prelude.{is_none}
use Rattle.std.proofs.lemmas.Bool.{cases_Bool, cases_eq}
use Rattle.std.proofs.lemmas.Bool.Decides.{nat_tests}
use Rattle.std.proofs.lemmas.List.{take-set-le, drop-set-lt, drop-set-add, get_or-take, get_or-drop}
use Rattle.std.proofs.lemmas.List.Sums.{sum_by-set}
use Rattle.std.proofs.lemmas.Nat.{div-add-mod', mod_below}
use Rattle.std.proofs.Math.Nat.{mul-le-mul_right, suc-mul}
use Rattle.bundle_rules.specs.declared.bundle.Bundle.{Bundle}
use Rattle.task_board.specs.Rules.{IsLasting}
use Rattle.price_board.specs.declared.round.Ask.{Ask}
use Rattle.price_board.specs.declared.round.Ask.TheVariants.{Counts, Exceeds}
use Rattle.price_board.specs.declared.round.Task.{Task}
use Rattle.price_board.specs.declared.terms.Terms.{Terms}
use Rattle.price_board.specs.Asked.{round_rules, rules_in, version_at, student_at}
use Rattle.price_board.specs.Rows.{number_of, row_of}
use Rattle.price_board.specs.Settling.{ask_of, count_for, is_asked, is_settled, unfilled_in}
use Rattle.price_board.specs.Terms.{student_count, count_in, version_count}

module _ {X : Type 0} where
  take-set-lt : (n : ℕ) (xs : List X) (i : ℕ) (x : X) → i < n → take n (slice_set xs i x) ≡ slice_set (take n xs) i x
  take-set-lt zero xs i x below = absurd (omega arith)
  take-set-lt (suc n) [] i x below = refl
  take-set-lt (suc n) (y ∷ xs) zero x below = refl
  take-set-lt (suc n) (y ∷ xs) (suc i) x below =
      let b : suc i < suc n = below in ap (λ l. y ∷ l) (take-set-lt n xs i x (let goal : i < n = omega arith in goal))

  -- what is not the default stands in the list
  pub under : (xs : List X) (i : ℕ) (d : X) → (slice_index_or xs i d ≡ d → ⊥) → i < length xs
  under [] i d other = absurd (other refl)
  under (x ∷ xs) zero d other = let n : ℕ = length xs in let goal : zero < suc n = omega arith in goal
  under (x ∷ xs) (suc i) d other =
      let n : ℕ = length xs in let low : i < n = under xs i d other in let goal : suc i < suc n = omega arith in goal

-- ---- the row of a version after one more bundle

module _ {X : Type 0} (terms : Terms) (list : List X) where
  -- what stands in a row
  pub row-at : (v s : ℕ) (d : X) → s < student_count terms → slice_index_or (row_of terms list v) s d ≡ slice_index_or list (number_of terms v s) d
  row-at v s d within =
      get_or-take (student_count terms) (drop (v * student_count terms) list) s d within ∙ get_or-drop (v * student_count terms) list s d

  pub row-set : (v s : ℕ) (x : X) → s < student_count terms
      → row_of terms (slice_set list (number_of terms v s) x) v ≡ slice_set (row_of terms list v) s x
  row-set v s x within =
      ap (take (student_count terms)) (drop-set-add (v * student_count terms) list s x)
      ∙ take-set-lt (student_count terms) (drop (v * student_count terms) list) s x within

  pub row-other : (v w s : ℕ) (x : X) → s < student_count terms → w ≢ v → row_of terms (slice_set list (number_of terms v s) x) w ≡ row_of terms list w
  row-other v w s x within apart = elim (cases_Bool (nat_lt w v)) [
    | inl earlier ↦
        let n : ℕ = student_count terms in
        let a : ℕ = v * n in
        let b : ℕ = w * n in
        let low : w < v = grind (arith, nat_tests) in
        let far : suc w * n ≤ a = mul-le-mul_right n (let goal : suc w ≤ v = omega arith in goal) in
        let next : suc w * n ≡ b + n = suc-mul w n in
        let k : ℕ = a + s - b in
        let is : a + s ≡ b + k = omega arith in
        let past : n ≤ k = omega arith in
        ap (λ i. take n (drop b (slice_set list i x))) is ∙ ap (take n) (drop-set-add b list k x) ∙ take-set-le n (drop b list) k x past
    | inr later ↦
        let n : ℕ = student_count terms in
        let a : ℕ = v * n in
        let b : ℕ = w * n in
        let low : v < w = grind (arith, nat_tests, apart) in
        let far : suc v * n ≤ b = mul-le-mul_right n (let goal : suc v ≤ w = omega arith in goal) in
        let next : suc v * n ≡ a + n = suc-mul v n in
        ap (take n) (drop-set-lt b list (a + s) x (let goal : a + s < b = omega arith in goal))
  ]

-- ---- one more posted bundle

one_at_most : (b : Bool) → cond b 1 0 ≤ 1
one_at_most true = let goal : 1 ≤ 1 = omega arith in goal
one_at_most false = let goal : 0 ≤ 1 = omega arith in goal

none_asked : (ask : Ask) → is_asked ask None ≡ false
none_asked Counts = refl
none_asked (Exceeds section limit) = refl

module _ (row : List (Option Bundle)) (s : ℕ) (bundle : Bundle) (none : slice_index_or row s (Some bundle) ≡ None) where
  -- who has no bundle yet has a place in the row
  pub within_row : s < length row
  within_row = under row s (Some bundle) (λ same. let e : None ≡ Some bundle = sym none ∙ same in cc)

  -- one less has no bundle
  pub unfilled-posted : unfilled_in (slice_set row s (Some bundle)) + 1 ≡ unfilled_in row
  unfilled-posted =
      let a : ℕ = unfilled_in (slice_set row s (Some bundle)) in
      let b : ℕ = unfilled_in row in
      let x : ℕ = cond (is_none (slice_index_or row s (Some bundle))) 1 0 in
      let both : a + x ≡ b + 0 = sum_by-set (λ (o : Option Bundle). cond (is_none o) 1 0) row s (Some bundle) (Some bundle) within_row in
      let was : x ≡ 1 = ap (λ (o : Option Bundle). cond (is_none o) 1 0) none in
      let goal : a + 1 ≡ b = omega arith in goal

  -- the count rises by one where the bundle is one of those that are counted
  pub count-posted : (ask : Ask) → count_for ask (slice_set row s (Some bundle)) ≡ count_for ask row + cond (is_asked ask (Some bundle)) 1 0
  count-posted ask =
      let a : ℕ = count_for ask (slice_set row s (Some bundle)) in
      let b : ℕ = count_for ask row in
      let x : ℕ = cond (is_asked ask (slice_index_or row s (Some bundle))) 1 0 in
      let y : ℕ = cond (is_asked ask (Some bundle)) 1 0 in
      let both : a + x ≡ b + y = sum_by-set (λ (o : Option Bundle). cond (is_asked ask o) 1 0) row s (Some bundle) (Some bundle) within_row in
      let was : x ≡ 0 = ap (λ (o : Option Bundle). cond (is_asked ask o) 1 0) none ∙ ap (λ b. cond b 1 0) (none_asked ask) in
      let goal : a ≡ b + y = omega arith in goal

  -- a version that is settled stays so
  stays_settled : (ask : Ask) → is_settled ask row ≡ true → is_settled ask (slice_set row s (Some bundle)) ≡ true
  stays_settled Counts settled =
      let u : ℕ = unfilled_in row in
      let is : (u == 0) ≡ true = settled in
      let none_left : u ≡ 0 = grind (arith, nat_tests) in
      let v : ℕ = unfilled_in (slice_set row s (Some bundle)) in
      let fewer : v + 1 ≡ u = unfilled-posted in
      absurd (omega arith)
  stays_settled (Exceeds section limit) settled =
      let c : ℕ = count_for (Exceeds section limit) row in
      let d : ℕ = count_for (Exceeds section limit) (slice_set row s (Some bundle)) in
      let u : ℕ = unfilled_in row in
      let v : ℕ = unfilled_in (slice_set row s (Some bundle)) in
      let x : ℕ = cond (is_asked (Exceeds section limit) (Some bundle)) 1 0 in
      let more : d ≡ c + x = count-posted (Exceeds section limit) in
      let small : x ≤ 1 = one_at_most (is_asked (Exceeds section limit) (Some bundle)) in
      let fewer : v + 1 ≡ u = unfilled-posted in
      elim (cases_Bool (nat_lt limit c)) [
        | inl over ↦ let still : nat_lt limit d ≡ true = grind (arith, nat_tests) in rw still refl
        | inr under ↦
            let all : nat_le (c + u) limit ≡ true = rw under at settled in
            let few : nat_le (d + v) limit ≡ true = grind (arith, nat_tests) in
            elim (cases_Bool (nat_lt limit d)) [
              | inl over ↦ rw over refl
              | inr low ↦ rw low few
            ]
      ]

-- ---- a task that is over stays over

no_tasks : (task versions n : ℕ) → task < versions * n → n ≡ 0 → ⊥
no_tasks task versions n below none =
    let e : versions * n ≡ versions * 0 = ap (λ k. versions * k) none in let z : versions * 0 ≡ 0 = omega arith in omega arith

-- a task is that of its version and student
pub number-is : (terms : Terms) (task : ℕ) → task < count_in None terms
    → (student_at terms task < student_count terms) × (number_of terms (version_at terms task) (student_at terms task) ≡ task)
number-is terms task below =
    let n : ℕ = student_count terms in
    let some : 0 < n = elim (cases_eq n 0) [
      | inl none ↦ absurd (no_tasks task (version_count terms) n below none)
      | inr some_one ↦ let goal : 0 < n = omega arith in goal
    ] in
    (mod_below task n some, div-add-mod' task n)

-- a task of a version that is settled stays over when another task is answered
each_lasts : IsLasting (rules_in None)
each_lasts terms answers task other bundle each below none over =
    let low : other < count_in None terms = subst (λ n. other < n) each below in
    let place = number-is terms other low in
    let v : ℕ = version_at terms other in
    let s : ℕ = student_at terms other in
    let is : number_of terms v s ≡ other = place.1 in
    let after : List (Option Bundle) = slice_set answers (number_of terms v s) (Some bundle) in
    let here : slice_index_or (row_of terms answers v) s (Some bundle) ≡ None =
    row-at terms answers v s (Some bundle) place.0 ∙ ap (λ k. slice_index_or answers k (Some bundle)) is ∙ none in
    let w : ℕ = version_at terms task in
    let kept : is_settled (ask_of terms.asks w) (row_of terms after w) ≡ true =
    elim (cases_eq w v) [
      | inl same ↦
          subst (λ k. is_settled (ask_of terms.asks k) (row_of terms after k) ≡ true) (sym same)
          (ap (is_settled (ask_of terms.asks v)) (row-set terms answers v s (Some bundle) place.0)
          ∙ stays_settled (row_of terms answers v) s bundle here (ask_of terms.asks v)
          (subst (λ k. is_settled (ask_of terms.asks k) (row_of terms answers k) ≡ true) same over))
      | inr apart ↦ ap (is_settled (ask_of terms.asks w)) (row-other terms answers v w s (Some bundle) place.0 apart) ∙ over
    ] in
    subst (λ k. is_settled (ask_of terms.asks w) (row_of terms (slice_set answers k (Some bundle)) w) ≡ true) is kept

lasts_in : (list : Option (List Task)) → IsLasting (rules_in list)
lasts_in None terms answers task other answer each below none over =
    each_lasts terms answers task other answer each below none over
lasts_in (Some list) terms answers task other answer each below none over = over

-- a task that is over stays over
pub settled_last : IsLasting round_rules
settled_last terms = lasts_in terms.list terms
