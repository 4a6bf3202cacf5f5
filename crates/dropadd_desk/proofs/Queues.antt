-- Lists in which nobody stands twice.
use Rattle.std.proofs.Common.{ℕ, zero, suc, ◌≡◌, ◌≢◌, ◌<◌, ◌≤◌, ◌+◌, ◌++◌, ◌==◌, ◌&&◌, ◌∙◌, Bool, true, false, not, List, [], ◌∷◌, length, take, drop, arith, refl, sym, subst, inl, inr, Some}
use Rattle.std.specs.Prelude.{slice_get, if◌then◌else◌}
use Rattle.std.proofs.lemmas.Bool.{cases_Bool, cases_eq, eq-eqb, eqb-true, false≢true, true≢false}
use Rattle.market_units.proofs.Sums.{total-append}
use Rattle.market_units.specs.Members.{has}
use Rattle.bundle_rules.specs.Existence.Members.{has-there, has-here}
use Rattle.dropadd_desk.specs.Halls.{times, IsQueue}
use Rattle.bundle_rules.specs.Sets.{without_section}
use Rattle.dropadd_desk.proofs.SetChanges.{has-without}
use Rattle.market_units.proofs.Memberships.{has_push}

-- who does not stand in a list stands there no time
pub times_lacks : (i : ℕ) (list : List ℕ) → has list i ≡ false → times i list ≡ 0
times_lacks i [] lacks = refl
times_lacks i (x ∷ xs) lacks = elim (cases_Bool (x == i)) [
  | inl here ↦ let there : has (x ∷ xs) i ≡ true = rw here refl in absurd (true≢false (sym there ∙ lacks))
  | inr other ↦ let rest : has xs i ≡ false = rw other at lacks in let none = times_lacks i xs rest in rw other (omega arith)
]

pub lacks_times : (i : ℕ) (list : List ℕ) → times i list ≡ 0 → has list i ≡ false
lacks_times i [] none = refl
lacks_times i (x ∷ xs) none = elim (cases_Bool (x == i)) [
  | inl here ↦ let some : 1 + times i xs ≡ 0 = rw here at none in absurd (omega arith)
  | inr other ↦ let rest : 0 + times i xs ≡ 0 = rw other at none in rw other (lacks_times i xs (omega arith))
]

times-split : (i n : ℕ) (list : List ℕ) → times i (take n list) + times i (drop n list) ≡ times i list
times-split i zero list = omega arith
times-split i (suc n) [] = omega arith
times-split i (suc n) (x ∷ xs) = omega (arith, times-split i n xs)

pub has_behind : (n i : ℕ) (list : List ℕ) → has (drop n list) i ≡ true → has list i ≡ true
has_behind zero i list is = is
has_behind (suc n) i [] is = is
has_behind (suc n) i (x ∷ xs) is = has-there x xs i (has_behind n i xs is)

times-without : (i j : ℕ) (list : List ℕ) → times j (without_section i list) ≤ times j list
times-without i j [] = omega arith
times-without i j (x ∷ xs) = let rest = times-without i j xs in elim (cases_Bool (x == i)) [
  | inl here ↦ rw here (omega arith)
  | inr other ↦ rw other (omega arith)
]

-- behind a place, and without somebody, nobody stands twice
pub queue_behind : (students n : ℕ) (list : List ℕ) → IsQueue students list → IsQueue students (drop n list)
queue_behind students n list is = record {
  once = λ i. let all = times-split i n list in let most = is.once i in omega (arith, all, most);
  within = λ i there. is.within i (has_behind n i list there);
}

pub without_has : (i j : ℕ) (list : List ℕ) → has (without_section i list) j ≡ true → has list j ≡ true
without_has i j list is = parts (i == j) (has list j) (sym (has-without i list j) ∙ is)
  where
    parts : (a b : Bool) → (not a && b) ≡ true → b ≡ true
    parts true b e = absurd (false≢true e)
    parts false b e = e

pub queue_without : (students i : ℕ) (list : List ℕ) → IsQueue students list → IsQueue students (without_section i list)
queue_without students i list is = record {
  once = λ j. let fewer = times-without i j list in let most = is.once j in omega (arith, fewer, most);
  within = λ j there. is.within j (without_has i j list there);
}

-- who stands at a place stands nowhere behind it
pub none_behind : (students i n : ℕ) (list : List ℕ) → IsQueue students list → slice_get list n ≡ Some i → has (drop (n + 1) list) i ≡ false
none_behind students i n list is at =
    lacks_times i (drop (n + 1) list)
    (let all = times-split i (n + 1) list in let most = is.once i in let some = counted list n at in omega (arith, all, most, some))
  where
    counted : (xs : List ℕ) (m : ℕ) → slice_get xs m ≡ Some i → 1 ≤ times i (take (m + 1) xs)
    counted [] m e = absurd (cc e)
    counted (x ∷ xs) zero e =
        let same : x ≡ i = cc e in
        let here : (x == i) ≡ true = eq-eqb x i same in
        let one : 0 + 1 ≡ suc 0 = omega arith in
        rw (one, here) (omega arith)
    counted (x ∷ xs) (suc m) e =
        let rest = counted xs m e in
        let next : suc m + 1 ≡ suc (m + 1) = omega arith in
        rw next (omega (arith, rest))

-- somebody new behind the others
pub queue_more : (students i : ℕ) (list : List ℕ) → IsQueue students list → i < students → has list i ≡ false → IsQueue students (list ++ i ∷ [])
queue_more students i list is low new = record {
  once = λ j.
      let all = total-append (λ (m : ℕ). if m == j then 1 else 0) list (i ∷ []) in
      let most = is.once j in
      elim (cases_Bool (i == j)) [
        | inl here ↦
            let same : i ≡ j = eqb-true i j here in
            let none : times j list ≡ 0 = subst (λ n. times n list ≡ 0) same (times_lacks i list new) in
            let all' : times j (list ++ i ∷ []) ≡ times j list + (1 + 0) = rw here at all in
            omega arith
        | inr other ↦
            let all' : times j (list ++ i ∷ []) ≡ times j list + (0 + 0) = rw other at all in
            omega arith
      ];
  within = λ j there. elim (has_push list i j there) [ inl before ↦ is.within j before | inr here ↦ subst (λ n. n < students) here low ];
}

-- as many as there are students at most
pub queue_few : (students : ℕ) (list : List ℕ) → IsQueue students list → length list ≤ students
queue_few zero [] is = omega arith
queue_few zero (x ∷ xs) is = let low = is.within x (has-here x xs) in absurd (omega (arith, low))
queue_few (suc students) list is =
    let fewer : IsQueue students (without_section students list) = record {
      once = (queue_without (suc students) students list is).once;
      within = λ j there.
          let low : j < suc students = is.within j (without_has students j list there) in
          let apart : j ≢ students = λ e. false≢true (sym (gone j there) ∙ eq-eqb students j (sym e)) in
          elim (cases_eq j students) [ inl same ↦ absurd (apart same) | inr other ↦ omega arith ];
    } in
    let few = queue_few students (without_section students list) fewer in
    let all = counted list in
    let most = is.once students in
    omega (arith, few, all, most)
  where
    gone : (j : ℕ) → has (without_section students list) j ≡ true → (students == j) ≡ false
    gone j there = parts (students == j) (has list j) (sym (has-without students list j) ∙ there)
      where
        parts : (a b : Bool) → (not a && b) ≡ true → a ≡ false
        parts true b e = absurd (false≢true e)
        parts false b e = refl

    counted : (xs : List ℕ) → length (without_section students xs) + times students xs ≡ length xs
    counted [] = omega arith
    counted (x ∷ xs) = let rest = counted xs in elim (cases_Bool (x == students)) [
      | inl here ↦ rw here (omega arith)
      | inr other ↦ rw other (omega arith)
    ]
