-- A part and the others are what the slice is that they were cut from.
use Rattle.std.proofs.Common.{◌≡◌, ℕ, ◌+◌, ◌-◌, ◌<◌, ◌≤◌, List, ◌++◌, length, refl, sym, ap, subst, ◌∙◌, arith}
use mathlib.Core.Logic.{⊎_elim}
use lib.ListN.{get_or}
use Rattle.std.proofs.lemmas.Bool.{cases_lt}
use Rattle.std.proofs.lemmas.List.{length-append, get_or_append_left, get_or-append_right}
use Rattle.worker_threads.specs.Places.{AcceptsFrom, ChangesFrom}

module _ {X : Type 0} (all xs ys : List X) (base size : ℕ) (is : all ≡ xs ++ ys) (n : length xs ≡ size) where
  total : length xs + length ys ≡ length all
  total = omega (arith, ap length is, length-append xs ys)

  at_front : (k : ℕ) (d : X) → k < size → get_or all k d ≡ get_or xs k d
  at_front k d l = ap (λ zs. get_or zs k d) is ∙ get_or_append_left xs ys d k (omega arith)

  at_back : (k : ℕ) (d : X) → size ≤ k → get_or all k d ≡ get_or ys (k - size) d
  at_back k d l = ap (λ zs. get_or zs k d) is ∙ get_or-append_right xs ys size k d n l

  pub accepts_parts : (P : ℕ → X → Type 0) → AcceptsFrom P base all → AcceptsFrom P base xs × AcceptsFrom P (base + size) ys
  accepts_parts P a =
      let sum = total in (
        record {
          room = omega (arith, a.room);
          each = λ k d l. subst (P (base + k)) (at_front k d (omega arith)) (a.each k d (omega arith));
        },
        record {
          room = omega (arith, a.room);
          each = λ k d l. subst (λ i. P i (get_or ys k d)) {x = base + (size + k)} (omega arith)
              (subst (P (base + (size + k))) (at_back (size + k) d (omega arith) ∙ ap (λ i. get_or ys i d) {x = size + k - size} (omega arith))
              (a.each (size + k) d (omega arith)));
        },
      )

pub changes_whole : {X : Type 0} (R : ℕ → X → X → Type 0) (all xs ys xs' ys' : List X) (base size : ℕ) → all ≡ xs ++ ys → length xs ≡ size
    → ChangesFrom R base xs xs' → ChangesFrom R (base + size) ys ys' → ChangesFrom R base all (xs' ++ ys')
changes_whole R all xs ys xs' ys' base size is n a b =
    let n' : length xs' ≡ size = a.len ∙ n in
    let old = total all xs ys base size is n in let new = total (xs' ++ ys') xs' ys' base size refl n' in
    record {
      len = omega (arith, a.len, b.len);
      each = λ k d l. ⊎_elim
          (λ p. subst (λ x. R (base + k) x (get_or (xs' ++ ys') k d)) (sym (at_front all xs ys base size is n k d p))
          (subst (R (base + k) (get_or xs k d)) (sym (at_front (xs' ++ ys') xs' ys' base size refl n' k d p)) (a.each k d (omega arith))))
          (λ p. let j = k - size in
          subst (λ x. R (base + k) x (get_or (xs' ++ ys') k d)) (sym (at_back all xs ys base size is n k d p))
          (subst (R (base + k) (get_or ys j d)) (sym (at_back (xs' ++ ys') xs' ys' base size refl n' k d p))
          (subst (λ i. R i (get_or ys j d) (get_or ys' j d)) {x = base + size + j} (omega arith) (b.each j d (omega arith)))))
          (cases_lt k size);
    }
