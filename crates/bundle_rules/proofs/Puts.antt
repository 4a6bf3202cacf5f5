-- One more number in an ascending list, and what stays of sums.
use Rattle.std.proofs.Common.{◌≡◌, ◌≢◌, ◌<◌, ◌≤◌, ◌+◌, ◌++◌, ◌==◌, ◌||◌, ◌+ℤ◌, ℕ, pos, suc, Bool, true, false, true≢false, List, [], ◌∷◌, length, arith, refl, ap, sym, subst, ◌∙◌, inl, inr}
use Rattle.std.specs.Prelude.{nat_lt}
use Rattle.std.proofs.lemmas.Bool.{cases_Bool}
use Rattle.std.proofs.lemmas.Bool.Decides.{nat_tests}
use Rattle.std.proofs.lemmas.Int.{ints}
use Rattle.plain_facts.proofs.Numbers.{true_lt}
use Rattle.market_units.specs.Members.{has}
use Rattle.market_units.specs.Totals.{total}
use Rattle.bundle_rules.specs.Sets.{AllAbove, IsAscending}
use Rattle.bundle_rules.specs.Wishes.{Wishes, adjustments, utility}
use Rattle.market_units.specs.declared.units.SectionNo.{SectionNo}
use Rattle.bundle_rules.specs.Ordinals.{ordinals}
use Rattle.bundle_rules.specs.Ranks.{put, ascending, AreDistinct}
use Rattle.bundle_rules.proofs.Ascents.{above_all}
use Rattle.bundle_rules.specs.Existence.Members.{has-here, has-there}

-- a test that stands behind another one may stand before it
pub or_past : (a b c d : Bool) → d ≡ (b || c) → (a || d) ≡ (b || (a || c))
or_past true true c d is = refl
or_past true false c d is = refl
or_past false true c d is = is
or_past false false c d is = is

not_below_of : (a b : ℕ) → nat_lt a b ≡ false → b ≤ a
not_below_of a b t = grind (arith, nat_tests)

-- the members
pub has-put : (s : ℕ) (ts : List ℕ) (t : ℕ) → has (put s ts) t ≡ (s == t || has ts t)
has-put s [] t = refl
has-put s (u ∷ ts) t = elim (cases_Bool (nat_lt s u)) [
  | inl low ↦ rw low refl
  | inr high ↦ rw high (or_past (u == t) (s == t) (has ts t) (has (put s ts) t) (has-put s ts t))
]

pub has-ascending : (ss : List ℕ) (t : ℕ) → has (ascending ss) t ≡ has ss t
has-ascending [] t = refl
has-ascending (s ∷ ss) t = has-put s (ascending ss) t ∙ ap (λ b. s == t || b) (has-ascending ss t)

-- the order
AllAbove-put : (r s : ℕ) (ts : List ℕ) → r < s → AllAbove r ts → AllAbove r (put s ts)
AllAbove-put r s [] low above = (low, tt)
AllAbove-put r s (u ∷ ts) low above = elim (cases_Bool (nat_lt s u)) [
  | inl under ↦ rw under (low, above)
  | inr over ↦ rw over (above.0, AllAbove-put r s ts low above.1)
]

not_head : (u : ℕ) (ts : List ℕ) (s : ℕ) → has (u ∷ ts) s ≡ false → u ≢ s
not_head u ts s out same = true≢false (sym (subst (λ t. has (u ∷ ts) t ≡ true) same (has-here u ts)) ∙ out)

not_rest : (u : ℕ) (ts : List ℕ) (s : ℕ) → has (u ∷ ts) s ≡ false → has ts s ≡ false
not_rest u ts s out = elim (cases_Bool (has ts s)) [
  | inl in' ↦ absurd (true≢false (sym (has-there u ts s in') ∙ out))
  | inr out' ↦ out'
]

pub IsAscending-put : (s : ℕ) (ts : List ℕ) → IsAscending ts → has ts s ≡ false → IsAscending (put s ts)
IsAscending-put s [] up out = (tt, tt)
IsAscending-put s (u ∷ ts) up out = elim (cases_Bool (nat_lt s u)) [
  | inl under ↦ rw under ((true_lt s u under, above_all s u ts (true_lt s u under) up.0), up)
  | inr over ↦
      let low : u < s = (let h : u ≤ s = not_below_of s u over in let n : u ≢ s = not_head u ts s out in omega arith) in
      rw over (AllAbove-put u s ts low up.0, IsAscending-put s ts up.1 (not_rest u ts s out))
]

pub IsAscending-ascending : (ss : List ℕ) → AreDistinct ss → IsAscending (ascending ss)
IsAscending-ascending [] each = tt
IsAscending-ascending (s ∷ ss) each = IsAscending-put s (ascending ss) (IsAscending-ascending ss each.1) (has-ascending ss s ∙ each.0)

-- the sums
pub length-put : (s : ℕ) (ts : List ℕ) → length (put s ts) ≡ suc (length ts)
length-put s [] = refl
length-put s (u ∷ ts) = elim (cases_Bool (nat_lt s u)) [
  | inl under ↦ rw under refl
  | inr over ↦ rw (over, length-put s ts) refl
]

pub length-ascending : (ss : List ℕ) → length (ascending ss) ≡ length ss
length-ascending [] = refl
length-ascending (s ∷ ss) = length-put s (ascending ss) ∙ ap suc (length-ascending ss)

total-put : (f : ℕ → ℕ) (s : ℕ) (ts : List ℕ) → total f (put s ts) ≡ f s + total f ts
total-put f s [] = refl
total-put f s (u ∷ ts) = elim (cases_Bool (nat_lt s u)) [
  | inl under ↦ rw under refl
  | inr over ↦ rw (over, total-put f s ts) (omega arith)
]

pub total-ascending : (f : ℕ → ℕ) (ss : List ℕ) → total f (ascending ss) ≡ total f ss
total-ascending f [] = refl
total-ascending f (s ∷ ss) = total-put f s (ascending ss) ∙ ap (λ n. f s + n) (total-ascending f ss)

adjustments-put : (w : Wishes) (r s : ℕ) (ts : List ℕ) → adjustments w r (put s ts) ≡ w.adjustment r s +ℤ adjustments w r ts
adjustments-put w r s [] = refl
adjustments-put w r s (u ∷ ts) = elim (cases_Bool (nat_lt s u)) [
  | inl under ↦ rw under refl
  | inr over ↦ rw (over, adjustments-put w r s ts) (omega (arith, ints))
]

adjustments-ascending : (w : Wishes) (r : ℕ) (ss : List ℕ) → adjustments w r (ascending ss) ≡ adjustments w r ss
adjustments-ascending w r [] = refl
adjustments-ascending w r (s ∷ ss) = adjustments-put w r s (ascending ss) ∙ ap (λ n. w.adjustment r s +ℤ n) (adjustments-ascending w r ss)

utility-put : (w : Wishes) (s : ℕ) (ts : List ℕ) → ((a b : ℕ) → w.adjustment a b ≡ w.adjustment b a)
    → utility w (put s ts) ≡ (pos (w.rating s) +ℤ adjustments w s ts) +ℤ utility w ts
utility-put w s [] both = refl
utility-put w s (u ∷ ts) both = elim (cases_Bool (nat_lt s u)) [
  | inl under ↦ rw under refl
  | inr over ↦ rw (over, utility-put w s ts both, adjustments-put w u s ts, both u s) (omega (arith, ints))
]

pub utility-ascending : (w : Wishes) (ss : List ℕ) → ((a b : ℕ) → w.adjustment a b ≡ w.adjustment b a)
    → utility w (ascending ss) ≡ utility w ss
utility-ascending w [] both = refl
utility-ascending w (s ∷ ss) both =
    utility-put w s (ascending ss) both ∙ rw (adjustments-ascending w s ss, utility-ascending w ss both) refl

-- what stands behind a front, one by one
AllAbove-next : (r : ℕ) (xs : List ℕ) (t : ℕ) (ys : List ℕ) → AllAbove r (xs ++ t ∷ ys) → AllAbove r (xs ++ t ∷ [])
AllAbove-next r [] t ys above = (above.0, tt)
AllAbove-next r (x ∷ xs) t ys above = (above.0, AllAbove-next r xs t ys above.1)

pub ascending_next : (xs : List ℕ) (t : ℕ) (ys : List ℕ) → IsAscending (xs ++ t ∷ ys) → IsAscending (xs ++ t ∷ [])
ascending_next [] t ys up = (tt, tt)
ascending_next (x ∷ xs) t ys up = (AllAbove-next x xs t ys up.0, ascending_next xs t ys up.1)

pub next_of_all : (front : List ℕ) (sections rest : List SectionNo) (first : SectionNo) → sections ≡ first ∷ rest
    → IsAscending (front ++ ordinals sections) → IsAscending (front ++ first.0 ∷ [])
next_of_all front sections rest first split up =
    ascending_next front first.0 (ordinals rest) (subst (λ l. IsAscending (front ++ ordinals l)) split up)

pub put_here : (front : List ℕ) (s : ℕ) (sections rest : List SectionNo) (first : SectionNo) → sections ≡ first ∷ rest → s < first.0
    → IsAscending (front ++ put s (ordinals sections)) → IsAscending (front ++ s ∷ [])
put_here front s sections rest first split under up =
    let whole : IsAscending (front ++ put s (first.0 ∷ ordinals rest)) = subst (λ l. IsAscending (front ++ put s (ordinals l))) split up in
    let test : nat_lt s first.0 ≡ true = grind (arith, nat_tests) in
    let all : IsAscending (front ++ s ∷ first.0 ∷ ordinals rest) = rw test at whole in
    ascending_next front s (first.0 ∷ ordinals rest) all

pub put_there : (front : List ℕ) (s : ℕ) (sections rest : List SectionNo) (first : SectionNo) → sections ≡ first ∷ rest → first.0 ≤ s
    → IsAscending (front ++ put s (ordinals sections)) → IsAscending (front ++ first.0 ∷ [])
put_there front s sections rest first split over up =
    let whole : IsAscending (front ++ put s (first.0 ∷ ordinals rest)) = subst (λ l. IsAscending (front ++ put s (ordinals l))) split up in
    let test : nat_lt s first.0 ≡ false = grind (arith, nat_tests) in
    let all : IsAscending (front ++ first.0 ∷ put s (ordinals rest)) = rw test at whole in
    ascending_next front first.0 (put s (ordinals rest)) all
