-- What is a part of a choice is a choice.
use Rattle.std.proofs.Common.{◌≡◌, ◌<◌, ◌≤◌, ◌+◌, ℕ, Bool, true, List, [], ◌∷◌, length, arith, refl, subst, inl, inr}
use Rattle.std.specs.List.{filter}
use Rattle.std.proofs.lemmas.Bool.{cases_Bool, cases_order, false≢true}
use Rattle.market_units.specs.Totals.{total}
use Rattle.market_units.specs.Members.{has}
use Rattle.bundle_rules.specs.Sets.{AllAbove, IsAscending}
use Rattle.bundle_rules.specs.Wishes.{Wishes}
use Rattle.bundle_rules.specs.Demand.{IsChoice}
use Rattle.bundle_rules.specs.Existence.Members.{has-here, has-there, has-cases, has-above}

-- each section of the first set is in the second
abbrev pub IsPart : List ℕ → List ℕ → Type 0
IsPart a b = (s : ℕ) → has a s ≡ true → has b s ≡ true

module _ (x : ℕ) (xs : List ℕ) (y : ℕ) (ys : List ℕ) (up : AllAbove x xs) (part : IsPart (x ∷ xs) (y ∷ ys)) where
  -- under one head the rest is a part of the rest
  part_same : x ≡ y → IsPart xs ys
  part_same same s is =
      elim (has-cases y ys s (part s (has-there x xs s is)))
      [ inl here ↦ (let above : x < s = has-above x xs s up is in absurd (omega arith)) | inr there ↦ there ]

  -- and past a lower head of the second the first is a part of its rest
  part_past : y < x → IsPart (x ∷ xs) ys
  part_past low s is = elim (has-cases y ys s (part s is)) [
    | inl here ↦
        elim (has-cases x xs s is) [ inl first ↦ absurd (omega arith) | inr later ↦ (let above : x < s = has-above x xs s up later in absurd (omega arith)) ]
    | inr there ↦ there
  ]

-- sums over a part are no greater
pub total_part : (f : ℕ → ℕ) (a b : List ℕ) → IsAscending a → IsAscending b → IsPart a b → total f a ≤ total f b
total_part f [] b up_a up_b part = omega arith
total_part f (x ∷ xs) [] up_a up_b part = absurd (false≢true (part x (has-here x xs)))
total_part f (x ∷ xs) (y ∷ ys) up_a up_b part =
    elim (cases_order x y) [
      | inl same ↦
          let rest = total_part f xs ys up_a.1 up_b.1 (part_same x xs y ys up_a.0 part same) in
          subst (λ z. f x + total f xs ≤ f z + total f ys) same
          (let t : ℕ = total f xs in let u : ℕ = total f ys in let h : t ≤ u = rest in let goal : f x + t ≤ f x + u = omega arith in goal)
      | inr (inl below) ↦
          elim (has-cases y ys x (part x (has-here x xs)))
          [ inl here ↦ absurd (omega arith) | inr there ↦ (let above : y < x = has-above y ys x up_b.0 there in absurd (omega arith)) ]
      | inr (inr above) ↦ let rest : total f (x ∷ xs) ≤ total f ys = total_part f (x ∷ xs) ys up_a up_b.1 (part_past x xs y ys up_a.0 part above) in omega arith
    ]

counted : (ss : List ℕ) → total (λ s. 1) ss ≡ length ss
counted [] = refl
counted (s ∷ ss) = let rest : total (λ t. 1) ss ≡ length ss = counted ss in omega arith

pub length_part : (a b : List ℕ) → IsAscending a → IsAscending b → IsPart a b → length a ≤ length b
length_part a b up_a up_b part = let sums : total (λ s. 1) a ≤ total (λ s. 1) b = total_part (λ s. 1) a b up_a up_b part in omega (arith, counted a, counted b)

pub choice_part : (w : Wishes) (price : ℕ → ℕ) (budget : ℕ) (allowed : ℕ → Bool) (a b : List ℕ) → IsAscending a → IsPart a b → IsChoice w price budget allowed b
    → IsChoice w price budget allowed a
choice_part w price budget allowed a b up part is =
    let affordable : total price b ≤ budget = is.affordable in
    let credits : total w.credits b ≤ w.credit_cap = is.feasible.credits in
    let courses : length b ≤ w.course_cap = is.feasible.courses in
    record {
      feasible = record {
        set = up;
        rated = λ s in_it. is.feasible.rated s (part s in_it);
        apart = λ s t in_s in_t. is.feasible.apart s t (part s in_s) (part t in_t);
        credits = (let less : total w.credits a ≤ total w.credits b = total_part w.credits a b up is.feasible.set part in omega arith);
        courses = (let fewer : length a ≤ length b = length_part a b up is.feasible.set part in omega arith);
      };
      affordable = (let less : total price a ≤ total price b = total_part price a b up is.feasible.set part in omega arith);
      within = λ s in_it. is.within s (part s in_it);
    }

-- a section of a choice alone is a choice
pub alone_part : (s : ℕ) (b : List ℕ) → has b s ≡ true → IsPart (s ∷ []) b
alone_part s b is t in_it = elim (has-cases s [] t in_it) [ inl here ↦ subst (λ u. has b u ≡ true) here is | inr there ↦ absurd (false≢true there) ]

-- the sum over what is left of a set is no greater
pub total_filter : (f : ℕ → ℕ) (keep : ℕ → Bool) (xs : List ℕ) → total f (filter keep xs) ≤ total f xs
total_filter f keep [] = omega arith
total_filter f keep (x ∷ xs) =
    let rest = total_filter f keep xs in
    elim (cases_Bool (keep x)) [
      | inl kept ↦ rw kept (omega (arith, rest))
      | inr left ↦ rw left (omega (arith, rest))
    ]
