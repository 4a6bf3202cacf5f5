-- What is seen in a bundle, by the search for it.
use Rattle.std.proofs.Common.{◌≡◌, ◌<◌, ◌≤◌, ◌+◌, ◌-◌, ◌++◌, ℕ, zero, suc, Bool, true, List, [], ◌∷◌, Some, None, length, get_or, take, drop, refl, arith, ap, sym, subst, append_assoc, inl, inr}
use Rattle.std.proofs.Math.Seq.{take-length}
use Rattle.std.proofs.lemmas.Bool.{cases_Bool}
use Rattle.std.specs.List.{find}
use Rattle.plain_facts.proofs.Lists.{first_rest}
use Rattle.market_units.specs.declared.units.SectionNo.{SectionNo}
use Rattle.market_units.specs.Totals.{total}
use Rattle.bundle_rules.specs.Demand.{IsChoice}
use Rattle.bundle_rules.specs.Menus.{MenuData, wishes_of}
use Rattle.bundle_rules.specs.Ordinals.{ordinals}
use Rattle.market_units.specs.Members.{has}
use Rattle.bundle_rules.specs.Sets.{IsAscending}
use Rattle.bundle_rules.specs.Wishes.{Wishes, IsFeasible}
use Rattle.bundle_rules.specs.Existence.Members.{IsAscending-front, IsAscending-middle}
use Rattle.bundle_rules.proofs.BestValue.{best-only}
use Rattle.fairness_audit.specs.Envy.{seen}
use Rattle.fairness_audit.specs.Searching.{IsBestOfThese}

abbrev pub none : SectionNo
none = record { 0 = 0 }

-- the sections that are still to be tried, as the first and the others
module _ (front : List ℕ) (later : List SectionNo) (some : 1 ≤ length later) (up : IsAscending (front ++ ordinals later)) where
  pub first_later : IsAscending (front ++ (get_or later 0 none).0 ∷ ordinals (take (length later - 1) (drop 1 later)))
  first_later = subst (λ (more : List SectionNo). IsAscending (front ++ ordinals more)) (first_rest later none some) up

  pub ascending_rest : IsAscending (front ++ ordinals (take (length later - 1) (drop 1 later)))
  ascending_rest = IsAscending-middle front (get_or later 0 none).0 _ first_later

  pub ascending_wider : IsAscending ((front ++ (get_or later 0 none).0 ∷ []) ++ ordinals (take (length later - 1) (drop 1 later)))
  ascending_wider = rw append_assoc first_later

  pub ascending_first : IsAscending (front ++ (get_or later 0 none).0 ∷ [])
  ascending_first = IsAscending-front _ (ordinals (take (length later - 1) (drop 1 later))) ascending_wider

  pub later_split : ordinals later ≡ (get_or later 0 none).0 ∷ ordinals (take (length later - 1) (drop 1 later))
  later_split = ap ordinals (first_rest later none some)

pub no_later : (later : List SectionNo) → length later < 1 → ordinals later ≡ []
no_later [] empty = refl
no_later (x ∷ xs) empty = absurd (omega arith)

-- without prices and with all sections allowed, what may be taken is a choice
pub free_choice : (w : Wishes) (bundle : List ℕ) → IsFeasible w bundle → IsChoice w (λ s. 0) 0 (λ s. true) bundle
free_choice w bundle is = record { feasible = is; affordable = free bundle; within = λ s in_it. refl }
  where
    free : (ss : List ℕ) → total (λ s. 0) ss ≤ 0
    free [] = omega arith
    free (s ∷ ss) = let rest : total (λ t. 0) ss ≤ 0 = free ss in omega arith

-- the best of all that these sections make is what is seen in them
pub is_seen : (menu : MenuData) (sections bundle : List ℕ) → IsBestOfThese (wishes_of menu) [] sections bundle → bundle ≡ seen menu sections
is_seen menu sections bundle best =
    best-only menu (λ s. 0) 0 (has sections) bundle
    (record {
      choice =
          record {
            feasible = best.choice.feasible;
            affordable = best.choice.affordable;
            within = λ s in_it. best.extends.among s
                (subst (λ l. has l s ≡ true) best.extends.whole in_it);
          };
      preferred =
          λ other is apart. best.preferred other (free_choice (wishes_of menu) other is.feasible) (record { more = other; whole = refl; among = is.within })
          apart;
    })

-- the others are one fewer
pub few_left : (chosen : ℕ) (later : List SectionNo) → chosen + length later ≤ 8 → chosen + length (take (length later - 1) (drop 1 later)) ≤ 8
few_left chosen [] few = few
few_left chosen (x ∷ xs) few =
    let n : ℕ = length xs in
    let whole : chosen + suc n ≤ 8 = few in
    let j : suc n - 1 ≡ n = omega arith in
    subst (λ m. chosen + length (take m xs) ≤ 8) (sym j)
    (subst (λ (l : List SectionNo). chosen + length l ≤ 8) (sym (take-length xs)) (let goal : chosen + n ≤ 8 = omega arith in goal))

-- the lowest section that passes a test is the first that does
pub first_at : (p : ℕ → Bool) (items : List SectionNo) (k : ℕ) (d : SectionNo) → k < length items → find p (ordinals (take k items)) ≡ None
    → p (get_or items k d).0 ≡ true → find p (ordinals items) ≡ Some (get_or items k d).0
first_at p [] k d low before passes = absurd (omega arith)
first_at p (x ∷ xs) zero d low before passes = rw passes refl
first_at p (x ∷ xs) (suc k) d low before passes = elim (cases_Bool (p x.0)) [
  | inl sooner ↦ (let h : Some x.0 ≡ None = rw sooner at before in cc)
  | inr later ↦ rw later (first_at p xs k d (omega arith) (rw later at before) passes)
]
