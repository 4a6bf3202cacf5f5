-- The best of the choices that extend a front, from those with the first later section and those
-- without it.
use Rattle.std.proofs.Common.{◌≡◌, ◌<◌, ◌≤◌, ◌+◌, ◌⊎◌, ◌++◌, ℕ, Bool, true, true≢false, List, [], ◌∷◌, length, length-append, arith, refl, ap, sym, subst, ◌∙◌, inl, inr, append_assoc}
use Rattle.std.proofs.lemmas.List.{append-nil}
use Rattle.market_units.specs.Members.{has}
use Rattle.bundle_rules.specs.Sets.{AllAbove, IsAscending}
use Rattle.bundle_rules.specs.Wishes.{Wishes}
use Rattle.bundle_rules.specs.Preferences.{IsPreferred}
use Rattle.bundle_rules.specs.Demand.{IsChoice, IsBest}
use Rattle.bundle_rules.specs.Extensions.{Extends, IsBestExtension}
use Rattle.bundle_rules.specs.Existence.Members.{has-here, has-there, has-cases, has-above, IsAscending-rest}
use Rattle.bundle_rules.specs.Existence.Orders.{compared, preferred_trans, not_preferred_itself}
use Rattle.bundle_rules.specs.Existence.Fronts.{choice_front}

-- a member of the first and the rest that is above the first is one of the rest
past_first : (s : ℕ) (rest : List ℕ) (t : ℕ) → s < t → has (s ∷ rest) t ≡ true → has rest t ≡ true
past_first s rest t above is =
    elim (has-cases s rest t is) [ inl here ↦ absurd (omega arith) | inr there ↦ there ]

-- what extends the front either begins with the first later section, or does without it
pub with_or_without : (front : List ℕ) (s : ℕ) (rest other : List ℕ)
    → IsAscending (front ++ s ∷ rest) → IsAscending other → Extends front (s ∷ rest) other
    → Extends (front ++ s ∷ []) rest other ⊎ Extends front rest other
with_or_without front s rest other up set e = cases e.more refl
  where
    above_rest : AllAbove s rest
    above_rest = (IsAscending-rest front (s ∷ rest) up).0

    cases : (more : List ℕ) → e.more ≡ more
        → Extends (front ++ s ∷ []) rest other ⊎ Extends front rest other
    cases [] is =
        inr
        record {
          more = [];
          whole = e.whole ∙ ap (λ xs. front ++ xs) is;
          among = λ t none. absurd (true≢false (sym none));
        }
    cases (x ∷ xs) is =
        let whole : other ≡ front ++ x ∷ xs = e.whole ∙ ap (λ ys. front ++ ys) is in
        let rises : IsAscending (x ∷ xs) = IsAscending-rest front (x ∷ xs) (subst IsAscending whole set) in
        let among : (t : ℕ) → has (x ∷ xs) t ≡ true → has (s ∷ rest) t ≡ true = λ t in_it. e.among t (subst (λ ys. has ys t ≡ true) (sym is) in_it) in
        elim (has-cases s rest x (among x (has-here x xs))) [
          | inl first ↦ inl record {
            more = xs;
            whole =
                whole ∙ ap (λ y. front ++ y ∷ xs) (sym first)
                ∙ sym (append_assoc front (s ∷ []) xs);
            among = λ t in_it. past_first s rest t (let low : x < t = has-above x xs t rises.0 in_it in omega arith) (among t (has-there x xs t in_it));
          }
          | inr later ↦
              let low : s < x = has-above s rest x above_rest later in inr record {
                more = x ∷ xs;
                whole = whole;
                among = λ t in_it. past_first s rest t (elim (has-cases x xs t in_it) [ inl here ↦ omega arith | inr there ↦ let high : x < t = has-above x xs t rises.0 there in omega arith ]) (among t in_it);
              }
        ]

module _ (w : Wishes) (price : ℕ → ℕ) (budget : ℕ) (allowed : ℕ → Bool) where
  -- where nothing is later, the front is the only one
  pub nothing_later : (front : List ℕ) → IsChoice w price budget allowed front
      → IsBestExtension w price budget allowed front [] front
  nothing_later front choice = record {
    choice = choice;
    extends = record { more = []; whole = sym (append-nil front); among = λ s none. none };
    preferred = λ other is e apart. absurd (apart (only other e e.more refl));
  }
    where
      only : (other : List ℕ) (e : Extends front [] other) (more : List ℕ) → e.more ≡ more
          → other ≡ front
      only other e [] is = e.whole ∙ ap (λ xs. front ++ xs) is ∙ append-nil front
      only other e (x ∷ xs) is =
          absurd
          (true≢false (sym (e.among x (subst (λ ys. has ys x ≡ true) (sym is) (has-here x xs)))))

  -- where the front has as many sections as may be taken, it is the only one
  pub nothing_fits : (front later : List ℕ) → IsChoice w price budget allowed front
      → w.course_cap ≤ length front → IsBestExtension w price budget allowed front later front
  nothing_fits front later choice full = record {
    choice = choice;
    extends =
        record {
          more = [];
          whole = sym (append-nil front);
          among = λ s none. absurd
              (true≢false (sym none));
        };
    preferred = λ other is e apart. absurd (apart (only other is e e.more refl));
  }
    where
      only : (other : List ℕ) → IsChoice w price budget allowed other
          → (e : Extends front later other) (more : List ℕ) → e.more ≡ more → other ≡ front
      only other is e [] at = e.whole ∙ ap (λ xs. front ++ xs) at ∙ append-nil front
      only other is e (x ∷ xs) at =
          let courses : length other ≤ w.course_cap = is.feasible.courses in
          let whole : length other ≡ length front + length (x ∷ xs) = ap length (e.whole ∙ ap (λ ys. front ++ ys) at) ∙ length-append front (x ∷ xs) in
          absurd (omega arith)

  -- what extends the front by later sections extends it by one more of them
  pub wider : (front : List ℕ) (s : ℕ) (rest bundle : List ℕ) → Extends front rest bundle
      → Extends front (s ∷ rest) bundle
  wider front s rest bundle e =
      record {
        more = e.more;
        whole = e.whole;
        among = λ t in_it. has-there s rest t
            (e.among t in_it);
      }

  pub begun : (front : List ℕ) (s : ℕ) (rest bundle : List ℕ)
      → Extends (front ++ s ∷ []) rest bundle → Extends front (s ∷ rest) bundle
  begun front s rest bundle e = record {
    more = s ∷ e.more;
    whole = e.whole ∙ append_assoc front (s ∷ []) e.more;
    among =
        λ t in_it. elim (has-cases s e.more t in_it) [
          | inl here ↦ subst (λ u. has (s ∷ rest) u ≡ true) here (has-here s rest)
          | inr there ↦
              has-there s rest t (e.among t there)
        ];
  }

  -- where the front with the first later section is no choice
  pub best_without : (front : List ℕ) (s : ℕ) (rest bundle : List ℕ)
      → IsAscending (front ++ s ∷ rest) → (IsChoice w price budget allowed (front ++ s ∷ []) → ⊥)
      → IsBestExtension w price budget allowed front rest bundle
      → IsBestExtension w price budget allowed front (s ∷ rest) bundle
  best_without front s rest bundle up none best = record {
    choice = best.choice;
    extends = wider front s rest bundle best.extends;
    preferred = λ other is e apart. elim (with_or_without front s rest other up is.feasible.set e) [
      | inl with_it ↦ absurd (none (choice_front w price budget allowed (front ++ s ∷ []) with_it.more (subst (IsChoice w price budget allowed) with_it.whole is)))
      | inr without ↦ best.preferred other is without apart
    ];
  }

  -- a bundle is another, or preferred to it
  at_least : List ℕ → List ℕ → Type 0
  at_least a b = (b ≡ a) ⊎ IsPreferred w a b

  -- where the best with it is preferred to the best without it
  pub best_with : (front : List ℕ) (s : ℕ) (rest with_it without : List ℕ)
      → IsAscending (front ++ s ∷ rest)
      → IsBestExtension w price budget allowed (front ++ s ∷ []) rest with_it
      → IsBestExtension w price budget allowed front rest without → IsPreferred w with_it without
      → IsBestExtension w price budget allowed front (s ∷ rest) with_it
  best_with front s rest with_it without up best other_best more = record {
    choice = best.choice;
    extends = begun front s rest with_it best.extends;
    preferred = λ other is e apart. elim (with_or_without front s rest other up is.feasible.set e) [
      | inl begins ↦ best.preferred other is begins apart
      | inr lacks ↦ elim (compared w other without is.feasible.set other_best.choice.feasible.set) [
        | inl same ↦ subst (IsPreferred w with_it) (sym same) more
        | inr (inl over) ↦ preferred_trans w with_it without other more (other_best.preferred other is lacks (λ e. not_preferred_itself w other (subst (IsPreferred w other) (sym e) over)))
        | inr (inr under) ↦ preferred_trans w with_it without other more under
      ]
    ];
  }

  -- and where it is not
  pub best_not_with : (front : List ℕ) (s : ℕ) (rest with_it without : List ℕ)
      → IsAscending (front ++ s ∷ rest)
      → IsBestExtension w price budget allowed (front ++ s ∷ []) rest with_it
      → IsBestExtension w price budget allowed front rest without
      → (IsPreferred w with_it without → ⊥)
      → IsBestExtension w price budget allowed front (s ∷ rest) without
  best_not_with front s rest with_it without up best other_best less = record {
    choice = other_best.choice;
    extends = wider front s rest without other_best.extends;
    preferred = λ other is e apart. elim (with_or_without front s rest other up is.feasible.set e) [
      | inl begins ↦ elim (compared w with_it without best.choice.feasible.set other_best.choice.feasible.set) [
        | inl same ↦ subst (λ b. IsPreferred w b other) same (best.preferred other is begins (λ e. apart (e ∙ same)))
        | inr (inl over) ↦ absurd (less over)
        | inr (inr under) ↦ elim (compared w other with_it is.feasible.set best.choice.feasible.set) [
          | inl same ↦ subst (IsPreferred w without) (sym same) under
          | inr (inl over) ↦ preferred_trans w without with_it other under (best.preferred other is begins (λ e. not_preferred_itself w other (subst (IsPreferred w other) (sym e) over)))
          | inr (inr below) ↦ preferred_trans w without with_it other under below
        ]
      ]
      | inr lacks ↦ other_best.preferred other is lacks apart
    ];
  }

  -- the best that extends nothing is the best, where every choice is among the later sections
  pub best_of_all : (later bundle : List ℕ)
      → ((other : List ℕ) → IsChoice w price budget allowed other → (s : ℕ) → has other s ≡ true
      → has later s ≡ true)
      → IsBestExtension w price budget allowed [] later bundle
      → IsBest w price budget allowed bundle
  best_of_all later bundle all best =
      record {
        choice = best.choice;
        preferred = λ other is apart. best.preferred other is
            record { more = other; whole = refl; among = all other is } apart;
      }
