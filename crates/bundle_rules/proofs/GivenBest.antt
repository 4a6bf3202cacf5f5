-- Of the wanted choices one is the best, where there is one.
use Rattle.std.proofs.Common.{◌≡◌, ◌<◌, ◌⊎◌, ◌++◌, ℕ, Bool, true, List, [], ◌∷◌, refl, ap, sym, subst, ◌∙◌, inl, inr, append_assoc}
use Rattle.std.proofs.lemmas.Bool.{cases_Bool, true≢false}
use Rattle.std.proofs.lemmas.List.{append-nil}
use Rattle.market_units.specs.Members.{has}
use Rattle.bundle_rules.specs.Sets.{IsAscending}
use Rattle.bundle_rules.specs.Wishes.{Wishes}
use Rattle.bundle_rules.specs.Preferences.{IsPreferred}
use Rattle.bundle_rules.specs.Demand.{IsChoice}
use Rattle.bundle_rules.specs.Given.{IsBestOf}
use Rattle.bundle_rules.specs.Extensions.{Extends}
use Rattle.bundle_rules.specs.Menus.{MenuData, wishes_of}
use Rattle.bundle_rules.specs.Laws.{BestOfAll, BestWithASection}
use Rattle.bundle_rules.specs.Existence.Members.{has-here, IsAscending-middle}
use Rattle.bundle_rules.specs.Existence.Orders.{compared, preferred_trans, not_both_preferred, not_preferred_itself}
use Rattle.bundle_rules.specs.Existence.Extending.{with_or_without, wider, begun}
use Rattle.bundle_rules.specs.Existence.Decisions.{choice_or_not}
use Rattle.bundle_rules.specs.Existence.Demands.{all_sections, all_sections-ascending, all_sections-has}
use Rattle.bundle_rules.proofs.Parts.{choice_part, alone_part}

module _ (w : Wishes) (price : ℕ → ℕ) (budget : ℕ) (allowed : ℕ → Bool) (wanted : List ℕ → Bool) where
  -- two that are the best are one
  pub best_of_once : (a b : List ℕ) → IsBestOf w price budget allowed wanted a → IsBestOf w price budget allowed wanted b → a ≡ b
  best_of_once a b p q = elim (compared w a b p.choice.feasible.set q.choice.feasible.set) [
    | inl same ↦ same
    | inr (inl over) ↦
        absurd (not_both_preferred w a b over (q.preferred a p.choice p.is_wanted (λ e. not_preferred_itself w a (subst (IsPreferred w a) (sym e) over))))
    | inr (inr under) ↦
        absurd (not_both_preferred w a b (p.preferred b q.choice q.is_wanted (λ e. not_preferred_itself w b (subst (IsPreferred w b) (sym e) under))) under)
  ]

  -- a wanted choice
  record IsOne (bundle : List ℕ) : Type 0 where
    choice : IsChoice w price budget allowed bundle
    fits : wanted bundle ≡ true

  one_or_not : (bundle : List ℕ) → IsAscending bundle → IsOne bundle ⊎ (IsOne bundle → ⊥)
  one_or_not bundle up = elim (choice_or_not w price budget allowed bundle up) [
    | inr none ↦ inr (λ is. none is.choice)
    | inl choice ↦
        elim (cases_Bool (wanted bundle)) [ inl fits ↦ inl record { choice = choice; fits = fits } | inr not ↦ inr (λ is. true≢false (sym is.fits ∙ not)) ]
  ]

  -- one that extends a front and is as good as each that does
  record Finds (front later bundle : List ℕ) : Type 0 where
    one : IsOne bundle
    extends : Extends front later bundle
    over : (other : List ℕ) → IsOne other → Extends front later other → (other ≡ bundle) ⊎ IsPreferred w bundle other

  only : (front other : List ℕ) (e : Extends front [] other) (more : List ℕ) → e.more ≡ more → other ≡ front
  only front other e [] is = e.whole ∙ ap (λ xs. front ++ xs) is ∙ append-nil front
  only front other e (x ∷ xs) is = absurd (true≢false (sym (e.among x (subst (λ ys. has ys x ≡ true) (sym is) (has-here x xs)))))

  module _ (front : List ℕ) (s : ℕ) (rest : List ℕ) (up : IsAscending (front ++ s ∷ rest)) where
    -- the one that begins with the first later section is as good as the one that does without it
    finds_with : (with_it : List ℕ) → Finds (front ++ s ∷ []) rest with_it
        → ((other : List ℕ) → IsOne other → Extends front rest other → (other ≡ with_it) ⊎ IsPreferred w with_it other) → Finds front (s ∷ rest) with_it
    finds_with with_it found lacks = record {
      one = found.one;
      extends = begun w price budget allowed front s rest with_it found.extends;
      over =
          λ other is e. elim (with_or_without front s rest other up is.choice.feasible.set e)
          [ inl begins ↦ found.over other is begins | inr without ↦ lacks other is without ];
    }

    finds_without : (without : List ℕ) → Finds front rest without
        → ((other : List ℕ) → IsOne other → Extends (front ++ s ∷ []) rest other → (other ≡ without) ⊎ IsPreferred w without other)
        → Finds front (s ∷ rest) without
    finds_without without found begins = record {
      one = found.one;
      extends = wider w price budget allowed front s rest without found.extends;
      over =
          λ other is e. elim (with_or_without front s rest other up is.choice.feasible.set e)
          [ inl with_it ↦ begins other is with_it | inr lacks ↦ found.over other is lacks ];
    }

  -- what is as good as one that is as good as a third
  good_trans : (a b c : List ℕ) → IsPreferred w a b → (c ≡ b) ⊎ IsPreferred w b c → (c ≡ a) ⊎ IsPreferred w a c
  good_trans a b c over (inl same) = inr (subst (IsPreferred w a) (sym same) over)
  good_trans a b c over (inr more) = inr (preferred_trans w a b c over more)

  -- of the wanted choices that extend a front one is the best, or there is none
  search : (later front : List ℕ) → IsAscending (front ++ later)
      → ((best : List ℕ) × Finds front later best) ⊎ ((other : List ℕ) → IsOne other → Extends front later other → ⊥)
  search [] front up = elim (one_or_not front (subst IsAscending (append-nil front) up)) [
    | inl is ↦
        inl (
          front,
          record {
            one = is;
            extends = record { more = []; whole = sym (append-nil front); among = λ s none. none };
            over = λ other one e. inl
                (only front other e e.more refl);
          },
        )
    | inr not ↦ inr (λ other one e. not (subst IsOne (only front other e e.more refl) one))
  ]
  search (s ∷ rest) front up =
      let longer : IsAscending ((front ++ s ∷ []) ++ rest) = rw append_assoc up in
      elim (search rest (front ++ s ∷ []) longer) [
        | inl with_it ↦ elim (search rest front (IsAscending-middle front s rest up)) [
          | inl without ↦ elim (compared w with_it.0 without.0 with_it.1.one.choice.feasible.set without.1.one.choice.feasible.set) [
            | inl same ↦
                inl (
                  with_it.0,
                  finds_with front s rest up with_it.0 with_it.1
                      (λ other is e. subst (λ b. (other ≡ b) ⊎ IsPreferred w b other) (sym same) (without.1.over other is e)),
                )
            | inr (inl more) ↦
                inl (
                  with_it.0,
                  finds_with front s rest up with_it.0 with_it.1 (λ other is e. good_trans with_it.0 without.0 other more (without.1.over other is e)),
                )
            | inr (inr less) ↦
                inl (
                  without.0,
                  finds_without front s rest up without.0 without.1 (λ other is e. good_trans without.0 with_it.0 other less (with_it.1.over other is e)),
                )
          ]
          | inr none ↦ inl (with_it.0, finds_with front s rest up with_it.0 with_it.1 (λ other is e. absurd (none other is e)))
        ]
        | inr none ↦ elim (search rest front (IsAscending-middle front s rest up)) [
          | inl without ↦ inl (without.0, finds_without front s rest up without.0 without.1 (λ other is e. absurd (none other is e)))
          | inr neither ↦
              inr
              (λ other is e. elim (with_or_without front s rest other up is.choice.feasible.set e)
              [ inl begins ↦ none other is begins | inr lacks ↦ neither other is lacks ])
        ]
      ]

  -- where the rated sections are among those of a set, one wanted choice is the best where there is one
  best_among : (all : List ℕ) → IsAscending all → ((s : ℕ) → 0 < w.rating s → has all s ≡ true) → (bundle : List ℕ) → IsChoice w price budget allowed bundle
      → wanted bundle ≡ true → (best : List ℕ) × IsBestOf w price budget allowed wanted best
  best_among all up rated bundle choice fits = elim (search all [] up) [
    | inl found ↦ (
      found.0,
      record {
        choice = found.1.one.choice;
        is_wanted = found.1.one.fits;
        preferred =
            λ other is is_wanted apart. elim
            (found.1.over other record { choice = is; fits = is_wanted }
            record { more = other; whole = refl; among = λ s in_it. rated s (is.feasible.rated s in_it) })
            [ inl same ↦ absurd (apart same) | inr more ↦ more ];
      },
    )
    | inr none ↦
        absurd
        (none bundle record { choice = choice; fits = fits }
        record { more = bundle; whole = refl; among = λ s in_it. rated s (choice.feasible.rated s in_it) })
  ]

-- every menu has a best wanted choice where it has a wanted one
pub best_of_some : (menu : MenuData) (price : ℕ → ℕ) (budget : ℕ) (allowed : ℕ → Bool) (wanted : List ℕ → Bool) (bundle : List ℕ)
    → IsChoice (wishes_of menu) price budget allowed bundle → wanted bundle ≡ true
    → (best : List ℕ) × IsBestOf (wishes_of menu) price budget allowed wanted best
best_of_some menu price budget allowed wanted bundle choice fits =
    best_among (wishes_of menu) price budget allowed wanted (all_sections menu) (all_sections-ascending menu) (all_sections-has menu) bundle choice fits

pub best_of_all : BestOfAll
best_of_all menu price budget allowed bundle = (
  (λ best. record { choice = best.choice; preferred = λ other is apart. best.preferred other is refl apart }),
  (λ best. record { choice = best.choice; is_wanted = refl; preferred = λ other is any apart. best.preferred other is apart }),
)

pub best_with_a_section : BestWithASection
best_with_a_section menu price budget allowed section = record {
  one = λ some. best_of_some menu price budget allowed (λ b. has b section) some.0 some.1 some.2;
  only = best_of_once (wishes_of menu) price budget allowed (λ b. has b section);
  alone = (
    (λ some. choice_part (wishes_of menu) price budget allowed (section ∷ []) some.0 (tt, tt) (alone_part section some.0 some.2) some.1),
    (λ choice. (section ∷ [], choice, has-here section [])),
  );
}
