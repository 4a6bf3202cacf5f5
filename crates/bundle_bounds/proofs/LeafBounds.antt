-- The bound of a leaf.
use Rattle.std.proofs.Common.{◌≡◌, ◌≢◌, ℕ, ◌*◌, ◌/◌, true, false, ◌&&◌, ◌==◌, List, [], ◌∷◌, ◌++◌, refl, sym, ap, ◌∙◌, arith, inl, inr}
use Rattle.std.specs.Prelude.{ℤ, pos, ◌+ℤ◌, ◌⊎◌, nat_lt}
use Rattle.std.proofs.lemmas.Bool.{cases_Bool, eq-eqb, true≢false}
use Rattle.std.proofs.lemmas.Bool.Decides.{nat_tests}
use Rattle.bundle_bounds.specs.declared.nodes.Leaf.{Leaf}
use Rattle.bundle_bounds.specs.declared.nodes.Leaf.TheVariants.{Budget, Credits, Number}
use Rattle.bundle_bounds.specs.declared.prospects.Prospect.{Prospect}
use Rattle.bundle_bounds.specs.declared.prospects.Resource.{Resource}
use Rattle.bundle_bounds.specs.declared.prospects.Resource.TheVariants.{Money, Count}
use Rattle.bundle_bounds.specs.declared.prospects.Resource.TheVariants as resources
use Rattle.bundle_bounds.specs.Courses.{takes_of}
use Rattle.bundle_bounds.specs.Bounds.{leaf_of, at_price, resource_bounds, all_bounds, HasBound}

pub has-append_left : (as' bs : List (Leaf × ℤ)) (leaf : Leaf) (b : ℤ) → HasBound as' leaf b → HasBound (as' ++ bs) leaf b
has-append_left [] bs leaf b has = absurd has
has-append_left (a ∷ as') bs leaf b (inl here) = inl here
has-append_left (a ∷ as') bs leaf b (inr later) = inr (has-append_left as' bs leaf b later)

pub has-append_right : (as' bs : List (Leaf × ℤ)) (leaf : Leaf) (b : ℤ) → HasBound bs leaf b → HasBound (as' ++ bs) leaf b
has-append_right [] bs leaf b has = has
has-append_right (a ∷ as') bs leaf b has = inr (has-append_right as' bs leaf b has)

pub has-append_cases : (as' bs : List (Leaf × ℤ)) (leaf : Leaf) (b : ℤ) → HasBound (as' ++ bs) leaf b → HasBound as' leaf b ⊎ HasBound bs leaf b
has-append_cases [] bs leaf b has = inr has
has-append_cases (a ∷ as') bs leaf b (inl here) = inl (inl here)
has-append_cases (a ∷ as') bs leaf b (inr later) = elim (has-append_cases as' bs leaf b later) [ inl first ↦ inl (inr first) | inr second ↦ inr second ]

same_place : (resource : Resource) (p q : ℕ) → leaf_of resource p ≡ leaf_of resource q → p ≡ q
same_place Money p q e = cc e
same_place resources.Credits p q e = cc e
same_place Count p q e = cc e

module _ (base : ℤ) (rest : ℕ) (resource : Resource) (all : List Prospect) where
  pub bound_here : (p : Prospect) (ps : List Prospect) (place : ℕ) → (p.place == place && (nat_lt 0 p.worth && nat_lt 0 (takes_of resource p))) ≡ true
      → HasBound (resource_bounds base rest resource all (p ∷ ps)) (leaf_of resource place)
      (base +ℤ pos (at_price resource rest (1000 * p.worth / takes_of resource p) all))
  bound_here p ps place is =
      elim (cases_Bool (p.place == place)) [
        | inl at ↦
            let e : p.place ≡ place = grind (arith, nat_tests) in
            let has : (nat_lt 0 p.worth && nat_lt 0 (takes_of resource p)) ≡ true = rw at at is in rw has (inl (ap (leaf_of resource) e, refl))
        | inr other ↦ absurd (true≢false (sym is ∙ rw other refl))
      ]

  pub bound_later : (p : Prospect) (ps : List Prospect) (place : ℕ) (result : ℤ)
      → (p.place == place && (nat_lt 0 p.worth && nat_lt 0 (takes_of resource p))) ≡ false
      →
      ((b : ℤ) → HasBound (resource_bounds base rest resource all ps) (leaf_of resource place) b
      → HasBound (resource_bounds base rest resource all ps) (leaf_of resource place) result)
      → (b : ℤ) → HasBound (resource_bounds base rest resource all (p ∷ ps)) (leaf_of resource place) b
      → HasBound (resource_bounds base rest resource all (p ∷ ps)) (leaf_of resource place) result
  bound_later p ps place result is later b has =
      elim (cases_Bool (nat_lt 0 p.worth && nat_lt 0 (takes_of resource p))) [
        | inl bounded ↦
            let other : (p.place == place) ≡ false =
            (elim (cases_Bool (p.place == place)) [ inl at ↦ absurd (true≢false (sym (rw (at, bounded) refl) ∙ is)) | inr apart ↦ apart ]) in
            rw bounded (inr (later b (elim (rw bounded at has) [
              | inl here ↦ absurd (true≢false (sym (eq-eqb p.place place (same_place resource p.place place here.0)) ∙ other))
              | inr there ↦ there
            ])))
        | inr none ↦ rw none (later b (rw none at has))
      ]

-- a leaf of one resource has no bound of another
other_resource : (base : ℤ) (rest : ℕ) (mine other : Resource) (all ps : List Prospect) (place : ℕ) (b : ℤ) → ((p q : ℕ) → leaf_of other p ≢ leaf_of mine q)
    → HasBound (resource_bounds base rest other all ps) (leaf_of mine place) b → ⊥
other_resource base rest mine other all [] place b apart has = has
other_resource base rest mine other all (p ∷ ps) place b apart has =
    elim (cases_Bool (nat_lt 0 p.worth && nat_lt 0 (takes_of other p))) [
      | inl bounded ↦ elim (rw bounded at has) [
        | inl here ↦ apart p.place place here.0
        | inr there ↦ other_resource base rest mine other all ps place b apart there
      ]
      | inr none ↦ other_resource base rest mine other all ps place b apart (rw none at has)
    ]

pub of_money : (base : ℤ) (budget credits courses : ℕ) (ps : List Prospect) (place : ℕ) (result : ℤ)
    → ((b : ℤ) → HasBound (resource_bounds base budget Money ps ps) (Budget place) b → HasBound (resource_bounds base budget Money ps ps) (Budget place) result)
    → (b : ℤ) → HasBound (all_bounds base budget credits courses ps) (Budget place) b
    → HasBound (all_bounds base budget credits courses ps) (Budget place) result
of_money base budget credits courses ps place result own b (inl plain) = absurd (cc plain.0)
of_money base budget credits courses ps place result own b (inr has) =
    inr (has-append_left (resource_bounds base budget Money ps ps) _ (Budget place) result (own b (elim (has-append_cases (resource_bounds base budget Money ps ps) _ (Budget place) b has) [
      | inl mine ↦ mine
      | inr others ↦ elim (has-append_cases (resource_bounds base credits resources.Credits ps ps) _ (Budget place) b others) [
        | inl credits_ ↦ absurd (other_resource base credits Money resources.Credits ps ps place b (λ p q e. cc e) credits_)
        | inr count ↦ absurd (other_resource base courses Money Count ps ps place b (λ p q e. cc e) count)
      ]
    ])))

pub of_credits : (base : ℤ) (budget credits courses : ℕ) (ps : List Prospect) (place : ℕ) (result : ℤ)
    →
    ((b : ℤ) → HasBound (resource_bounds base credits resources.Credits ps ps) (Credits place) b
    → HasBound (resource_bounds base credits resources.Credits ps ps) (Credits place) result)
    → (b : ℤ) → HasBound (all_bounds base budget credits courses ps) (Credits place) b
    → HasBound (all_bounds base budget credits courses ps) (Credits place) result
of_credits base budget credits courses ps place result own b (inl plain) = absurd (cc plain.0)
of_credits base budget credits courses ps place result own b (inr has) =
    inr (has-append_right (resource_bounds base budget Money ps ps) _ (Credits place) result (has-append_left (resource_bounds base credits resources.Credits ps ps) _ (Credits place) result (own b (elim (has-append_cases (resource_bounds base budget Money ps ps) _ (Credits place) b has) [
      | inl money ↦ absurd (other_resource base budget resources.Credits Money ps ps place b (λ p q e. cc e) money)
      | inr others ↦ elim (has-append_cases (resource_bounds base credits resources.Credits ps ps) _ (Credits place) b others) [
        | inl mine ↦ mine
        | inr count ↦ absurd (other_resource base courses resources.Credits Count ps ps place b (λ p q e. cc e) count)
      ]
    ]))))

pub of_count : (base : ℤ) (budget credits courses : ℕ) (ps : List Prospect) (place : ℕ) (result : ℤ)
    →
    ((b : ℤ) → HasBound (resource_bounds base courses Count ps ps) (Number place) b → HasBound (resource_bounds base courses Count ps ps) (Number place) result)
    → (b : ℤ) → HasBound (all_bounds base budget credits courses ps) (Number place) b
    → HasBound (all_bounds base budget credits courses ps) (Number place) result
of_count base budget credits courses ps place result own b (inl plain) = absurd (cc plain.0)
of_count base budget credits courses ps place result own b (inr has) =
    inr (has-append_right (resource_bounds base budget Money ps ps) _ (Number place) result (has-append_right (resource_bounds base credits resources.Credits ps ps) _ (Number place) result (own b (elim (has-append_cases (resource_bounds base budget Money ps ps) _ (Number place) b has) [
      | inl money ↦ absurd (other_resource base budget Count Money ps ps place b (λ p q e. cc e) money)
      | inr others ↦ elim (has-append_cases (resource_bounds base credits resources.Credits ps ps) _ (Number place) b others) [
        | inl credits_ ↦ absurd (other_resource base credits Count resources.Credits ps ps place b (λ p q e. cc e) credits_)
        | inr mine ↦ mine
      ]
    ]))))
