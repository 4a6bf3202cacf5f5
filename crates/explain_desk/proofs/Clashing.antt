-- The lowest section of a list that clashes with a section.
use Rattle.std.proofs.Common.{ℕ, zero, suc, ◌≡◌, ◌<◌, ◌∙◌, Bool, true, false, List, [], ◌∷◌, length, get_or, subst, arith, inl, inr}
use Rattle.std.proofs.lemmas.Bool.{false≢true}
use Rattle.market_units.specs.declared.units.SectionNo.{SectionNo}
use Rattle.bundle_rules.specs.Menus.{MenuData, clash_in, place_in, wishes_of}
use Rattle.bundle_rules.specs.Ordinals.{ordinals}
use Rattle.market_units.specs.Members.{has}
use Rattle.bundle_rules.specs.Sets.{IsAscending}
use Rattle.bundle_rules.specs.Wishes.{Wishes}
use Rattle.bundle_rules.specs.Existence.Members.{has-above, has-cases, has-here, has-there}
use Rattle.explain_desk.specs.Reasons.{ClashesFirst}

-- none of these sections clashes with the section
abbrev pub NoneClashes : Wishes → List ℕ → ℕ → Type 0
NoneClashes w sections section = (other : ℕ) → has sections other ≡ true → w.clash other section ≡ false

module _ (w : Wishes) (x : ℕ) (xs : List ℕ) (section : ℕ) where
  first_here : IsAscending (x ∷ xs) → w.clash x section ≡ true → ClashesFirst w (x ∷ xs) section x
  first_here up clashes = record {
    member = has-here x xs;
    clashes = clashes;
    lowest = λ lower low is. elim (has-cases x xs lower is) [
      | inl here ↦ absurd (omega (arith, here, low))
      | inr there ↦ let above : x < lower = has-above x xs lower up.0 there in absurd (omega (arith, above, low))
    ];
  }

  first_later : (other : ℕ) → w.clash x section ≡ false → ClashesFirst w xs section other → ClashesFirst w (x ∷ xs) section other
  first_later other apart later = record {
    member = has-there x xs other later.member;
    clashes = later.clashes;
    lowest =
        λ lower low is. elim (has-cases x xs lower is)
        [ inl here ↦ subst (λ s. w.clash s section ≡ false) here apart | inr there ↦ later.lowest lower low there ];
  }

  none_more : w.clash x section ≡ false → NoneClashes w xs section → NoneClashes w (x ∷ xs) section
  none_more apart none other is = elim (has-cases x xs other is) [ inl here ↦ subst (λ s. w.clash s section ≡ false) here apart | inr there ↦ none other there ]

-- the section at a number of an ascending list, which clashes where none before it does
pub clash_at : (w : Wishes) (xs : List SectionNo) (d : SectionNo) (section i : ℕ) → i < length xs → IsAscending (ordinals xs)
    → ((k : ℕ) → k < i → w.clash (get_or xs k d).0 section ≡ false) → w.clash (get_or xs i d).0 section ≡ true
    → ClashesFirst w (ordinals xs) section (get_or xs i d).0
clash_at w [] d section i low up each clashes = absurd (omega (arith, low))
clash_at w (x ∷ xs) d section zero low up each clashes = first_here w x.0 (ordinals xs) section up clashes
clash_at w (x ∷ xs) d section (suc i) low up each clashes =
    first_later w x.0 (ordinals xs) section (get_or xs i d).0 (each 0 (let g : 0 < suc i = omega arith in g))
    (clash_at w xs d section i (omega (arith, low)) up.1 (λ k below. each (suc k) (let g : suc k < suc i = omega (arith, below) in g)) clashes)

-- where none of a list clashes
pub none_at : (w : Wishes) (xs : List SectionNo) (d : SectionNo) (section : ℕ)
    → ((k : ℕ) → k < length xs → w.clash (get_or xs k d).0 section ≡ false) → NoneClashes w (ordinals xs) section
none_at w [] d section each = λ other is. absurd (false≢true is)
none_at w (x ∷ xs) d section each =
    none_more w x.0 (ordinals xs) section (each 0 (let g : 0 < suc (length xs) = omega arith in g))
    (none_at w xs d section (λ k low. each (suc k) (let g : suc k < suc (length xs) = omega (arith, low) in g)))

-- whether two sections clash, by their places on the menu
pub clash_told : (menu : MenuData) (one other i j : ℕ) (told : Bool) → i ≡ place_in menu.places one → j ≡ place_in menu.places other
    → told ≡ clash_in menu.clashes i j → told ≡ (wishes_of menu).clash one other
unfolding wishes_of
clash_told menu one other i j told first second is = is ∙ (λ k. clash_in menu.clashes (first k) (second k))
