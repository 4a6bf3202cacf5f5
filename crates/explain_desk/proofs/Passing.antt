-- Limits that are passed, and the first of them.
use Rattle.std.proofs.Common.{ℕ, ◌≡◌, ◌<◌, ◌≤◌, ◌+◌, ◌++◌, ◌∙◌, List, [], ◌∷◌, Some, length, take, get_or, ap, sym, refl, arith, inl, inr}
use Rattle.std.specs.Prelude.{slice_get}
use Rattle.std.proofs.lemmas.Bool.{cases_lt}
use Rattle.std.proofs.lemmas.List.{map_more}
use Rattle.market_units.specs.Totals.{total}
use Rattle.market_units.specs.declared.units.SectionNo.{SectionNo}
use Rattle.market_units.specs.declared.units.Tokens.{Tokens}
use Rattle.market_units.proofs.Sums.{total-append}
use Rattle.bundle_rules.specs.declared.menu.Rated.{Rated}
use Rattle.bundle_rules.specs.Demand.{price_in}
use Rattle.bundle_rules.specs.Menus.{MenuData, credits_at, place_in, section_at, wishes_of}
use Rattle.bundle_rules.specs.Ordinals.{ordinals}
use Rattle.bundle_rules.specs.Existence.Places.{credits_at-is, section_at-place_in}
use Rattle.bundle_rules.specs.Wishes.{Wishes}
use Rattle.explain_desk.specs.declared.limits.Limit.{Limit}
use Rattle.explain_desk.specs.declared.limits.Limit.TheVariants.{Price, Credits, Courses}
use Rattle.explain_desk.specs.Limits.{Passes, PassesFirst, rank}

-- what is not less
pub not_less : (a b : ℕ) → ¬ (a < b) → b ≤ a
not_less a b refused = elim (cases_lt a b) [ inl less ↦ absurd (refused less) | inr more ↦ more ]

-- what holds of each earlier limit
pub before_price : (P : Limit → Type 0) → (earlier : Limit) → rank earlier < 0 → P earlier
before_price P earlier low = absurd (omega (arith, low))

pub before_credits : (P : Limit → Type 0) → P Price → (earlier : Limit) → rank earlier < 1 → P earlier
before_credits P price Price low = price
before_credits P price Credits low = absurd (omega (arith, low))
before_credits P price Courses low = absurd (omega (arith, low))

pub before_courses : (P : Limit → Type 0) → P Price → P Credits → (earlier : Limit) → rank earlier < 2 → P earlier
before_courses P price credits Price low = price
before_courses P price credits Credits low = credits
before_courses P price credits Courses low = absurd (omega (arith, low))

module _ (w : Wishes) (price : ℕ → ℕ) (budget : ℕ) (sections : List ℕ) where
  -- each limit as the first that is passed
  pub first_price : Passes w price budget sections Price → PassesFirst w price budget sections Price
  first_price passes = record { passes = passes; first = before_price (λ limit. ¬ Passes w price budget sections limit) }

  pub first_credits : ¬ Passes w price budget sections Price → Passes w price budget sections Credits → PassesFirst w price budget sections Credits
  first_credits no_price passes = record { passes = passes; first = before_credits (λ limit. ¬ Passes w price budget sections limit) no_price }

  pub first_courses : ¬ Passes w price budget sections Price → ¬ Passes w price budget sections Credits → Passes w price budget sections Courses
      → PassesFirst w price budget sections Courses
  first_courses no_price no_credits passes =
      record { passes = passes; first = before_courses (λ limit. ¬ Passes w price budget sections limit) no_price no_credits }

  -- all three, none of which is passed
  pub passes_none : ¬ Passes w price budget sections Price → ¬ Passes w price budget sections Credits → ¬ Passes w price budget sections Courses
      → (limit : Limit) → ¬ Passes w price budget sections limit
  passes_none no_price no_credits no_courses Price = no_price
  passes_none no_price no_credits no_courses Credits = no_credits
  passes_none no_price no_credits no_courses Courses = no_courses

  -- where no limit is the first, none is passed
  pub none_passed : ((limit : Limit) → ¬ PassesFirst w price budget sections limit) → (limit : Limit) → ¬ Passes w price budget sections limit
  none_passed none =
      let no_price : ¬ Passes w price budget sections Price = λ passes. none Price (first_price passes) in
      let no_credits : ¬ Passes w price budget sections Credits = λ passes. none Credits (first_credits no_price passes) in
      let no_courses : ¬ Passes w price budget sections Courses = λ passes. none Courses (first_courses no_price no_credits passes) in
      passes_none no_price no_credits no_courses

  -- one limit is the first
  pub first_once : (a b : Limit) → PassesFirst w price budget sections a → PassesFirst w price budget sections b → a ≡ b
  first_once Price Price one other = refl
  first_once Price Credits one other = absurd (other.first Price (omega arith) one.passes)
  first_once Price Courses one other = absurd (other.first Price (omega arith) one.passes)
  first_once Credits Price one other = absurd (one.first Price (omega arith) other.passes)
  first_once Credits Credits one other = refl
  first_once Credits Courses one other = absurd (other.first Credits (omega arith) one.passes)
  first_once Courses Price one other = absurd (one.first Price (omega arith) other.passes)
  first_once Courses Credits one other = absurd (one.first Credits (omega arith) other.passes)
  first_once Courses Courses one other = refl

-- the sums of one section and those of a bundle against each limit
module _ (w : Wishes) (price : ℕ → ℕ) (budget section : ℕ) (bundle : List ℕ) where
  pub over_price : (one more : ℕ) → one ≡ price section → more ≡ total price bundle → budget < one + more → Passes w price budget (section ∷ bundle) Price
  over_price one more is are over = omega (arith, is, are, over)

  pub within_price : (one more : ℕ) → one ≡ price section → more ≡ total price bundle → one + more ≤ budget → ¬ Passes w price budget (section ∷ bundle) Price
  within_price one more is are within passes = let over : budget < price section + total price bundle = passes in omega (arith, is, are, within, over)

  pub over_credits : (one more cap : ℕ) → cap ≡ w.credit_cap → one ≡ w.credits section → more ≡ total w.credits bundle → cap < one + more
      → Passes w price budget (section ∷ bundle) Credits
  over_credits one more cap limit is are over = omega (arith, limit, is, are, over)

  pub within_credits : (one more cap : ℕ) → cap ≡ w.credit_cap → one ≡ w.credits section → more ≡ total w.credits bundle → one + more ≤ cap
      → ¬ Passes w price budget (section ∷ bundle) Credits
  within_credits one more cap limit is are within passes =
      let over : w.credit_cap < w.credits section + total w.credits bundle = passes in omega (arith, limit, is, are, within, over)

  pub over_courses : (count cap : ℕ) → cap ≡ w.course_cap → count ≡ length bundle → cap ≤ count → Passes w price budget (section ∷ bundle) Courses
  over_courses count cap limit are over = omega (arith, limit, are, over)

  pub within_courses : (count cap : ℕ) → cap ≡ w.course_cap → count ≡ length bundle → count < cap → ¬ Passes w price budget (section ∷ bundle) Courses
  within_courses count cap limit are within passes = let over : w.course_cap < length (section ∷ bundle) = passes in omega (arith, limit, are, within, over)

-- the caps of a menu
pub credit_cap_is : (menu : MenuData) → menu.credits ≡ (wishes_of menu).credit_cap
unfolding wishes_of
credit_cap_is menu = refl

pub course_cap_is : (menu : MenuData) → menu.courses ≡ (wishes_of menu).course_cap
unfolding wishes_of
course_cap_is menu = refl

-- the price and the credits of a section, as they are read at its place
pub price_told : (menu : MenuData) (prices : List Tokens) (section place price : ℕ) → price ≡ price_in prices (section_at menu.places place)
    → place ≡ place_in menu.places section → place_in menu.places section < length menu.places → price ≡ price_in prices section
price_told menu prices section place price told is low =
    told ∙ ap (λ k. price_in prices (section_at menu.places k)) is ∙ ap (price_in prices) (section_at-place_in menu.places section low)

pub credits_told : (menu : MenuData) (section place credits : ℕ) (rated : Rated) → credits ≡ rated.credits → slice_get menu.places place ≡ Some rated
    → place ≡ place_in menu.places section → credits ≡ (wishes_of menu).credits section
unfolding wishes_of
credits_told menu section place credits rated told at is =
    told ∙ sym (credits_at-is menu.places place rated at) ∙ ap (credits_at menu.places) is

-- one section more in a sum
pub sum_more : (f : ℕ → ℕ) (xs : List SectionNo) (i : ℕ) (d : SectionNo) (n : ℕ) → i < length xs → n ≡ f (get_or xs i d).0
    → total f (ordinals (take i xs)) + n ≡ total f (ordinals (take (i + 1) xs))
sum_more f xs i d n low is =
    let all = total-append f (ordinals (take i xs)) ((get_or xs i d).0 ∷ []) in
    let whole : total f (ordinals (take (i + 1) xs)) ≡ total f (ordinals (take i xs) ++ (get_or xs i d).0 ∷ []) =
    ap (total f) (map_more (λ (section : SectionNo). section.0) xs i d low) in
    omega (arith, all, whole, is)
