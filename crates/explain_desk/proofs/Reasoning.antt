-- The first reason that applies.
use Rattle.std.proofs.Common.{ℕ, ◌≡◌, ◌<◌, ◌≤◌, false, true≢false, List, [], ◌∷◌, length, sym, arith, ◌∙◌}
use Rattle.bundle_rules.specs.Menus.{IsMenu, MenuData, place_in, wishes_of}
use Rattle.market_units.specs.Members.{has}
use Rattle.bundle_rules.specs.Wishes.{Wishes}
use Rattle.bundle_rules.specs.Existence.Places.{on_menu_rated, rating_at-past}
use Rattle.explain_desk.specs.declared.limits.Limit.{Limit}
use Rattle.explain_desk.specs.declared.reasons.Reason.{Reason}
use Rattle.explain_desk.specs.declared.reasons.Reason.TheVariants.{Held, Unrated, Alone, Clash, Beside, Less}
use Rattle.explain_desk.specs.Limits.{Passes, PassesFirst}
use Rattle.explain_desk.specs.Reasons.{Applies, IsReason, stage}
use Rattle.explain_desk.proofs.Clashing.{NoneClashes}

-- what is on the menu is rated, and nothing else
pub rated_place : (menu : MenuData) (section : ℕ) → IsMenu menu → place_in menu.places section < length menu.places → 0 < (wishes_of menu).rating section
unfolding wishes_of
rated_place menu section is low = on_menu_rated menu.places (place_in menu.places section) is.places.each low

pub unrated_place : (menu : MenuData) (section : ℕ) → length menu.places ≤ place_in menu.places section → (wishes_of menu).rating section ≡ 0
unfolding wishes_of
unrated_place menu section past = rating_at-past menu.places (place_in menu.places section) past

module _ (w : Wishes) (price : ℕ → ℕ) (budget : ℕ) (bundle : List ℕ) (section : ℕ) where
  -- no reason of a stage below this number applies
  none_before : (n : ℕ) → n ≤ 5 → (0 < n → has bundle section ≡ false) → (1 < n → 0 < w.rating section)
      → (2 < n → (limit : Limit) → ¬ Passes w price budget (section ∷ []) limit) → (3 < n → NoneClashes w bundle section)
      → (4 < n → (limit : Limit) → ¬ Passes w price budget (section ∷ bundle) limit) → (earlier : Reason) → stage earlier < n
      → ¬ Applies w price budget bundle section earlier
  none_before n most lacks rated alone apart beside Held low applies = true≢false (sym applies ∙ lacks low)
  none_before n most lacks rated alone apart beside Unrated low applies = let above = rated low in omega (arith, above, applies)
  none_before n most lacks rated alone apart beside (Alone limit) low applies = alone low limit applies.passes
  none_before n most lacks rated alone apart beside (Clash other) low applies = true≢false (sym applies.clashes ∙ apart low other.0 applies.member)
  none_before n most lacks rated alone apart beside (Beside limit) low applies = beside low limit applies.passes
  none_before n most lacks rated alone apart beside Less low applies = omega (arith, low, most)

  pub unrated_reason : has bundle section ≡ false → w.rating section ≡ 0 → IsReason w price budget bundle section Unrated
  unrated_reason lacks unrated = record {
    applies = unrated;
    first =
        none_before 1 (omega arith) (λ h. lacks) (λ h. absurd (omega (arith, h))) (λ h. absurd (omega (arith, h))) (λ h. absurd (omega (arith, h)))
        (λ h. absurd (omega (arith, h)));
  }

  pub alone_reason : (limit : Limit) → has bundle section ≡ false → 0 < w.rating section → PassesFirst w price budget (section ∷ []) limit
      → IsReason w price budget bundle section (Alone limit)
  alone_reason limit lacks rated passes = record {
    applies = passes;
    first =
        none_before 2 (omega arith) (λ h. lacks) (λ h. rated) (λ h. absurd (omega (arith, h))) (λ h. absurd (omega (arith, h)))
        (λ h. absurd (omega (arith, h)));
  }

  module _ (lacks : has bundle section ≡ false) (rated : 0 < w.rating section) (alone : (limit : Limit) → ¬ Passes w price budget (section ∷ []) limit) where
    pub clash_reason : (reason : Reason) → stage reason ≡ 3 → Applies w price budget bundle section reason → IsReason w price budget bundle section reason
    clash_reason reason third applies = record {
      applies = applies;
      first =
          λ earlier low. none_before 3 (omega arith) (λ h. lacks) (λ h. rated) (λ h. alone) (λ h. absurd (omega (arith, h))) (λ h. absurd (omega (arith, h)))
          earlier (omega (arith, low, third));
    }

    pub beside_reason : (limit : Limit) → NoneClashes w bundle section → PassesFirst w price budget (section ∷ bundle) limit
        → IsReason w price budget bundle section (Beside limit)
    beside_reason limit apart passes = record {
      applies = passes;
      first = none_before 4 (omega arith) (λ h. lacks) (λ h. rated) (λ h. alone) (λ h. apart) (λ h. absurd (omega (arith, h)));
    }

    pub less_reason : NoneClashes w bundle section → ((limit : Limit) → ¬ Passes w price budget (section ∷ bundle) limit)
        → IsReason w price budget bundle section Less
    less_reason apart beside = record { applies = tt; first = none_before 5 (omega arith) (λ h. lacks) (λ h. rated) (λ h. alone) (λ h. apart) (λ h. beside) }
