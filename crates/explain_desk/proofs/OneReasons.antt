-- A student has one reason.
use Rattle.std.proofs.Common.{ℕ, ◌≡◌, true≢false, List, [], ◌∷◌, refl, ap, sym, arith, inl, inr, ◌∙◌}
use Rattle.std.proofs.lemmas.Bool.{cases_order}
use Rattle.market_units.specs.declared.units.SectionNo.{SectionNo}
use Rattle.bundle_rules.specs.Wishes.{Wishes}
use Rattle.explain_desk.specs.declared.reasons.Reason.{Reason}
use Rattle.explain_desk.specs.declared.reasons.Reason.TheVariants.{Held, Unrated, Alone, Clash, Beside, Less}
use Rattle.explain_desk.specs.Reasons.{Applies, ClashesFirst, IsReason, stage}
use Rattle.explain_desk.specs.Laws.{OneReason}
use Rattle.explain_desk.proofs.Passing.{first_once}

module _ (w : Wishes) (price : ℕ → ℕ) (budget : ℕ) (bundle : List ℕ) (section : ℕ) where
  -- one section is the lowest that clashes
  clash_once : (a b : SectionNo) → ClashesFirst w bundle section a.0 → ClashesFirst w bundle section b.0 → a ≡ b
  clash_once a b one other = elim (cases_order a.0 b.0) [
    | inl same ↦ ap (λ n. record { 0 = n }) same
    | inr (inl below) ↦ absurd (true≢false (sym one.clashes ∙ other.lowest a.0 below one.member))
    | inr (inr above) ↦ absurd (true≢false (sym other.clashes ∙ one.lowest b.0 above other.member))
  ]

  -- of one stage there is one reason
  same_stage : (a b : Reason) → stage a ≡ stage b → Applies w price budget bundle section a → Applies w price budget bundle section b → a ≡ b
  same_stage Held Held e is so = refl
  same_stage Held Unrated e is so = absurd (omega (arith, e))
  same_stage Held (Alone limit') e is so = absurd (omega (arith, e))
  same_stage Held (Clash other') e is so = absurd (omega (arith, e))
  same_stage Held (Beside limit') e is so = absurd (omega (arith, e))
  same_stage Held Less e is so = absurd (omega (arith, e))
  same_stage Unrated Held e is so = absurd (omega (arith, e))
  same_stage Unrated Unrated e is so = refl
  same_stage Unrated (Alone limit') e is so = absurd (omega (arith, e))
  same_stage Unrated (Clash other') e is so = absurd (omega (arith, e))
  same_stage Unrated (Beside limit') e is so = absurd (omega (arith, e))
  same_stage Unrated Less e is so = absurd (omega (arith, e))
  same_stage (Alone limit) Held e is so = absurd (omega (arith, e))
  same_stage (Alone limit) Unrated e is so = absurd (omega (arith, e))
  same_stage (Alone limit) (Alone limit') e is so = ap (λ l. Alone l) (first_once w price budget (section ∷ []) limit limit' is so)
  same_stage (Alone limit) (Clash other') e is so = absurd (omega (arith, e))
  same_stage (Alone limit) (Beside limit') e is so = absurd (omega (arith, e))
  same_stage (Alone limit) Less e is so = absurd (omega (arith, e))
  same_stage (Clash other) Held e is so = absurd (omega (arith, e))
  same_stage (Clash other) Unrated e is so = absurd (omega (arith, e))
  same_stage (Clash other) (Alone limit') e is so = absurd (omega (arith, e))
  same_stage (Clash other) (Clash other') e is so = ap (λ s. Clash s) (clash_once other other' is so)
  same_stage (Clash other) (Beside limit') e is so = absurd (omega (arith, e))
  same_stage (Clash other) Less e is so = absurd (omega (arith, e))
  same_stage (Beside limit) Held e is so = absurd (omega (arith, e))
  same_stage (Beside limit) Unrated e is so = absurd (omega (arith, e))
  same_stage (Beside limit) (Alone limit') e is so = absurd (omega (arith, e))
  same_stage (Beside limit) (Clash other') e is so = absurd (omega (arith, e))
  same_stage (Beside limit) (Beside limit') e is so = ap (λ l. Beside l) (first_once w price budget (section ∷ bundle) limit limit' is so)
  same_stage (Beside limit) Less e is so = absurd (omega (arith, e))
  same_stage Less Held e is so = absurd (omega (arith, e))
  same_stage Less Unrated e is so = absurd (omega (arith, e))
  same_stage Less (Alone limit') e is so = absurd (omega (arith, e))
  same_stage Less (Clash other') e is so = absurd (omega (arith, e))
  same_stage Less (Beside limit') e is so = absurd (omega (arith, e))
  same_stage Less Less e is so = refl

  pub reason_once : (a b : Reason) → IsReason w price budget bundle section a → IsReason w price budget bundle section b → a ≡ b
  reason_once a b one other = elim (cases_order (stage a) (stage b)) [
    | inl same ↦ same_stage a b same one.applies other.applies
    | inr (inl below) ↦ absurd (other.first a below one.applies)
    | inr (inr above) ↦ absurd (one.first b above other.applies)
  ]

pub one_reason : OneReason
one_reason w price budget bundle section a b one other = reason_once w price budget bundle section a b one other
