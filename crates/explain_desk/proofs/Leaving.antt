-- Which reasons leave a bundle with the section.
use Rattle.std.proofs.Common.{ℕ, ◌≡◌, ◌≢◌, ◌<◌, Bool, true, false, true≢false, List, [], ◌∷◌, refl, ap, sym, subst, arith, inl, inr, ◌∙◌, length}
use Rattle.std.proofs.lemmas.Bool.{cases_lt}
use Rattle.market_units.specs.Totals.{total}
use Rattle.bundle_rules.specs.Demand.{IsChoice}
use Rattle.bundle_rules.specs.Given.{SomeHas}
use Rattle.bundle_rules.specs.Menus.{MenuData, wishes_of}
use Rattle.market_units.specs.Members.{has}
use Rattle.bundle_rules.specs.Wishes.{Wishes, IsFeasible}
use Rattle.bundle_rules.specs.Existence.Members.{has-cases, has-here}
use Rattle.bundle_rules.proofs.GivenBest.{best_with_a_section}
use Rattle.explain_desk.specs.declared.limits.Limit.{Limit}
use Rattle.explain_desk.specs.declared.limits.Limit.TheVariants.{Price, Credits, Courses}
use Rattle.explain_desk.specs.declared.reasons.Reason.{Reason}
use Rattle.explain_desk.specs.declared.reasons.Reason.TheVariants.{Held, Unrated, Alone, Clash, Beside, Less}
use Rattle.explain_desk.specs.Limits.{Passes}
use Rattle.explain_desk.specs.Reasons.{Applies, IsReason, stage, tells_best}
use Rattle.explain_desk.specs.Laws.{ReasonsLeaveABundle}
use Rattle.explain_desk.proofs.Passing.{not_less}
use Rattle.explain_desk.proofs.Passing.{none_passed}

-- the one section of a set
only : (section s : ℕ) → has (section ∷ []) s ≡ true → section ≡ s
only section s is = elim (has-cases section [] s is) [ inl here ↦ here | inr there ↦ absurd (true≢false (sym there)) ]

-- a rated, offered section that passes no limit by itself is a choice
pub alone_choice : (w : Wishes) (price : ℕ → ℕ) (budget : ℕ) (allowed : ℕ → Bool) (section : ℕ) → allowed section ≡ true → 0 < w.rating section
    → ((limit : Limit) → ¬ Passes w price budget (section ∷ []) limit) → IsChoice w price budget allowed (section ∷ [])
alone_choice w price budget allowed section offered rated none =
    let feasible : IsFeasible w (section ∷ []) = record {
      set = (tt, tt);
      rated = λ s is. subst (λ t. 0 < w.rating t) (only section s is) rated;
      apart = λ s t is so other. absurd (other (sym (only section s is) ∙ only section t so));
      credits = not_less w.credit_cap (total w.credits (section ∷ [])) (none Credits);
      courses = not_less w.course_cap (length (section ∷ [])) (none Courses);
    } in record {
      feasible = feasible;
      affordable = not_less budget (total price (section ∷ [])) (none Price);
      within = λ s is. ap allowed (sym (only section s is)) ∙ offered;
    }

-- and a choice passes none
choice_passes_none : (w : Wishes) (price : ℕ → ℕ) (budget : ℕ) (allowed : ℕ → Bool) (sections : List ℕ) → IsChoice w price budget allowed sections
    → (limit : Limit) → ¬ Passes w price budget sections limit
choice_passes_none w price budget allowed sections choice Price passes = let most = choice.affordable in absurd (omega (arith, most, passes))
choice_passes_none w price budget allowed sections choice Credits passes = let most = choice.feasible.credits in absurd (omega (arith, most, passes))
choice_passes_none w price budget allowed sections choice Courses passes = let most = choice.feasible.courses in absurd (omega (arith, most, passes))

-- the reasons that leave a bundle come after the others
late : (reason : Reason) → tells_best reason ≡ true → 2 < stage reason
late Held e = absurd (true≢false (sym e))
late Unrated e = absurd (true≢false (sym e))
late (Alone limit) e = absurd (true≢false (sym e))
late (Clash other) e = omega arith
late (Beside limit) e = omega arith
late Less e = omega arith

-- a number that is not 0
above_zero : (n : ℕ) → n ≢ 0 → 0 < n
above_zero n other = elim (cases_lt 0 n) [ inl above ↦ above | inr below ↦ absurd (other (omega (arith, below))) ]

-- a reason that leaves a bundle leaves the section alone
pub section_alone : (w : Wishes) (price : ℕ → ℕ) (budget : ℕ) (allowed : ℕ → Bool) (bundle : List ℕ) (section : ℕ) (reason : Reason) → allowed section ≡ true
    → IsReason w price budget bundle section reason → tells_best reason ≡ true
    → IsChoice w price budget allowed (section ∷ [])
section_alone w price budget allowed bundle section reason offered is tells =
    let after : 2 < stage reason = late reason tells in
    alone_choice w price budget allowed section offered (above_zero (w.rating section) (is.first Unrated (omega (arith, after))))
    (none_passed w price budget (section ∷ []) (λ limit. is.first (Alone limit) after))

-- where the section alone is a choice, and the bundle does not have it, the reason leaves a bundle
leaves : (w : Wishes) (price : ℕ → ℕ) (budget : ℕ) (allowed : ℕ → Bool) (bundle : List ℕ) (section : ℕ) (reason : Reason) → has bundle section ≡ false
    → Applies w price budget bundle section reason → IsChoice w price budget allowed (section ∷ [])
    → tells_best reason ≡ true
leaves w price budget allowed bundle section Held lacks applies choice = absurd (true≢false (sym applies ∙ lacks))
leaves w price budget allowed bundle section Unrated lacks applies choice =
    let rated = choice.feasible.rated section (has-here section []) in absurd (omega (arith, applies, rated))
leaves w price budget allowed bundle section (Alone limit) lacks applies choice =
    absurd (choice_passes_none w price budget allowed (section ∷ []) choice limit applies.passes)
leaves w price budget allowed bundle section (Clash other) lacks applies choice = refl
leaves w price budget allowed bundle section (Beside limit) lacks applies choice = refl
leaves w price budget allowed bundle section Less lacks applies choice = refl

-- some bundle has the section where the reason leaves one
pub some_has : (menu : MenuData) (price : ℕ → ℕ) (budget : ℕ) (allowed : ℕ → Bool) (bundle : List ℕ) (section : ℕ) (reason : Reason) → allowed section ≡ true
    → IsReason (wishes_of menu) price budget bundle section reason → tells_best reason ≡ true
    → SomeHas (wishes_of menu) price budget allowed section
some_has menu price budget allowed bundle section reason offered is tells =
    (best_with_a_section menu price budget allowed section).alone.1 (section_alone (wishes_of menu) price budget allowed bundle section reason offered is tells)

pub reasons_leave_a_bundle : ReasonsLeaveABundle
reasons_leave_a_bundle menu price budget allowed bundle section reason offered lacks is = (
  (λ some. leaves (wishes_of menu) price budget allowed bundle section reason lacks is.applies
      ((best_with_a_section menu price budget allowed section).alone.0 some)),
  (λ tells. some_has menu price budget allowed bundle section reason offered is tells),
)
