-- What is remembered of a student, where a single section became cheaper.
use Rattle.std.proofs.Common.{ℕ, suc, Bool, All, ◌≡◌, ◌≢◌, ◌<◌, ◌≤◌, ◌+◌, ◌∙◌, List, length, slice_index_or, ap, sym, subst, true≢false, arith, inl, inr}
use Rattle.std.specs.Prelude.{nat_lt}
use Rattle.std.proofs.lemmas.Bool.{cases_order}
use Rattle.market_units.specs.declared.units.Tokens.{Tokens}
use Rattle.market_units.specs.Totals.{total}
use Rattle.bundle_rules.specs.declared.menu.Rated.{Rated}
use Rattle.market_units.specs.Members.{has}
use Rattle.bundle_rules.specs.Demand.{price_in, IsBest}
use Rattle.bundle_rules.specs.Menus.{MenuData, wishes_of}
use Rattle.bundle_rules.specs.Wishes.{Wishes}
use Rattle.bundle_rules.proofs.BestValue.{best-is}
use Rattle.demand_api.specs.declared.crowd.Crowd.{Crowd}
use Rattle.demand_api.specs.Crowds.{demand, demand_of}
use Rattle.demand_api.specs.Views.{data_of}
use Rattle.demand_api.proofs.Keeping.{total_has_le}
use Rattle.demand_api.proofs.Takers.{demand_at}
use Rattle.demand_oracle.specs.Beside.{LeadsThoseWithout}
use Rattle.demand_workers.specs.Remembered.{FellWithin}
use Rattle.demand_workers.proofs.Recalling.{rated_no_cheaper}

-- the best bundle before a section alone became cheaper is preferred to all without it, where it is still affordable
leads_where_cheaper : (wishes : Wishes) (before after : ℕ → ℕ) (budget : ℕ) (fewer allowed : ℕ → Bool) (section : ℕ) (bundle : List ℕ)
    → ((s : ℕ) → allowed s ≡ fewer s) → ((s : ℕ) → 0 < wishes.rating s → s ≢ section → before s ≤ after s)
    → IsBest wishes before budget fewer bundle → total after bundle ≤ budget → LeadsThoseWithout wishes after budget allowed section bundle
leads_where_cheaper wishes before after budget fewer allowed section bundle same dearer best affordable = record {
  choice = record { feasible = best.choice.feasible; affordable = affordable; within = λ s is. same s ∙ best.choice.within s is };
  preferred = λ other choice lacks apart.
      let less : total before other ≤ total after other =
      total_has_le before after other (λ s is. dearer s (choice.feasible.rated s is) (λ e. true≢false (sym is ∙ ap (has other) e ∙ lacks))) in
      let cost : total after other ≤ budget = choice.affordable in
      best.preferred other (record { feasible = choice.feasible; affordable = omega arith; within = λ s is. sym (same s) ∙ choice.within s is }) apart;
}

-- no rated section but that one became cheaper
pub dearer_but : (menu : MenuData) (sections first past section : ℕ) (before after : List Tokens)
    → All (λ (rated : Rated). rated.section.0 < sections) menu.places → length before ≡ sections → length after ≡ sections → FellWithin first past before after
    → section ≡ first → past ≡ first + 1 → (s : ℕ) → 0 < (wishes_of menu).rating s → s ≢ section → price_in before s ≤ price_in after s
unfolding wishes_of
dearer_but menu sections first past section before after below same same' within its one s rated other =
    let low : suc s ≤ sections = rated_no_cheaper menu.places (λ t. suc t) (λ t. sections) below s rated in
    elim (cases_order s first) [
      | inl at ↦ absurd (other (at ∙ sym its))
      | inr (inl less) ↦ within.below s (omega arith) (omega arith) less
      | inr (inr more) ↦ within.above s (omega arith) (omega arith) (omega arith)
    ]

-- so it is with what a student took
pub leads_demand : (crowd : Crowd) (before after : ℕ → ℕ) (i : ℕ) (menu : MenuData) (budget : Tokens) (allowed : ℕ → Bool) (section : ℕ) (bundle : List ℕ)
    → i < length crowd.menus.items → menu ≡ slice_index_or crowd.menus.items i menu → budget ≡ slice_index_or crowd.budgets.items i budget
    → ((s : ℕ) → allowed s ≡ nat_lt s crowd.sections)
    → ((s : ℕ) → 0 < (wishes_of menu).rating s → s ≢ section → before s ≤ after s) → total after bundle ≤ budget.0
    → bundle ≡ demand_of (data_of crowd) before i → LeadsThoseWithout (wishes_of menu) after budget.0 allowed section bundle
leads_demand crowd before after i menu budget allowed section bundle low is has_it allows dearer affordable told =
    let within : ℕ → Bool = λ t. nat_lt t crowd.sections in
    let was : bundle ≡ demand crowd.sections before (record { menu = menu; budget = budget.0 }) =
    told ∙ rw (← is, ← has_it) at (demand_at crowd before i menu budget low) in
    leads_where_cheaper (wishes_of menu) before after budget.0 within allowed section bundle allows dearer
    (subst (IsBest (wishes_of menu) before budget.0 within) (sym was) (best-is menu before budget.0 within)) affordable
