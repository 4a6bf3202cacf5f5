use Rattle.std.proofs.Common.{◌∙◌, ◌-◌, ℕ, List, length, get_or, take, drop, true≢false, rules, sym, subst}
use Rattle.std.specs.Prelude.{true}
use Rattle.bundle_rules.specs.Bundles.{sections_of}
use Rattle.bundle_rules.specs.Menus.{wishes_of}
use Rattle.bundle_rules.specs.Ordinals.{ordinals}
use Rattle.bundle_rules.specs.Wishes.{IsFeasible}
use Rattle.bundle_rules.specs.Existence.Extending.{nothing_later, best_with, best_not_with, best_without}
use Rattle.fairness_audit.specs.Searching.{IsBestOfThese}
use Rattle.fairness_audit.proofs.Seeing.{none, ascending_rest, ascending_first, first_later, later_split, no_later, free_choice, few_left}
use Rattle.fairness_audit.proofs.sight.+best_from.Goals as goal

pub best_from-without-requires : goal.best_from-without-requires
best_from-without-requires t c = (
  search rules,
  (
    c.requires.chosen,
    (
      few_left (length (sections_of c.args.chosen)) c.args.later.now c.requires.few,
      ascending_rest (sections_of c.args.chosen) c.args.later.now c.in-len1-up.len_at_least c.requires.later,
    ),
  ),
)

pub with-wider-requires-clause-above : goal.with-wider-requires-clause-above
with-wider-requires-clause-above t c = ascending_first (sections_of c.args.chosen) c.args.later.now c.in-len1-up.len_at_least c.requires.later

pub returns-in-empty : goal.returns-in-empty
returns-in-empty t c =
    subst (λ later. IsBestOfThese (wishes_of c.args.menu.now) (sections_of c.args.chosen) later (sections_of c.args.chosen))
    (sym (no_later c.args.later.now c.in-empty.len_below))
    (nothing_later (wishes_of c.args.menu.now) (λ s. 0) 0 (λ s. true) (sections_of c.args.chosen)
    (free_choice (wishes_of c.args.menu.now) (sections_of c.args.chosen) c.requires.chosen))

pub returns-then-prefers : goal.returns-then-prefers
returns-then-prefers t c =
    let some = c.in-len1-up.len_at_least in
    let front : List ℕ = sections_of c.args.chosen in
    let rest : List ℕ = ordinals (take (length c.args.later.now - 1) (drop 1 c.args.later.now)) in
    subst (λ later. IsBestOfThese (wishes_of c.args.menu.now) front later (sections_of c.best_from-with_it.result))
    (sym (later_split front c.args.later.now some c.requires.later))
    (best_with (wishes_of c.args.menu.now) (λ s. 0) 0 (λ s. true) front (get_or c.args.later.now 0 none).0 rest (sections_of c.best_from-with_it.result) (sections_of c.best_from-without.result)
    (first_later front c.args.later.now some c.requires.later)
    (subst (λ wider. IsBestOfThese (wishes_of c.args.menu.now) wider rest (sections_of c.best_from-with_it.result)) c.with-wider.ensures
    c.best_from-with_it.ensures) c.best_from-without.ensures (c.prefers.ensures.0 c.if-prefers.true))

pub returns-else-prefers : goal.returns-else-prefers
returns-else-prefers t c =
    let some = c.in-len1-up.len_at_least in
    let front : List ℕ = sections_of c.args.chosen in
    let rest : List ℕ = ordinals (take (length c.args.later.now - 1) (drop 1 c.args.later.now)) in
    subst (λ later. IsBestOfThese (wishes_of c.args.menu.now) front later (sections_of c.best_from-without.result))
    (sym (later_split front c.args.later.now some c.requires.later))
    (best_not_with (wishes_of c.args.menu.now) (λ s. 0) 0 (λ s. true) front (get_or c.args.later.now 0 none).0 rest (sections_of c.best_from-with_it.result) (sections_of c.best_from-without.result)
    (first_later front c.args.later.now some c.requires.later)
    (subst (λ wider. IsBestOfThese (wishes_of c.args.menu.now) wider rest (sections_of c.best_from-with_it.result)) c.with-wider.ensures
    c.best_from-with_it.ensures) c.best_from-without.ensures (λ more. true≢false (sym (c.prefers.ensures.1 more) ∙ c.if-prefers.false)))

pub returns-then-not-feasible : goal.returns-then-not-feasible
returns-then-not-feasible t c =
    let some = c.in-len1-up.len_at_least in
    let front : List ℕ = sections_of c.args.chosen in
    let rest : List ℕ = ordinals (take (length c.args.later.now - 1) (drop 1 c.args.later.now)) in
    subst (λ later. IsBestOfThese (wishes_of c.args.menu.now) front later (sections_of c.best_from-without.result))
    (sym (later_split front c.args.later.now some c.requires.later))
    (best_without (wishes_of c.args.menu.now) (λ s. 0) 0 (λ s. true) front (get_or c.args.later.now 0 none).0 rest (sections_of c.best_from-without.result)
    (first_later front c.args.later.now some c.requires.later)
    (λ is. true≢false (sym (c.feasible.ensures.1 (subst (IsFeasible (wishes_of c.args.menu.now)) (sym c.with-wider.ensures) is.feasible)) ∙ c.if-not-feasible.true))
    c.best_from-without.ensures)
