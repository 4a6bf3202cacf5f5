use Rattle.std.proofs.Common.{◌≡◌, ◌∙◌, ℕ, List, length, get_or, take, drop, ◌-◌, true≢false, rules, ◌≤◌, arith, ap, sym, subst}
use Rattle.std.proofs.lemmas.List.{length-map}
use Rattle.std.specs.FinSet as set
use Rattle.bundle_rules.specs.Bundles.{sections_of}
use Rattle.bundle_rules.specs.Menus.{wishes_of}
use Rattle.bundle_rules.specs.Demand.{price_in}
use Rattle.bundle_rules.specs.Extensions.{IsBestExtension}
use Rattle.bundle_rules.proofs.Later.{no_place, sections, first_later, ascending-rest, ascending-wider, ascending-first, later_split, no_later}
use Rattle.bundle_rules.specs.Existence.Extending.{nothing_fits, nothing_later, best_with, best_not_with, best_without}
use Rattle.bundle_rules.proofs.demand.+best_from.Goals as goal

pub best_from-without-requires : goal.best_from-without-requires
best_from-without-requires t c = (
  search rules,
  (c.requires.chosen, ascending-rest (sections_of c.args.chosen) c.args.later.now c.in-len1-up.len_at_least c.requires.later),
)

pub extended-requires-clause-room : goal.extended-requires-clause-room
extended-requires-clause-room t c =
    let count : length (sections_of c.args.chosen) ≡ length c.sections.result.now =
    sym (ap length c.sections.ensures.value) ∙ length-map c.sections.result.now (λ section. section.0) in
    omega (arith, c.if-sections-from.false, c.from.ensures, c.courses.ensures, c.len.ensures.menu.caps.courses_cap)

pub extended-requires-clause-above : goal.extended-requires-clause-above
extended-requires-clause-above t c = ascending-first (sections_of c.args.chosen) c.args.later.now c.in-len1-up.len_at_least c.requires.later

pub best_from-with_it-requires : goal.best_from-with_it-requires
best_from-with_it-requires t c = (
  search rules,
  (
    c.in-Some.ensures.choice,
    rw c.in-Some.ensures.value (ascending-wider (sections_of c.args.chosen) c.args.later.now c.in-len1-up.len_at_least c.requires.later),
  ),
)

pub returns-then-sections-from : goal.returns-then-sections-from
unfolding wishes_of
returns-then-sections-from t c =
    let count : length (sections_of c.args.chosen) ≡ length c.sections.result.now =
    sym (ap length c.sections.ensures.value) ∙ length-map c.sections.result.now (λ section. section.0) in
    let full : (wishes_of c.args.terms.now.menu.now).course_cap ≤ length (sections_of c.args.chosen) =
    omega (arith, c.if-sections-from.true, c.from.ensures, c.courses.ensures) in
    nothing_fits (wishes_of c.args.terms.now.menu.now) (price_in c.args.terms.now.prices.now) c.args.terms.now.budget.0
    (set.contains c.args.terms.now.allowed.now) (sections_of c.args.chosen)
    (sections c.args.later.now) c.requires.chosen full

pub returns-in-empty : goal.returns-in-empty
returns-in-empty t c =
    subst
    (λ later. IsBestExtension (wishes_of c.args.terms.now.menu.now) (price_in c.args.terms.now.prices.now) c.args.terms.now.budget.0
    (set.contains c.args.terms.now.allowed.now)
    (sections_of c.args.chosen) later (sections_of c.args.chosen))
    (sym (no_later c.args.later.now c.in-empty.len_below))
    (nothing_later (wishes_of c.args.terms.now.menu.now) (price_in c.args.terms.now.prices.now) c.args.terms.now.budget.0
    (set.contains c.args.terms.now.allowed.now) (sections_of c.args.chosen)
    c.requires.chosen)

pub returns-then-prefers : goal.returns-then-prefers
returns-then-prefers t c =
    let some = c.in-len1-up.len_at_least in
    let front : List ℕ = sections_of c.args.chosen in
    subst
    (λ later. IsBestExtension (wishes_of c.args.terms.now.menu.now) (price_in c.args.terms.now.prices.now) c.args.terms.now.budget.0
    (set.contains c.args.terms.now.allowed.now)
    (sections_of c.args.chosen) later (sections_of c.best_from-with_it.result))
    (sym (later_split front c.args.later.now some c.requires.later))
    (
    best_with (wishes_of c.args.terms.now.menu.now) (price_in c.args.terms.now.prices.now) c.args.terms.now.budget.0
    (set.contains c.args.terms.now.allowed.now) front
    (get_or c.args.later.now 0 no_place).section.0 (sections (take (length c.args.later.now - 1) (drop 1 c.args.later.now)))
    (sections_of c.best_from-with_it.result) (sections_of c.best_from-without.result)
    (first_later front c.args.later.now some c.requires.later)
    (subst
    (λ wider. IsBestExtension (wishes_of c.args.terms.now.menu.now) (price_in c.args.terms.now.prices.now) c.args.terms.now.budget.0
    (set.contains c.args.terms.now.allowed.now) wider
    (sections (take (length c.args.later.now - 1) (drop 1 c.args.later.now))) (sections_of c.best_from-with_it.result))
    c.in-Some.ensures.value c.best_from-with_it.ensures)
    c.best_from-without.ensures
    (c.prefers.ensures.0 c.if-prefers.true)
    )

pub returns-else-prefers : goal.returns-else-prefers
returns-else-prefers t c =
    let some = c.in-len1-up.len_at_least in
    let front : List ℕ = sections_of c.args.chosen in
    subst
    (λ later. IsBestExtension (wishes_of c.args.terms.now.menu.now) (price_in c.args.terms.now.prices.now) c.args.terms.now.budget.0
    (set.contains c.args.terms.now.allowed.now)
    (sections_of c.args.chosen) later (sections_of c.best_from-without.result))
    (sym (later_split front c.args.later.now some c.requires.later))
    (
    best_not_with (wishes_of c.args.terms.now.menu.now) (price_in c.args.terms.now.prices.now) c.args.terms.now.budget.0
    (set.contains c.args.terms.now.allowed.now) front
    (get_or c.args.later.now 0 no_place).section.0 (sections (take (length c.args.later.now - 1) (drop 1 c.args.later.now)))
    (sections_of c.best_from-with_it.result) (sections_of c.best_from-without.result)
    (first_later front c.args.later.now some c.requires.later)
    (subst
    (λ wider. IsBestExtension (wishes_of c.args.terms.now.menu.now) (price_in c.args.terms.now.prices.now) c.args.terms.now.budget.0
    (set.contains c.args.terms.now.allowed.now) wider
    (sections (take (length c.args.later.now - 1) (drop 1 c.args.later.now))) (sections_of c.best_from-with_it.result))
    c.in-Some.ensures.value c.best_from-with_it.ensures)
    c.best_from-without.ensures
    (λ more. true≢false (sym (c.prefers.ensures.1 more) ∙ c.if-prefers.false))
    )

pub returns-in-None : goal.returns-in-None
returns-in-None t c =
    let some = c.in-len1-up.len_at_least in
    let front : List ℕ = sections_of c.args.chosen in
    subst
    (λ later. IsBestExtension (wishes_of c.args.terms.now.menu.now) (price_in c.args.terms.now.prices.now) c.args.terms.now.budget.0
    (set.contains c.args.terms.now.allowed.now)
    (sections_of c.args.chosen) later (sections_of c.best_from-without.result))
    (sym (later_split front c.args.later.now some c.requires.later))
    (
    best_without (wishes_of c.args.terms.now.menu.now) (price_in c.args.terms.now.prices.now) c.args.terms.now.budget.0
    (set.contains c.args.terms.now.allowed.now) front
    (get_or c.args.later.now 0 no_place).section.0 (sections (take (length c.args.later.now - 1) (drop 1 c.args.later.now)))
    (sections_of c.best_from-without.result)
    (first_later front c.args.later.now some c.requires.later)
    c.in-None.ensures.none
    c.best_from-without.ensures
    )
