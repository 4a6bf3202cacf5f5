use Rattle.std.proofs.Common.{ℕ, ◌≡◌, ◌≢◌, ◌&&◌, true, not, sym, ◌∙◌, ap}
use Rattle.std.specs.Ordering.{nat_cmp}
use Rattle.std.specs.Cmp.{nat_cmp_total, unsigned_tied}
use Rattle.std.specs.FinSet as set
use Rattle.std.specs.FinSet.{contains-remove}
use Rattle.std.proofs.lemmas.Bool.{ne_eqb}
use Rattle.plain_facts.proofs.Truths.{and_second}
use Rattle.bundle_rules.specs.Bundles.{sections_of}
use Rattle.bundle_rules.specs.Demand.{price_in}
use Rattle.bundle_rules.specs.Menus.{wishes_of}
use Rattle.demand_oracle.proofs.Beside.{leads_where_fewer}
use Rattle.demand_oracle.proofs.tests.best_beside.Goals as goal

in_both : (s : set.FinSet nat_cmp) (n q : ℕ) → set.contains (set.remove s n) q ≡ true → set.contains s q ≡ true
in_both s n q is = and_second _ (set.contains s q) (sym (contains-remove nat_cmp_total s n q) ∙ is)

in_rest : (s : set.FinSet nat_cmp) (n q : ℕ) → set.contains s q ≡ true → q ≢ n → set.contains (set.remove s n) q ≡ true
in_rest s n q is apart = contains-remove nat_cmp_total s n q ∙ ap (λ b. not b && set.contains s q) (unsigned_tied q n ∙ ne_eqb q n apart) ∙ is

pub demand_beside-requires-clause-first : goal.demand_beside-requires-clause-first
demand_beside-requires-clause-first c =
    let s : ℕ = c.args.section.0 in
    let all = c.args.offer.now.allowed.now in
    leads_where_fewer (wishes_of c.args.menu.now) (price_in c.args.offer.now.prices.now) c.args.offer.now.budget.0 (set.contains (set.remove all s)) (set.contains all) s
    (sections_of c.demand-first.result) (in_both all s) (in_rest all s)
    (rw c.without-fewer.ensures at c.demand-first.ensures)
