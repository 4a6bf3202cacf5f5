use Rattle.std.proofs.Common.{◌≡◌, ◌∙◌, ℕ, List, Vec, Global, length, map, refl, ap, sym, subst, arith}
use Rattle.std.specs.Arc.{arc_value}
use Rattle.std.specs.Prelude.{IfOk}
use Rattle.bundle_rules.specs.declared.bundle.Bundle.{Bundle}
use Rattle.bundle_rules.specs.Bundles.{sections_of}
use Rattle.demand_api.specs.declared.crowd.Crowd.{Crowd}
use Rattle.demand_api.specs.Counting.{AreCounts, AreWithin}
use Rattle.demand_workers.specs.declared.inquiry.Inquiries.{Inquiries}
use Rattle.demand_workers.specs.declared.remembered.Remembered.{Remembered}
use Rattle.demand_workers.specs.Views.{crowd_of}
use Rattle.demand_workers.proofs.Exchanging.{remembered_few, remembered_within}
use Rattle.demand_workers.proofs.survey.Survey.remembered_counts.Goals as goal

-- what is remembered, and lent to be counted
lent : (inquiries own : Inquiries) (known : Remembered) (bundles : List Bundle) → own ≡ inquiries → known ≡ arc_value own.remembered
    → bundles ≡ known.bundles.items → bundles ≡ (arc_value inquiries.remembered).bundles.items
lent inquiries own known bundles same is are =
    are ∙ ap (λ (r : Remembered). r.bundles.items) (is ∙ ap (λ (q : Inquiries). arc_value q.remembered) same)

-- how many sections there are
many : (inquiries own : Inquiries) (known : Remembered) (crowd : Crowd) (n : ℕ) → own ≡ inquiries → known ≡ arc_value own.remembered
    → crowd ≡ arc_value known.crowd → n ≡ crowd.sections → n ≡ (arc_value (arc_value inquiries.remembered).crowd).sections
many inquiries own known crowd n same is its all =
    all ∙ ap (λ (w : Crowd). w.sections) (its ∙ ap (λ (r : Remembered). arc_value r.crowd) (is ∙ ap (λ (q : Inquiries). arc_value q.remembered) same))

pub count_bundles-requires-clause-few : goal.count_bundles-requires-clause-few
count_bundles-requires-clause-few c =
    let few = remembered_few (arc_value c.args.self.now.found.inquiries.remembered) in
    let all =
    ap length
    (lent c.args.self.now.found.inquiries c.args.self.now.found.inquiries c.deref-remembered.result.now c.deref-2.result.now refl
    c.deref-remembered.ensures c.deref-2.ensures.value) in
    omega (arith, few, all)

pub count_bundles-requires-clause-within : goal.count_bundles-requires-clause-within
count_bundles-requires-clause-within c =
    let inquiries = c.args.self.now.found.inquiries in
    subst (λ n. AreWithin n (map sections_of c.deref-2.result.now))
    (sym
    (many inquiries c.args.self.now.found.inquiries c.deref-remembered.result.now c.deref.result.now c.from.result refl
    c.deref-remembered.ensures c.deref.ensures c.from.ensures))
    (subst (λ (b : List Bundle). AreWithin (crowd_of (arc_value inquiries.remembered)).sections (map sections_of b))
    (sym
    (lent inquiries c.args.self.now.found.inquiries c.deref-remembered.result.now c.deref-2.result.now refl c.deref-remembered.ensures
    c.deref-2.ensures.value))
    (remembered_within (arc_value inquiries.remembered)))

pub returns : goal.returns
returns c =
    let inquiries = c.args.self.now.found.inquiries in
    subst (λ n. IfOk c.count_bundles.result (λ (base : Vec ℕ Global).
    AreCounts n (map sections_of (arc_value inquiries.remembered).bundles.items) base.items))
    (many inquiries c.args.self.now.found.inquiries c.deref-remembered.result.now c.deref.result.now c.from.result refl
    c.deref-remembered.ensures c.deref.ensures c.from.ensures)
    (subst (λ (b : List Bundle). IfOk c.count_bundles.result (λ (base : Vec ℕ Global). AreCounts c.from.result (map sections_of b) base.items))
    (lent inquiries c.args.self.now.found.inquiries c.deref-remembered.result.now c.deref-2.result.now refl c.deref-remembered.ensures
    c.deref-2.ensures.value) c.count_bundles.ensures)
