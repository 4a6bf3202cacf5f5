use Rattle.std.proofs.Common.{rules, ◌≡◌, ◌<◌, ◌+◌, ◌*◌, ◌^◌, ◌∙◌, [], ◌∷◌, ℕ, List, Option, None, length, slice_index_or, ap, sym, subst, arith}
use Rattle.std.specs.Arc.{arc_value}
use Rattle.std.specs.Prelude.{IfSome}
use Rattle.market_units.specs.declared.units.SectionNo.{SectionNo}
use Rattle.market_units.specs.declared.units.Tokens.{Tokens}
use Rattle.bundle_rules.specs.Demand.{price_in}
use Rattle.demand_api.specs.Asking.{RoseAtMost}
use Rattle.demand_api.specs.Crowds.{CrowdData, top}
use Rattle.demand_api.specs.Prices.{AreLeastPrices, IsLeastFrom}
use Rattle.demand_api.specs.Views.{data_of}
use Rattle.demand_workers.specs.declared.notes.Notes.{Notes}
use Rattle.demand_workers.specs.Allowances.{HasSpent}
use Rattle.demand_workers.specs.Views.{crowd_of, price_before}
use Rattle.demand_workers.proofs.Spending.{call_within, walk_of_one}
use Rattle.demand_workers.proofs.pooled_demands.PooledDemandsAnyGateDemands.least_prices.Goals as goal
use Rattle.demand_workers.proofs.pooled_demands.PooledDemandsAnyGateDemands.least_prices.Given.{Over}
use Rattle.demand_workers.proofs.pooled_demands.PooledDemandsAnyGateDemands.least_prices.Goals.{In-len1}

-- the least price of the one pair
least_one : (crowd : CrowdData) (price : ℕ → ℕ) (pairs : List (SectionNo × ℕ)) (d : SectionNo × ℕ) (found : List Tokens) (least : Tokens)
    → length pairs ≡ 1 → found ≡ least ∷ []
    → IsLeastFrom (price (slice_index_or pairs 0 d).0.0) crowd price (slice_index_or pairs 0 d).0.0 (slice_index_or pairs 0 d).1 least.0
    → AreLeastPrices crowd price pairs found
least_one crowd price [] d found least one is found_is = absurd (omega (arith, one))
least_one crowd price (pair ∷ []) d found least one is found_is = subst (AreLeastPrices crowd price (pair ∷ [])) (sym is) (found_is, tt)
least_one crowd price (pair ∷ more ∷ rest) d found least one is found_is = absurd (omega (arith, one))

-- where none are kept, they are notes of any crowd
no_notes : (crowd : CrowdData) (notes : Option Notes) → notes ≡ None → IfSome notes (λ noted. crowd_of (arc_value noted.remembered) ≡ crowd)
no_notes crowd notes none = subst (λ o. IfSome o (λ noted. crowd_of (arc_value noted.remembered) ≡ crowd)) (sym none) tt

-- what the recall, the walk and what is asked behind it ask is within the bound
asked : (g : Over) (c : In-len1 g) (left last : ℕ)
    → ((d : ℕ) → top (crowd_of (arc_value c.at-notes.result.remembered)) < 2 ^ d
    → HasSpent ((d + 1) * length (crowd_of (arc_value c.at-notes.result.remembered)).students) c.walks_for-left.result left c.recall.new.inquiries last)
    → (digits : ℕ) → top (data_of (arc_value c.args.self.now.crowd)) < 2 ^ digits
    → RoseAtMost (length c.args.pairs.now * length (data_of (arc_value c.args.self.now.crowd)).students * (2 * digits + 1)) c.args.self.now.inquiries last
asked g c left last walk =
    let known = crowd_of (arc_value c.at-notes.result.remembered) in
    let one : length c.args.pairs.now ≡ 1 = search rules in
    call_within (data_of (arc_value c.args.self.now.crowd)) (data_of c.deref.result.now) known (length c.args.pairs.now) c.walks_for-left.result _
    c.args.self.now.inquiries c.recall.new.inquiries last (ap data_of c.deref.ensures)
    (ap (λ r. crowd_of (arc_value r)) c.at-notes.ensures ∙ c.in_ok-remembered.ensures.crowd) c.in_ok-remembered.ensures.inquiries
    (walk_of_one known (length c.args.pairs.now) _ _ _ _ one walk) c.walks_for-left.ensures

pub returns-clause-value : goal.returns-clause-value
returns-clause-value g c =
    let remembered = arc_value c.in_ok-remembered.remembered in
    let prices = c.args.prices.now in
    let pair : SectionNo × ℕ = slice_index_or c.args.pairs.now 0 (record { 0 = 0 }, 0) in
    let least = c.in_ok-least.least in
    let there : IsLeastFrom (price_before remembered pair.0.0) (crowd_of remembered) (price_before remembered) pair.0.0 pair.1 least.0 =
    subst (λ r. IsLeastFrom (price_before (arc_value r) pair.0.0) (crowd_of (arc_value r)) (price_before (arc_value r)) pair.0.0 pair.1 least.0)
    c.at-notes.ensures c.in_ok-least.ensures.least in
    least_one (data_of (arc_value c.args.self.now.crowd)) (price_in prices) c.args.pairs.now (record { 0 = 0 }, 0) c.in_ok-found-2.found.items least
    (search rules) (c.in_ok-found-2.ensures.items_if_clones_equal (λ y is. is))
    (subst (λ (w : CrowdData). IsLeastFrom (price_in prices pair.0.0) w (price_in prices) pair.0.0 pair.1 least.0) c.in_ok-remembered.ensures.crowd
    (subst (λ (l : List Tokens). IsLeastFrom (price_in l pair.0.0) (crowd_of remembered) (price_in l) pair.0.0 pair.1 least.0)
    c.in_ok-remembered.ensures.prices there))

pub returns-in_err-least-clause-inquiries : goal.returns-in_err-least-clause-inquiries
returns-in_err-least-clause-inquiries g c = asked g (goal.at.returns-in_err-least-clause-inquiries g c).In-len1 _ _ c.raised.ensures.inquiries

pub returns-in_err-found-2-clause-inquiries : goal.returns-in_err-found-2-clause-inquiries
returns-in_err-found-2-clause-inquiries g c = asked g (goal.at.returns-in_err-found-2-clause-inquiries g c).In-len1 _ _ c.in_ok-least.ensures.inquiries

pub returns-in_err-new-clause-inquiries : goal.returns-in_err-new-clause-inquiries
returns-in_err-new-clause-inquiries g c = asked g (goal.at.returns-in_err-new-clause-inquiries g c).In-len1 _ _ c.in_ok-least.ensures.inquiries

pub returns-clause-inquiries : goal.returns-clause-inquiries
returns-clause-inquiries g c = asked g (goal.at.returns-clause-inquiries g c).In-len1 _ _ c.in_ok-least.ensures.inquiries

pub invariant_of-self-in-Break-branch-2 : goal.invariant_of-self-in-Break-branch-2
invariant_of-self-in-Break-branch-2 g c =
    record {
      same = c.in_ok-remembered.ensures.same;
      surveyed = c.args.self.now.surveyed;
      noted = no_notes (data_of (arc_value c.args.self.now.crowd)) c.take.new.self c.take.ensures.after;
    }

pub invariant_of-self-in-Break-branch-3 : goal.invariant_of-self-in-Break-branch-3
invariant_of-self-in-Break-branch-3 g c =
    record {
      same = c.in_ok-remembered.ensures.same;
      surveyed = c.args.self.now.surveyed;
      noted = no_notes (data_of (arc_value c.args.self.now.crowd)) c.take.new.self c.take.ensures.after;
    }

pub invariant_of-self-in-Break-branch-4 : goal.invariant_of-self-in-Break-branch-4
invariant_of-self-in-Break-branch-4 g c =
    record {
      same = c.in_ok-remembered.ensures.same;
      surveyed = c.args.self.now.surveyed;
      noted = no_notes (data_of (arc_value c.args.self.now.crowd)) c.take.new.self c.take.ensures.after;
    }

pub invariant_of-self-in-Break-branch-5 : goal.invariant_of-self-in-Break-branch-5
invariant_of-self-in-Break-branch-5 g c =
    record {
      same = c.in_ok-remembered.ensures.same;
      surveyed = c.args.self.now.surveyed;
      noted = no_notes (data_of (arc_value c.args.self.now.crowd)) c.take.new.self c.take.ensures.after;
    }
