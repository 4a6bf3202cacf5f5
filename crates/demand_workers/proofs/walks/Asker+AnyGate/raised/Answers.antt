use Rattle.std.proofs.Common.{rules, ◌≡◌, ◌<◌, ◌≤◌, ◌*◌, ◌∙◌, ℕ, List, length, ap, sym, subst, arith}
use Rattle.std.specs.Arc.{arc_value}
use Rattle.demand_api.specs.Asking.{RoseAtMost}
use Rattle.demand_api.specs.Crowds.{top}
use Rattle.demand_workers.specs.declared.remembered.Remembered.{Remembered}
use Rattle.demand_workers.specs.Leaving.{AreLeft}
use Rattle.demand_workers.specs.Views.{crowd_of, price_before}
use Rattle.demand_workers.proofs.Allowing.{spent_besides, spent_within}
use Rattle.demand_workers.proofs.walks.Asker+AnyGate.raised.Goals as goal

-- the holders, where the same is remembered
left_at : (known remembered : Remembered) (s : ℕ) (hs lent : List (ℕ × ℕ)) → AreLeft (crowd_of known) (price_before known) s (price_before known s) hs
    → known ≡ remembered → lent ≡ hs → AreLeft (crowd_of remembered) (price_before remembered) s (price_before remembered s) lent
left_at known remembered s hs lent left is items =
    subst (λ (r : Remembered). AreLeft (crowd_of r) (price_before r) s (price_before r s) lent) is
    (subst (AreLeft (crowd_of known) (price_before known) s (price_before known s)) (sym items) left)

pub least_price-requires-clause-list : goal.least_price-requires-clause-list
least_price-requires-clause-list g c κs within =
    left_at c.deref.result.now (arc_value c.args.notes.now.remembered) c.args.pair.0.0 c.in_ok-holders.holders.items c.deref-2.result.now
    c.in_ok-holders.ensures c.deref.ensures c.deref-2.ensures.value

pub invariant_of-walk : goal.invariant_of-walk
invariant_of-walk g c =
    let same = sym (ap (λ r. arc_value r) c.in_ok-least.ensures.same) in
    record {
      within = subst (λ (r : Remembered). c.args.pair.0.0 < (arc_value r.crowd).sections) same c.requires;
      low = subst (λ (r : Remembered). price_before r c.args.pair.0.0 ≤ c.in_ok-least.least.0) same c.in_ok-least.ensures.least.from;
      high = subst (λ (r : Remembered). c.in_ok-least.least.0 ≤ top (crowd_of r)) same c.in_ok-least.ensures.high;
    }

pub raised_memory-requires : goal.raised_memory-requires
raised_memory-requires g c = (
  search rules,
  left_at c.deref.result.now (arc_value c.least_price.new.notes.remembered) c.args.pair.0.0 c.in_ok-holders.holders.items c.deref-3.result.now
      c.in_ok-holders.ensures (c.deref.ensures ∙ sym (ap (λ r. arc_value r) c.in_ok-least.ensures.same)) c.deref-3.ensures.value,
)

pub returns-in_err-least-clause-inquiries : goal.returns-in_err-least-clause-inquiries
returns-in_err-least-clause-inquiries g c digits fits =
    spent_within (digits * length (crowd_of (arc_value c.args.notes.now.remembered)).students) _ _ _ _ _ (c.least_price.ensures.inquiries digits fits)
    (omega arith)

pub returns-in_err-memory-clause-inquiries : goal.returns-in_err-memory-clause-inquiries
returns-in_err-memory-clause-inquiries g c digits fits =
    spent_besides (digits * length (crowd_of (arc_value c.args.notes.now.remembered)).students) _ _ _ _ _ _ _
    (c.in_ok-least.ensures.inquiries digits fits)
    (subst (λ r. RoseAtMost (length (crowd_of (arc_value r)).students) c.least_price.new.inquiries c.raised_memory.new.inquiries)
    c.in_ok-least.ensures.same c.raised_memory.ensures.inquiries)
    (omega arith)

pub returns-clause-inquiries : goal.returns-clause-inquiries
returns-clause-inquiries g c digits fits =
    spent_besides (digits * length (crowd_of (arc_value c.args.notes.now.remembered)).students) _ _ _ _ _ _ _
    (c.in_ok-least.ensures.inquiries digits fits)
    (subst (λ r. RoseAtMost (length (crowd_of (arc_value r)).students) c.least_price.new.inquiries c.raised_memory.new.inquiries)
    c.in_ok-least.ensures.same c.raised_memory.ensures.inquiries)
    (omega arith)

pub returns-clause-crowd : goal.returns-clause-crowd
returns-clause-crowd g c = c.in_ok-memory.ensures.crowd ∙ ap (λ r. crowd_of (arc_value r)) c.in_ok-least.ensures.same
