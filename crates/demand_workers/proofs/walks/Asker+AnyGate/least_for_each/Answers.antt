use Rattle.std.proofs.Common.{rules, ℕ, ◌≡◌, ◌<◌, ◌≤◌, ◌+◌, ◌-◌, ◌*◌, ◌/◌, ◌^◌, ◌∙◌, length, take, ap, sym, subst, arith}
use Rattle.std.specs.Arc.{arc_value}
use Rattle.std.proofs.Math.Nat.{div-le_self}
use Rattle.demand_api.specs.Crowds.{CrowdData, top}
use Rattle.demand_api.specs.Prices.{AreLeastPrices}
use Rattle.demand_api.proofs.Pairs.{least_more}
use Rattle.demand_api.proofs.Parts.{top_high}
use Rattle.demand_workers.specs.Allowances.{HasSpent}
use Rattle.demand_workers.specs.Views.{crowd_of, price_before}
use Rattle.demand_workers.proofs.Allowing.{spent_more, spent_on_some, spent_share, spent_whole}
use Rattle.demand_workers.proofs.HoldersLeave.{listed_at}
use Rattle.demand_workers.proofs.walks.Asker+AnyGate.least_for_each.Goals as goal

-- one walk more, in the same crowd, which gives back what is left of its share
walked : (crowd known : CrowdData) (i digits left left_first share share_then before now after : ℕ) → known ≡ crowd → top crowd < 2 ^ digits
    → share ≤ left_first → HasSpent (i * (digits * length crowd.students)) left left_first before now
    → ((d : ℕ) → top known < 2 ^ d → HasSpent (d * length known.students) share share_then now after)
    → HasSpent ((i + 1) * (digits * length crowd.students)) left (left_first - share + share_then) before after
walked crowd known i digits left left_first share share_then before now after same fits within so_far one =
    spent_more i (digits * length crowd.students) left left_first (left_first - share + share_then) before now after so_far
    (spent_share (digits * length crowd.students) left_first share share_then now after within
    (subst (λ (w : CrowdData). (d : ℕ) → top w < 2 ^ d → HasSpent (d * length w.students) share share_then now after) same one digits fits))

-- and where it ended for want of memory
broken_off : (crowd known : CrowdData) (i digits left left_first share share_then before now after : ℕ) → known ≡ crowd → top crowd < 2 ^ digits
    → share ≤ left_first → HasSpent (i * (digits * length crowd.students)) left left_first before now
    → ((d : ℕ) → top known < 2 ^ d → HasSpent (d * length known.students) share share_then now after)
    → HasSpent ((i + 1) * (digits * length crowd.students)) left (left_first - share) before after
broken_off crowd known i digits left left_first share share_then before now after same fits within so_far one =
    spent_more i (digits * length crowd.students) left left_first (left_first - share) before now after so_far
    (spent_whole (digits * length crowd.students) left_first share share_then now after within
    (subst (λ (w : CrowdData). (d : ℕ) → top w < 2 ^ d → HasSpent (d * length w.students) share share_then now after) same one digits fits))

pub least_price-requires-clause-list : goal.least_price-requires-clause-list
least_price-requires-clause-list g c κs within =
    listed_at c.deref.result.now (arc_value c.loop-place.notes.remembered) c.in_ok-lists.lists.items _ c.from.result c.index-list.result.now
    c.deref-in-loop-place.result.now c.in_ok-lists.ensures.left (c.deref.ensures ∙ ap (λ r. arc_value r) (sym c.loop-place.invariant.same))
    (search rules) c.from.ensures c.index-list.ensures c.deref-in-loop-place.ensures.value

-- what is given back was taken before
pub overflow_add-left : goal.overflow_add-left
overflow_add-left g c =
    let most : top (crowd_of (arc_value c.loop-place.notes.remembered)) ≤ 1000001 =
    top_high (arc_value (arc_value c.loop-place.notes.remembered).crowd) in
    let fits : top (crowd_of (arc_value c.loop-place.notes.remembered)) < 2 ^ 20 = omega (arith, most) in
    let given =
    spent_share _ c.loop-place.left _ _ _ _ (div-le_self c.loop-place.left _) (c.in_ok-least.ensures.inquiries 20 fits) in
    let less : c.loop-place.left - c.loop-place.left / (length c.args.pairs.now - c.loop-place.place) + c.least_price.new.left ≤ c.loop-place.left =
    given.less in
    search rules

pub loop-place-preserved : goal.loop-place-preserved
loop-place-preserved g c =
    let known = arc_value c.loop-place.notes.remembered in
    record {
      spent = λ digits fits.
          walked (crowd_of (arc_value c.args.notes.now.remembered)) (crowd_of (arc_value c.loop-place.notes.remembered)) c.loop-place.place digits _ _ _ _ _ _ _
          (ap (λ r. crowd_of (arc_value r)) c.loop-place.invariant.same) fits (div-le_self c.loop-place.left _) (c.loop-place.invariant.spent digits fits)
          c.in_ok-least.ensures.inquiries;
      same = c.in_ok-least.ensures.same ∙ c.loop-place.invariant.same;
      least =
          subst
          (λ r. AreLeastPrices (crowd_of (arc_value r)) (price_before (arc_value r)) (take (c.loop-place.place + 1) c.args.pairs.now) c.push.new.self.items)
          c.loop-place.invariant.same
          (least_more (crowd_of known) (price_before known) c.args.pairs.now c.loop-place.place
          (record { 0 = 0 }, 0) c.loop-place.found.items c.push.new.self.items c.in_ok-least.least.0 (search rules)
          (subst
          (λ r. AreLeastPrices (crowd_of (arc_value r)) (price_before (arc_value r)) (take c.loop-place.place c.args.pairs.now) c.loop-place.found.items)
          (sym c.loop-place.invariant.same) c.loop-place.invariant.least)
          (search rules) c.in_ok-least.ensures.least);
    }

pub returns-in_err-least-clause-inquiries : goal.returns-in_err-least-clause-inquiries
returns-in_err-least-clause-inquiries g c digits fits =
    let low : c.loop-place.place < length c.args.pairs.now = search rules in
    spent_on_some (c.loop-place.place + 1) (length c.args.pairs.now) (digits * length (crowd_of (arc_value c.args.notes.now.remembered)).students) _ _ _ _
    (broken_off (crowd_of (arc_value c.args.notes.now.remembered)) (crowd_of (arc_value c.loop-place.notes.remembered)) c.loop-place.place digits
    _ _ _ _ _ _ _ (ap (λ r. crowd_of (arc_value r)) c.loop-place.invariant.same) fits (div-le_self c.loop-place.left _)
    (c.loop-place.invariant.spent digits fits) c.least_price.ensures.inquiries)
    (omega (arith, low))

pub returns-in_err-push-clause-inquiries : goal.returns-in_err-push-clause-inquiries
returns-in_err-push-clause-inquiries g c digits fits =
    let low : c.loop-place.place < length c.args.pairs.now = search rules in
    spent_on_some (c.loop-place.place + 1) (length c.args.pairs.now) (digits * length (crowd_of (arc_value c.args.notes.now.remembered)).students) _ _ _ _
    (walked (crowd_of (arc_value c.args.notes.now.remembered)) (crowd_of (arc_value c.loop-place.notes.remembered)) c.loop-place.place digits
    _ _ _ _ _ _ _ (ap (λ r. crowd_of (arc_value r)) c.loop-place.invariant.same) fits (div-le_self c.loop-place.left _)
    (c.loop-place.invariant.spent digits fits) c.in_ok-least.ensures.inquiries)
    (omega (arith, low))

pub returns-clause-inquiries : goal.returns-clause-inquiries
returns-clause-inquiries g c digits fits =
    let some : c.loop-place.place ≤ length c.args.pairs.now = search rules in
    spent_on_some c.loop-place.place (length c.args.pairs.now) (digits * length (crowd_of (arc_value c.args.notes.now.remembered)).students) _ _ _ _
    (c.loop-place.invariant.spent digits fits) some
