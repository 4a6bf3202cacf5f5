use Rattle.std.proofs.Common.{◌≡◌, ◌≤◌, ◌<◌, ◌+◌, ◌++◌, [], ℕ, None, length, take, refl, sym, subst, ap, ◌∙◌, arith}
use Rattle.bundle_rules.specs.Bundles.{sections_of}
use Rattle.std.specs.FinSet as set
use Rattle.bundle_rules.specs.Menus.{wishes_of}
use Rattle.bundle_rules.specs.Demand.{price_in, IsBest}
use Rattle.bundle_bounds.specs.Offers.{offer_of, places_of}
use Rattle.proof_tree.specs.Texts.{symbol}
use Rattle.proof_tree.specs.Steps.{IsStep, spots_of, waiting_of}
use Rattle.proof_tree.proofs.Complete.{trees_prove_the_best}
use Rattle.proof_tree.proofs.Writing.{IsWritten, nothing_written, written_more, written_whole, never_unsigned, longer, fewer}
use Rattle.std.proofs.lemmas.List.{length-take-le}
use Rattle.proof_tree.proofs.Writing.{if_none_any, drop_later}
use Rattle.proof_tree.proofs.building.build_into.Goals as goal

next_above : (count more next : ℕ) → next ≡ count + more → count ≤ next
next_above count more next is = omega arith

pub invariant_of-claim : goal.invariant_of-claim
invariant_of-claim c =
    let best : IsBest (wishes_of c.rows-menu.result.now) (price_in c.args.prices.now) c.args.budget.0 (set.contains c.args.allowed.now) (sections_of c.args.champion.now) =
    subst (λ m. IsBest (wishes_of m) (price_in c.args.prices.now) c.args.budget.0 (set.contains c.args.allowed.now) (sections_of c.args.champion.now)) (sym c.rows-menu.ensures)
    c.requires.best in
    record { on_menu = tt; takable = best.choice }

pub nodes-init : goal.nodes-init
nodes-init c =
    let best : IsBest (wishes_of c.rows-menu.result.now) (price_in c.args.prices.now) c.args.budget.0 (set.contains c.args.allowed.now) (sections_of c.args.champion.now) =
    subst (λ m. IsBest (wishes_of m) (price_in c.args.prices.now) c.args.budget.0 (set.contains c.args.allowed.now) (sections_of c.args.champion.now)) (sym c.rows-menu.ensures)
    c.requires.best in
    let offer = offer_of c.rows-menu.result.now c.args.prices.now c.args.budget.0 c.args.allowed.now in
    record {
      waiting = c.start-walk.ensures.may_wait offer;
      stems = c.start-walk.ensures.stems _ _ c.root_stem.ensures;
      written =
          subst (IsWritten offer None (sections_of c.args.champion.now) []) (sym (c.start-walk.ensures.waiting c.rows-menu.result.now))
          (nothing_written offer None (sections_of c.args.champion.now)
          ((trees_prove_the_best offer (sections_of c.args.champion.now) c.len.ensures.menu best.choice).1 best));
      within = omega arith;
      size = refl;
      same = refl;
    }

pub spell-symbol-requires : goal.spell-symbol-requires
spell-symbol-requires c = c.step.ensures.short c.in-Signed.sign c.in-Signed.is

pub nodes-smaller : goal.nodes-smaller
nodes-smaller c =
    let offer = offer_of c.rows-menu.result.now c.args.prices.now c.args.budget.0 c.args.allowed.now in
    let step =
    subst
    (λ s. IsStep offer None (places_of c.rows-menu.result.now (sections_of c.args.champion.now)) (spots_of c.rows-menu.result.now (waiting_of c.nodes.walk)) s
    (spots_of c.rows-menu.result.now (waiting_of c.step.new.self)))
    c.in-Signed.is c.step.ensures.step in
    fewer offer None (places_of c.rows-menu.result.now (sections_of c.args.champion.now)) (spots_of c.rows-menu.result.now (waiting_of c.nodes.walk))
    (spots_of c.rows-menu.result.now (waiting_of c.step.new.self)) c.in-Signed.sign step

pub nodes-preserved : goal.nodes-preserved
nodes-preserved c =
    let offer = offer_of c.rows-menu.result.now c.args.prices.now c.args.budget.0 c.args.allowed.now in
    let step =
    subst
    (λ s. IsStep offer None (places_of c.rows-menu.result.now (sections_of c.args.champion.now)) (spots_of c.rows-menu.result.now (waiting_of c.nodes.walk)) s
    (spots_of c.rows-menu.result.now (waiting_of c.step.new.self)))
    c.in-Signed.is c.step.ensures.step in
    let put = c.in_ok-count-in-Signed.ensures.some in
    let symbol_is = c.as_slice.ensures ∙ c.spell-symbol.ensures in
    let size : length c.put_at.new.room ≡ length c.nodes.room = c.put_at.ensures.size in
    let size' : length c.nodes.room ≡ length c.args.room.now = c.nodes.invariant.size in
    let within : c.in_ok-count-in-Signed.count ≤ length c.nodes.room = put.1 in
    record {
      waiting = c.step.ensures.waiting;
      stems = c.step.ensures.stems;
      written =
          subst (λ t. IsWritten offer None (sections_of c.args.champion.now) t (spots_of c.rows-menu.result.now (waiting_of c.step.new.self)))
          (sym (put.2 ∙ ap (λ t. take c.nodes.count c.nodes.room ++ t) symbol_is))
          (written_more offer None (sections_of c.args.champion.now) (take c.nodes.count c.nodes.room) (spots_of c.rows-menu.result.now (waiting_of c.nodes.walk))
          c.nodes.invariant.written c.in-Signed.sign (spots_of c.rows-menu.result.now (waiting_of c.step.new.self)) step);
      within = omega arith;
      size = c.put_at.ensures.size ∙ c.nodes.invariant.size;
      same =
          put.3
          ∙ drop_later c.nodes.room c.args.room.now c.nodes.count c.in_ok-count-in-Signed.count
          (next_above c.nodes.count _ c.in_ok-count-in-Signed.count put.0) c.nodes.invariant.same;
    }

pub returns-in_err-count-in-Signed-clause-none : goal.returns-in_err-count-in-Signed-clause-none
returns-in_err-count-in-Signed-clause-none c =
    let offer = offer_of c.rows-menu.result.now c.args.prices.now c.args.budget.0 c.args.allowed.now in
    let step =
    subst
    (λ s. IsStep offer None (places_of c.rows-menu.result.now (sections_of c.args.champion.now)) (spots_of c.rows-menu.result.now (waiting_of c.nodes.walk)) s
    (spots_of c.rows-menu.result.now (waiting_of c.step.new.self)))
    c.in-Signed.is c.step.ensures.step in
    let full : length c.nodes.room < c.nodes.count + length c.as_slice.result.now = c.in_err-count-in-Signed.ensures.none in
    let size' : length c.nodes.room ≡ length c.args.room.now = c.nodes.invariant.size in
    let symbol_is : length c.as_slice.result.now ≡ length (symbol c.in-Signed.sign) = ap length (c.as_slice.ensures ∙ c.spell-symbol.ensures) in
    let taken : length (take c.nodes.count c.nodes.room) ≡ c.nodes.count = length-take-le c.nodes.count c.nodes.room c.nodes.invariant.within in
    rw (← c.rows-menu.ensures) (if_none_any c.from_residual.result _ (λ text is.
    let longer_text : length (take c.nodes.count c.nodes.room) + length (symbol c.in-Signed.sign) ≤ length text = longer offer None (sections_of c.args.champion.now) (take c.nodes.count c.nodes.room) (spots_of c.rows-menu.result.now (waiting_of c.nodes.walk)) c.nodes.invariant.written c.in-Signed.sign (spots_of c.rows-menu.result.now (waiting_of c.step.new.self)) step text is in omega arith))

pub returns-in-Unsigned-clause-some : goal.returns-in-Unsigned-clause-some
returns-in-Unsigned-clause-some c =
    let offer = offer_of c.rows-menu.result.now c.args.prices.now c.args.budget.0 c.args.allowed.now in
    let step =
    subst
    (λ s. IsStep offer None (places_of c.rows-menu.result.now (sections_of c.args.champion.now)) (spots_of c.rows-menu.result.now (waiting_of c.nodes.walk)) s
    (spots_of c.rows-menu.result.now (waiting_of c.step.new.self)))
    c.in-Unsigned.is c.step.ensures.step in
    absurd
    (never_unsigned offer None (sections_of c.args.champion.now) (take c.nodes.count c.nodes.room) (spots_of c.rows-menu.result.now (waiting_of c.nodes.walk))
    c.nodes.invariant.written (spots_of c.rows-menu.result.now (waiting_of c.step.new.self)) step)

pub returns-in-Ended-clause-some : goal.returns-in-Ended-clause-some
returns-in-Ended-clause-some c =
    let offer = offer_of c.rows-menu.result.now c.args.prices.now c.args.budget.0 c.args.allowed.now in
    let step =
    subst
    (λ s. IsStep offer None (places_of c.rows-menu.result.now (sections_of c.args.champion.now)) (spots_of c.rows-menu.result.now (waiting_of c.nodes.walk)) s
    (spots_of c.rows-menu.result.now (waiting_of c.step.new.self)))
    c.in-Ended.is c.step.ensures.step in
    let within : c.nodes.count ≤ length c.nodes.room = c.nodes.invariant.within in
    let size' : length c.nodes.room ≡ length c.args.room.now = c.nodes.invariant.size in
    rw (← c.rows-menu.ensures) (
      omega arith,
      written_whole offer None (sections_of c.args.champion.now) (take c.nodes.count c.nodes.room) (spots_of c.rows-menu.result.now (waiting_of c.nodes.walk))
          c.nodes.invariant.written step,
    )
