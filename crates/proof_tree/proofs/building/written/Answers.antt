use Rattle.std.proofs.Common.{◌≡◌, ◌++◌, [], sym, subst, ap, ◌∙◌}
use Rattle.proof_tree.specs.Claims.{offer_in, champion_in, champions_places}
use Rattle.proof_tree.specs.Texts.{symbol}
use Rattle.proof_tree.specs.Steps.{IsStep, spots_of, waiting_of}
use Rattle.proof_tree.proofs.Writing.{IsWritten, nothing_written, written_more, written_whole, never_unsigned, fewer}
use Rattle.proof_tree.proofs.building.written.Goals as goal

pub nodes-init : goal.nodes-init
nodes-init c =
    let offer = offer_in c.args.claim.now in
    record {
      waiting = c.start-walk.ensures.may_wait offer;
      stems = c.start-walk.ensures.stems _ _ c.root_stem.ensures;
      written =
          subst (λ t. IsWritten offer c.args.claim.now.required (champion_in c.args.claim.now) t (spots_of (offer_in c.args.claim.now).menu (waiting_of c.start-walk.result)))
          (sym c.new-text.ensures.items)
          (subst (IsWritten offer c.args.claim.now.required (champion_in c.args.claim.now) []) (sym (c.start-walk.ensures.waiting (offer_in c.args.claim.now).menu))
          (nothing_written offer c.args.claim.now.required (champion_in c.args.claim.now) c.requires));
    }

pub spell-symbol-requires : goal.spell-symbol-requires
spell-symbol-requires c = c.step.ensures.short c.in-Signed.sign c.in-Signed.is

pub nodes-smaller : goal.nodes-smaller
nodes-smaller c =
    let offer = offer_in c.args.claim.now in
    let step =
    subst
    (λ s. IsStep offer c.args.claim.now.required (champions_places c.args.claim.now) (spots_of (offer_in c.args.claim.now).menu (waiting_of c.nodes.walk))
    s (spots_of (offer_in c.args.claim.now).menu (waiting_of c.step.new.self)))
    c.in-Signed.is c.step.ensures.step in
    fewer offer c.args.claim.now.required (champions_places c.args.claim.now) (spots_of (offer_in c.args.claim.now).menu (waiting_of c.nodes.walk))
    (spots_of (offer_in c.args.claim.now).menu (waiting_of c.step.new.self)) c.in-Signed.sign step

pub nodes-preserved : goal.nodes-preserved
nodes-preserved c =
    let offer = offer_in c.args.claim.now in
    let step =
    subst
    (λ s. IsStep offer c.args.claim.now.required (champions_places c.args.claim.now) (spots_of (offer_in c.args.claim.now).menu (waiting_of c.nodes.walk))
    s (spots_of (offer_in c.args.claim.now).menu (waiting_of c.step.new.self)))
    c.in-Signed.is c.step.ensures.step in
    let more : c.put_behind.new.text.items ≡ c.nodes.text.items ++ symbol c.in-Signed.sign =
    c.in_ok-put_behind-in-Signed.ensures ∙ ap (λ t. c.nodes.text.items ++ t) (c.as_slice.ensures ∙ c.spell-symbol.ensures) in
    record {
      waiting = c.step.ensures.waiting;
      stems = c.step.ensures.stems;
      written =
          subst (λ t. IsWritten offer c.args.claim.now.required (champion_in c.args.claim.now) t (spots_of (offer_in c.args.claim.now).menu (waiting_of c.step.new.self))) (sym more)
          (written_more offer c.args.claim.now.required (champion_in c.args.claim.now) c.nodes.text.items (spots_of (offer_in c.args.claim.now).menu (waiting_of c.nodes.walk))
          c.nodes.invariant.written c.in-Signed.sign (spots_of (offer_in c.args.claim.now).menu (waiting_of c.step.new.self)) step);
    }

pub returns-in-Unsigned : goal.returns-in-Unsigned
returns-in-Unsigned c =
    let offer = offer_in c.args.claim.now in
    let step =
    subst
    (λ s. IsStep offer c.args.claim.now.required (champions_places c.args.claim.now) (spots_of (offer_in c.args.claim.now).menu (waiting_of c.nodes.walk))
    s (spots_of (offer_in c.args.claim.now).menu (waiting_of c.step.new.self)))
    c.in-Unsigned.is c.step.ensures.step in
    absurd
    (never_unsigned offer c.args.claim.now.required (champion_in c.args.claim.now) c.nodes.text.items (spots_of (offer_in c.args.claim.now).menu (waiting_of c.nodes.walk))
    c.nodes.invariant.written (spots_of (offer_in c.args.claim.now).menu (waiting_of c.step.new.self)) step)

pub returns-in-Ended : goal.returns-in-Ended
returns-in-Ended c =
    let offer = offer_in c.args.claim.now in
    let step =
    subst
    (λ s. IsStep offer c.args.claim.now.required (champions_places c.args.claim.now) (spots_of (offer_in c.args.claim.now).menu (waiting_of c.nodes.walk))
    s (spots_of (offer_in c.args.claim.now).menu (waiting_of c.step.new.self)))
    c.in-Ended.is c.step.ensures.step in
    written_whole offer c.args.claim.now.required (champion_in c.args.claim.now) c.nodes.text.items (spots_of (offer_in c.args.claim.now).menu (waiting_of c.nodes.walk))
    c.nodes.invariant.written step
