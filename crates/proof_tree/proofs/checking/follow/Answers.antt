use Rattle.std.proofs.Common.{sym, subst, ◌∙◌, ap}
use Rattle.proof_tree.specs.Claims.{offer_in, champion_in, champions_places}
use Rattle.proof_tree.specs.declared.walk.Step.TheVariants.{Signed, Unsigned}
use Rattle.proof_tree.specs.Walks.{HasCome}
use Rattle.proof_tree.specs.Steps.{IsStep, spots_of, waiting_of}
use Rattle.proof_tree.specs.Defects.{IsDefect}
use Rattle.proof_tree.specs.Mismatches.{offset_in}
use Rattle.proof_tree.proofs.Following.{come_first, come_more, text_where_ended, fails_where_ended, fails_unsigned, fails_signed, defect_unsigned, defect_signed, defect_where_ended, on_ok, if_err, err_from}
use Rattle.proof_tree.proofs.checking.follow.Goals as goal

pub nodes-init : goal.nodes-init
nodes-init c =
    let offer = offer_in c.args.claim.now in
    record {
      waiting = c.start-walk.ensures.may_wait offer;
      stems = c.start-walk.ensures.stems _ _ c.root_stem.ensures;
      come =
          subst (λ ns. HasCome offer c.args.claim.now.required (champion_in c.args.claim.now) c.args.text.now ns c.args.text.now)
          (sym (c.start-walk.ensures.waiting (offer_in c.args.claim.now).menu)) (come_first offer c.args.claim.now.required (champion_in c.args.claim.now) c.args.text.now);
    }

pub returns-in-Ended-clause-ok : goal.returns-in-Ended-clause-ok
returns-in-Ended-clause-ok c =
    let offer = offer_in c.args.claim.now in
    let ended =
    subst
    (λ s. IsStep offer c.args.claim.now.required (champions_places c.args.claim.now) (spots_of (offer_in c.args.claim.now).menu (waiting_of c.nodes.walk))
    s (spots_of (offer_in c.args.claim.now).menu (waiting_of c.step.new.self)))
    c.in-Ended.is c.step.ensures.step in
    on_ok c.ended.result _ _ c.ended.ensures.ok
    (λ none. text_where_ended offer c.args.claim.now.required (champion_in c.args.claim.now) c.args.text.now (spots_of (offer_in c.args.claim.now).menu (waiting_of c.nodes.walk))
    c.nodes.rest.now c.nodes.invariant.come ended none)

pub returns-in-Ended-clause-fails : goal.returns-in-Ended-clause-fails
returns-in-Ended-clause-fails c =
    let offer = offer_in c.args.claim.now in
    let ended =
    subst
    (λ s. IsStep offer c.args.claim.now.required (champions_places c.args.claim.now) (spots_of (offer_in c.args.claim.now).menu (waiting_of c.nodes.walk))
    s (spots_of (offer_in c.args.claim.now).menu (waiting_of c.step.new.self)))
    c.in-Ended.is c.step.ensures.step in
    if_err c.ended.result _ _ c.ended.ensures.err (λ defect found.
    fails_where_ended offer c.args.claim.now.required (champion_in c.args.claim.now) c.args.text.now (spots_of (offer_in c.args.claim.now).menu (waiting_of c.nodes.walk)) c.nodes.rest.now c.nodes.invariant.come (offset_in defect) ended found.0 (ap offset_in found.1 ∙ c.offset_of-at.ensures))

pub returns-in-Ended-clause-defect : goal.returns-in-Ended-clause-defect
returns-in-Ended-clause-defect c =
    let offer = offer_in c.args.claim.now in
    let ended =
    subst
    (λ s. IsStep offer c.args.claim.now.required (champions_places c.args.claim.now) (spots_of (offer_in c.args.claim.now).menu (waiting_of c.nodes.walk))
    s (spots_of (offer_in c.args.claim.now).menu (waiting_of c.step.new.self)))
    c.in-Ended.is c.step.ensures.step in
    if_err c.ended.result _ _ c.ended.ensures.err (λ defect found plain.
    subst (IsDefect offer (champion_in c.args.claim.now) c.args.text.now) (sym found.1) (defect_where_ended offer (champion_in c.args.claim.now) c.args.text.now (spots_of (offer_in c.args.claim.now).menu (waiting_of c.nodes.walk)) c.nodes.rest.now
    (subst (λ r. HasCome offer r (champion_in c.args.claim.now) c.args.text.now (spots_of (offer_in c.args.claim.now).menu (waiting_of c.nodes.walk)) c.nodes.rest.now) plain c.nodes.invariant.come) c.offset_of-at.result ended found.0 c.offset_of-at.ensures))

pub returns-in-Unsigned-clause-fails : goal.returns-in-Unsigned-clause-fails
returns-in-Unsigned-clause-fails c =
    let offer = offer_in c.args.claim.now in
    let step =
    subst
    (λ s. IsStep offer c.args.claim.now.required (champions_places c.args.claim.now) (spots_of (offer_in c.args.claim.now).menu (waiting_of c.nodes.walk))
    s (spots_of (offer_in c.args.claim.now).menu (waiting_of c.step.new.self)))
    c.in-Unsigned.is c.step.ensures.step in
    fails_unsigned offer c.args.claim.now.required (champion_in c.args.claim.now) c.args.text.now (spots_of (offer_in c.args.claim.now).menu (waiting_of c.nodes.walk)) c.nodes.rest.now
    c.nodes.invariant.come (offset_in c.without_sign.result) (spots_of (offer_in c.args.claim.now).menu (waiting_of c.step.new.self)) step
    (c.without_sign.ensures.offset ∙ c.offset_of-at.ensures)

pub returns-in-Unsigned-clause-defect : goal.returns-in-Unsigned-clause-defect
returns-in-Unsigned-clause-defect c = λ plain.
    let offer = offer_in c.args.claim.now in
    let step =
    subst
    (λ s. IsStep offer c.args.claim.now.required (champions_places c.args.claim.now) (spots_of (offer_in c.args.claim.now).menu (waiting_of c.nodes.walk))
    s (spots_of (offer_in c.args.claim.now).menu (waiting_of c.step.new.self)))
    c.in-Unsigned.is c.step.ensures.step in
    let step' =
    subst
    (λ r. IsStep offer r (champions_places c.args.claim.now) (spots_of (offer_in c.args.claim.now).menu (waiting_of c.nodes.walk)) Unsigned
    (spots_of (offer_in c.args.claim.now).menu (waiting_of c.step.new.self)))
    plain step in
    defect_unsigned offer (champion_in c.args.claim.now) c.args.text.now (spots_of (offer_in c.args.claim.now).menu (waiting_of c.nodes.walk)) c.nodes.rest.now
    (subst (λ r. HasCome offer r (champion_in c.args.claim.now) c.args.text.now (spots_of (offer_in c.args.claim.now).menu (waiting_of c.nodes.walk)) c.nodes.rest.now) plain
    c.nodes.invariant.come)
    c.without_sign.result (spots_of (offer_in c.args.claim.now).menu (waiting_of c.step.new.self)) step' c.without_sign.ensures.unsigned
    (c.without_sign.ensures.offset ∙ c.offset_of-at.ensures)

pub returns-in_err-rest-in-Signed-clause-fails : goal.returns-in_err-rest-in-Signed-clause-fails
returns-in_err-rest-in-Signed-clause-fails c =
    let offer = offer_in c.args.claim.now in
    let step =
    subst
    (λ s. IsStep offer c.args.claim.now.required (champions_places c.args.claim.now) (spots_of (offer_in c.args.claim.now).menu (waiting_of c.nodes.walk))
    s (spots_of (offer_in c.args.claim.now).menu (waiting_of c.step.new.self)))
    c.in-Signed.is c.step.ensures.step in
    err_from c.from_residual.result c.in_err-rest-in-Signed.field-0.0 _ c.from_residual.ensures.1
    (fails_signed offer c.args.claim.now.required (champion_in c.args.claim.now) c.args.text.now (spots_of (offer_in c.args.claim.now).menu (waiting_of c.nodes.walk)) c.nodes.rest.now c.nodes.invariant.come (offset_in c.in_err-rest-in-Signed.field-0.0) c.in-Signed.sign (spots_of (offer_in c.args.claim.now).menu (waiting_of c.step.new.self)) step c.in_err-rest-in-Signed.ensures.stuck
    (c.in_err-rest-in-Signed.ensures.offset ∙ c.offset_of-at.ensures))

pub returns-in_err-rest-in-Signed-clause-defect : goal.returns-in_err-rest-in-Signed-clause-defect
returns-in_err-rest-in-Signed-clause-defect c =
    let offer = offer_in c.args.claim.now in
    let step =
    subst
    (λ s. IsStep offer c.args.claim.now.required (champions_places c.args.claim.now) (spots_of (offer_in c.args.claim.now).menu (waiting_of c.nodes.walk))
    s (spots_of (offer_in c.args.claim.now).menu (waiting_of c.step.new.self)))
    c.in-Signed.is c.step.ensures.step in
    err_from c.from_residual.result c.in_err-rest-in-Signed.field-0.0 _ c.from_residual.ensures.1
    (λ plain. defect_signed offer (champion_in c.args.claim.now) c.args.text.now (spots_of (offer_in c.args.claim.now).menu (waiting_of c.nodes.walk)) c.nodes.rest.now
    (subst (λ r. HasCome offer r (champion_in c.args.claim.now) c.args.text.now (spots_of (offer_in c.args.claim.now).menu (waiting_of c.nodes.walk)) c.nodes.rest.now) plain
    c.nodes.invariant.come)
    c.in_err-rest-in-Signed.field-0.0 c.in-Signed.sign (spots_of (offer_in c.args.claim.now).menu (waiting_of c.step.new.self))
    (subst
    (λ r. IsStep offer r (champions_places c.args.claim.now) (spots_of (offer_in c.args.claim.now).menu (waiting_of c.nodes.walk))
    (Signed c.in-Signed.sign) (spots_of (offer_in c.args.claim.now).menu (waiting_of c.step.new.self)))
    plain step)
    c.in_err-rest-in-Signed.ensures.mismatch
    (c.in_err-rest-in-Signed.ensures.offset ∙ c.offset_of-at.ensures))

pub nodes-preserved : goal.nodes-preserved
nodes-preserved c =
    let offer = offer_in c.args.claim.now in
    let step =
    subst
    (λ s. IsStep offer c.args.claim.now.required (champions_places c.args.claim.now) (spots_of (offer_in c.args.claim.now).menu (waiting_of c.nodes.walk))
    s (spots_of (offer_in c.args.claim.now).menu (waiting_of c.step.new.self)))
    c.in-Signed.is c.step.ensures.step in
    record {
      waiting = c.step.ensures.waiting;
      stems = c.step.ensures.stems;
      come =
          come_more offer c.args.claim.now.required (champion_in c.args.claim.now) c.args.text.now (spots_of (offer_in c.args.claim.now).menu (waiting_of c.nodes.walk))
          c.nodes.rest.now
          c.nodes.invariant.come c.in-Signed.sign (spots_of (offer_in c.args.claim.now).menu (waiting_of c.step.new.self)) c.in_ok-rest-in-Signed.rest.now step
          c.in_ok-rest-in-Signed.ensures.ok;
    }
