use Rattle.std.proofs.Common.{◌≡◌, ◌≤◌, length, ap, subst, arith}
use Rattle.bundle_rules.specs.Bundles.{sections_of}
use Rattle.bundle_bounds.specs.Offers.{places_of}
use Rattle.proof_tree.specs.Claims.{offer_in, champion_in, champions_places}
use Rattle.proof_tree.specs.Steps.{MayWait, spots_of}
use Rattle.proof_tree.proofs.Stands.{stems_less, stems_set, stem_set, stem_taken}
use Rattle.proof_tree.specs.Texts.{IsShort}
use Rattle.proof_tree.proofs.LowLeaves.{short_sign}
use Rattle.proof_tree.proofs.walk.Walk.step.Goals as goal

pub invariant_of-visit : goal.invariant_of-visit
invariant_of-visit c =
    let waits = subst (MayWait (offer_in c.args.claim.now)) c.in-Some.ensures.some c.requires.waiting.nodes in
    record { is_node = waits.2; within = waits.1 }

pub sign_at-requires : goal.sign_at-requires
sign_at-requires c =
    let claim = c.args.claim.now in
    record {
      stem =
          stem_taken (offer_in claim) (champion_in claim) c.args.self.now c.take.new.self c.in-Some.node c.requires.stems
          c.in-Some.ensures.one c.in-Some.ensures.node c.index-self-at.result;
    }

pub put_below-requires-clause-waits : goal.put_below-requires-clause-waits
put_below-requires-clause-waits c = subst (MayWait (offer_in c.args.claim.now)) c.in-Some.ensures.some c.requires.waiting.nodes

-- the other stems stay as they are
pub put_below-requires-clause-stems : goal.put_below-requires-clause-stems
put_below-requires-clause-stems c =
    let claim = c.args.claim.now in
    stems_set (offer_in claim) (champion_in claim) c.take.new.self c.take.new.self.count c.sign_at.new.stem
    (stems_less (offer_in claim) (champion_in claim) c.args.self.now c.take.new.self c.requires.stems c.in-Some.ensures.one)
    (omega arith)

pub put_below-requires-clause-stem : goal.put_below-requires-clause-stem
put_below-requires-clause-stem c =
    let claim = c.args.claim.now in
    let left =
    stems_less (offer_in claim) (champion_in claim) c.args.self.now c.take.new.self c.requires.stems c.in-Some.ensures.one in
    let whole : length c.take.new.self.stems ≡ 9 = left.whole in
    let few : c.take.new.self.count ≤ 8 = c.in-Some.ensures.few in
    stem_set (offer_in claim) (champion_in claim) c.take.new.self.stems c.take.new.self.count c.in-Some.node.place (sections_of c.in-Some.node.chosen)
    c.sign_at.new.stem (omega arith) c.sign_at.ensures.stem

pub returns-in_default-sign_at-clause-stems : goal.returns-in_default-sign_at-clause-stems
returns-in_default-sign_at-clause-stems c =
    let claim = c.args.claim.now in
    stems_set (offer_in claim) (champion_in claim) c.take.new.self c.take.new.self.count c.sign_at.new.stem
    (stems_less (offer_in claim) (champion_in claim) c.args.self.now c.take.new.self c.requires.stems c.in-Some.ensures.one)
    (omega arith)

pub returns-clause-step : goal.returns-clause-step
returns-clause-step c = (
  _,
  (_, ap (spots_of (offer_in c.args.claim.now).menu) c.in-Some.ensures.some, c.in-Some-sign_at.ensures.some, c.put_below.ensures.below),
)

pub returns-in_default-sign_at-clause-step : goal.returns-in_default-sign_at-clause-step
returns-in_default-sign_at-clause-step c =
    (_, (_, ap (spots_of (offer_in c.args.claim.now).menu) c.in-Some.ensures.some, c.in_default-sign_at.ensures.none))

pub returns-clause-short : goal.returns-clause-short
returns-clause-short c = λ sign is.
    let claim = c.args.claim.now in
    let same : c.in-Some-sign_at.sign ≡ sign = cc is in
    let waits = subst (MayWait (offer_in claim)) c.in-Some.ensures.some c.requires.waiting.nodes in
    subst IsShort same
    (short_sign (offer_in claim) claim.required (champions_places claim) c.in-Some.node.place
    (places_of (offer_in claim).menu (sections_of c.in-Some.node.chosen)) c.in-Some-sign_at.sign c.sign_at.ensures.menu waits.1
    c.in-Some-sign_at.ensures.some)
