use Rattle.std.proofs.Common.{◌<◌, sym, ap, subst, ◌∙◌, length, arith}
use Rattle.market_units.specs.Members.{has}
use Rattle.bundle_rules.specs.Menus.{section_at}
use Rattle.bundle_rules.specs.Existence.Places.{section_at-is}
use Rattle.bundle_rules.proofs.PlacesFirst.{section_at-rises}
use Rattle.proof_tree.proofs.ways.is_on_way.Goals as goal

pub returns : goal.returns
returns c told place low on =
    let visit = c.args.visit.now in
    let places = visit.claim.offer.now.menu.now.places in
    let left : visit.node.place < length places = omega (arith, c.if-visit-len.false, c.len.ensures.value) in
    let next_is = section_at-is places visit.node.place c.rated.result.now c.rated.ensures.value in
    let rises = section_at-rises places place visit.node.place c.len.ensures.menu.places.ascending low left in
    sym (ap (λ l. has l (section_at places place)) c.sections-2.ensures.value)
    ∙ c.is_front.ensures told (section_at places place) (subst (λ n. section_at places place < n) next_is rises)
    ∙ ap (λ l. has l (section_at places place)) c.sections.ensures.value
