use Rattle.std.proofs.Common.{◌<◌, ◌≤◌, ℕ, length, sym, ◌∙◌, ap}
use Rattle.std.specs.Prelude.{not}
use Rattle.std.proofs.lemmas.Nat.Bits.{shr_and_one}
use Rattle.std.proofs.lemmas.Bool.{false≢true}
use Rattle.demand_oracle.specs.Questions.{offer_asked, aim_of}
use Rattle.demand_oracle.specs.SummedNodes.{chosen_of}
use Rattle.demand_oracle.proofs.OpenPlaces.{shut_where_clear}
use Rattle.demand_oracle.proofs.Openings.{open_at_where_takable}
use Rattle.demand_oracle.proofs.Wanting.{lost_prunes}
use Rattle.demand_oracle.proofs.below.is_lost.Goals as goal

pub returns-then-word-place-eq0-clause-lost : goal.returns-then-word-place-eq0-clause-lost
returns-then-word-place-eq0-clause-lost c champion is =
    let question = c.args.question.now in
    let offer = offer_asked question in
    let place : ℕ = c.in-Some.place in
    let k : ℕ = c.args.summed.now.node.place in
    let chosen = chosen_of c.args.summed.now in
    let on : place < length question.offer.now.menu.now.places = rw c.in-Some.is at c.requires.question.given in
    let later : k ≤ place = c.if-place-summed.false in
    let clear = sym (shr_and_one c.args.word place) ∙ c.if-word-place-eq0.true in
    lost_prunes offer c.requires.question.menu place on k chosen c.requires.node later (aim_of question)
    (λ bundle is_wanted. rw c.in-Some.is at is_wanted)
    (shut_where_clear offer k chosen c.args.word c.requires.word place later on clear) champion

pub returns-else-word-place-eq0-clause-lost : goal.returns-else-word-place-eq0-clause-lost
returns-else-word-place-eq0-clause-lost c champion is =
    let question = c.args.question.now in
    let offer = offer_asked question in
    let place : ℕ = c.in-Some.place in
    let k : ℕ = c.args.summed.now.node.place in
    let chosen = chosen_of c.args.summed.now in
    let on : place < length question.offer.now.menu.now.places = rw c.in-Some.is at c.requires.question.given in
    let later : k ≤ place = c.if-place-summed.false in
    lost_prunes offer c.requires.question.menu place on k chosen c.requires.node later (aim_of question)
    (λ bundle is_wanted. rw c.in-Some.is at is_wanted)
    (λ takable.
    let at = open_at_where_takable offer c.requires.question.menu c.args.summed.now c.requires.summed k c.requires.node place later on takable in
    false≢true (sym (ap not ((c.fits.ensures c.requires.question on).1 (at.price, at.credits))) ∙ is)) champion
