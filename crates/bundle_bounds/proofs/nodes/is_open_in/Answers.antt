use Rattle.std.proofs.Common.{◌≡◌, ◌∙◌, ap, refl, true, arith}
use Rattle.std.specs.Prelude.{nat_le}
use Rattle.plain_facts.proofs.Numbers.{le_true}
use Rattle.bundle_rules.specs.Bundles.{sections_of}
use Rattle.bundle_rules.proofs.Feasibility.{places_of_rated}
use Rattle.bundle_bounds.specs.Offers.{places_of}
use Rattle.bundle_bounds.specs.Views.{data_of}
use Rattle.bundle_bounds.specs.Opens.{is_open}
use Rattle.bundle_bounds.proofs.Outlook.{open_same}
use Rattle.bundle_bounds.proofs.nodes.is_open_in.Goals as goal

pub invariant_of-picks : goal.invariant_of-picks
invariant_of-picks c = record {
  on_menu =
      rw (c.as_slice-places.ensures.value, c.of-places.ensures)
      (places_of_rated c.args.offer.now.menu.now (sections_of c.args.node.now.chosen) c.requires.node.takable.feasible.rated);
  few = c.as_slice-places.ensures.few;
}

pub invariant_of-chosen : goal.invariant_of-chosen
invariant_of-chosen c =
    let same = c.as_slice-places.ensures.value ∙ c.of-places.ensures in
    record {
      on_menu =
          rw same (places_of_rated c.args.offer.now.menu.now (sections_of c.args.node.now.chosen) c.requires.node.takable.feasible.rated);
      few = c.as_slice-places.ensures.few;
      rests_are = c.rests_of-rests.ensures;
    }

pub returns : goal.returns
returns c =
    let offer = data_of c.args.offer.now in
    let slice = c.as_slice-places.result.now in
    let same : slice ≡ places_of c.args.offer.now.menu.now (sections_of c.args.node.now.chosen) = c.as_slice-places.ensures.value ∙ c.of-places.ensures in
    let rests = c.rests_of-rests in
    let undecided : nat_le c.args.node.now.place c.args.place ≡ true = le_true _ _ (omega arith) in
    let opened : c.is_open_at.result ≡ is_open offer slice c.args.place =
    open_same offer slice c.args.place rests.result.budget rests.result.credits rests.result.courses c.is_open_at.result c.is_open_at.ensures
    rests.ensures.budget_is rests.ensures.credits_is rests.ensures.courses_is in
    opened ∙ ap (λ cs. is_open offer cs c.args.place) same ∙ rw undecided refl
