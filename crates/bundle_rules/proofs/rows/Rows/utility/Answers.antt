use Rattle.std.proofs.Common.{◌≡◌, ◌<◌, ◌∙◌, ap, sym, subst, length, All, to_z, of_z, w32, arith}
use Rattle.std.proofs.lemmas.Int.{ints}
use Rattle.bundle_rules.specs.Bundles.{sections_of}
use Rattle.bundle_rules.specs.Menus.{by_place}
use Rattle.bundle_rules.specs.Wishes.{utility}
use Rattle.bundle_rules.proofs.Feasibility.{places_of_rated, utility_by_place}
use Rattle.bundle_rules.proofs.rows.Rows.utility.Goals as goal

pub invariant_of-utility_of : goal.invariant_of-utility_of
invariant_of-utility_of c = record {
  on_menu =
      subst (All (λ place. place < length c.args.self.now.places)) (sym (c.as_slice-places.ensures.value ∙ c.of-places.ensures))
      (places_of_rated c.args.self.now (sections_of c.args.bundle.now) c.requires);
  few = c.as_slice-places.ensures.few;
}

pub returns : goal.returns
returns c =
    let same : to_z w32 (of_z w32 c.utility_of.result) ≡ c.utility_of.result = omega (arith, ints) in
    same ∙ c.utility_of.ensures.value ∙ ap (utility (by_place c.args.self.now)) (c.as_slice-places.ensures.value ∙ c.of-places.ensures)
    ∙ utility_by_place c.args.self.now (sections_of c.args.bundle.now)
