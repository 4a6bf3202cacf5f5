use Rattle.std.proofs.Common.{◌∙◌, length, Some, ap, refl}
use Rattle.std.proofs.lemmas.Option.{slice_get_read}
use Rattle.aftermarket_stage.proofs.choosing.Chooser.is_settled.Goals as goal

pub none_new-requires : goal.none_new-requires
none_new-requires c = rw c.places.ensures.value (λ k d low. (c.places.ensures.menu.places.each k d low).section)

pub returns-in-Some : goal.returns-in-Some
returns-in-Some c = λ is. record {
  sections = c.in-Some.known;
  are_known =
      slice_get_read c.args.self.now.known.items (length c.args.self.now.known.items) c.args.place c.index.result.now refl c.requires c.index.ensures
      ∙ ap (λ one. Some one) c.in-Some.is;
  none_new = rw c.places.ensures.value at c.none_new.ensures is;
}
