use Rattle.std.proofs.Common.{◌≡◌, ◌<◌, ◌∙◌, [], length, map, rules, ap, refl, subst, sym}
use Rattle.std.specs.Prelude.{slice_index_or}
use Rattle.std.proofs.lemmas.List.{length-map}
use Rattle.market_units.specs.Members.{has}
use Rattle.bundle_rules.specs.Bundles.{sections_of}
use Rattle.demand_api.proofs.Within.{read_at}
use Rattle.own_price.proofs.Exchanging.{holder_more, holder_none, holders_found}
use Rattle.own_price.specs.Exchanges.{AreHolders}
use Rattle.own_price.proofs.held.Held.holders.Goals.{then-has+in_ok-push, else-has}
use Rattle.own_price.proofs.held.Held.holders.Goals as goal

pub loop-place-preserved : goal.loop-place-preserved
loop-place-preserved c =
    let low : c.loop-place.place < length c.self.inside.bundles.items = search rules in
    let low_map : c.loop-place.place < length (map sections_of c.self.inside.bundles.items) = rw (length-map c.self.inside.bundles.items sections_of) low in
    let told : has (slice_index_or (map sections_of c.self.inside.bundles.items) c.loop-place.place []) c.args.section.0 ≡ c.has.result =
    ap (λ b. has b c.args.section.0) (read_at c.self.inside.bundles.items c.loop-place.place c.index.result.now low c.index.ensures)
    ∙ sym c.has.ensures in
    elim c.if-has.branch [
      | then-has+in_ok-push w ↦
          rw w.students-is
          (holder_more c.args.section.0 (map sections_of c.self.inside.bundles.items) c.loop-place.place c.loop-place.students.items w.push.new.self.items
          (record { 0 = c.loop-place.place }) c.loop-place.invariant low_map refl (told ∙ w.if-has.true) w.in_ok-push.ensures.items)
      | else-has w ↦
          rw w.students-is
          (holder_none c.args.section.0 (map sections_of c.self.inside.bundles.items) c.loop-place.place c.loop-place.students.items c.loop-place.invariant
          (told ∙ w.if-has.false))
    ]

pub returns : goal.returns
returns c =
    let past : length c.self.inside.bundles.items ≡ c.loop-place.place = search rules in
    subst (λ held. AreHolders c.args.section.0 held.bundles c.loop-place.students.items) c.self.view_is
    (holders_found c.args.section.0 (map sections_of c.self.inside.bundles.items) c.loop-place.place
    (length (map sections_of c.self.inside.bundles.items)) c.loop-place.students.items refl
    (sym past ∙ sym (length-map c.self.inside.bundles.items sections_of)) c.loop-place.invariant)
