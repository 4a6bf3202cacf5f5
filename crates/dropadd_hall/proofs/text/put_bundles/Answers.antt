use Rattle.std.proofs.Common.{◌<◌, ◌++◌, ◌∷◌, [], ◌∙◌, arith, ap, length, subst}
use Rattle.market_units.specs.Name.{name_bytes}
use Rattle.bundle_rules.specs.Bundles.{sections_of}
use Rattle.dropadd_desk.specs.HallView.{market_of, state_of}
use Rattle.dropadd_desk.specs.Market.{Market, section_count}
use Rattle.dropadd_hall.specs.Texts.{held_line}
use Rattle.dropadd_hall.proofs.LineJoins.{line_more, held_put}
use Rattle.dropadd_hall.proofs.text.put_bundles.Goals as goal
use Rattle.market_units.proofs.Memberships.{all_within}

pub put_held-requires : goal.put_held-requires
put_held-requires c =
    all_within (length c.args.named.now.catalog.now.sections) (sections_of c.bundle.result)
    (λ s there. subst (λ (m : Market). s < section_count m) c.args.named.now.market (c.bundle.ensures.within s there))

pub students-preserved : goal.students-preserved
students-preserved c =
    let market = market_of c.args.named.now.desk.now in
    let state = state_of c.args.named.now.desk.now in
    line_more (held_line market state) c.students.student c.args.text.now.items c.students.text.items c.put_held.new.text.items c.students.invariant
    (c.in_ok-put_held.ensures
    ∙ ap (λ l. (c.students.text.items ++ l) ++ 10 ∷ [])
    (held_put market state c.args.named.now.catalog.now c.args.named.now.roll.now c.students.student (name_bytes c.name.result) (sections_of c.bundle.result) c.args.named.now.market
    (omega arith) c.name.ensures c.bundle.ensures.value))
