use Rattle.std.proofs.Common.{rules, ◌≡◌, ◌<◌, ◌≤◌, ◌∙◌, length, ap, sym, arith}
use Rattle.std.specs.Arc.{arc_value}
use Rattle.bundle_rules.specs.Bundles.{sections_of}
use Rattle.market_units.specs.Members.{has}
use Rattle.demand_api.proofs.Parts.{menus_few, students_length}
use Rattle.demand_workers.specs.declared.remembered.Remembered.{Remembered}
use Rattle.demand_workers.specs.Views.{crowd_of, price_before}
use Rattle.demand_workers.proofs.HoldersLeave.{keeps_now, met_holding, met_left}
use Rattle.demand_workers.proofs.leaving.holders_of.Goals as goal

-- as many students as remembered bundles
many : (remembered : Remembered) → length (crowd_of remembered).students ≡ length remembered.bundles.items
many remembered = students_length (arc_value remembered.crowd) ∙ sym remembered.each

pub overflow_cast-question : goal.overflow_cast-question
overflow_cast-question c =
    let few : length (arc_value c.args.remembered.now.crowd).menus.items ≤ 2000 = menus_few (arc_value c.args.remembered.now.crowd) in
    let each : length c.args.remembered.now.bundles.items ≡ length (arc_value c.args.remembered.now.crowd).menus.items = c.args.remembered.now.each in
    let within : c.loop-place.place < length c.args.remembered.now.bundles.items = search rules in
    omega arith

pub loop-place-preserved : goal.loop-place-preserved
loop-place-preserved c =
    let remembered = c.args.remembered.now in
    let within : c.loop-place.place < length remembered.bundles.items = search rules in
    let holder = c.holder_of-holder.ensures in
    let all = many remembered in
    met_holding (crowd_of remembered) (price_before remembered) c.args.section.0 c.loop-place.place c.loop-place.holders.items c.push.new.self.items
    c.holder_of-holder.result
    (ap (λ b. has b c.args.section.0) (sym (ap sections_of c.index-bundle.ensures ∙ remembered.taken c.loop-place.place c.index-bundle.result.now within))
    ∙ sym c.has.ensures ∙ (search rules))
    c.in_ok-push.ensures.items holder.student (omega arith)
    (keeps_now (crowd_of remembered) remembered.prices.items c.deref.result.now c.args.section.0 c.loop-place.place c.holder_of-holder.result
    c.deref.ensures.value holder.student holder.room holder.later holder.capped holder.still)
    c.loop-place.invariant

pub returns : goal.returns
returns c =
    let remembered = c.args.remembered.now in
    let past : length remembered.bundles.items ≤ c.loop-place.place = search rules in
    let below : c.loop-place.place ≤ length remembered.bundles.items = search rules in
    let all = many remembered in
    met_left (crowd_of remembered) (price_before remembered) c.args.section.0 c.loop-place.place c.loop-place.holders.items (omega arith)
    c.loop-place.invariant
