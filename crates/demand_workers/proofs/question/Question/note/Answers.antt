use Rattle.std.proofs.Common.{rules, ℕ, ◌≡◌, ◌<◌, ◌≤◌, ◌∙◌, List, length, ap, sym, subst, arith}
use Rattle.std.specs.Arc.{arc_value}
use Rattle.std.proofs.lemmas.List.{length-set}
use Rattle.std.specs.FinSet as set
use Rattle.bundle_rules.specs.declared.menu.Rated.{Rated}
use Rattle.bundle_rules.specs.Demand.{price_in}
use Rattle.demand_workers.specs.declared.note.Note.{Note}
use Rattle.demand_workers.proofs.Noting.{AreAmong, among_more, asked_noted}
use Rattle.demand_workers.proofs.Recalling.{on_menu}
use Rattle.demand_workers.proofs.question.Question.note.Goals as goal

pub bounds-self-from : goal.bounds-self-from
bounds-self-from c =
    let question = c.args.self.now in
    let low : c.loop-place.place < length c.places-places.result.now = search rules in
    subst (λ (n : ℕ). n < length c.args.self.now.prices.now) (sym c.from.ensures)
    (on_menu (arc_value question.remembered.now.crowd) question.student.0 (length question.prices.now) c.menu.result.now c.places-places.result.now
    question.listed (c.menu.ensures c.menu.result.now) c.places-places.ensures.value question.priced.same c.loop-place.place _ low)

pub loop-place-preserved : goal.loop-place-preserved
loop-place-preserved c =
    let question = c.args.self.now in
    let low : c.loop-place.place < length c.places-places.result.now = search rules in
    let few : length c.menu.result.now.places ≤ 60 = c.places-places.ensures.menu.places.few in
    let same : length c.places-places.result.now ≡ length c.menu.result.now.places = ap length c.places-places.ensures.value in
    let len : length c.loop-place.prices ≡ 60 = c.loop-place.invariant.len in
    let fits : c.loop-place.place < length c.loop-place.prices = omega (arith, low, few, same, len) in
    record {
      len = length-set c.loop-place.prices c.loop-place.place _ ∙ c.loop-place.invariant.len;
      among =
          among_more c.places-places.result.now c.loop-place.prices question.prices.now c.loop-place.place c.from.result _ c.loop-place.invariant.among fits low
          c.from.ensures
          (subst (λ (n : ℕ). n < length c.args.self.now.prices.now) (sym c.from.ensures)
          (on_menu (arc_value question.remembered.now.crowd) question.student.0 (length question.prices.now) c.menu.result.now c.places-places.result.now
          question.listed (c.menu.ensures c.menu.result.now) c.places-places.ensures.value question.priced.same c.loop-place.place _ low));
    }

pub returns : goal.returns
returns c =
    let question = c.args.self.now in
    let note : Note =
    record { student = question.student; best = c.args.best; prices = c.loop-place.prices; whole = c.result-2-1.given.0 } in
    let few : length c.menu.result.now.places ≤ 60 = c.places-places.ensures.menu.places.few in
    let len : length c.loop-place.prices ≡ 60 = c.loop-place.invariant.len in
    let stop : c.loop-place.place ≡ length c.places-places.result.now = search rules in
    let all : AreAmong c.places-places.result.now c.loop-place.prices (price_in question.prices.now) (length c.places-places.result.now) =
    subst (AreAmong c.places-places.result.now c.loop-place.prices (price_in question.prices.now)) stop c.loop-place.invariant.among in
    asked_noted (arc_value question.remembered.now.crowd) (price_in question.prices.now) note c.menu.result.now (set.contains question.remembered.now.allowed)
    question.listed (c.menu.ensures c.menu.result.now) question.remembered.now.every
    (subst (λ (places : List Rated). AreAmong places c.loop-place.prices (price_in question.prices.now) (length places)) c.places-places.ensures.value all)
    (let goal : length c.menu.result.now.places ≤ length c.loop-place.prices = omega (arith, few, len) in goal)
    (λ budget is. c.requires c.menu.result.now budget (c.menu.ensures c.menu.result.now) is)
