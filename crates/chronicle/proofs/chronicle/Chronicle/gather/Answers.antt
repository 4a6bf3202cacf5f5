use Rattle.std.proofs.Common.{◌≡◌, ◌∙◌, ◌∷◌, [], ◌++◌, ap, subst, append_assoc}
use Rattle.std.specs.Prelude.{Some}
use Rattle.std.specs.List.{All}
use Rattle.plain_facts.proofs.Lists.{all_front}
use Rattle.chronicle.proofs.Calls.{table_of}
use Rattle.chronicle.proofs.Gathering.{all_last, joined_alone}
use Rattle.chronicle.proofs.chronicle.Chronicle.gather.Goals as goal

pub join-requires-clause-chronicle : goal.join-requires-clause-chronicle
join-requires-clause-chronicle g c =
    let inv = c.seats.invariant.1 in
    let front = c.pop-in-seats.new.self.items in
    let items = inv.1 ∙ ap (λ l. l ++ inv.0) c.in-Some-pop.ensures.items in
    all_last (λ s. s.chronicle ≡ Some c.args.self.now) front c.in-Some-pop.seat
    (all_front (λ s. s.chronicle ≡ Some c.args.self.now) (front ++ c.in-Some-pop.seat ∷ []) inv.0
    (subst (All (λ s. s.chronicle ≡ Some c.args.self.now)) items c.requires.chronicle))

pub seats-preserved : goal.seats-preserved
seats-preserved g c =
    let inv = c.seats.invariant.1 in
    let popped = c.in-Some-pop.ensures.items in (
      c.join.ensures.own.0 ∙ c.seats.invariant.0,
      (
        c.in-Some-pop.seat ∷ inv.0,
        inv.1 ∙ ap (λ l. l ++ inv.0) popped ∙ append_assoc c.pop-in-seats.new.self.items (c.in-Some-pop.seat ∷ []) inv.0,
        c.join.ensures.joined inv.0 inv.2,
      ),
    )

pub seats-init : goal.seats-init
seats-init g c =
    let place = c.into_place-keeper.result in
    let given = c.into_place-keeper.ensures in
    let last = c.in-Some.last in
    let items = c.in-Some.ensures.items in
    let ours = all_last (λ s. s.chronicle ≡ Some c.args.self.now) c.pop.new.self.items last (subst (All (λ s. s.chronicle ≡ Some c.args.self.now)) items c.requires.chronicle) in (
      table_of g.O.Object.base g.O.Object.state g.O.Object.room g.O.Object.sound g.O.Object.after g.O.Object.reply place.table_id c.args.self.now last.number
          place.me last given.at_rest given.tells ours,
      (last ∷ [], items, joined_alone place.table_id c.args.self.now last.number place.me last given.at_rest given.tells ours),
    )
