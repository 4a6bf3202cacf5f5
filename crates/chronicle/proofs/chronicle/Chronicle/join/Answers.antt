use Rattle.std.proofs.Common.{rules, ap, sym, ◌∙◌}
use Rattle.chronicle.proofs.Calls.{table_of}
use Rattle.chronicle.proofs.Gathering.{joins_at, joined_more}
use Rattle.chronicle.proofs.chronicle.Chronicle.join.Goals as goal

pub join_seat-requires : goal.join_seat-requires
join_seat-requires g c =
    let place = c.into_place.result in
    let given = c.into_place.ensures in (
      search rules,
      table_of g.O.Object.base g.O.Object.state g.O.Object.room g.O.Object.sound g.O.Object.after g.O.Object.reply place.table_id c.args.self.now
          c.args.seat.number place.me c.args.seat given.at_rest given.tells c.requires.chronicle
          ∙ sym (ap (λ o. o.table) c.self.view_is),
      ap (λ me. me.1) given.at_rest.is,
      search rules,
      joins_at g.O.Object.base g.O.Object.state g.O.Object.room g.O.Object.sound g.O.Object.after g.O.Object.reply c.args.keeper.now.id place.id c.args.self.now
          c.args.seat.number c.args.keeper.now.me place.me c.requires.keeper given.at_rest,
    )

pub returns-clause-joined : goal.returns-clause-joined
returns-clause-joined g c = λ seats h.
    joined_more c.args.self.now seats c.args.keeper.now.me c.into_place.result.me c.join_seat.new.seat.me c.into_place.result.table_id c.args.seat h
    c.into_place.ensures.at_rest c.into_place.ensures.tells c.join_seat.ensures.2
