use Rattle.std.proofs.Common.{rules, ◌∙◌}
use Rattle.chronicle.proofs.Dealing.{deals_at, dealing_next, dealt_at_rest, dealt_tells}
use Rattle.chronicle.proofs.chronicle.Chronicle.deal.Goals as goal

pub split_seat-place-requires : goal.split_seat-place-requires
split_seat-place-requires g c = (
  search rules,
  search rules,
  deals_at g.O.Object.base g.O.Object.state g.O.Object.room g.O.Object.sound g.O.Object.after g.O.Object.reply c.args.first.now.id c.args.self.now c.args.number
      c.args.first.now.me c.requires.dealing c.requires.next.0,
)

pub invariant_of-result : goal.invariant_of-result
invariant_of-result g c =
    dealt_at_rest c.args.self.now c.args.number c.args.first.now.me c.split_seat-place.result.me c.requires.dealing c.requires.next.1
    c.split_seat-place.ensures.4

pub returns-clause-dealing : goal.returns-clause-dealing
returns-clause-dealing g c =
    dealing_next c.args.self.now c.args.number c.args.first.now.me c.split_seat-place.new.seat.me c.requires.dealing c.split_seat-place.ensures.2

pub returns-clause-seat : goal.returns-clause-seat
returns-clause-seat g c =
    let split = c.split_seat-place.ensures in
    dealt_tells c.args.self.now c.split_seat-place.result.table_id c.args.number c.args.first.now.me c.split_seat-place.result.me c.requires.dealing
    (split.3 ∙ c.requires.own) split.4
