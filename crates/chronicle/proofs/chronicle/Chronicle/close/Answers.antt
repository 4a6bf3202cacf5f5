use Rattle.std.proofs.Common.{arith, ◌≡◌, ◌<◌, ◌∙◌, length, sym, ap, subst}
use mathlib.Core.Option.{some-injective}
use Rattle.chronicle.proofs.Gathering.{ends, IsClosed}
use Rattle.chronicle.proofs.chronicle.Chronicle.close.Goals as goal

pub gather-place-requires-clause-some : goal.gather-place-requires-clause-some
gather-place-requires-clause-some g c =
    let seats : length c.args.self.allotments ≡ length c.self.inside.table.shared.key.allotments.value.items =
    ap (λ o. length o.allotments) (sym c.self.view_is) in
    let first = c.requires.all 0 (let goal : 0 < length c.args.self.allotments = omega (arith, c.self.invariant.2) in goal) in
    let below : first.0 < length c.args.seats.items = first.2 in
    omega (arith, c.args.seats.ok.0)

pub returns : goal.returns
returns g c =
    let place = c.gather-place.result in
    let all = c.close_with-closed.ensures.values.2 in
    let e =
    ends g.O.Object.base g.O.Object.state g.O.Object.room g.O.Object.sound g.O.Object.after g.O.Object.reply place.id c.args.self c.args.seats.items place.me
    all.0 all.1.0 all.1.1 c.gather-place.ensures.joined c.requires.all in
    let same : e.0 ≡ c.take-kept.result = some-injective e.0 c.take-kept.result (sym (all.4 0 e.0 e.1) ∙ c.take-kept.ensures.value) in
    let taken =
    subst
    (λ kept. IsClosed g.O.Object.base g.O.Object.state g.O.Object.room g.O.Object.sound g.O.Object.after g.O.Object.reply c.args.self c.args.seats.items
    kept.object kept.journal.items)
    same e.2 in
    let closed =
    subst
    (λ journal. IsClosed g.O.Object.base g.O.Object.state g.O.Object.room g.O.Object.sound g.O.Object.after g.O.Object.reply c.args.self
    c.args.seats.items c.take-kept.result.object journal)
    (sym c.of.ensures) taken in
    record {
      legal = closed.legal;
      seats = closed.entries;
      own = closed.own;
      seen = closed.seen;
      others = closed.others;
      base = closed.base;
      last = closed.last;
    }
