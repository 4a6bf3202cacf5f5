use Rattle.std.proofs.Common.{◌≡◌, ◌<◌, ◌+◌, ◌*◌, length, refl, sym, subst, arith}
use Rattle.std.proofs.lemmas.Int.{ints}
use Rattle.bundle_rules.proofs.Tables.{read_range}
use Rattle.bundle_rules.proofs.rows.Rows.adjustment.Goals as goal

pub returns-clause-low : goal.returns-clause-low
returns-clause-low c =
    let first : c.args.a < length c.self.inside.places.items = subst (λ menu. c.args.a < length menu.places) (sym c.self.view_is) c.requires.first in
    let second : c.args.b < length c.self.inside.places.items = subst (λ menu. c.args.b < length menu.places) (sym c.self.view_is) c.requires.second in
    let at : c.from.result * c.len.result + c.from-2.result ≡ c.args.a * length c.self.inside.places.items + c.args.b =
    rw (c.from.ensures, c.len.ensures, c.from-2.ensures, c.self.inside.places.ok.0) refl in
    let range = read_range _ c.self.inside.adjustments.items c.args.a c.args.b _ c.index.result.now c.self.invariant first second at c.index.ensures in
    omega (arith, ints, range.1, range.2)

pub returns-clause-high : goal.returns-clause-high
returns-clause-high c =
    let first : c.args.a < length c.self.inside.places.items = subst (λ menu. c.args.a < length menu.places) (sym c.self.view_is) c.requires.first in
    let second : c.args.b < length c.self.inside.places.items = subst (λ menu. c.args.b < length menu.places) (sym c.self.view_is) c.requires.second in
    let at : c.from.result * c.len.result + c.from-2.result ≡ c.args.a * length c.self.inside.places.items + c.args.b =
    rw (c.from.ensures, c.len.ensures, c.from-2.ensures, c.self.inside.places.ok.0) refl in
    let range = read_range _ c.self.inside.adjustments.items c.args.a c.args.b _ c.index.result.now c.self.invariant first second at c.index.ensures in
    omega (arith, ints, range.1, range.2)
