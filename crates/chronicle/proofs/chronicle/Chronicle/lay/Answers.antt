use Rattle.std.proofs.Common.{rules, arith, ◌≤◌, ◌<◌, ◌^◌, ℕ, subst, sym, ap, ◌∙◌, []}
use Rattle.std.specs.Vec.{vec_capacity}
use Rattle.chronicle.specs.declared.kept.Kept.{Kept}
use Rattle.chronicle.specs.Views.{first_view}
use Rattle.chronicle.proofs.Dealing.{opens_at, dealing_first}
use Rattle.chronicle.proofs.chronicle.Chronicle.lay.Goals as goal

pub new-requires : goal.new-requires
new-requires g c =
    let kept : Kept g.row.O.Denot g.row.O-Request.Denot g.row.O-Reply.Denot = record { object = c.args.object; journal = c.reserve.new.self } in
    let reserved : c.args.calls ≤ vec_capacity c.reserve.new.self = search rules in
    opens_at g.O.Object.base g.O.Object.state g.O.Object.room g.O.Object.sound g.O.Object.after g.O.Object.reply c.push_reserved.new.self.items kept
    (g.O.Object.base c.args.key.now.object.value) (g.O.Object.state c.args.key.now.object.value) c.args.key.now.allotments.value.items
    (search rules) (ap g.O.Object.base c.requires.object) (ap g.O.Object.state c.requires.object) c.requires.seats (search rules)
    (subst (λ (n : ℕ). n ≤ g.O.Object.room c.args.object) c.requires.calls c.requires.room)
    (subst (λ (n : ℕ). n ≤ vec_capacity c.reserve.new.self) c.requires.calls reserved)
    (subst (λ (n : ℕ). n < 2 ^ 64) c.requires.calls (omega (arith, c.ranges.calls.fits)))

pub returns-in-Ok-clause-first : goal.returns-in-Ok-clause-first
returns-in-Ok-clause-first g c =
    let ok = c.in-Ok.ensures.ok in
    let about = sym ok.5 in
    dealing_first _ c.in-Ok.first.me
    (ok.4 ∙ (λ i. (first_view (g.O.Object.base (about i).object.value) (g.O.Object.state (about i).object.value) (about i).allotments.value.items, [])))
