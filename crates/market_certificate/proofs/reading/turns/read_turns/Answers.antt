use Rattle.std.proofs.Common.{ℕ, ◌≡◌, ◌++◌, ◌∷◌, [], List, map, ap, sym, subst, ◌∙◌}
use Rattle.std.proofs.lemmas.List.{map-append}
use Rattle.bundle_rules.specs.Bundles.{sections_of}
use Rattle.market_certificate.specs.declared.refusals.TextRefusal.{TextRefusal}
use Rattle.market_certificate.specs.Publications.{ProvedTurn}
use Rattle.market_certificate.specs.Texts.{turn_line}
use Rattle.market_certificate.specs.Due.{AreDue, One, Turns}
use Rattle.market_certificate.specs.Finding.{Finds, OnDefect}
use Rattle.market_certificate.specs.Views.{seen, turn_of}
use Rattle.market_certificate.proofs.Blocks.{AreTurnsRead, no_turns_read, shorter, turns_defect, turns_more}
use Rattle.market_certificate.proofs.Steps.{takes_same}
use Rattle.market_certificate.proofs.reading.turns.read_turns.Goals as goal

pub loop-line-init : goal.loop-line-init
loop-line-init c =
    subst
    (λ (turns : List ProvedTurn). AreTurnsRead (seen c.args.tables.now) turns c.args.lines.number c.args.lines.rest.now c.args.lines.number
    c.args.lines.rest.now)
    (sym (ap (map turn_of) c.new-turns.ensures.items)) (no_turns_read (seen c.args.tables.now) c.args.lines.number c.args.lines.rest.now)

pub returns-in_default-turn_in-clause-defect : goal.returns-in_default-turn_in-clause-defect
returns-in_default-turn_in-clause-defect c = λ form more.
    subst (λ (refusal : TextRefusal). OnDefect refusal (Finds (AreDue (seen c.args.tables.now) (Turns ∷ One form ∷ more)) c.args.lines.number c.args.lines.rest.now)) (sym c.out_of_form.ensures) (
    turns_defect (seen c.args.tables.now) (map turn_of c.loop-line.turns.items) c.args.lines.number c.args.lines.rest.now c.loop-line.left.number
    c.loop-line.left.rest.now c.in-Some.line.now c.in-Some.behind.number c.in-Some.behind.rest.now c.loop-line.invariant c.in-Some.ensures.takes
    c.in-Some.ensures.whole c.in-Some.ensures.begun c.in_default-turn_in.ensures.none form more
    )

pub loop-line-smaller : goal.loop-line-smaller
loop-line-smaller c =
    shorter c.in-Some.line.now c.loop-line.left.number c.loop-line.left.rest.now c.in-Some.behind.number c.in-Some.behind.rest.now c.in-Some.ensures.takes

pub loop-line-preserved : goal.loop-line-preserved
loop-line-preserved c =
    let turn : ProvedTurn =
    record {
      pass = c.in-Some-turn_in.pass;
      student = c.in-Some-turn_in.student.0;
      bundle = sections_of c.in-Some-turn_in.bundle;
      tree = c.in-Some-turn_in.tree.now;
    } in
    let line = turn_line (seen c.args.tables.now).students (seen c.args.tables.now).sections turn in
    let pushed : map turn_of c.push.new.self.items ≡ map turn_of c.loop-line.turns.items ++ turn ∷ [] =
    ap (map turn_of) c.in_ok-push.ensures.items ∙ map-append turn_of c.loop-line.turns.items _
    ∙ ap
    (λ (tree : List ℕ). map turn_of c.loop-line.turns.items ++ record { pass = turn.pass; student = turn.student; bundle = turn.bundle; tree = tree }
    ∷ [])
    (c.in_ok-tree.ensures.items_if_clones_equal (λ x y e. e)) in
    turns_more (seen c.args.tables.now) (map turn_of c.loop-line.turns.items) (map turn_of c.push.new.self.items) turn c.args.lines.number c.args.lines.rest.now
    c.loop-line.left.number c.loop-line.left.rest.now c.in-Some.behind.number c.in-Some.behind.rest.now c.loop-line.invariant
    c.in-Some-turn_in.ensures.range
    (takes_same c.in-Some.line.now line c.loop-line.left.number c.loop-line.left.rest.now c.in-Some.behind.number c.in-Some.behind.rest.now
    c.in-Some-turn_in.ensures.line c.in-Some.ensures.takes)
    pushed

pub returns-clause-range : goal.returns-clause-range
returns-clause-range c = c.loop-line.invariant.range

pub returns-clause-lines : goal.returns-clause-lines
returns-clause-lines c = c.loop-line.invariant.takes
