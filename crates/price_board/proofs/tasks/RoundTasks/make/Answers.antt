use Rattle.std.proofs.Common.{rules, ℕ, ◌≡◌, ◌<◌, ◌^◌, ◌∙◌, None, List, Vec, Global, length, replicate, ap, sym, subst}
use Rattle.std.specs.Arc.{arc_value}
use Rattle.std.proofs.lemmas.List.{length-map, length-replicate}
use Rattle.market_units.specs.declared.units.Tokens.{Tokens}
use Rattle.demand_api.specs.declared.crowd.Crowd.{Crowd}
use Rattle.price_board.specs.declared.round.Round.{Round}
use Rattle.price_board.specs.declared.tally.Tally.{Tally}
use Rattle.price_board.specs.Openings.{AreAsked, list_of, terms_of}
use Rattle.price_board.specs.Terms.{student_count, task_count, version_count}
use Rattle.price_board.proofs.Tallying.{fresh_in}
use Rattle.price_board.proofs.tasks.RoundTasks.make.Goals as goal

-- the tallies of a round that was read, of so many students
tallies_are : (crowd : Crowd) (round seen : Round) (tallies : List Tally) (students : ℕ) → seen ≡ round → students ≡ student_count (terms_of crowd round)
    → (list_of seen.list ≡ None → tallies ≡ replicate (length seen.versions.items) (record { unfilled = students; count = 0 }))
    → list_of round.list ≡ None
    → tallies ≡ replicate (version_count (terms_of crowd round)) (record { unfilled = student_count (terms_of crowd round); count = 0 })
tallies_are crowd round seen tallies students same all told none =
    subst (λ (w : Round). list_of w.list ≡ None → tallies ≡ replicate (length w.versions.items) (record { unfilled = students; count = 0 })) same told none
    ∙ (λ i. replicate {A = Tally} (sym (length-map round.versions.items (λ (version : Vec Tokens Global). version.items)) i) (record { unfilled = all i; count = 0 }))

pub invariant_of-result : goal.invariant_of-result
invariant_of-result c =
    let crowd = arc_value c.args.crowd in
    let round = arc_value c.args.round in
    let all = c.students_in-students.ensures.all round ∙ ap (λ (w : Crowd). student_count (terms_of w round)) c.deref.ensures in
    record {
      students_are = all;
      few_students = c.students_in-students.ensures.few;
      counted = c.in_ok-count.ensures ∙ (λ i. task_count (terms_of (c.deref-2.ensures i) (c.deref-3.ensures i)));
      asked = λ none. (subst (λ l. AreAsked l (terms_of crowd round)) none c.requires.round.asked).2;
      tallied =
          λ none. ap length
          (tallies_are crowd round c.deref-4.result.now c.in_ok-tallies.tallies.items c.students_in-students.result c.deref-4.ensures all
          c.in_ok-tallies.ensures none)
          ∙ length-replicate (version_count (terms_of crowd round))
          (let t : Tally = record { unfilled = student_count (terms_of crowd round); count = 0 } in t);
    }

pub returns-clause-fresh : goal.returns-clause-fresh
returns-clause-fresh c =
    let crowd = arc_value c.args.crowd in
    let round = arc_value c.args.round in
    fresh_in (list_of round.list) (terms_of crowd round) c.in_ok-tallies.tallies.items
    (tallies_are crowd round c.deref-4.result.now c.in_ok-tallies.tallies.items c.students_in-students.result c.deref-4.ensures
    (c.students_in-students.ensures.all round ∙ ap (λ (w : Crowd). student_count (terms_of w round)) c.deref.ensures) c.in_ok-tallies.ensures)

pub returns-clause-few : goal.returns-clause-few
returns-clause-few c =
    let count : c.in_ok-count.count < 2 ^ 32 = search rules in
    subst (λ n. n < 2 ^ 32)
    (c.in_ok-count.ensures ∙ (λ i. task_count (terms_of (c.deref-2.ensures i) (c.deref-3.ensures i)))) count
