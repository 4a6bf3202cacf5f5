use Rattle.std.proofs.Common.{ℕ, ◌≡◌, ◌+◌, ◌∙◌, length, map, ap, arith, to_z, of_z, w64}
use Rattle.std.proofs.lemmas.Int.{ints}
use Rattle.std.specs.Prelude.{codes}
use Rattle.std.specs.Fmt.{decimal, signed_decimal}
use Rattle.bundle_rules.specs.Bundles.{sections_of}
use Rattle.demand_api.specs.Views.{data_of}
use Rattle.demand_api.proofs.Parts.{menus_few, students_length}
use Rattle.market_certificate.specs.Publications.{Proved, ProvedTurn}
use Rattle.market_certificate.specs.Views.{proved_of, publication_of, turn_of}
use Rattle.market_units.specs.Totals.{total}
use Rattle.published_market.specs.Publishing.{lengths_of}
use Rattle.market_run.specs.Summaries.{line, worth_of}
use Rattle.market_run.proofs.TenLines.{ten_lines}
use Rattle.market_run.proofs.Worths.{rated_last, worth_told}
use Rattle.market_run.proofs.summary.summary_text.Goals as goal

pub worth-utility-requires-clause-rated : goal.worth-utility-requires-clause-rated
worth-utility-requires-clause-rated c =
    rw (c.deref-2.ensures.value, c.deref-3.ensures.value)
    (rated_last c.args.crowd.now c.requires.0 c.requires.1
    (lengths_of c.args.published.now.turns c.args.published.now.rounds c.args.published.now.passes) (publication_of c.args.published.now.publication) c.requires.2)

pub worth-utility-requires-clause-few : goal.worth-utility-requires-clause-few
worth-utility-requires-clause-few c = omega (arith, ap length c.deref-2.ensures.value, menus_few c.args.crowd.now)

pub returns : goal.returns
returns c =
    let menus = c.args.crowd.now.menus.items in
    let budgets = c.args.crowd.now.budgets.items in
    let p = c.args.published.now.publication in
    let students : c.len.result ≡ length (data_of c.args.crowd.now).students =
    let count : length (data_of c.args.crowd.now).students ≡ length menus = students_length c.args.crowd.now in omega arith in
    let commands : c.len-2.result ≡ length p.order.items = omega arith in
    let seats : c.used_seats-seats.result ≡ total (λ (one : ℕ × ℕ). one.0) p.used.items =
    c.used_seats-seats.ensures ∙ ap (total (λ (one : ℕ × ℕ). one.0)) c.deref.ensures.value in
    let utility : c.worth-utility.result ≡ worth_of (data_of c.args.crowd.now).students (map sections_of p.allocation.items) =
    (rw (c.deref-2.ensures.value, c.deref-3.ensures.value) at c.worth-utility.ensures.value)
    ∙ worth_told menus budgets (map sections_of p.allocation.items) c.args.crowd.now.same in
    let passed : to_z w64 (of_z w64 c.worth-utility.result) ≡ c.worth-utility.result = omega (arith, ints) in
    let bundles : c.bundle_trees.result ≡ total (λ (proved : Proved). length proved.tree) (map proved_of p.bundles.items) =
    rw c.deref-4.ensures.value at c.bundle_trees.ensures.value in
    let turns : c.turn_trees.result ≡ total (λ (turn : ProvedTurn). length turn.tree) (map turn_of p.turns.items) =
    rw c.deref-5.ensures.value at c.turn_trees.ensures.value in
    let proof : c.bundle_trees.result + c.turn_trees.result
    ≡ total (λ (proved : Proved). length proved.tree) (map proved_of p.bundles.items)
    + total (λ (turn : ProvedTurn). length turn.tree) (map turn_of p.turns.items) =
    omega arith in
    ten_lines c.new-text.ensures.items c.in_ok-put_count.ensures c.in_ok-put_count-2.ensures c.in_ok-put_count-3.ensures c.in_ok-put_count-4.ensures
    c.in_ok-put_count-5.ensures c.in_ok-put_count-6.ensures c.in_ok-put_count-7.ensures
    c.in_ok-put_count-8.ensures c.in_ok-put_signed.ensures c.in_ok-put_count-9.ensures
    (ap (λ n. line (codes "students") (decimal n)) students)
    (ap (λ n. line (codes "sections") (decimal n)) c.from.ensures)
    (ap (λ n. line (codes "commands") (decimal n)) commands)
    (ap (λ n. line (codes "error") (decimal n)) c.from-2.ensures)
    (ap (λ n. line (codes "turns") (decimal n)) c.from-3.ensures)
    (ap (λ n. line (codes "rounds") (decimal n)) c.from-4.ensures)
    (ap (λ n. line (codes "passes") (decimal n)) c.from-5.ensures)
    (ap (λ n. line (codes "seats") (decimal n)) seats)
    (ap (λ n. line (codes "utility") (signed_decimal n)) (passed ∙ utility))
    (ap (λ n. line (codes "proof") (decimal n)) proof)
