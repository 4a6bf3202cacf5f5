use Rattle.std.proofs.Common.{ℕ, List, refl, rules, arith, ◌≡◌, ◌∙◌, ◌≤◌, ◌+◌, ◌*◌, ◌++◌, ◌∷◌, [], ap, length, sym, take}
use Rattle.std.proofs.lemmas.List.{map-append, take_all}
use Rattle.std.proofs.lemmas.List.Elements.{All-push}
use Rattle.std.proofs.lemmas.List.FromFn.{length-map-range_with_len}
use Rattle.seed_words.specs.Streams.{stream_word, stream_words}
use Rattle.market_units.specs.declared.units.Tokens.{Tokens}
use Rattle.budget_draw.specs.Budgets.{amounts, budgets_of}
use Rattle.budget_draw.specs.Ranks.{rank_among}
use Rattle.budget_draw.proofs.BudgetFacts.{budgets_of-more, drawn_rank-lt, length-budgets_of, tokens-le}
use Rattle.budget_draw.proofs.budgets.draw.Goals as goal

pub rank_among-rank-requires : goal.rank_among-rank-requires
rank_among-rank-requires c =
    omega (
      arith,
      ap length c.deref.ensures.value,
      ap length c.in_ok-words.ensures,
      length-map-range_with_len (stream_word c.args.seed 0) 0 c.from.result,
      c.from.ensures,
      c.from-in-loop-student.ensures,
    )

pub budget_at-requires-clause-rank : goal.budget_at-requires-clause-rank
budget_at-requires-clause-rank c =
    let words : c.deref.result.now ≡ stream_words c.args.seed 0 (length c.args.roll.now.students) =
    c.deref.ensures.value ∙ c.in_ok-words.ensures ∙ ap (stream_words c.args.seed 0) (c.from.ensures ∙ c.len-students.ensures.len) in
    rw c.rank_among-rank.ensures
    (drawn_rank-lt c.deref.result.now c.args.seed (length c.args.roll.now.students) c.from-in-loop-student.result words
    (omega (arith, c.from-in-loop-student.ensures, c.len-students.ensures.len)) c.len-students.ensures.roll.few)

pub budget_at-requires-clause-tokens : goal.budget_at-requires-clause-tokens
budget_at-requires-clause-tokens c =
    tokens-le c.args.roll.now.students c.loop-student.student c.base-base.result c.carry-carry.result (omega (arith, c.len-students.ensures.len))
    c.base-base.ensures.base c.carry-carry.ensures.range

pub loop-student-preserved : goal.loop-student-preserved
loop-student-preserved c =
    let words : c.deref.result.now ≡ stream_words c.args.seed 0 (length c.args.roll.now.students) =
    c.deref.ensures.value ∙ c.in_ok-words.ensures ∙ ap (stream_words c.args.seed 0) (c.from.ensures ∙ c.len-students.ensures.len) in
    let rank : c.rank_among-rank.result ≡ rank_among (stream_words c.args.seed 0 (length c.args.roll.now.students)) c.loop-student.student =
    c.rank_among-rank.ensures ∙ rw (words, c.from-in-loop-student.ensures) refl in
    let pushed : c.push.new.self.items ≡ c.loop-student.drawn.items ++ c.budget_at.result ∷ [] = search rules in
    let budget : c.budget_at.result.0
    ≡ c.base-base.result + c.carry-carry.result + c.args.spread
    * rank_among (stream_words c.args.seed 0 (length c.args.roll.now.students)) c.loop-student.student =
    c.budget_at.ensures.budget ∙ ap (λ (r : ℕ). c.base-base.result + c.carry-carry.result + c.args.spread * r) rank in
    let more =
    budgets_of-more c.args.roll.now.students c.args.seed c.args.spread c.loop-student.student c.base-base.result c.carry-carry.result
    (omega (arith, c.len-students.ensures.len)) c.base-base.ensures.base c.carry-carry.ensures.carry in
    record {
      budgets =
          ap amounts pushed
          ∙ map-append (λ one. one.0) c.loop-student.drawn.items (c.budget_at.result ∷ [])
          ∙ ap (λ (front : List ℕ). front ++ c.budget_at.result.0 ∷ []) c.loop-student.invariant.budgets
          ∙ ap (λ (b : ℕ). take c.loop-student.student (budgets_of c.args.roll.now.students c.args.seed c.args.spread) ++ b ∷ []) budget
          ∙ sym more;
      range =
          rw pushed
          (All-push (λ (budget : Tokens). budget.0 ≤ 997951) c.loop-student.drawn.items c.budget_at.result c.loop-student.invariant.range
          (c.budget_at.ensures.range c.requires));
    }

pub returns-clause-budgets : goal.returns-clause-budgets
returns-clause-budgets c =
    c.loop-student.invariant.budgets
    ∙ take_all _ _ (omega (arith, length-budgets_of c.args.roll.now.students c.args.seed c.args.spread, c.len-students.ensures.len))
