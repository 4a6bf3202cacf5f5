use Rattle.std.proofs.Common.{◌≡◌, ◌≤◌, ◌+◌, ◌*◌, ◌-◌, ℕ, Fits, w32, arith, length, take, drop}
use Rattle.fairness_audit.proofs.RowTexts.{rest_length}
use Rattle.fairness_audit.proofs.counts.+sum_up.Goals as goal

-- two counts, of the first and of the others, fit where there are so few rows
sum_fits : (n m first others : ℕ) → m + 1 ≡ n → n ≤ 2000 → first ≤ 65535 → others ≤ 65535 * m → Fits w32 (first + others)
sum_fits n m first others more few one rest = omega arith

sum_few : (n m first others : ℕ) → m + 1 ≡ n → first ≤ 65535 → others ≤ 65535 * m → first + others ≤ 65535 * n
sum_few n m first others more one rest = omega arith

pub overflow_add-result : goal.overflow_add-result
overflow_add-result t c =
    sum_fits (length c.args.rows.now) (length (take (length c.args.rows.now - 1) (drop 1 c.args.rows.now))) c.of-first.result.lower c.sum_up-others.result.lower
    (rest_length c.args.rows.now c.in-len1-up.len_at_least) c.requires c.of-first.ensures.few.0 c.sum_up-others.ensures.few.0

pub overflow_add-result-in-len1-up : goal.overflow_add-result-in-len1-up
overflow_add-result-in-len1-up t c =
    sum_fits (length c.args.rows.now) (length (take (length c.args.rows.now - 1) (drop 1 c.args.rows.now))) c.of-first.result.higher
    c.sum_up-others.result.higher (rest_length c.args.rows.now c.in-len1-up.len_at_least) c.requires c.of-first.ensures.few.1 c.sum_up-others.ensures.few.1

pub overflow_add-result-in-len1-up-2 : goal.overflow_add-result-in-len1-up-2
overflow_add-result-in-len1-up-2 t c =
    sum_fits (length c.args.rows.now) (length (take (length c.args.rows.now - 1) (drop 1 c.args.rows.now))) c.of-first.result.beyond
    c.sum_up-others.result.beyond (rest_length c.args.rows.now c.in-len1-up.len_at_least) c.requires c.of-first.ensures.few.2 c.sum_up-others.ensures.few.2

pub returns-in-len1-up-clause-few : goal.returns-in-len1-up-clause-few
returns-in-len1-up-clause-few t c = (
  sum_few (length c.args.rows.now) (length (take (length c.args.rows.now - 1) (drop 1 c.args.rows.now))) c.of-first.result.lower c.sum_up-others.result.lower
      (rest_length c.args.rows.now c.in-len1-up.len_at_least) c.of-first.ensures.few.0 c.sum_up-others.ensures.few.0,
  sum_few (length c.args.rows.now) (length (take (length c.args.rows.now - 1) (drop 1 c.args.rows.now))) c.of-first.result.higher c.sum_up-others.result.higher
      (rest_length c.args.rows.now c.in-len1-up.len_at_least) c.of-first.ensures.few.1 c.sum_up-others.ensures.few.1,
  sum_few (length c.args.rows.now) (length (take (length c.args.rows.now - 1) (drop 1 c.args.rows.now))) c.of-first.result.beyond c.sum_up-others.result.beyond
      (rest_length c.args.rows.now c.in-len1-up.len_at_least) c.of-first.ensures.few.2 c.sum_up-others.ensures.few.2,
)
