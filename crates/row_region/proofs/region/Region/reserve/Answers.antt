use Rattle.std.proofs.Common.{◌≡◌, ◌∙◌, length, arith}
use Rattle.std.specs.FinMap as map
use Rattle.row_region.proofs.Kept.{kept_whole, rows_of-whole}
use Rattle.row_region.proofs.region.Region.reserve.Goals as goal

pub invariant_of-result : goal.invariant_of-result
invariant_of-result g c =
    let made = c.loop-id.invariant in
    let all : c.loop-id.id ≡ c.args.rows = omega arith in
    kept_whole _ made.wide (omega (arith, made.ids_so_far, made.rows_so_far)) (λ k h. made.ids k (omega (arith, made.rows_so_far)))
    (omega (arith, made.rows_so_far)) (omega (arith, made.rows_so_far))

pub returns : goal.returns
returns g c =
    let made = c.loop-id.invariant in
    let all : length c.loop-id.all_rows.items ≡ c.args.rows = omega (arith, made.rows_so_far) in
    rows_of-whole (record { rows = c.loop-id.all_rows; spare_ids = c.loop-id.spare_ids; spare = c.args.rows; width = c.args.width; fill = c.args.fill })
    (omega (arith, made.ids_so_far, made.rows_so_far)) (λ k h. made.ids k (omega (arith, made.rows_so_far))) (omega (arith, made.rows_so_far))
    ∙ (λ i. record { width = c.args.width; fill = c.args.fill; reserved = all i; live = map.empty })
