use Rattle.std.proofs.Common.{◌≢◌, sym}
use Rattle.row_region.specs.Rows.{IsLive}
use Rattle.row_region.proofs.Rows.{live_here, live_there, live_left, spare_apart}
use Rattle.table_tests.proofs.tests.rows.rows_are_apart.Goals as goal

-- the second row was spare when the first was live, so to give the first back leaves it live
pub row-requires-5 : goal.row-requires-5
row-requires-5 g c =
    let first = c.take-first.result.0 in
    let second = c.take-second.result.0 in
    let first_live : IsLive c.take-first.new.self first = rw c.take-first.ensures.filled (live_here _ _ _) in
    let apart : first ≢ second = spare_apart c.take-first.new.self.live second first c.take-second.ensures.was_spare first_live in
    let second_live : IsLive c.take-second.new.self second = rw c.take-second.ensures.filled (live_here _ _ _) in
    let left : IsLive c.give.new.self second = rw c.give.ensures.given (live_left _ _ second (λ e. apart (sym e)) (live_there _ _ _ second second_live)) in
    rw c.take-third.ensures.filled (live_there _ _ _ second left)
