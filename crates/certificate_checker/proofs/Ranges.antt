-- A text has at least as many bytes as entries in its order, and as turns.
use Rattle.std.proofs.Common.{ℕ, ◌≡◌, ◌≤◌, List, [], ◌∷◌, ◌++◌, length, map, ap, arith}
use Rattle.std.specs.Fmt.{decimal}
use Rattle.std.specs.List.{flat_map}
use Rattle.std.specs.Prelude.{codes}
use Rattle.std.proofs.lemmas.List.{length-map, length-append}
use Rattle.market_certificate.specs.Lines.{joined}
use Rattle.market_certificate.specs.Publications.{Publication}
use Rattle.market_certificate.specs.Tables.{Tables}
use Rattle.market_certificate.specs.Texts.{lines_of, order_line, text_of, turn_line}
use Rattle.market_certificate.proofs.Joins.{spaced_numbers, lines_few}

numbers_long : (ns : List ℕ) → length ns ≤ length (flat_map (λ n. 32 ∷ decimal n) ns)
numbers_long [] = omega arith
numbers_long (n ∷ ns) = let rest = numbers_long ns in let long = length-append (32 ∷ decimal n) (flat_map (λ m. 32 ∷ decimal m) ns) in omega arith

order_long : (order : List ℕ) → length order ≤ length (order_line order)
order_long order =
    let line : length (order_line order) ≡ length (codes "order" ++ flat_map (λ n. 32 ∷ decimal n) order) = ap length (spaced_numbers (codes "order") order) in
    let long = length-append (codes "order") (flat_map (λ n. 32 ∷ decimal n) order) in
    let numbers = numbers_long order in
    omega arith

pub order_in_text : (tables : Tables) (p : Publication) (text : List ℕ) → text ≡ text_of tables p → length p.order ≤ length text
order_in_text tables p text is =
    let same : length text ≡ length (joined (lines_of tables p)) = ap length is in
    let line : length (order_line p.order) ≤ length (joined (lines_of tables p)) = simp length-append (omega arith) in
    let order = order_long p.order in
    omega arith

pub turns_in_text : (tables : Tables) (p : Publication) (text : List ℕ) → text ≡ text_of tables p → length p.turns ≤ length text
turns_in_text tables p text is =
    let same : length text ≡ length (joined (lines_of tables p)) = ap length is in
    let lines = lines_few (lines_of tables p) in
    let turns = length-map p.turns (turn_line tables.students tables.sections) in
    let among : length (map (turn_line tables.students tables.sections) p.turns) ≤ length (lines_of tables p) = simp length-append (omega arith) in
    omega arith
