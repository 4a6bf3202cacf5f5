-- Lines of rows, one more of them.
use Rattle.std.proofs.Common.{◌≡◌, ◌<◌, ◌≤◌, ◌+◌, ◌-◌, ◌++◌, ◌∙◌, ℕ, zero, suc, List, [], ◌∷◌, length, take, drop, get_or, ap, sym, arith, append_assoc}
use Rattle.std.proofs.lemmas.List.{append-nil, take_all}
use Rattle.std.proofs.Math.Seq.{take-length}
use Rattle.market_certificate.specs.Lines.{joined}
use Rattle.market_certificate.proofs.Joins.{joined_append}
use Rattle.fairness_audit.specs.Rows.{RowData}
use Rattle.fairness_audit.specs.Texts.{part_lines, row_lines, rows_lines, total_line}

module _ (part : List ℕ) (students sections : List (List ℕ)) where
  next_row : (names : List (List ℕ)) (rows : List RowData) (k : ℕ) (name : List ℕ) (row : RowData) → k < length names → k < length rows
      → name ≡ get_or names k [] → row ≡ get_or rows k row
      → rows_lines part students sections (take (suc k) names) (take (suc k) rows)
      ≡ rows_lines part students sections (take k names) (take k rows) ++ row_lines part students sections name row
  next_row [] rows k name row low low' is has_it = absurd (omega arith)
  next_row (n ∷ ns) [] k name row low low' is has_it = absurd (omega arith)
  next_row (n ∷ ns) (r ∷ rs) zero name row low low' is has_it =
      append-nil (row_lines part students sections n r) ∙ (λ j. row_lines part students sections (sym is j) (sym has_it j))
  next_row (n ∷ ns) (r ∷ rs) (suc k) name row low low' is has_it =
      ap (λ l. row_lines part students sections n r ++ l) (next_row ns rs k name row (omega arith) (omega arith) is has_it)
      ∙ sym
      (append_assoc (row_lines part students sections n r) (rows_lines part students sections (take k ns) (take k rs))
      (row_lines part students sections name row))

  -- a text with the lines of one row more
  pub row_more : (names : List (List ℕ)) (rows : List RowData) (k : ℕ) (name : List ℕ) (row : RowData) (begun text new : List ℕ) → k < length names
      → k < length rows → name ≡ get_or names k [] → row ≡ get_or rows k row
      → text ≡ begun ++ joined (rows_lines part students sections (take k names) (take k rows))
      → new ≡ text ++ joined (row_lines part students sections name row)
      → new ≡ begun ++ joined (rows_lines part students sections (take (k + 1) names) (take (k + 1) rows))
  row_more names rows k name row begun text new low low' is has_it so put =
      let before : List (List ℕ) = rows_lines part students sections (take k names) (take k rows) in
      let one : List (List ℕ) = row_lines part students sections name row in
      put ∙ ap (λ t. t ++ joined one) so ∙ append_assoc begun (joined before) (joined one)
      ∙ ap (λ t. begun ++ t) (sym (joined_append before one) ∙ ap joined (sym (next_row names rows k name row low low' is has_it)))
      ∙ ap (λ m. begun ++ joined (rows_lines part students sections (take m names) (take m rows))) (let goal : suc k ≡ k + 1 = omega arith in goal)

  -- all rows, with the line of their sums
  pub part_whole : (rows : List RowData) (k : ℕ) (begun text line new : List ℕ) → k ≡ length students → length rows ≡ length students
      → text ≡ begun ++ joined (rows_lines part students sections (take k students) (take k rows))
      → line ≡ total_line part rows → new ≡ (text ++ line) ++ 10 ∷ [] → new ≡ begun ++ joined (part_lines part students sections rows)
  part_whole rows k begun text line new ends each so is put =
      let all : List (List ℕ) = rows_lines part students sections students rows in
      let whole : text ≡ begun ++ joined all =
      so
      ∙ (λ j. begun
      ++ joined
      (rows_lines part students sections
      (take_all k students (let n : ℕ = length students in let e : k ≡ n = ends in let goal : n ≤ k = omega arith in goal) j)
      (take_all k rows
      (let n : ℕ = length students in let m : ℕ = length rows in let e : k ≡ n = ends in let f : m ≡ n = each in let goal : m
      ≤ k = omega arith in goal)
      j))) in
      put ∙ append_assoc text line (10 ∷ []) ∙ (λ j. whole j ++ (is j ++ 10 ∷ [])) ∙ append_assoc begun (joined all) (total_line part rows ++ 10 ∷ [])
      ∙ ap (λ t. begun ++ t) (sym (joined_append all (total_line part rows ∷ [])))

-- a line, and more of them behind it
pub line_first : (text line first new : List ℕ) (more : List (List ℕ)) → first ≡ (text ++ line) ++ 10 ∷ [] → new ≡ first ++ joined more
    → new ≡ text ++ joined (line ∷ more)
line_first text line first new more one rest =
    rest ∙ ap (λ t. t ++ joined more) one ∙ append_assoc (text ++ line) (10 ∷ []) (joined more) ∙ append_assoc text line (10 ∷ joined more)

-- two parts behind nothing
pub both_parts : (begun first second : List ℕ) (one other : List (List ℕ)) → begun ≡ [] → first ≡ begun ++ joined one → second ≡ first ++ joined other
    → second ≡ joined (one ++ other)
both_parts begun first second one other none is then_is =
    then_is ∙ ap (λ t. t ++ joined other) (is ∙ ap (λ t. t ++ joined one) none) ∙ sym (joined_append one other)

-- the line of a sight, field by field
pub sight_text : (text word name bundle ending first second third fourth new : List ℕ) → first ≡ text ++ word → second ≡ first ++ 32 ∷ name
    → third ≡ second ++ 32 ∷ bundle → fourth ≡ third ++ 32 ∷ ending → new ≡ fourth ++ 10 ∷ []
    → new ≡ text ++ ((word ++ 32 ∷ (name ++ 32 ∷ (bundle ++ 32 ∷ ending))) ++ 10 ∷ [])
sight_text text word name bundle ending first second third fourth new one two three four five =
    five ∙ ap (λ t. t ++ 10 ∷ []) (
    four ∙ ap (λ t. t ++ 32 ∷ ending) (three ∙ ap (λ t. t ++ 32 ∷ bundle) (two ∙ ap (λ t. t ++ 32 ∷ name) one))
    ∙ append_assoc ((text ++ word) ++ 32 ∷ name) (32 ∷ bundle) (32 ∷ ending)
    ∙ append_assoc (text ++ word) (32 ∷ name) (32 ∷ (bundle ++ 32 ∷ ending))
    ∙ append_assoc text word (32 ∷ (name ++ 32 ∷ (bundle ++ 32 ∷ ending)))
    )
    ∙ append_assoc text (word ++ 32 ∷ (name ++ 32 ∷ (bundle ++ 32 ∷ ending))) (10 ∷ [])

-- the items behind the first are one fewer
pub rest_length : {X : Type 0} (xs : List X) → 1 ≤ length xs → length (take (length xs - 1) (drop 1 xs)) + 1 ≡ length xs
rest_length [] some = absurd (omega arith)
rest_length (x ∷ xs) some =
    let n : ℕ = length xs in
    let j : suc n - 1 ≡ n = omega arith in
    ap (λ m. length (take m xs) + 1) j ∙ ap (λ (l : List _). length l + 1) (take-length xs) ∙ (let goal : n + 1 ≡ suc n = omega arith in goal)
