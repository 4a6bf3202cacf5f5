use Rattle.std.proofs.Common.{rules, ◌≡◌, ◌<◌, ◌∙◌, ℕ, length, get_or, map, sym, subst, arith}
use Rattle.std.specs.Prelude.{codes}
use Rattle.std.proofs.lemmas.List.{length-map}
use Rattle.market_units.specs.Name.{name_bytes}
use Rattle.course_catalog.specs.Sections.{section_names}
use Rattle.market_certificate.proofs.Joins.{each_at, mapped_at}
use Rattle.student_roll.specs.Students.{Student, names_of}
use Rattle.fairness_audit.specs.Texts.{IsRowAmong, counts_line}
use Rattle.fairness_audit.specs.Views.{row_of}
use Rattle.fairness_audit.proofs.RowTexts.{part_whole, row_more}
use Rattle.fairness_audit.proofs.text.put_part.Goals as goal
use Rattle.student_roll.proofs.RollNames.{student_name}

pub put_row-requires : goal.put_row-requires
put_row-requires c =
    let n : ℕ = length c.args.rows.now in
    let m : ℕ = length c.args.roll.now.students in
    let l : ℕ = length (map row_of c.args.rows.now) in
    let each : l ≡ m = c.requires.each in
    let mapped : l ≡ n = length-map c.args.rows.now row_of in
    let k : ℕ = c.students.student in
    let f : ℕ = c.from.result in
    let at : f ≡ k = c.from.ensures in
    let e : ℕ = c.len-student-end.result in
    let ends : e ≡ m = c.len-student-end.ensures.len in
    let low : k < e = c.students-test.true in
    each_at (IsRowAmong (length c.args.roll.now.students) (length c.args.catalog.now.sections)) row_of c.args.rows.now c.from.result c.index-rows-from.result
    c.index-rows-from.result c.requires.among (let goal : f < n = omega arith in goal) c.index-rows-from.is

pub students-preserved : goal.students-preserved
students-preserved c =
    let rows = map row_of c.args.rows.now in
    let names = names_of c.args.roll.now.students in
    let n : ℕ = length c.args.rows.now in
    let m : ℕ = length c.args.roll.now.students in
    let l : ℕ = length rows in
    let o : ℕ = length names in
    let each : l ≡ m = c.requires.each in
    let mapped : l ≡ n = length-map c.args.rows.now row_of in
    let named : o ≡ m = length-map c.args.roll.now.students (λ (student : Student). student.name) in
    let k : ℕ = c.students.student in
    let e : ℕ = c.len-student-end.result in
    let ends : e ≡ m = c.len-student-end.ensures.len in
    let low : k < e = c.students-test.true in
    let inside : k < m = omega arith in
    let row = c.index-rows-from.result in
    let there : row ≡ get_or c.args.rows.now k row = subst (λ (j : ℕ). row ≡ get_or c.args.rows.now j row) c.from.ensures c.index-rows-from.is in
    row_more c.args.part.now names (section_names c.args.catalog.now.sections) names rows k (name_bytes c.name-name.result) (row_of row) c.args.text.now.items
    c.students.text.items c.put_row.new.text.items
    (let goal : k < o = omega arith in goal) (let goal : k < l = omega arith in goal)
    (student_name c.args.roll.now.students k (name_bytes c.name-name.result) inside c.name-name.ensures)
    (mapped_at row_of c.args.rows.now k row row (let goal : k < n = omega arith in goal) there) c.students.invariant
    (rw c.bytes.ensures.value at c.in_ok-put_row.ensures)

pub returns : goal.returns
returns c =
    let rows = map row_of c.args.rows.now in
    let names = names_of c.args.roll.now.students in
    let m : ℕ = length c.args.roll.now.students in
    let o : ℕ = length names in
    let named : o ≡ m = length-map c.args.roll.now.students (λ (student : Student). student.name) in
    let k : ℕ = c.students.student in
    let last : k ≡ m = search rules in
    part_whole c.args.part.now names (section_names c.args.catalog.now.sections) rows k c.args.text.now.items c.students.text.items (counts_line c.args.part.now (codes "total") c.sum_up.result.lower c.sum_up.result.higher c.sum_up.result.beyond) c.put_counts.new.text.items
    (let goal : k ≡ o = omega arith in goal) (c.requires.each ∙ sym named) c.students.invariant
    (λ i. counts_line c.args.part.now (codes "total") (c.sum_up.ensures.lower i) (c.sum_up.ensures.higher i) (c.sum_up.ensures.beyond i)) c.in_ok-put_counts.ensures
