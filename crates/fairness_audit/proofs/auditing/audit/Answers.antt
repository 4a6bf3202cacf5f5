use Rattle.std.proofs.Common.{◌≡◌, ◌≤◌, ◌+◌, ◌∙◌, ℕ, length, map, ap, sym, subst, arith, vec_len}
use Rattle.std.specs.Arc.{arc_value}
use Rattle.std.specs.List.{range_with_len}
use Rattle.demand_api.specs.declared.crowd.Crowd.{Crowd}
use Rattle.demand_api.proofs.Parts.{menus_few, students_length}
use Rattle.demand_api.proofs.Takers.{lent_back}
use Rattle.fairness_audit.specs.declared.terms.Terms.{Terms}
use Rattle.fairness_audit.specs.Allocations.{Allocation, allocation_of, student_count}
use Rattle.fairness_audit.specs.Rows.{row, rows}
use Rattle.fairness_audit.specs.Texts.{AreRowsAmong}
use Rattle.fairness_audit.specs.Views.{row_of}
use Rattle.fairness_audit.proofs.Listing.{listed}
use Rattle.fairness_audit.proofs.Naming.{rows_among}
use Rattle.fairness_audit.proofs.auditing.audit.Goals as goal

-- a row for each menu is one for each student
counted : (n : ℕ) (crowd seen : Crowd) → n ≡ vec_len seen.menus → seen ≡ crowd → n ≡ length crowd.menus.items
counted n crowd seen is same = is ∙ ap (λ (x : Crowd). vec_len x.menus) same ∙ crowd.menus.ok.0

pub work_and_write-requires-clause-rows : goal.work_and_write-requires-clause-rows
work_and_write-requires-clause-rows g c κs within =
    let shared : arc_value c.in_ok-shared.shared ≡ arc_value c.args.crowd = c.in_ok-shared.ensures in
    let held : arc_value c.in_ok-held.held ≡ arc_value c.args.bundles = c.in_ok-held.ensures in
    c.deref_mut.ensures.len ∙ c.in_ok-found.ensures.len ∙ counted c.len.result (arc_value c.args.crowd) c.deref.result.now c.len.ensures c.deref.ensures
    ∙ sym (students_length (arc_value c.args.crowd))
    ∙ sym
    (ap (λ (t : Terms). student_count t.allocation) c.in_ok-board.ensures.terms ∙ ap student_count c.of-tasks.ensures
    ∙ (λ i. student_count (allocation_of (shared i) (held i).items)))

pub work_and_write-requires-clause-few : goal.work_and_write-requires-clause-few
work_and_write-requires-clause-few g c κs within =
    let n : ℕ = length c.deref_mut.result.now in
    let is : n ≡ length (arc_value c.args.crowd).menus.items =
    c.deref_mut.ensures.len ∙ c.in_ok-found.ensures.len ∙ counted c.len.result (arc_value c.args.crowd) c.deref.result.now c.len.ensures c.deref.ensures in
    let few : length (arc_value c.args.crowd).menus.items ≤ 2000 = menus_few (arc_value c.args.crowd) in
    let goal : n ≤ 2000 = omega arith in goal

pub returns : goal.returns
returns g c =
    let crowd = arc_value c.args.crowd in
    let items = (arc_value c.args.bundles).items in
    let shared : arc_value c.in_ok-shared.shared ≡ crowd = c.in_ok-shared.ensures in
    let held : arc_value c.in_ok-held.held ≡ arc_value c.args.bundles = c.in_ok-held.ensures in
    let base = c.in_ok-board.board.base.allocation in
    let last : base ≡ allocation_of crowd items =
    ap (λ (t : Terms). t.allocation) c.in_ok-board.ensures.terms ∙ c.of-tasks.ensures ∙ (λ i. allocation_of (shared i) (held i).items) in
    let n : ℕ = length c.work_and_write.new.rows in
    let s : ℕ = student_count (allocation_of crowd items) in
    let lent = c.work_and_write.ensures.count ∙ c.deref_mut.ensures.len in
    let students : n ≡ s =
    lent ∙ c.in_ok-found.ensures.len ∙ counted c.len.result crowd c.deref.result.now c.len.ensures c.deref.ensures ∙ sym (students_length crowd) in
    let told : map row_of c.work_and_write.new.rows ≡ map (row base) (range_with_len 0 n) =
    listed row_of (row base) c.work_and_write.new.rows 0
    (λ i d low. c.work_and_write.ensures.each i d low ∙ ap (row base) (let goal : i ≡ 0 + i = omega arith in goal)) in
    let whole = ap (map row_of) (lent_back c.in_ok-found.found.len c.work_and_write.new.rows c.in_ok-found.found.items (sym lent)) ∙ told
    ∙ ap (λ (a : Allocation). map (row a) (range_with_len 0 n)) last ∙ ap (λ m. map (row (allocation_of crowd items)) (range_with_len 0 m)) students in
    record {
      rows = whole;
      among = subst (AreRowsAmong (length crowd.menus.items) crowd.sections) (sym whole)
          (subst (λ m. AreRowsAmong m crowd.sections (rows (allocation_of crowd items))) (students_length crowd)
          (rows_among (allocation_of crowd items) crowd.whole c.requires.bundles));
    }
