use Rattle.std.proofs.Common.{rules, ℕ, ◌≡◌, ◌<◌, ◌≤◌, ◌∙◌, List, [], None, Some, Vec, Global, length, refl, sym, subst, arith}
use Rattle.std.specs.Arc.{arc_value}
use Rattle.std.specs.Prelude.{IsTrue}
use Rattle.std.proofs.lemmas.List.{length-map}
use Rattle.market_units.specs.declared.units.Tokens.{Tokens}
use Rattle.demand_api.proofs.Parts.{menus_few, students_length}
use Rattle.demand_workers.specs.Rounds.{prices_of}
use Rattle.demand_workers.specs.Views.{crowd_of}
use Rattle.demand_workers.proofs.Allowing.{pushed_one}
use Rattle.demand_workers.proofs.Surveying.{first_asked, first_kept, settled_has_row, survey_asks, survey_more}
use Rattle.demand_workers.proofs.unsettled.add_unsettled.Goals as goal

its_version : (versions : List (Vec Tokens Global)) (v : ℕ) → v < length versions → v < length (prices_of versions)
its_version versions v low = subst (λ n. v < n) (sym (length-map versions (λ (w : Vec Tokens Global). w.items))) low

pub overflow_cast-student : goal.overflow_cast-student
overflow_cast-student c =
    let few : length (arc_value c.args.remembered.now.crowd).menus.items ≤ 2000 = menus_few (arc_value c.args.remembered.now.crowd) in
    let each : length c.args.remembered.now.bundles.items ≡ length (arc_value c.args.remembered.now.crowd).menus.items = c.args.remembered.now.each in
    let low : c.students.place < length c.args.remembered.now.bundles.items = search rules in
    omega arith

pub students-preserved-then-is_settled : goal.students-preserved-then-is_settled
students-preserved-then-is_settled c =
    let remembered = c.args.remembered.now in
    let settled : IsTrue c.is_settled.result = search rules in
    let holds = sym c.is_settled.ensures ∙ settled in
    let inside = settled_has_row c.args.rows.now c.students.place c.args.version holds in
    record {
      survey = c.students.invariant.survey;
      few = omega (arith, c.students.invariant.few);
      kept =
          first_kept (crowd_of remembered) remembered.bundles.items _ c.args.version c.students.place c.students.inquiries.items c.students.invariant.kept
          (c.requires.rows c.students.place [] inside c.args.version (its_version c.args._versions.now c.args.version c.requires.version) holds);
    }

pub students-preserved : goal.students-preserved
students-preserved c =
    let remembered = c.args.remembered.now in
    let versions = c.args._versions.now in
    let low : c.students.place < length remembered.bundles.items = search rules in
    record {
      survey = survey_asks (crowd_of remembered) remembered.bundles.items (prices_of versions) c.args.version c.students.inquiries.items
          c.push.new.self.items _ c.students.invariant.survey c.in_ok-push.ensures.items
          (record {
            student = subst (λ n. c.students.place < n) (remembered.each ∙ sym (students_length (arc_value remembered.crowd))) low;
            its_version = its_version versions c.args.version c.requires.version;
            its_price = λ told is. (let none : None ≡ Some told = is in cc);
          })
          refl;
      few = let longer = pushed_one c.students.inquiries.items c.push.new.self.items _ c.in_ok-push.ensures.items in
          omega (arith, longer, c.students.invariant.few);
      kept =
          first_asked (crowd_of remembered) remembered.bundles.items _ c.args.version c.students.place c.students.inquiries.items
          _ _ c.students.invariant.kept c.in_ok-push.ensures.items refl refl;
    }

pub returns-clause-survey : goal.returns-clause-survey
returns-clause-survey c =
    let remembered = c.args.remembered.now in
    let past : length remembered.bundles.items ≤ c.students.place = search rules in
    survey_more (crowd_of remembered) remembered.bundles.items (prices_of c.args._versions.now) c.args.version c.students.place
    c.students.inquiries.items c.students.invariant.survey c.students.invariant.kept past
