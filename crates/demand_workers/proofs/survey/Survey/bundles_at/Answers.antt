use Rattle.std.proofs.Common.{rules, ◌≡◌, ◌<◌, ◌∙◌, [], List, All, Vec, Global, length, slice_index_or, ap, sym, subst}
use Rattle.std.specs.Arc.{arc_value}
use Rattle.std.proofs.lemmas.List.{get_or-map}
use Rattle.market_units.specs.declared.units.Tokens.{Tokens}
use Rattle.bundle_rules.specs.declared.bundle.Bundle.{Bundle}
use Rattle.demand_api.specs.Crowds.{CrowdData}
use Rattle.demand_api.specs.Views.{data_of}
use Rattle.demand_api.proofs.Parts.{students_length}
use Rattle.demand_api.proofs.Takers.{lent_back}
use Rattle.price_board.specs.declared.round.Task.{Task}
use Rattle.demand_workers.specs.Found.{tasks_of}
use Rattle.demand_workers.specs.Rounds.{prices_of}
use Rattle.demand_workers.specs.Remembered.{AreTaken}
use Rattle.demand_workers.specs.Surveys.{AreOthersKept}
use Rattle.demand_workers.specs.Views.{crowd_of}
use Rattle.demand_workers.proofs.survey.Survey.bundles_at.Goals as goal

pub write_found-requires-clause-students : goal.write_found-requires-clause-students
write_found-requires-clause-students c =
    let inquiries = c.args.self.now.found.inquiries in
    let remembered = arc_value inquiries.remembered in
    let copied : c.deref_mut.result.now ≡ remembered.bundles.items = rw (← c.deref-remembered.ensures) (search rules) in
    let listed : c.list.result.now ≡ tasks_of inquiries = c.list.ensures in
    let many = students_length (arc_value remembered.crowd) ∙ sym remembered.each ∙ sym (ap length copied) in
    subst (All (λ (q : Task). q.student.0 < length c.deref_mut.result.now)) (sym listed)
    (λ k d low. subst (λ n. (slice_index_or (tasks_of inquiries) k d).student.0 < n) many (c.args.self.now.surveyed.asked k d low).student)

pub write_found-requires-clause-others : goal.write_found-requires-clause-others
write_found-requires-clause-others c =
    let inquiries = c.args.self.now.found.inquiries in
    let remembered = arc_value inquiries.remembered in
    let versions = (arc_value inquiries.round).versions.items in
    let copied : c.deref_mut.result.now ≡ remembered.bundles.items = rw (← c.deref-remembered.ensures) (search rules) in
    let listed : c.list.result.now ≡ tasks_of inquiries = c.list.ensures in
    let index : c.index-versions-version.result ≡ slice_index_or versions c.args.version c.index-versions-version.result = rw (← c.versions.ensures) c.index-versions-version.is in
    let there : slice_index_or (prices_of versions) c.args.version [] ≡ c.deref-prices.result.now =
    get_or-map (λ (w : Vec Tokens Global). w.items) versions c.args.version c.index-versions-version.result [] c.requires
    ∙ ap (λ (w : Vec Tokens Global). w.items) (sym index) ∙ sym c.deref-prices.ensures.value in
    let same : data_of c.deref-crowd.result.now ≡ crowd_of remembered =
    rw (c.deref-crowd.ensures, c.deref-remembered.ensures) (search rules) in
    subst (λ (w : CrowdData). AreOthersKept w c.deref_mut.result.now c.deref-prices.result.now c.args.version c.list.result.now) (sym same)
    (subst (λ (b : List Bundle). AreOthersKept (crowd_of remembered) b c.deref-prices.result.now c.args.version c.list.result.now) (sym copied)
    (subst (λ (l : List Task). AreOthersKept (crowd_of remembered) remembered.bundles.items c.deref-prices.result.now c.args.version l) (sym listed)
    (subst (λ (p : List Tokens). AreOthersKept (crowd_of remembered) remembered.bundles.items p c.args.version (tasks_of inquiries)) there
    (c.args.self.now.surveyed.others c.args.version c.requires))))

pub returns-clause-len : goal.returns-clause-len
returns-clause-len c =
    let inquiries = c.args.self.now.found.inquiries in
    let remembered = arc_value inquiries.remembered in
    let copied : c.deref_mut.result.now ≡ remembered.bundles.items = rw (← c.deref-remembered.ensures) (search rules) in
    ap length (lent_back c.in_ok-bundles.bundles.len c.write_found.new.bundles c.in_ok-bundles.bundles.items (search rules))
    ∙ c.write_found.ensures.len ∙ ap length copied ∙ remembered.each ∙ sym (students_length (arc_value remembered.crowd))

pub returns-clause-taken : goal.returns-clause-taken
returns-clause-taken c =
    let inquiries = c.args.self.now.found.inquiries in
    let remembered = arc_value inquiries.remembered in
    let versions = (arc_value inquiries.round).versions.items in
    let index : c.index-versions-version.result ≡ slice_index_or versions c.args.version c.index-versions-version.result = rw (← c.versions.ensures) c.index-versions-version.is in
    let there : slice_index_or (prices_of versions) c.args.version [] ≡ c.deref-prices.result.now =
    get_or-map (λ (w : Vec Tokens Global). w.items) versions c.args.version c.index-versions-version.result [] c.requires
    ∙ ap (λ (w : Vec Tokens Global). w.items) (sym index) ∙ sym c.deref-prices.ensures.value in
    let same : data_of c.deref-crowd.result.now ≡ crowd_of remembered =
    rw (c.deref-crowd.ensures, c.deref-remembered.ensures) (search rules) in
    subst (λ (b : List Bundle). AreTaken (crowd_of remembered) (slice_index_or (prices_of versions) c.args.version []) b)
    (sym (lent_back c.in_ok-bundles.bundles.len c.write_found.new.bundles c.in_ok-bundles.bundles.items (search rules)))
    (subst (λ (p : List Tokens). AreTaken (crowd_of remembered) p c.write_found.new.bundles) (sym there)
    (subst (λ (w : CrowdData). AreTaken w c.deref-prices.result.now c.write_found.new.bundles) same c.write_found.ensures.taken))
