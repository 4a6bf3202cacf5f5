use Rattle.std.proofs.Common.{◌≡◌, ◌∙◌, length, ap, get_or, subst}
use Rattle.std.proofs.lemmas.List.{length-map}
use Rattle.course_catalog.specs.Sections.{Section}
use Rattle.preference_desk.specs.DeskNames.{DeskNames}
use Rattle.preference_desk.specs.DeskView.{names_of}
use Rattle.preference_desk.specs.PreferencesView.{preferences_of}
use Rattle.preference_desk.specs.StudentPreferences.{SectionsBelow}
use Rattle.certificate_checker.proofs.terms.terms_at.Goals as goal

pub make_crowd-requires-clause-sections : goal.make_crowd-requires-clause-sections
make_crowd-requires-clause-sections c =
    let same : length (names_of c.args.desk).sections ≡ length c.args.market.now.catalog.now.sections =
    ap (λ (names : DeskNames). length names.sections) c.requires
    ∙ length-map c.args.market.now.catalog.now.sections (λ (section : Section). section.name) in
    λ k d low. subst (λ n. SectionsBelow n (get_or (preferences_of c.closed.result.now) k d)) same (c.closed.ensures.sections k d low)
