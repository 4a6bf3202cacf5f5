use Rattle.std.proofs.Common.{◌≡◌, ◌∙◌, ap, arith, to_z, of_z, w32}
use Rattle.std.proofs.lemmas.Int.{ints}
use Rattle.bundle_rules.specs.Bundles.{sections_of}
use Rattle.bundle_rules.specs.Ordinals.{ordinals}
use Rattle.preference_desk.specs.DeskView.{names_of, state_of}
use Rattle.preference_desk.specs.PreferencesView.{preferences_of}
use Rattle.market_units.specs.Name.{name_bytes}
use Rattle.student_roll.specs.Students.{RollData, single_student}
use Rattle.market_host.proofs.ListedSections.{first_bundle_listed}
use Rattle.market_host.proofs.QuoteFacts.{menu_after, same_text}
use Rattle.market_host.proofs.quote.best_text.Goals as goal
use Rattle.market_crowd.proofs.CrowdFacts.{sections_known}

pub menus-requires-clause-sections : goal.menus-requires-clause-sections
menus-requires-clause-sections c =
    sections_known (names_of c.in_ok-desk.desk) c.args.catalog.now.sections _ (preferences_of c.closed.result.now) c.in_ok-desk.ensures.names
    c.closed.ensures.sections

pub returns : goal.returns
returns c =
    let kept : to_z w32 (of_z w32 c.utility-worth.result) ≡ c.utility-worth.result = omega (arith, ints) in (
      c.index-menu.result.now,
      menu_after c.args.catalog.now.sections (single_student (name_bytes c.args.name) c.args.credits c.args.courses) _ (preferences_of c.closed.result.now) _
          (state_of c.in_ok-desk.desk) c.args.commands.now c.index-menu.result.now
          (ap (λ (roll : RollData). roll.students) c.in_ok-roll.ensures) c.closed.ensures.state c.in_ok-desk.ensures.state c.in_ok-menus.ensures
          c.index-menu.ensures,
      sections_of c.in_ok-bundle.bundle,
      c.in_ok-bundle.ensures,
      same_text c.args.catalog.now.sections (name_bytes c.args.name) _ (sections_of c.in_ok-bundle.bundle) (ordinals c.sections.result.now) _
          (to_z w32 (of_z w32 c.utility-worth.result)) c.sections.ensures.value (kept ∙ c.utility-worth.ensures) c.in_ok-text_of.ensures,
    )

pub text_of-requires : goal.text_of-requires
text_of-requires c =
    first_bundle_listed c.args.catalog.now.sections (single_student (name_bytes c.args.name) c.args.credits c.args.courses) _
    (preferences_of c.closed.result.now) _ c.index-menu.result.now (sections_of c.in_ok-bundle.bundle) c.sections.result.now
    (ap (λ (roll : RollData). roll.students) c.in_ok-roll.ensures)
    (sections_known (names_of c.in_ok-desk.desk) c.args.catalog.now.sections _ (preferences_of c.closed.result.now) c.in_ok-desk.ensures.names
    c.closed.ensures.sections)
    c.in_ok-menus.ensures c.index-menu.ensures
    c.in_ok-bundle.ensures.choice.feasible c.sections.ensures.value
