use Rattle.std.proofs.Common.{length, ap, ◌∙◌, arith}
use Rattle.plain_facts.proofs.Outcomes.{one_answer}
use Rattle.course_catalog.specs.Reading.{catalog_of}
use Rattle.made_run.specs.Settings.{made_settings}
use Rattle.made_run.specs.Tables.{made_catalog, made_roll}
use Rattle.made_run.proofs.AllRead.{texts_read}
use Rattle.market_maker.proofs.Sizes.{within_limits}
use Rattle.market_settings.specs.Settings.{settings_of}
use Rattle.student_roll.specs.Rolls.{roll_of}
use Rattle.utility_language.specs.Commands.{command_lines}
use Rattle.made_run.proofs.market.make_market.Goals as goal

pub catalog_in-requires-clause-grammar : goal.catalog_in-requires-clause-grammar
catalog_in-requires-clause-grammar c =
    let read =
    texts_read c.args.numbers.seed c.args.numbers.students c.args.numbers.sections c.args.numbers.accept c.args.numbers.seed_fits c.args.numbers.few_students c.args.numbers.some_sections
    c.args.numbers.few_sections c.args.numbers.accept_fits in
    (made_catalog c.args.numbers.students c.args.numbers.sections, ap catalog_of (c.deref.ensures.value ∙ c.in_ok-made.ensures.catalog) ∙ read.catalog)

pub catalog_in-requires-clause-short : goal.catalog_in-requires-clause-short
catalog_in-requires-clause-short c =
    let short =
    within_limits c.args.numbers.seed c.args.numbers.students c.args.numbers.sections c.args.numbers.accept c.args.numbers.seed_fits c.args.numbers.few_students c.args.numbers.some_sections
    c.args.numbers.few_sections c.args.numbers.accept_fits in
    omega (arith, ap length (c.deref.ensures.value ∙ c.in_ok-made.ensures.catalog), short.catalog)

pub roll_in-requires-clause-grammar : goal.roll_in-requires-clause-grammar
roll_in-requires-clause-grammar c =
    let read =
    texts_read c.args.numbers.seed c.args.numbers.students c.args.numbers.sections c.args.numbers.accept c.args.numbers.seed_fits c.args.numbers.few_students c.args.numbers.some_sections
    c.args.numbers.few_sections c.args.numbers.accept_fits in
    (made_roll c.args.numbers.students, ap roll_of (c.deref-2.ensures.value ∙ c.in_ok-made.ensures.roll) ∙ read.roll)

pub roll_in-requires-clause-short : goal.roll_in-requires-clause-short
roll_in-requires-clause-short c =
    let short =
    within_limits c.args.numbers.seed c.args.numbers.students c.args.numbers.sections c.args.numbers.accept c.args.numbers.seed_fits c.args.numbers.few_students c.args.numbers.some_sections
    c.args.numbers.few_sections c.args.numbers.accept_fits in
    omega (arith, ap length (c.deref-2.ensures.value ∙ c.in_ok-made.ensures.roll), short.roll)

pub settings_in-requires : goal.settings_in-requires
settings_in-requires c =
    let read =
    texts_read c.args.numbers.seed c.args.numbers.students c.args.numbers.sections c.args.numbers.accept c.args.numbers.seed_fits c.args.numbers.few_students c.args.numbers.some_sections
    c.args.numbers.few_sections c.args.numbers.accept_fits in
    record { grammar = (made_settings c.args.numbers.seed c.args.numbers.accept, ap settings_of (c.deref-3.ensures.value ∙ c.in_ok-made.ensures.settings) ∙ read.settings) }

pub streams_in-requires : goal.streams_in-requires
streams_in-requires c =
    let read =
    texts_read c.args.numbers.seed c.args.numbers.students c.args.numbers.sections c.args.numbers.accept c.args.numbers.seed_fits c.args.numbers.few_students c.args.numbers.some_sections
    c.args.numbers.few_sections c.args.numbers.accept_fits in
    omega (
      arith,
      ap (λ text. length (command_lines text)) (c.deref-4.ensures.value ∙ c.in_ok-made.ensures.first),
      ap (λ text. length (command_lines text)) (c.deref-5.ensures.value ∙ c.in_ok-made.ensures.second),
      read.commands,
    )

pub returns-clause-catalog : goal.returns-clause-catalog
returns-clause-catalog c =
    let read =
    texts_read c.args.numbers.seed c.args.numbers.students c.args.numbers.sections c.args.numbers.accept c.args.numbers.seed_fits c.args.numbers.few_students c.args.numbers.some_sections
    c.args.numbers.few_sections c.args.numbers.accept_fits in
    one_answer (catalog_of c.deref.result.now) c.in_ok-catalog_in.field-0 (made_catalog c.args.numbers.students c.args.numbers.sections) c.in_ok-catalog_in.ensures
    (ap catalog_of (c.deref.ensures.value ∙ c.in_ok-made.ensures.catalog) ∙ read.catalog)

pub returns-clause-roll : goal.returns-clause-roll
returns-clause-roll c =
    let read =
    texts_read c.args.numbers.seed c.args.numbers.students c.args.numbers.sections c.args.numbers.accept c.args.numbers.seed_fits c.args.numbers.few_students c.args.numbers.some_sections
    c.args.numbers.few_sections c.args.numbers.accept_fits in
    one_answer (roll_of c.deref-2.result.now) c.in_ok-roll_in.field-0 (made_roll c.args.numbers.students) c.in_ok-roll_in.ensures
    (ap roll_of (c.deref-2.ensures.value ∙ c.in_ok-made.ensures.roll) ∙ read.roll)

pub returns-clause-settings : goal.returns-clause-settings
returns-clause-settings c =
    let read =
    texts_read c.args.numbers.seed c.args.numbers.students c.args.numbers.sections c.args.numbers.accept c.args.numbers.seed_fits c.args.numbers.few_students c.args.numbers.some_sections
    c.args.numbers.few_sections c.args.numbers.accept_fits in
    one_answer (settings_of c.deref-3.result.now) c.in_ok-settings_in.field-0 (made_settings c.args.numbers.seed c.args.numbers.accept) c.in_ok-settings_in.ensures.read
    (ap settings_of (c.deref-3.ensures.value ∙ c.in_ok-made.ensures.settings) ∙ read.settings)
