use Rattle.std.proofs.lemmas.Result.{IfOk-weaker}
use Rattle.published_parts.specs.Markets.{market_of}
use Rattle.session_hall.specs.Streams.{command_lists}
use Rattle.made_run.specs.Laws.{AreNumbers}
use Rattle.made_run.specs.Made.{IsMadeMarket}
use Rattle.made_run.proofs.Making.{made_from}
use Rattle.made_run.proofs.summary.made_summary.Goals as goal

pub returns-clause-text : goal.returns-clause-text
returns-clause-text g c =
    let numbers : AreNumbers c.args.numbers.seed c.args.numbers.students c.args.numbers.sections c.args.numbers.accept =
    record {
      seed_fits = c.args.numbers.seed_fits;
      few_students = c.args.numbers.few_students;
      some_sections = c.args.numbers.some_sections;
      few_sections = c.args.numbers.few_sections;
      accept_fits = c.args.numbers.accept_fits;
    } in
    let made = c.in_ok-made.made in
    let is : IsMadeMarket c.args.numbers.seed c.args.numbers.students c.args.numbers.sections c.args.numbers.accept (market_of made.catalog made.roll made.settings)
    (command_lists made.streams.items) =
    made_from c.args.numbers.seed c.args.numbers.students c.args.numbers.sections c.args.numbers.accept made.catalog made.roll made.settings (command_lists made.streams.items) numbers
    c.in_ok-made.ensures.catalog c.in_ok-made.ensures.roll c.in_ok-made.ensures.settings
    c.in_ok-made.ensures.streams in
    IfOk-weaker c.held_summary.result _ _ (λ text told. (market_of made.catalog made.roll made.settings, command_lists made.streams.items, is, told.0, told.1))
    (rw c.deref.ensures.value at c.held_summary.ensures.text)

pub returns-clause-no_prices : goal.returns-clause-no_prices
returns-clause-no_prices g c = λ least ended.
    let numbers : AreNumbers c.args.numbers.seed c.args.numbers.students c.args.numbers.sections c.args.numbers.accept =
    record {
      seed_fits = c.args.numbers.seed_fits;
      few_students = c.args.numbers.few_students;
      some_sections = c.args.numbers.some_sections;
      few_sections = c.args.numbers.few_sections;
      accept_fits = c.args.numbers.accept_fits;
    } in
    let made = c.in_ok-made.made in
    let is : IsMadeMarket c.args.numbers.seed c.args.numbers.students c.args.numbers.sections c.args.numbers.accept (market_of made.catalog made.roll made.settings)
    (command_lists made.streams.items) =
    made_from c.args.numbers.seed c.args.numbers.students c.args.numbers.sections c.args.numbers.accept made.catalog made.roll made.settings (command_lists made.streams.items) numbers
    c.in_ok-made.ensures.catalog c.in_ok-made.ensures.roll c.in_ok-made.ensures.settings
    c.in_ok-made.ensures.streams in
    let told = rw c.deref.ensures.value at (c.held_summary.ensures.no_prices least ended) in
    (market_of made.catalog made.roll made.settings, command_lists made.streams.items, is, told.0, told.1)
