use Rattle.std.proofs.Common.{[], ◌∷◌, arith, refl}
use Rattle.std.proofs.lemmas.Result.{err_from_is_err_and}
use Rattle.market_words.specs.declared.words.Form.TheVariants.{Quote}
use Rattle.market_host.proofs.Cursor.{all_read, none_read_yet}
use Rattle.market_host.proofs.QuoteWords.{one_session, quote_done}
use Rattle.market_host.proofs.Taking.{memory_stops}
use Rattle.market_host.proofs.quote.quote.Goals as goal

pub next-requires : goal.next-requires
next-requires g c = rw c.of-inputs.ensures (omega (arith, c.requires.named.1.front_long))

pub stream-requires : goal.stream-requires
stream-requires g c =
    rw (c.in_ok-catalog.ensures.moved, c.of-inputs.ensures) (omega (arith, c.requires.named.1.front_long, c.requires.named.1.some tt))

pub returns-in_err-catalog : goal.returns-in_err-catalog
returns-in_err-catalog g c =
    let p = err_from_is_err_and c.from_residual.result c.from_residual.ensures.1 in
    let begun = none_read_yet g.H.Shelf (Quote c.args.name c.args.credits c.args.courses) c.requires.named.0 c.args.call c.args.shelf.now c.requires.named.1 in
    rw (p.1, p.2) ((rw c.of-inputs.ensures at c.in_err-catalog.ensures.taken) (Quote c.args.name c.args.credits c.args.courses) _ [] c.args.shelf.now refl (omega arith) tt begun)

pub returns-in_err-commands : goal.returns-in_err-commands
returns-in_err-commands g c =
    let p = err_from_is_err_and c.from_residual-in_err-commands.result c.from_residual-in_err-commands.ensures.1 in
    let begun = none_read_yet g.H.Shelf (Quote c.args.name c.args.credits c.args.courses) c.requires.named.0 c.args.call c.args.shelf.now c.requires.named.1 in
    let catalog = (rw c.of-inputs.ensures at c.in_ok-catalog.ensures.taken) (Quote c.args.name c.args.credits c.args.courses) _ [] c.args.shelf.now refl (omega arith) tt begun in
    rw (p.1, p.2) (c.in_err-commands.ensures.taken (Quote c.args.name c.args.credits c.args.courses) _ (catalog.0 ∷ []) c.args.shelf.now (omega arith) refl catalog.1)

pub best_text-requires-clause-few : goal.best_text-requires-clause-few
best_text-requires-clause-few g c = rw c.deref.ensures.value c.in_ok-commands.ensures.few

pub best_text-requires-clause-credits : goal.best_text-requires-clause-credits
best_text-requires-clause-credits g c = c.requires.named.1.has.3

pub best_text-requires-clause-courses : goal.best_text-requires-clause-courses
best_text-requires-clause-courses g c = c.requires.named.1.has.4

pub returns-in_err-text : goal.returns-in_err-text
returns-in_err-text g c =
    let p = err_from_is_err_and c.from_residual-in_err-text.result c.from_residual-in_err-text.ensures.1 in
    let begun = none_read_yet g.H.Shelf (Quote c.args.name c.args.credits c.args.courses) c.requires.named.0 c.args.call c.args.shelf.now c.requires.named.1 in
    let catalog = (rw c.of-inputs.ensures at c.in_ok-catalog.ensures.taken) (Quote c.args.name c.args.credits c.args.courses) _ [] c.args.shelf.now refl (omega arith) tt begun in
    let session = c.in_ok-commands.ensures.taken (Quote c.args.name c.args.credits c.args.courses) _ (catalog.0 ∷ []) c.args.shelf.now (omega arith) refl catalog.1 in
    let one = one_session c.args.name c.args.credits c.args.courses c.requires.named.0 c.args.call c.requires.named.1 in
    let taken =
    all_read g.H.Shelf (Quote c.args.name c.args.credits c.args.courses) _ (catalog.0 ∷ session.0 ∷ []) c.stream.new.self c.args.shelf.now c.stream.new.shelf session.1
    (rw (c.in_ok-commands.ensures.moved, c.in_ok-catalog.ensures.moved, c.of-inputs.ensures) (omega (arith, one, c.requires.named.1.front_long))) in
    rw (p.1, p.2) (memory_stops g.H.Shelf (Quote c.args.name c.args.credits c.args.courses) _ _ c.args.shelf.now c.stream.new.shelf taken)

pub returns : goal.returns
returns g c =
    let begun = none_read_yet g.H.Shelf (Quote c.args.name c.args.credits c.args.courses) c.requires.named.0 c.args.call c.args.shelf.now c.requires.named.1 in
    let catalog = (rw c.of-inputs.ensures at c.in_ok-catalog.ensures.taken) (Quote c.args.name c.args.credits c.args.courses) _ [] c.args.shelf.now refl (omega arith) tt begun in
    let session = c.in_ok-commands.ensures.taken (Quote c.args.name c.args.credits c.args.courses) _ (catalog.0 ∷ []) c.args.shelf.now (omega arith) refl catalog.1 in
    let one = one_session c.args.name c.args.credits c.args.courses c.requires.named.0 c.args.call c.requires.named.1 in
    let taken =
    all_read g.H.Shelf (Quote c.args.name c.args.credits c.args.courses) _ (catalog.0 ∷ session.0 ∷ []) c.stream.new.self c.args.shelf.now c.stream.new.shelf session.1
    (rw (c.in_ok-commands.ensures.moved, c.in_ok-catalog.ensures.moved, c.of-inputs.ensures) (omega (arith, one, c.requires.named.1.front_long))) in (
      catalog.0 ∷ session.0 ∷ [],
      taken,
      quote_done c.args.name c.args.credits c.args.courses catalog.0 session.0 c.in_ok-catalog.catalog c.in_ok-commands.commands.items _ catalog.2 session.2
          (rw c.deref.ensures.value at c.in_ok-text.ensures),
    )
