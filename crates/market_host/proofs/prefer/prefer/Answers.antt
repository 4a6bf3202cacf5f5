use Rattle.std.proofs.Common.{[], ◌∷◌, arith, refl}
use Rattle.std.proofs.lemmas.Result.{err_from_is_err_and}
use Rattle.market_words.specs.declared.words.Form.TheVariants.{Prefer}
use Rattle.session_hall.specs.Streams.{command_lists}
use Rattle.market_host.proofs.Cursor.{none_read_yet}
use Rattle.market_host.proofs.PreferFacts.{prefer_done}
use Rattle.market_host.proofs.Taking.{memory_stops}
use Rattle.market_host.proofs.prefer.prefer.Goals as goal

pub tables-requires : goal.tables-requires
tables-requires g c = rw c.of-inputs.ensures (omega (arith, c.requires.named.1.front_long))

pub rest-requires-clause-front : goal.rest-requires-clause-front
rest-requires-clause-front g c = rw (c.in_ok-tables.ensures.moved, c.of-inputs.ensures) (omega (arith, c.requires.named.1.front_long))

pub rest-requires-clause-some : goal.rest-requires-clause-some
rest-requires-clause-some g c = rw (c.in_ok-tables.ensures.moved, c.of-inputs.ensures) (c.requires.named.1.some tt)

pub returns-in_err-tables : goal.returns-in_err-tables
returns-in_err-tables g c =
    let p = err_from_is_err_and c.from_residual.result c.from_residual.ensures.1 in
    let begun = none_read_yet g.H.Shelf Prefer c.requires.named.0 c.args.call c.args.shelf.now c.requires.named.1 in
    rw (p.1, p.2) ((rw c.of-inputs.ensures at c.in_err-tables.ensures.taken) Prefer _ c.args.shelf.now ([], refl) begun)

pub returns-in_err-streams : goal.returns-in_err-streams
returns-in_err-streams g c =
    let p = err_from_is_err_and c.from_residual-in_err-streams.result c.from_residual-in_err-streams.ensures.1 in
    let begun = none_read_yet g.H.Shelf Prefer c.requires.named.0 c.args.call c.args.shelf.now c.requires.named.1 in
    let tables = (rw c.of-inputs.ensures at c.in_ok-tables.ensures.taken) Prefer _ c.args.shelf.now ([], refl) begun in
    rw (p.1, p.2) (c.in_err-streams.ensures Prefer _ (tables.0 ∷ tables.1 ∷ []) c.args.shelf.now refl tables.2)

pub text_of-requires-clause-said : goal.text_of-requires-clause-said
text_of-requires-clause-said g c κs within =
    let begun = none_read_yet g.H.Shelf Prefer c.requires.named.0 c.args.call c.args.shelf.now c.requires.named.1 in
    let tables = (rw c.of-inputs.ensures at c.in_ok-tables.ensures.taken) Prefer _ c.args.shelf.now ([], refl) begun in
    let rest = c.in_ok-streams.ensures Prefer _ (tables.0 ∷ tables.1 ∷ []) c.args.shelf.now refl tables.2 in
    (rest.0, rest.2)

pub returns-in_err-text : goal.returns-in_err-text
returns-in_err-text g c =
    let p = err_from_is_err_and c.from_residual-in_err-text.result c.from_residual-in_err-text.ensures.1 in
    let begun = none_read_yet g.H.Shelf Prefer c.requires.named.0 c.args.call c.args.shelf.now c.requires.named.1 in
    let tables = (rw c.of-inputs.ensures at c.in_ok-tables.ensures.taken) Prefer _ c.args.shelf.now ([], refl) begun in
    let rest = c.in_ok-streams.ensures Prefer _ (tables.0 ∷ tables.1 ∷ []) c.args.shelf.now refl tables.2 in
    rw (p.1, p.2) (memory_stops g.H.Shelf Prefer _ _ c.args.shelf.now c.rest.new.shelf rest.1)

pub returns : goal.returns
returns g c =
    let begun = none_read_yet g.H.Shelf Prefer c.requires.named.0 c.args.call c.args.shelf.now c.requires.named.1 in
    let tables = (rw c.of-inputs.ensures at c.in_ok-tables.ensures.taken) Prefer _ c.args.shelf.now ([], refl) begun in
    let rest = c.in_ok-streams.ensures Prefer _ (tables.0 ∷ tables.1 ∷ []) c.args.shelf.now refl tables.2 in (
      _,
      rest.1,
      prefer_done c.in_ok-tables.tables.catalog c.in_ok-tables.tables.roll tables.0 tables.1 rest.0 (command_lists c.in_ok-streams.streams.lists.items)
          c.in_ok-text.text.items tables.3 rest.2 c.in_ok-text.ensures,
    )
