use Rattle.std.proofs.Common.{ℕ, List, [], ◌∷◌, arith, refl, subst}
use Rattle.std.proofs.lemmas.Result.{err_from_is_err_and}
use Rattle.market_words.specs.declared.words.Form.TheVariants.{Hall}
use Rattle.market_words.specs.Inputs.{names_in}
use Rattle.market_words.specs.Kinds.{Published}
use Rattle.market_host.specs.Taking.{AreTaken}
use Rattle.market_host.proofs.Cursor.{none_read_yet}
use Rattle.market_host.proofs.Taking.{memory_stops}
use Rattle.market_host.proofs.hall.hall.Goals as goal

pub tables-requires : goal.tables-requires
tables-requires g c = rw c.of-inputs.ensures (omega (arith, c.requires.named.1.front_long))

pub text-requires : goal.text-requires
text-requires g c = rw (c.in_ok-tables.ensures.moved, c.of-inputs.ensures) (omega (arith, c.requires.named.1.front_long))

pub rest-requires-clause-front : goal.rest-requires-clause-front
rest-requires-clause-front g c =
    rw (c.in_ok-text.ensures.moved, c.in_ok-tables.ensures.moved, c.of-inputs.ensures) (omega (arith, c.requires.named.1.front_long))

pub rest-requires-clause-some : goal.rest-requires-clause-some
rest-requires-clause-some g c = rw (c.in_ok-text.ensures.moved, c.in_ok-tables.ensures.moved, c.of-inputs.ensures) (c.requires.named.1.some tt)

pub returns-in_err-tables : goal.returns-in_err-tables
returns-in_err-tables g c =
    let p = err_from_is_err_and c.from_residual.result c.from_residual.ensures.1 in
    let begun = none_read_yet g.H.Shelf Hall c.requires.named.0 c.args.call c.args.shelf.now c.requires.named.1 in
    rw (p.1, p.2) ((rw c.of-inputs.ensures at c.in_err-tables.ensures.taken) Hall _ c.args.shelf.now (Published ∷ [], refl) begun)

pub returns-in_err-text : goal.returns-in_err-text
returns-in_err-text g c =
    let p = err_from_is_err_and c.from_residual-in_err-text.result c.from_residual-in_err-text.ensures.1 in
    let begun = none_read_yet g.H.Shelf Hall c.requires.named.0 c.args.call c.args.shelf.now c.requires.named.1 in
    let tables = (rw c.of-inputs.ensures at c.in_ok-tables.ensures.taken) Hall _ c.args.shelf.now (Published ∷ [], refl) begun in
    rw (p.1, p.2) (c.in_err-text.ensures.taken Hall _ (tables.0 ∷ tables.1 ∷ []) c.args.shelf.now refl (omega arith) tt tables.2)

pub returns-in_err-streams : goal.returns-in_err-streams
returns-in_err-streams g c =
    let p = err_from_is_err_and c.from_residual-in_err-streams.result c.from_residual-in_err-streams.ensures.1 in
    let begun = none_read_yet g.H.Shelf Hall c.requires.named.0 c.args.call c.args.shelf.now c.requires.named.1 in
    let tables = (rw c.of-inputs.ensures at c.in_ok-tables.ensures.taken) Hall _ c.args.shelf.now (Published ∷ [], refl) begun in
    let text = c.in_ok-text.ensures.taken Hall _ (tables.0 ∷ tables.1 ∷ []) c.args.shelf.now refl (omega arith) tt tables.2 in
    rw (p.1, p.2) (c.in_err-streams.ensures Hall _ (tables.0 ∷ tables.1 ∷ text.0 ∷ []) c.args.shelf.now refl text.1)

pub opened-requires-clause-short : goal.opened-requires-clause-short
opened-requires-clause-short g c κs within = rw c.deref.ensures.value c.in_ok-text.ensures.short

pub returns-in_err-ended : goal.returns-in_err-ended
returns-in_err-ended g c =
    let p = err_from_is_err_and c.from_residual-in_err-ended.result c.from_residual-in_err-ended.ensures.1 in
    let begun = none_read_yet g.H.Shelf Hall c.requires.named.0 c.args.call c.args.shelf.now c.requires.named.1 in
    let tables = (rw c.of-inputs.ensures at c.in_ok-tables.ensures.taken) Hall _ c.args.shelf.now (Published ∷ [], refl) begun in
    let text = c.in_ok-text.ensures.taken Hall _ (tables.0 ∷ tables.1 ∷ []) c.args.shelf.now refl (omega arith) tt tables.2 in
    let rest = c.in_ok-streams.ensures Hall _ (tables.0 ∷ tables.1 ∷ text.0 ∷ []) c.args.shelf.now refl text.1 in
    rw (p.1, p.2) (memory_stops g.H.Shelf Hall _ _ c.args.shelf.now c.rest.new.shelf rest.1)

pub returns : goal.returns
returns g c =
    let begun = none_read_yet g.H.Shelf Hall c.requires.named.0 c.args.call c.args.shelf.now c.requires.named.1 in
    let tables = (rw c.of-inputs.ensures at c.in_ok-tables.ensures.taken) Hall _ c.args.shelf.now (Published ∷ [], refl) begun in
    let text = c.in_ok-text.ensures.taken Hall _ (tables.0 ∷ tables.1 ∷ []) c.args.shelf.now refl (omega arith) tt tables.2 in
    let rest = c.in_ok-streams.ensures Hall _ (tables.0 ∷ tables.1 ∷ text.0 ∷ []) c.args.shelf.now refl text.1 in (
      tables.0 ∷ tables.1 ∷ c.in_ok-text.text.items ∷ rest.0,
      subst (λ (one : List ℕ). AreTaken g.H.Shelf Hall (names_in c.args.call) (tables.0 ∷ tables.1 ∷ one ∷ rest.0) c.args.shelf.now c.rest.new.shelf) text.2 rest.1,
      (rw c.deref.ensures.value at c.in_ok-ended.ensures) tables.0 tables.1 rest.0 tables.3.catalog_says tables.3.roll_says rest.2,
    )
