use Rattle.std.proofs.Common.{ℕ, List, [], ◌∷◌, ap, arith, length, subst, sym}
use Rattle.std.proofs.lemmas.Result.{err_from_is_err_and}
use Rattle.market_words.specs.Kinds.{Catalog, Published, Roll, Settings}
use Rattle.session_hall.specs.Streams.{command_lists}
use Rattle.market_host.specs.Said.{market_said}
use Rattle.market_host.specs.Taking.{AreTaken}
use Rattle.market_host.proofs.Cursor.{all_published, kind_in, with_sessions}
use Rattle.market_host.proofs.inputs.Inputs.published.Goals as goal

pub returns-in_err-market : goal.returns-in_err-market
returns-in_err-market g c =
    let p = err_from_is_err_and c.from_residual.result c.from_residual.ensures.1 in
    rw (p.1, p.2) (λ form names start opens has. c.in_err-market.ensures.taken form names start (Published ∷ [], opens.0) has)

pub returns-in_err-text : goal.returns-in_err-text
returns-in_err-text g c =
    let p = err_from_is_err_and c.from_residual-in_err-text.result c.from_residual-in_err-text.ensures.1 in
    rw (p.1, p.2) (λ form names start opens has.
    let market = c.in_ok-market.ensures.taken form names start (Published ∷ [], opens.0) has in
    c.in_err-text.ensures.taken form names (market.0 ∷ market.1 ∷ market.2 ∷ []) start
    (kind_in form (Catalog ∷ Roll ∷ Settings ∷ Published ∷ []) (all_published form opens) 3) (omega (arith, ap length opens.0)) tt market.3)

pub returns-in_err-streams : goal.returns-in_err-streams
returns-in_err-streams g c =
    let p = err_from_is_err_and c.from_residual-in_err-streams.result c.from_residual-in_err-streams.ensures.1 in
    rw (p.1, p.2) (λ form names start opens has.
    let market = c.in_ok-market.ensures.taken form names start (Published ∷ [], opens.0) has in
    let text =
    c.in_ok-text.ensures.taken form names (market.0 ∷ market.1 ∷ market.2 ∷ []) start
    (kind_in form (Catalog ∷ Roll ∷ Settings ∷ Published ∷ []) (all_published form opens) 3) (omega (arith, ap length opens.0)) tt market.3 in
    c.in_err-streams.ensures form names (market.0 ∷ market.1 ∷ market.2 ∷ text.0 ∷ []) start (sym (ap length opens.0)) text.1)

pub returns : goal.returns
returns g c = λ form names start opens has.
    let market = c.in_ok-market.ensures.taken form names start (Published ∷ [], opens.0) has in
    let text =
    c.in_ok-text.ensures.taken form names (market.0 ∷ market.1 ∷ market.2 ∷ []) start
    (kind_in form (Catalog ∷ Roll ∷ Settings ∷ Published ∷ []) (all_published form opens) 3) (omega (arith, ap length opens.0)) tt market.3 in
    let rest = c.in_ok-streams.ensures form names (market.0 ∷ market.1 ∷ market.2 ∷ text.0 ∷ []) start (sym (ap length opens.0)) text.1 in (
      market.0,
      market.1,
      market.2,
      rest.0,
      subst
          (λ (one : List ℕ). AreTaken g.H.Shelf form names (market.0 ∷ market.1 ∷ market.2 ∷ one ∷ rest.0) start c.rest.new.shelf) text.2 rest.1,
      with_sessions market.0 market.1 market.2 rest.0 (market_said c.in_ok-market.market) (command_lists c.in_ok-streams.streams.lists.items) market.4 rest.2,
    )

pub invariant_of-result : goal.invariant_of-result
invariant_of-result g c = record { short = c.in_ok-text.ensures.short }
