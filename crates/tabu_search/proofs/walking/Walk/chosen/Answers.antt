use Rattle.std.proofs.Common.{Vec, Global, ◌≡◌, ◌<◌, ◌≤◌, ◌∙◌, map, length, ap, sym, subst, not, arith, rules}
use Rattle.std.proofs.lemmas.Bool.{false≢true}
use Rattle.std.proofs.lemmas.List.{length-map}
use Rattle.market_units.specs.declared.units.Tokens.{Tokens}
use Rattle.clearing_error.specs.Errors.{error}
use Rattle.price_neighbours.specs.Neighbours.{neighbours}
use Rattle.price_neighbours.proofs.Distinctness.{vectors_of}
use Rattle.tabu_search.specs.Visits.{counts_at, error_at}
use Rattle.tabu_search.proofs.Walks.{chosen_is}
use Rattle.tabu_search.proofs.Candidates.{AreAt, IsBestOf, are_at, some_at, allowed_at, error_is, best_tabu, best_lower, best_stays, none_found, some_found}
use Rattle.tabu_search.proofs.walking.Walk.chosen.Given.{Over}
use Rattle.tabu_search.proofs.walking.Walk.chosen.Goals as goal
use Rattle.tabu_search.proofs.walking.Walk.chosen.Goals.{After-deref-in-loop-place-3}

-- what is read at a place
read : (g : Over) (c : After-deref-in-loop-place-3 g)
    → AreAt (g.D.Demands.crowd c.args.demands.now) c.args.seats.now c.in_ok-vectors.vectors.items c.loop-place.place c.index-in-loop-place-2.result.now.items
    c.index-in-loop-place.result.now.items
read g c =
    let all : map (λ counts. counts.items) c.in_ok-counted.counted.items
    ≡ map (λ vector. counts_at (g.D.Demands.crowd c.args.demands.now) vector.items) c.in_ok-vectors.vectors.items =
    subst
    (λ k. map (λ counts. counts.items) c.in_ok-counted.counted.items ≡ map (λ vector. counts_at k vector.items) c.in_ok-vectors.vectors.items)
    c.neighbours.ensures.crowd (rw c.deref-3.ensures.value at c.in_ok-counted.ensures.value) in
    let low : c.loop-place.place < length c.in_ok-vectors.vectors.items = search rules in
    are_at (g.D.Demands.crowd c.args.demands.now) c.args.seats.now c.in_ok-vectors.vectors.items c.in_ok-counted.counted.items c.loop-place.place
    c.index-in-loop-place-2.result.now c.index-in-loop-place.result.now c.requires.walk.seated.known c.requires.walk.seated.each c.in_ok-vectors.ensures.prices all low
    c.index-in-loop-place-2.ensures c.index-in-loop-place.ensures

pub loop-place-preserved-then-is_tabu : goal.loop-place-preserved-then-is_tabu
loop-place-preserved-then-is_tabu g c =
    let crowd = g.D.Demands.crowd c.args.demands.now in
    let all : map (λ counts. counts.items) c.in_ok-counted.counted.items
    ≡ map (λ vector. counts_at (g.D.Demands.crowd c.args.demands.now) vector.items) c.in_ok-vectors.vectors.items =
    subst
    (λ k. map (λ counts. counts.items) c.in_ok-counted.counted.items ≡ map (λ vector. counts_at k vector.items) c.in_ok-vectors.vectors.items)
    c.neighbours.ensures.crowd (rw c.deref-3.ensures.value at c.in_ok-counted.ensures.value) in
    let low : c.loop-place.place < length c.in_ok-vectors.vectors.items = search rules in
    let at =
    some_at crowd c.args.seats.now c.in_ok-vectors.vectors.items c.in_ok-counted.counted.items c.loop-place.place c.index.result.now c.requires.walk.seated.known
    c.requires.walk.seated.each
    c.in_ok-vectors.ensures.prices all low c.index.ensures in
    best_tabu crowd c.args.seats.now (map (λ counts. counts.items) c.args.self.now.window.items) (vectors_of c.in_ok-vectors.vectors.items) c.loop-place.place
    c.loop-place.best (rw (length-map c.in_ok-vectors.vectors.items (λ (v : Vec Tokens Global). v.items)) low)
    (allowed_at crowd c.args.seats.now c.args.self.now.window.items c.in_ok-vectors.vectors.items c.loop-place.place at.0 c.index.result.now.items
    c.is_tabu.result at.1
    (rw c.deref-in-loop-place.ensures.value at c.is_tabu.ensures)
    ∙ ap not c.if-is_tabu.true)
    c.loop-place.invariant

pub error-error-requires-clause-counts : goal.error-error-requires-clause-counts
error-error-requires-clause-counts g c =
    rw c.deref-in-loop-place-2.ensures.value (read g (goal.at.error-error-requires-clause-counts g c).After-deref-in-loop-place-3).small

pub error-error-requires-clause-few : goal.error-error-requires-clause-few
error-error-requires-clause-few g c =
    rw c.deref-in-loop-place-2.ensures.value (read g (goal.at.error-error-requires-clause-few g c).After-deref-in-loop-place-3).few

pub error-error-requires-clause-seats : goal.error-error-requires-clause-seats
error-error-requires-clause-seats g c =
    (read g (goal.at.error-error-requires-clause-seats g c).After-deref-in-loop-place-3).seats_long ∙ ap length (sym c.deref-in-loop-place-2.ensures.value)

pub error-error-requires-clause-prices : goal.error-error-requires-clause-prices
error-error-requires-clause-prices g c =
    ap length c.deref-in-loop-place-3.ensures.value ∙ (read g (goal.at.error-error-requires-clause-prices g c).After-deref-in-loop-place-3).prices_long
    ∙ ap length (sym c.deref-in-loop-place-2.ensures.value)

pub loop-place-preserved-then-not-is_lower : goal.loop-place-preserved-then-not-is_lower
loop-place-preserved-then-not-is_lower g c =
    let all : map (λ counts. counts.items) c.in_ok-counted.counted.items
    ≡ map (λ vector. counts_at (g.D.Demands.crowd c.args.demands.now) vector.items) c.in_ok-vectors.vectors.items =
    subst
    (λ k. map (λ counts. counts.items) c.in_ok-counted.counted.items ≡ map (λ vector. counts_at k vector.items) c.in_ok-vectors.vectors.items)
    c.neighbours.ensures.crowd (rw c.deref-3.ensures.value at c.in_ok-counted.ensures.value) in
    let low : c.loop-place.place < length c.in_ok-vectors.vectors.items = search rules in
    let low' : c.loop-place.place < length (vectors_of c.in_ok-vectors.vectors.items) = rw
    (length-map c.in_ok-vectors.vectors.items (λ (v : Vec Tokens Global). v.items)) low in
    let seen =
    are_at (g.D.Demands.crowd c.args.demands.now) c.args.seats.now c.in_ok-vectors.vectors.items c.in_ok-counted.counted.items c.loop-place.place
    c.index-in-loop-place-2.result.now c.index.result.now c.requires.walk.seated.known c.requires.walk.seated.each c.in_ok-vectors.ensures.prices all low
    c.index-in-loop-place-2.ensures
    c.index.ensures in
    let at = read g (goal.at.loop-place-preserved-then-not-is_lower g c).After-deref-in-loop-place-3 in
    let told : c.error-error.result ≡ error c.index-in-loop-place.result.now.items c.args.seats.now c.index-in-loop-place-2.result.now.items =
    rw (c.deref-in-loop-place-2.ensures.value, c.deref-in-loop-place-3.ensures.value) at c.error-error.ensures in
    let free =
    allowed_at (g.D.Demands.crowd c.args.demands.now) c.args.seats.now c.args.self.now.window.items c.in_ok-vectors.vectors.items c.loop-place.place
    c.index-in-loop-place-2.result.now.items c.index.result.now.items c.is_tabu.result seen
    (rw c.deref-in-loop-place.ensures.value at c.is_tabu.ensures)
    ∙ ap not c.if-is_tabu.false in
    let is =
    error_is (g.D.Demands.crowd c.args.demands.now) c.args.seats.now c.in_ok-vectors.vectors.items c.loop-place.place c.error-error.result
    c.index-in-loop-place-2.result.now.items c.index-in-loop-place.result.now.items at told in
    best_stays (g.D.Demands.crowd c.args.demands.now) c.args.seats.now (map (λ counts. counts.items) c.args.self.now.window.items)
    (vectors_of c.in_ok-vectors.vectors.items)
    c.loop-place.place c.error-error.result c.loop-place.best low' free is
    (λ lower. false≢true (sym c.if-not-is_lower.true ∙ c.is_lower.ensures.1 lower)) c.loop-place.invariant

pub loop-place-preserved : goal.loop-place-preserved
loop-place-preserved g c =
    let all : map (λ counts. counts.items) c.in_ok-counted.counted.items
    ≡ map (λ vector. counts_at (g.D.Demands.crowd c.args.demands.now) vector.items) c.in_ok-vectors.vectors.items =
    subst
    (λ k. map (λ counts. counts.items) c.in_ok-counted.counted.items ≡ map (λ vector. counts_at k vector.items) c.in_ok-vectors.vectors.items)
    c.neighbours.ensures.crowd (rw c.deref-3.ensures.value at c.in_ok-counted.ensures.value) in
    let low : c.loop-place.place < length c.in_ok-vectors.vectors.items = search rules in
    let low' : c.loop-place.place < length (vectors_of c.in_ok-vectors.vectors.items) = rw
    (length-map c.in_ok-vectors.vectors.items (λ (v : Vec Tokens Global). v.items)) low in
    let seen =
    are_at (g.D.Demands.crowd c.args.demands.now) c.args.seats.now c.in_ok-vectors.vectors.items c.in_ok-counted.counted.items c.loop-place.place
    c.index-in-loop-place-2.result.now c.index.result.now c.requires.walk.seated.known c.requires.walk.seated.each c.in_ok-vectors.ensures.prices all low
    c.index-in-loop-place-2.ensures
    c.index.ensures in
    let at = read g (goal.at.loop-place-preserved g c).After-deref-in-loop-place-3 in
    let told : c.error-error.result ≡ error c.index-in-loop-place.result.now.items c.args.seats.now c.index-in-loop-place-2.result.now.items =
    rw (c.deref-in-loop-place-2.ensures.value, c.deref-in-loop-place-3.ensures.value) at c.error-error.ensures in
    let free =
    allowed_at (g.D.Demands.crowd c.args.demands.now) c.args.seats.now c.args.self.now.window.items c.in_ok-vectors.vectors.items c.loop-place.place
    c.index-in-loop-place-2.result.now.items c.index.result.now.items c.is_tabu.result seen
    (rw c.deref-in-loop-place.ensures.value at c.is_tabu.ensures)
    ∙ ap not c.if-is_tabu.false in
    let is =
    error_is (g.D.Demands.crowd c.args.demands.now) c.args.seats.now c.in_ok-vectors.vectors.items c.loop-place.place c.error-error.result
    c.index-in-loop-place-2.result.now.items c.index-in-loop-place.result.now.items at told in
    best_lower (g.D.Demands.crowd c.args.demands.now) c.args.seats.now (map (λ counts. counts.items) c.args.self.now.window.items)
    (vectors_of c.in_ok-vectors.vectors.items)
    c.loop-place.place c.error-error.result c.loop-place.best low' free is
    (c.is_lower.ensures.0 c.if-not-is_lower.false) c.loop-place.invariant

pub returns-in_default-clause-next : goal.returns-in_default-clause-next
returns-in_default-clause-next g c =
    let crowd = g.D.Demands.crowd c.args.demands.now in
    let fresh : c.args.self.now.stale < c.args.settings.now.patience = omega (arith, c.if-self-settings.false) in
    let are : vectors_of c.in_ok-vectors.vectors.items
    ≡ neighbours crowd c.args.seats.now c.as_slice-steps.result.now c.args.self.now.current.prices.items =
    rw c.deref.ensures.value at c.in_ok-vectors.ensures.value in
    let meant =
    chosen_is crowd c.args.seats.now c.args.settings.now c.args.self.now c.as_slice-steps.result.now (vectors_of c.in_ok-vectors.vectors.items)
    c.requires.walk fresh c.as_slice-steps.ensures.sizes are in
    let long : length (vectors_of c.in_ok-vectors.vectors.items) ≡ length c.in_ok-vectors.vectors.items =
    length-map c.in_ok-vectors.vectors.items (λ (v : Vec Tokens Global). v.items) in
    let past : length c.in_ok-vectors.vectors.items ≤ c.loop-place.place = search rules in
    let best =
    subst
    (IsBestOf crowd c.args.seats.now (map (λ counts. counts.items) c.args.self.now.window.items)
    (vectors_of c.in_ok-vectors.vectors.items) c.loop-place.place)
    c.in_default.is c.loop-place.invariant in
    sym meant
    ∙ none_found crowd c.args.seats.now (map (λ counts. counts.items) c.args.self.now.window.items)
    (vectors_of c.in_ok-vectors.vectors.items) c.loop-place.place (rw long past) best

pub returns-clause-next : goal.returns-clause-next
returns-clause-next g c =
    let crowd = g.D.Demands.crowd c.args.demands.now in
    let fresh : c.args.self.now.stale < c.args.settings.now.patience = omega (arith, c.if-self-settings.false) in
    let are : vectors_of c.in_ok-vectors.vectors.items
    ≡ neighbours crowd c.args.seats.now c.as_slice-steps.result.now c.args.self.now.current.prices.items =
    rw c.deref.ensures.value at c.in_ok-vectors.ensures.value in
    let meant =
    chosen_is crowd c.args.seats.now c.args.settings.now c.args.self.now c.as_slice-steps.result.now (vectors_of c.in_ok-vectors.vectors.items)
    c.requires.walk fresh c.as_slice-steps.ensures.sizes are in
    let all : map (λ counts. counts.items) c.in_ok-counted.counted.items
    ≡ map (λ vector. counts_at (g.D.Demands.crowd c.args.demands.now) vector.items) c.in_ok-vectors.vectors.items =
    subst
    (λ k. map (λ counts. counts.items) c.in_ok-counted.counted.items ≡ map (λ vector. counts_at k vector.items) c.in_ok-vectors.vectors.items)
    c.neighbours.ensures.crowd (rw c.deref-3.ensures.value at c.in_ok-counted.ensures.value) in
    let long : length (vectors_of c.in_ok-vectors.vectors.items) ≡ length c.in_ok-vectors.vectors.items =
    length-map c.in_ok-vectors.vectors.items (λ (v : Vec Tokens Global). v.items) in
    let past : length c.in_ok-vectors.vectors.items ≤ c.loop-place.place = search rules in
    let best =
    subst
    (IsBestOf crowd c.args.seats.now (map (λ counts. counts.items) c.args.self.now.window.items)
    (vectors_of c.in_ok-vectors.vectors.items) c.loop-place.place)
    c.in-Some.is c.loop-place.invariant in
    let at = are_at crowd c.args.seats.now c.in_ok-vectors.vectors.items c.in_ok-counted.counted.items c.in-Some.place c.swap_remove.result
    c.swap_remove-2.result
    c.requires.walk.seated.known c.requires.walk.seated.each c.in_ok-vectors.ensures.prices all (rw long at best.0) c.swap_remove.ensures.value
    c.swap_remove-2.ensures.value in (
      sym meant
          ∙ some_found crowd c.args.seats.now (map (λ counts. counts.items) c.args.self.now.window.items)
          (vectors_of c.in_ok-vectors.vectors.items) c.loop-place.place c.in-Some.place c.in-Some.error c.swap_remove.result.items (rw long past) best
          (sym at.at),
      record { prices = at.are; counts = at.counted; error = best.2 ∙ ap (error_at crowd c.args.seats.now) at.at },
    )
