use Rattle.std.proofs.Common.{◌≡◌, ◌≤◌, ◌+◌, ◌-◌, ◌*◌, ◌%◌, ◌^◌, ◌++◌, ◌∷◌, [], length, slice_index_or, subst, sym, ◌∙◌, arith, rules, w64}
use Rattle.std.specs.Prelude.{bit_and}
use Rattle.std.specs.Int.{bit_not, trailing_zeros}
use Rattle.std.proofs.lemmas.Bool.{true≢false}
use Rattle.std.proofs.lemmas.Nat.{and_le_l}
use Rattle.bundle_rules.specs.Menus.{section_at}
use Rattle.bundle_bounds.specs.Offers.{price_at}
use Rattle.demand_oracle.specs.Questions.{offer_asked}
use Rattle.demand_oracle.specs.Champions.{kept_of}
use Rattle.demand_oracle.specs.SummedNodes.{chosen_of}
use Rattle.demand_oracle.proofs.Descending.{begun_goes_on, next_clashes, whole_searched, lost_searched, end_searched, comes_to, next_falls, next_later, next_on_menu, node_from, next_from, prune_searched, fits_where_takable, takable_where_fits, shut_goes_on, node_taken, word_taken, taken_goes_on, given_searched}
use Rattle.demand_oracle.proofs.below.+below.Goals as goal

pub returns-then-courses_left-eq0-clause-searched : goal.returns-then-courses_left-eq0-clause-searched
returns-then-courses_left-eq0-clause-searched t c =
    whole_searched c.args.question.now c.requires.question c.args.summed.now c.requires.summed c.requires.node _ _
    (let left : c.courses_left.result ≡ c.args.question.now.offer.now.menu.now.courses - length (chosen_of c.args.summed.now) = c.courses_left.ensures.value in
    omega (arith, c.if-courses_left-eq0.true))
    c.put_better.ensures.put

pub returns-then-is_lost-clause-searched : goal.returns-then-is_lost-clause-searched
returns-then-is_lost-clause-searched t c =
    lost_searched c.args.question.now c.requires.question c.args.summed.now c.requires.summed c.requires.node (kept_of c.args.leaders.now)
    (c.is_lost.ensures.undecided c.if-is_lost.true) (c.is_lost.ensures.lost (kept_of c.args.leaders.now) c.if-is_lost.true)

pub places-init : goal.places-init
places-init t c =
    let question = c.args.question.now in
    let left : c.budget_left-budget_left.result ≡ (offer_asked question).budget - c.args.summed.now.paid = c.budget_left-budget_left.ensures in
    record {
      goes_on =
          begun_goes_on question c.requires.question c.args.summed.now c.requires.summed c.requires.node c.args.leaders.now c.requires.leaders c.args.word
          c.affordable.result c.requires.word
          (λ p on within.
          c.affordable.ensures (offer_asked question) c.requires.question.goods p on
          (subst (λ n. price_at (offer_asked question) p ≤ n) (sym left) within));
      fewer = and_le_l c.args.word c.affordable.result;
    }

pub is_pruned-requires-clause-place : goal.is_pruned-requires-clause-place
is_pruned-requires-clause-place t c =
    let here = comes_to c.requires.question c.requires.summed c.requires.node c.places.invariant.goes_on (search rules) (omega arith) in
    let on = next_on_menu here in
    omega arith

pub returns-then-is_pruned-clause-searched : goal.returns-then-is_pruned-clause-searched
returns-then-is_pruned-clause-searched t c =
    let here = comes_to c.requires.question c.requires.summed c.requires.node c.places.invariant.goes_on (search rules) (omega arith) in
    prune_searched here
    (c.is_pruned.ensures here.on.from c.requires.question c.column-column.ensures (node_from here) (next_from here) here.on.is_word
    c.if-is_pruned.true)

pub fits-requires : goal.fits-requires
fits-requires t c =
    let here = comes_to c.requires.question c.requires.summed c.requires.node c.places.invariant.goes_on (search rules) (omega arith) in
    let on = next_on_menu here in
    let few : length c.args.question.now.offer.now.menu.now.places ≤ 60 = c.requires.question.menu.places.few in
    omega arith

pub places-smaller-then-not-fits : goal.places-smaller-then-not-fits
places-smaller-then-not-fits t c =
    let here = comes_to c.requires.question c.requires.summed c.requires.node c.places.invariant.goes_on (search rules) (omega arith) in
    next_falls here

pub places-preserved-then-not-fits : goal.places-preserved-then-not-fits
places-preserved-then-not-fits t c =
    let here = comes_to c.requires.question c.requires.summed c.requires.node c.places.invariant.goes_on (search rules) (omega arith) in
    record {
      goes_on =
          shut_goes_on here
          (λ takable. true≢false (sym ((c.fits.ensures c.requires.question (next_on_menu here)).1 (fits_where_takable here takable)) ∙ c.if-not-fits.true));
      fewer = let before : c.places.left ≤ c.args.word = c.places.invariant.fewer in omega (arith, next_falls here);
    }

pub bounds-question-from : goal.bounds-question-from
bounds-question-from t c =
    let here = comes_to c.requires.question c.requires.summed c.requires.node c.places.invariant.goes_on (search rules) (omega arith) in
    let on = next_on_menu here in
    let few : length c.args.question.now.offer.now.menu.now.places ≤ 60 = c.requires.question.menu.places.few in
    omega arith

pub falls_short-requires-clause-undecided : goal.falls_short-requires-clause-undecided
falls_short-requires-clause-undecided t c =
    let here = comes_to c.requires.question c.requires.summed c.requires.node c.places.invariant.goes_on (search rules) (omega arith) in
    next_later here

pub falls_short-requires-clause-on_menu : goal.falls_short-requires-clause-on_menu
falls_short-requires-clause-on_menu t c =
    let here = comes_to c.requires.question c.requires.summed c.requires.node c.places.invariant.goes_on (search rules) (omega arith) in
    next_on_menu here

pub falls_short-requires-clause-node : goal.falls_short-requires-clause-node
falls_short-requires-clause-node t c =
    let here = comes_to c.requires.question c.requires.summed c.requires.node c.places.invariant.goes_on (search rules) (omega arith) in
    let takable =
    takable_where_fits here c.courses_left.result c.courses_left.ensures.value c.if-courses_left-eq0.false ((c.fits.ensures c.requires.question (next_on_menu here)).0 c.if-not-fits.false) in
    node_taken here takable

pub falls_short-requires-clause-word : goal.falls_short-requires-clause-word
falls_short-requires-clause-word t c =
    let here = comes_to c.requires.question c.requires.summed c.requires.node c.places.invariant.goes_on (search rules) (omega arith) in
    let takable =
    takable_where_fits here c.courses_left.result c.courses_left.ensures.value c.if-courses_left-eq0.false ((c.fits.ensures c.requires.question (next_on_menu here)).0 c.if-not-fits.false) in
    word_taken here takable (slice_index_or c.args.question.now.goods.now.clashes c.from.result 0) (search rules) (rw c.from.ensures (next_clashes here))

pub places-smaller-then-falls_short : goal.places-smaller-then-falls_short
places-smaller-then-falls_short t c =
    let here = comes_to c.requires.question c.requires.summed c.requires.node c.places.invariant.goes_on (search rules) (omega arith) in
    next_falls here

pub places-preserved-then-falls_short : goal.places-preserved-then-falls_short
places-preserved-then-falls_short t c =
    let here = comes_to c.requires.question c.requires.summed c.requires.node c.places.invariant.goes_on (search rules) (omega arith) in
    let takable =
    takable_where_fits here c.courses_left.result c.courses_left.ensures.value c.if-courses_left-eq0.false ((c.fits.ensures c.requires.question (next_on_menu here)).0 c.if-not-fits.false) in
    record {
      goes_on = taken_goes_on here takable c.places.leaders c.places.invariant.goes_on.are_leaders (c.falls_short.ensures c.if-falls_short.true);
      fewer = let before : c.places.left ≤ c.args.word = c.places.invariant.fewer in omega (arith, next_falls here);
    }

pub invariant_of-step : goal.invariant_of-step
invariant_of-step t c =
    let here = comes_to c.requires.question c.requires.summed c.requires.node c.places.invariant.goes_on (search rules) (omega arith) in
    record { summed_is = c.requires.summed; undecided = next_later here; on_menu = next_on_menu here }

pub below-requires : goal.below-requires
below-requires t c =
    let here = comes_to c.requires.question c.requires.summed c.requires.node c.places.invariant.goes_on (search rules) (omega arith) in
    let takable =
    takable_where_fits here c.courses_left.result c.courses_left.ensures.value c.if-courses_left-eq0.false ((c.fits.ensures c.requires.question (next_on_menu here)).0 c.if-not-fits.false) in
    let place_is : c.with_place-with_it.result.node.place ≡ trailing_zeros w64 c.places.left + 1 = c.with_place-with_it.ensures.place in
    let chosen_is : chosen_of c.with_place-with_it.result
    ≡ chosen_of c.args.summed.now ++ section_at c.args.question.now.offer.now.menu.now.places (trailing_zeros w64 c.places.left) ∷ [] =
    c.with_place-with_it.ensures.chosen in
    let falls = next_falls here in
    let before : c.places.left ≤ c.args.word = c.places.invariant.fewer in
    let measure = c.decreases in (
      omega (arith, and_le_l (bit_and c.places.left (bit_not w64 (1 * 2 ^ trailing_zeros w64 c.places.left % 2 ^ 64))) (bit_not w64 (slice_index_or c.args.question.now.goods.now.clashes c.from.result 0))),
      (
        c.requires.question,
        (
          c.with_place-with_it.ensures.summed,
          (
            rw (place_is, chosen_is) (node_taken here takable),
            (
              rw (place_is, chosen_is)
                  (word_taken here takable (slice_index_or c.args.question.now.goods.now.clashes c.from.result 0) (search rules) (rw c.from.ensures (next_clashes here))),
              c.places.invariant.goes_on.are_leaders,
            ),
          ),
        ),
      ),
    )

pub returns-then-is_given-clause-searched : goal.returns-then-is_given-clause-searched
returns-then-is_given-clause-searched t c =
    let here = comes_to c.requires.question c.requires.summed c.requires.node c.places.invariant.goes_on (search rules) (omega arith) in
    let takable =
    takable_where_fits here c.courses_left.result c.courses_left.ensures.value c.if-courses_left-eq0.false ((c.fits.ensures c.requires.question (next_on_menu here)).0 c.if-not-fits.false) in
    let place_is : c.with_place-with_it.result.node.place ≡ trailing_zeros w64 c.places.left + 1 = c.with_place-with_it.ensures.place in
    let chosen_is : chosen_of c.with_place-with_it.result
    ≡ chosen_of c.args.summed.now ++ section_at c.args.question.now.offer.now.menu.now.places (trailing_zeros w64 c.places.left) ∷ [] =
    c.with_place-with_it.ensures.chosen in
    given_searched here takable c.below.new.leaders c.below.ensures.leaders (rw (place_is, chosen_is) at c.below.ensures.searched)
    (c.is_given.ensures.0 c.if-is_given.true)

pub places-smaller : goal.places-smaller
places-smaller t c =
    let here = comes_to c.requires.question c.requires.summed c.requires.node c.places.invariant.goes_on (search rules) (omega arith) in
    next_falls here

pub places-preserved : goal.places-preserved
places-preserved t c =
    let here = comes_to c.requires.question c.requires.summed c.requires.node c.places.invariant.goes_on (search rules) (omega arith) in
    let takable =
    takable_where_fits here c.courses_left.result c.courses_left.ensures.value c.if-courses_left-eq0.false ((c.fits.ensures c.requires.question (next_on_menu here)).0 c.if-not-fits.false) in
    let place_is : c.with_place-with_it.result.node.place ≡ trailing_zeros w64 c.places.left + 1 = c.with_place-with_it.ensures.place in
    let chosen_is : chosen_of c.with_place-with_it.result
    ≡ chosen_of c.args.summed.now ++ section_at c.args.question.now.offer.now.menu.now.places (trailing_zeros w64 c.places.left) ∷ [] =
    c.with_place-with_it.ensures.chosen in
    record {
      goes_on = taken_goes_on here takable c.below.new.leaders c.below.ensures.leaders (rw (place_is, chosen_is) at c.below.ensures.searched);
      fewer = let before : c.places.left ≤ c.args.word = c.places.invariant.fewer in omega (arith, next_falls here);
    }

pub returns-clause-searched : goal.returns-clause-searched
returns-clause-searched t c =
    end_searched c.args.question.now c.requires.question c.args.summed.now c.requires.summed c.requires.node c.args.leaders.now c.places.left c.places.leaders
    c.places.invariant.goes_on c.put_better-2.new.leaders (omega arith)
    (λ k. c.put_better-2.ensures.put)
