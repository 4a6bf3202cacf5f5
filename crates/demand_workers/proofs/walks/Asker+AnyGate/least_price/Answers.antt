use Rattle.std.proofs.Common.{rules, refl, ◌≡◌, ◌<◌, ◌≤◌, ◌∙◌, ◌-◌, ◌*◌, ◌^◌, ℕ, [], ◌∷◌, All, List, Option, Some, false, true, length}
use Rattle.std.proofs.Common.{heap_items, nat_cmp, slice_index_or, slice_set, ap, sym, subst, arith}
use Rattle.demand_workers.specs.Views.{crowd_of, price_before}
use Rattle.std.specs.Arc.{arc_value}
use Rattle.std.specs.Prelude.{IfOk, IfSome}
use Rattle.std.proofs.lemmas.List.Sorted.{first_le_from_greatest}
use Rattle.market_units.specs.declared.units.Tokens.{Tokens}
use Rattle.bundle_rules.specs.declared.bundle.Bundle.{Bundle}
use Rattle.bundle_rules.specs.Bundles.{sections_of}
use Rattle.bundle_rules.specs.Demand.{price_in}
use Rattle.demand_api.specs.Asking.{ArePricesFor, RoseAtMost}
use Rattle.demand_workers.specs.declared.remembered.Remembered.{Remembered}
use Rattle.demand_api.specs.Crowds.{count, demand_of, top}
use Rattle.demand_api.specs.Prices.{IsLeastFrom, with_price}
use Rattle.demand_api.proofs.Halving.{price_at}
use Rattle.demand_api.proofs.Parts.{students_length}
use Rattle.demand_workers.specs.Leaving.{AreLeft, Keeps, leaves, takes}
use Rattle.demand_workers.proofs.Allowing.{spent_besides, spent_both, spent_within}
use Rattle.demand_workers.proofs.HoldersLeave.{raised_prices, first_keeps, first_student, many_below, has_left, has_stayed, less_left, less_stayed}
use Rattle.demand_workers.proofs.HoldersLeave.{least_found, left_moved, asked_there, keeps_asked, leaves_later}
use Rattle.price_board.specs.Tasks.{IsTask, taken_at}
use Rattle.price_board.specs.declared.round.Task.{Task}
use Rattle.demand_workers.proofs.Listing.{first_listed, listed_inquiry, listed_left}
use Rattle.demand_workers.proofs.walks.Asker+AnyGate.least_price.Given.{Over}
use Rattle.demand_workers.proofs.walks.Asker+AnyGate.least_price.Goals as goal
use Rattle.demand_workers.proofs.walks.Asker+AnyGate.least_price.Goals.{In-Some}

-- what is told of an inquiry, where the same is remembered
told_there : (known remembered : Remembered) (asked : Task) (told : Option Bundle) (bundle : Bundle) → told ≡ Some bundle → known ≡ remembered
    → IfSome told (λ b. sections_of b ≡ taken_at (crowd_of known) (known.prices.items ∷ []) asked)
    → sections_of bundle ≡ taken_at (crowd_of remembered) (remembered.prices.items ∷ []) asked
told_there known remembered asked told bundle is same taken =
    subst (λ (r : Remembered). sections_of bundle ≡ taken_at (crowd_of r) (r.prices.items ∷ []) asked) same
    (subst (λ (o : Option Bundle). IfSome o (λ b. sections_of b ≡ taken_at (crowd_of known) (known.prices.items ∷ []) asked)) is taken)

pub loop-least-init : goal.loop-least-init
loop-least-init g c =
    let known = arc_value c.args.notes.now.remembered in
    let known_is = c.deref-known.ensures ∙ c.in_ok-remembered.ensures in
    let read : c.index-least.result.now ≡ slice_index_or (arc_value c.args.notes.now.remembered).prices.items c.args.pair.0.0 c.index-least.result.now =
    c.index-least.ensures ∙ ap (λ (i : ℕ). slice_index_or c.deref-known.result.now.prices.items i c.index-least.result.now) c.from.ensures
    ∙ ap (λ (r : Remembered). slice_index_or r.prices.items c.args.pair.0.0 c.index-least.result.now) known_is in
    let size : length (arc_value c.args.notes.now.remembered).prices.items ≡ (arc_value (arc_value c.args.notes.now.remembered).crowd).sections =
    known.priced.same in
    let low : c.args.pair.0.0 < length (arc_value c.args.notes.now.remembered).prices.items = let within = c.requires.section in omega arith in
    let now : price_before (arc_value c.args.notes.now.remembered) c.args.pair.0.0 ≡ c.index-least.result.now.0 =
    price_at known.prices.items c.args.pair.0.0 c.index-least.result.now low ∙ ap (λ (t : Tokens). t.0) (sym read) in
    let high : c.index-least.result.now.0 ≤ top (crowd_of (arc_value c.args.notes.now.remembered)) =
    subst (λ (t : Tokens). t.0 ≤ top (crowd_of known)) (sym read) (known.priced.high c.args.pair.0.0 c.index-least.result.now low) in
    let copied : c.in_ok-to_vec.field-0.items ≡ c.args.list.now = c.in_ok-to_vec.ensures.items_if_clones_equal (λ x y is i. (is.0 i, is.1 i)) in
    let listed : AreLeft (crowd_of known) (price_before known) c.args.pair.0.0 c.index-least.result.now.0 c.in_ok-to_vec.field-0.items =
    subst (λ (n : ℕ). AreLeft (crowd_of known) (price_before known) c.args.pair.0.0 n c.in_ok-to_vec.field-0.items) now
    (subst (AreLeft (crowd_of known) (price_before known) c.args.pair.0.0 (price_before known c.args.pair.0.0)) (sym copied) c.requires.list) in
    record {
      heap = c.from-holders.ensures.2;
      left = left_moved (crowd_of known) (price_before known) c.args.pair.0.0 _ _ _ c.from-holders.ensures.1 listed;
      from = omega arith;
      high = high;
      spent = search rules;
      same = refl;
      lower = λ p low below. absurd (omega arith);
    }

-- of the holder that is popped: it is the first to leave, and below the price at which it leaves too many take the section
module _ (g : Over) (c : In-Some g) where
  greatest : All (λ (h : ℕ × ℕ). h.0 ≤ c.in-Some.first.0) (heap_items c.pop.new.self)
  greatest = first_le_from_greatest nat_cmp c.in-Some.first (heap_items c.pop.new.self) (c.in-Some.ensures.below_top c.loop-least.invariant.heap)

  keeps : Keeps (crowd_of (arc_value c.args.notes.now.remembered)) (price_before (arc_value c.args.notes.now.remembered)) c.args.pair.0.0
      c.loop-least.least.0 c.in-Some.first
  keeps = first_keeps _ _ _ _ _ _ _ c.loop-least.invariant.left c.in-Some.ensures.permutation greatest

  later : price_before (arc_value c.args.notes.now.remembered) c.args.pair.0.0 ≤ leaves c.in-Some.first
  later = let from = c.loop-least.invariant.from in let more = keeps.later in omega arith

  lower : (p : ℕ) → price_before (arc_value c.args.notes.now.remembered) c.args.pair.0.0 ≤ p → p < leaves c.in-Some.first
      → c.args.pair.1
      < count (crowd_of (arc_value c.args.notes.now.remembered)) (with_price (price_before (arc_value c.args.notes.now.remembered)) c.args.pair.0.0 p)
      c.args.pair.0.0
  lower p above below =
      let hs : ℕ = length (heap_items c.loop-least.holders) in
      let many : c.args.pair.1 < hs = search rules in
      let more : hs
      ≤ count (crowd_of (arc_value c.args.notes.now.remembered)) (with_price (price_before (arc_value c.args.notes.now.remembered)) c.args.pair.0.0 p)
      c.args.pair.0.0 =
      many_below _ _ _ _ _ _ _ c.loop-least.invariant.left c.in-Some.ensures.permutation greatest p below in
      omega arith

-- the prices at which it is asked
raised : (known remembered : Remembered) (prices trial : List Tokens) (s : ℕ) (least : Tokens) → known ≡ remembered → prices ≡ known.prices.items
    → trial ≡ slice_set prices s least → trial ≡ slice_set remembered.prices.items s least
raised known remembered prices trial s least same copied is =
    is ∙ ap (λ (l : List Tokens). slice_set l s least) (copied ∙ ap (λ (r : Remembered). r.prices.items) same)

pub told_or_asked-requires-clause-inquiry : goal.told_or_asked-requires-clause-inquiry
told_or_asked-requires-clause-inquiry g c κs within =
    let asked : Task =
    record { student = record { 0 = c.in-Some.first.1 }; version = 0; raised = Some (c.args.pair.0, record { 0 = leaves c.in-Some.first }) } in
    subst (λ r. IsTask (crowd_of (arc_value r)) 1 asked) (sym c.loop-least.invariant.same)
    (listed_inquiry _ c.args.pair.0 c.in-Some.first c.requires.section
    (first_listed _ _ _ c.in-Some.first c.in-Some.ensures.permutation (listed_left _ _ _ _ _ c.loop-least.invariant.left)))

pub invariant_of-question : goal.invariant_of-question
invariant_of-question g c =
    let at = (goal.at.invariant_of-question g c).In-Some in
    let remembered = arc_value c.args.notes.now.remembered in
    let known_is = c.deref-known.ensures ∙ c.in_ok-remembered.ensures in
    record {
      priced =
          subst (λ (r : Remembered). ArePricesFor (crowd_of r) c.raised_prices-trial.result.now) (sym known_is)
          (subst (ArePricesFor (crowd_of remembered))
          (sym (raised _ _ _ _ _ _ known_is c.deref.ensures.value c.raised_prices-trial.ensures))
          (raised_prices (crowd_of remembered) remembered.prices.items c.args.pair.0.0 (leaves c.in-Some.first) remembered.priced (keeps g at).capped));
      listed =
          subst (λ (r : Remembered). c.in-Some.first.1 < length (arc_value r.crowd).menus.items) (sym known_is)
          (subst (λ (n : ℕ). c.in-Some.first.1 < n) (students_length (arc_value remembered.crowd))
          (first_student _ _ _ _ _ _ _ c.loop-least.invariant.left c.in-Some.ensures.permutation (greatest g at)));
    }

pub loop-least-smaller-then-not-has : goal.loop-least-smaller-then-not-has
loop-least-smaller-then-not-has g c =
    less_left _ _ _ _ _ _ _ c.loop-least.invariant.left c.in-Some.ensures.permutation (greatest g (goal.at.loop-least-smaller-then-not-has g c).In-Some)

pub loop-least-preserved-then-not-has : goal.loop-least-preserved-then-not-has
loop-least-preserved-then-not-has g c =
    let at = (goal.at.loop-least-preserved-then-not-has g c).In-Some in
    let crowd = crowd_of (arc_value c.args.notes.now.remembered) in
    let prices = (arc_value c.args.notes.now.remembered).prices.items in
    let asked : Task =
    record { student = record { 0 = c.in-Some.first.1 }; version = 0; raised = Some (c.args.pair.0, record { 0 = leaves c.in-Some.first }) } in
    let told : sections_of c.in-Some-told.bundle
    ≡ demand_of crowd (price_in (slice_set prices c.args.pair.0.0 (record { 0 = leaves c.in-Some.first }))) c.in-Some.first.1 =
    told_there _ _ asked _ c.in-Some-told.bundle c.in-Some-told.is (ap (λ r. arc_value r) c.loop-least.invariant.same) c.in_ok-told.ensures.taken in
    let lacks : c.has.result ≡ false = search rules in
    record {
      heap = (c.in-Some.ensures.heap_order c.loop-least.invariant.heap).0;
      left =
          has_left _ _ _ _ _ _ _ c.loop-least.invariant.left c.in-Some.ensures.permutation (greatest g at)
          (asked_there crowd prices _ c.args.pair.0.0 (leaves c.in-Some.first) c.in-Some.first.1 (sections_of c.in-Some-told.bundle)
          (arc_value c.args.notes.now.remembered).priced c.requires.section refl told
          ∙ sym c.has.ensures ∙ lacks);
      from = later g at;
      high = (keeps g at).capped;
      spent = spent_both 0 0 _ _ _ _ _ _ c.loop-least.invariant.spent c.in_ok-told.ensures.inquiries;
      same = c.in_ok-told.ensures.same ∙ c.loop-least.invariant.same;
      lower = lower g at;
    }

pub loop-least-smaller : goal.loop-least-smaller
loop-least-smaller g c =
    let at = (goal.at.loop-least-smaller g c).In-Some in
    let crowd = crowd_of (arc_value c.args.notes.now.remembered) in
    let prices = (arc_value c.args.notes.now.remembered).prices.items in
    less_stayed _ _ _ _ _ _ _ c.loop-least.invariant.left c.in-Some.ensures.permutation (greatest g at) c.holder_of-holder.result
    (heap_items c.push.new.self) c.in_ok-push.ensures.permutation c.holder_of-holder.ensures.student
    (leaves_later crowd prices _ c.args.pair.0.0 c.in-Some.first c.holder_of-holder.result
    (raised _ _ _ _ _ _ (c.deref-known.ensures ∙ c.in_ok-remembered.ensures) c.deref.ensures.value c.raised_prices-trial.ensures)
    (arc_value c.args.notes.now.remembered).priced c.requires.section (keeps g at).room c.holder_of-holder.ensures.later)

pub loop-least-preserved : goal.loop-least-preserved
loop-least-preserved g c =
    let at = (goal.at.loop-least-preserved g c).In-Some in
    let crowd = crowd_of (arc_value c.args.notes.now.remembered) in
    let prices = (arc_value c.args.notes.now.remembered).prices.items in
    let known_is = c.deref-known.ensures ∙ c.in_ok-remembered.ensures in
    record {
      heap = c.in_ok-push.ensures.heap_order (c.in-Some.ensures.heap_order c.loop-least.invariant.heap).0;
      left =
          has_stayed _ _ _ _ _ _ _ c.loop-least.invariant.left c.in-Some.ensures.permutation (greatest g at) c.holder_of-holder.result
          (heap_items c.push.new.self) c.in_ok-push.ensures.permutation c.holder_of-holder.ensures.student
          (keeps_asked crowd prices _ c.args.pair.0.0 (leaves c.in-Some.first) c.in-Some.first.1 c.holder_of-holder.result
          (raised _ _ _ _ _ _ known_is c.deref.ensures.value c.raised_prices-trial.ensures)
          (arc_value c.args.notes.now.remembered).priced c.requires.section c.holder_of-holder.ensures.student c.holder_of-holder.ensures.room
          c.holder_of-holder.ensures.later
          (subst (λ (r : Remembered). leaves c.holder_of-holder.result ≤ top (crowd_of r)) known_is c.holder_of-holder.ensures.capped)
          (subst
          (λ (r : Remembered). takes (crowd_of r) (price_in c.raised_prices-trial.result.now) c.args.pair.0.0 (leaves c.holder_of-holder.result - 1)
          c.in-Some.first.1
          ≡ true)
          known_is c.holder_of-holder.ensures.still));
      from = later g at;
      high = (keeps g at).capped;
      spent = spent_both 0 0 _ _ _ _ _ _ c.loop-least.invariant.spent c.in_ok-told.ensures.inquiries;
      same = c.in_ok-told.ensures.same ∙ c.loop-least.invariant.same;
      lower = lower g at;
    }

pub returns-clause-least : goal.returns-clause-least
returns-clause-least g c =
    let hs : ℕ = length (heap_items c.loop-least.holders) in
    let few : hs ≤ c.args.pair.1 = search rules in
    least_found (crowd_of (arc_value c.args.notes.now.remembered)) (price_before (arc_value c.args.notes.now.remembered)) c.args.pair.0.0
    (price_before (arc_value c.args.notes.now.remembered) c.args.pair.0.0) c.args.pair.1 c.loop-least.least.0 (heap_items c.loop-least.holders)
    c.loop-least.invariant.from c.loop-least.invariant.lower c.loop-least.invariant.left few

-- ---- where nobody may be asked any more

pub halved-requires-clause-section : goal.halved-requires-clause-section
halved-requires-clause-section g c κs within =
    subst (λ (r : Remembered). c.args.pair.0.0 < (arc_value r.crowd).sections) (sym (c.deref-known.ensures ∙ c.in_ok-remembered.ensures)) c.requires.section

pub halved-requires-clause-low : goal.halved-requires-clause-low
halved-requires-clause-low g c κs within =
    subst (λ (r : Remembered). price_before r c.args.pair.0.0 ≤ leaves c.in-Some.first) (sym (c.deref-known.ensures ∙ c.in_ok-remembered.ensures))
    (later g (goal.at.halved-requires-clause-low g c).In-Some)

pub halved-requires-clause-high : goal.halved-requires-clause-high
halved-requires-clause-high g c κs within =
    subst (λ (r : Remembered). leaves c.in-Some.first ≤ top (crowd_of r)) (sym (c.deref-known.ensures ∙ c.in_ok-remembered.ensures))
    (keeps g (goal.at.halved-requires-clause-high g c).In-Some).capped

pub halved-requires-clause-lower : goal.halved-requires-clause-lower
halved-requires-clause-lower g c κs within =
    subst
    (λ (r : Remembered). (p : ℕ) → price_before r c.args.pair.0.0 ≤ p → p < leaves c.in-Some.first
    → c.args.pair.1 < count (crowd_of r) (with_price (price_before r) c.args.pair.0.0 p) c.args.pair.0.0)
    (sym (c.deref-known.ensures ∙ c.in_ok-remembered.ensures)) (lower g (goal.at.halved-requires-clause-lower g c).In-Some)

pub returns-in_default-told-clause-inquiries : goal.returns-in_default-told-clause-inquiries
returns-in_default-told-clause-inquiries g c digits fits =
    spent_besides 0 (digits * length (crowd_of (arc_value c.args.notes.now.remembered)).students) _ _ _ _ _ _
    (spent_both 0 0 _ _ _ _ _ _ c.loop-least.invariant.spent c.in_ok-told.ensures.inquiries)
    (subst
    (λ (r : Remembered). (d : ℕ) → top (crowd_of r) < 2 ^ d
    → RoseAtMost (d * length (crowd_of r).students) c.told_or_asked.new.inquiries c.halved.new.inquiries)
    (c.deref-known.ensures ∙ c.in_ok-remembered.ensures) c.halved.ensures.inquiries digits fits)
    (omega arith)

pub returns-in_default-told-clause-high : goal.returns-in_default-told-clause-high
returns-in_default-told-clause-high g c =
    subst (λ (r : Remembered). IfOk c.halved.result (λ least. least.0 ≤ top (crowd_of r))) (c.deref-known.ensures ∙ c.in_ok-remembered.ensures)
    c.halved.ensures.high

pub returns-in_default-told-clause-least : goal.returns-in_default-told-clause-least
returns-in_default-told-clause-least g c =
    subst
    (λ (r : Remembered). IfOk c.halved.result (λ least. IsLeastFrom (price_before r c.args.pair.0.0) (crowd_of r) (price_before r) c.args.pair.0.0
    c.args.pair.1 least.0))
    (c.deref-known.ensures ∙ c.in_ok-remembered.ensures) c.halved.ensures.least

pub returns-in_err-told-clause-inquiries : goal.returns-in_err-told-clause-inquiries
returns-in_err-told-clause-inquiries g c digits fits =
    spent_within 0 (digits * length (crowd_of (arc_value c.args.notes.now.remembered)).students) _ _ _ _
    (spent_both 0 0 _ _ _ _ _ _ c.loop-least.invariant.spent c.told_or_asked.ensures.inquiries) (omega arith)

pub returns-clause-inquiries : goal.returns-clause-inquiries
returns-clause-inquiries g c digits fits =
    spent_within 0 (digits * length (crowd_of (arc_value c.args.notes.now.remembered)).students) _ _ _ _ c.loop-least.invariant.spent (omega arith)
