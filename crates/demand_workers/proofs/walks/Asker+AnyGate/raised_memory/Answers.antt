use Rattle.std.proofs.Common.{rules, ℕ, ◌≡◌, ◌<◌, ◌≤◌, ◌∙◌, List, Some, All, length, slice_index_or, slice_set, refl, ap, sym, subst, arith}
use Rattle.std.specs.Arc.{arc_value}
use Rattle.std.specs.FinSet as set
use Rattle.std.specs.Prelude.{nat_lt}
use Rattle.std.proofs.lemmas.List.{length-set}
use Rattle.std.proofs.lemmas.List.Elements.{All-push}
use Rattle.market_units.specs.declared.units.Tokens.{Tokens}
use Rattle.bundle_rules.specs.declared.bundle.Bundle.{Bundle}
use Rattle.demand_api.specs.declared.crowd.Crowd.{Crowd}
use Rattle.demand_api.specs.Views.{data_of}
use Rattle.demand_api.proofs.Parts.{students_length}
use Rattle.demand_api.proofs.Takers.{lent_back}
use Rattle.price_board.specs.declared.round.Task.{Task}
use Rattle.price_board.specs.Tasks.{IsTask}
use Rattle.demand_api.specs.Asking.{ArePricesFor, RoseAtMost}
use Rattle.demand_workers.specs.declared.remembered.Remembered.{Remembered}
use Rattle.demand_workers.specs.Remembered.{AreTaken}
use Rattle.demand_workers.specs.Leaving.{AreLeft}
use Rattle.demand_workers.specs.Views.{crowd_of, price_before}
use Rattle.demand_workers.proofs.Allowing.{pushed_one, rose_within}
use Rattle.demand_workers.proofs.HolderSums.{few_holders}
use Rattle.demand_workers.proofs.HoldersLeave.{raised_prices}
use Rattle.demand_workers.proofs.Raising.{rest_asked, rest_begin, rest_written}
use Rattle.demand_workers.proofs.Surveying.{can_be_raised}
use Rattle.demand_workers.proofs.walks.Asker+AnyGate.raised_memory.Goals as goal

-- a holder is a student of the crowd, of whom a bundle is remembered
holder_low : (remembered : Remembered) (s : ℕ) (hs : List (ℕ × ℕ)) (k : ℕ)
    → AreLeft (crowd_of remembered) (price_before remembered) s (price_before remembered s) hs → k < length hs
    → (slice_index_or hs k (0, 0)).1 < length (arc_value remembered.crowd).menus.items
holder_low remembered s hs k left low =
    subst (λ n. (slice_index_or hs k (0, 0)).1 < n) (students_length (arc_value remembered.crowd)) (left.students k (0, 0) low)

pub settled-requires-clause-student : goal.settled-requires-clause-student
settled-requires-clause-student g c =
    holder_low (arc_value c.args.walk.now.notes.now.remembered) c.args.walk.now.section.0 c.args.holders.now c.loop-place.place c.requires (search rules)

pub loop-place-init : goal.loop-place-init
loop-place-init g c =
    let walk = c.args.walk.now in
    let remembered = arc_value walk.notes.now.remembered in
    let prices_are : c.in_ok-prices.prices.items ≡ remembered.prices.items =
    c.in_ok-prices.ensures.items_if_clones_equal (λ x y is. is) ∙ c.as_slice.ensures.value
    ∙ ap (λ (r : Remembered). r.prices.items) c.deref-remembered.ensures in
    let bundles_are : c.in_ok-bundles.bundles.items ≡ remembered.bundles.items =
    c.in_ok-bundles.ensures.items_if_clones_equal (λ x y is. is) ∙ c.as_slice-2.ensures.value
    ∙ ap (λ (r : Remembered). r.bundles.items) c.deref-remembered.ensures in
    record {
      len = ap length bundles_are;
      few = search rules;
      raised = search rules;
      asked = search rules;
      kept =
          rest_begin remembered _ walk.section.0 walk.least c.args.holders.now c.in_ok-bundles.bundles.items _ walk.within walk.low
          (ap (λ (l : List Tokens). slice_set l c.from.result walk.least) prices_are
          ∙ ap (λ n. slice_set remembered.prices.items n walk.least) c.from.ensures)
          c.requires bundles_are;
    }

-- who is asked
pub loop-place-preserved-in_default : goal.loop-place-preserved-in_default
loop-place-preserved-in_default g c =
    let crowd = arc_value (arc_value c.args.walk.now.notes.now.remembered).crowd in
    let low = holder_low (arc_value c.args.walk.now.notes.now.remembered) c.args.walk.now.section.0 c.args.holders.now c.loop-place.place c.requires (search rules) in
    record {
      len = c.loop-place.invariant.len;
      few = let longer = pushed_one c.loop-place.list.items _ _ c.in_ok-push.ensures.items in omega (arith, longer, c.loop-place.invariant.few);
      raised =
          subst (All (λ (q : Task). q.raised ≡ Some (c.args.walk.now.section, c.args.walk.now.least)))
          (sym {A = List Task} c.in_ok-push.ensures.items)
          (All-push (λ (q : Task). q.raised ≡ Some (c.args.walk.now.section, c.args.walk.now.least)) c.loop-place.list.items _
          c.loop-place.invariant.raised refl);
      asked = subst (All (IsTask (data_of crowd) 1)) (sym {A = List Task} c.in_ok-push.ensures.items)
          (All-push (IsTask (data_of crowd) 1) c.loop-place.list.items _ c.loop-place.invariant.asked
          (record {
            student = subst (λ n. (slice_index_or c.args.holders.now c.loop-place.place (0, 0)).1 < n) (sym (students_length crowd)) low;
            its_version = (let goal : 0 < 1 = omega arith in goal);
            its_price = can_be_raised (data_of crowd) (c.args.walk.now.section, c.args.walk.now.least) c.args.walk.now.within c.args.walk.now.high;
          }));
      kept =
          rest_asked (data_of crowd) _ c.loop-place.place c.args.holders.now c.loop-place.bundles.items c.loop-place.list.items _ _
          c.loop-place.invariant.kept c.in_ok-push.ensures.items refl refl;
    }

pub index_mut-requires-in-loop-place : goal.index_mut-requires-in-loop-place
index_mut-requires-in-loop-place g c =
    let remembered = arc_value c.args.walk.now.notes.now.remembered in
    let low = holder_low remembered c.args.walk.now.section.0 c.args.holders.now c.loop-place.place c.requires (search rules) in
    let long : length c.loop-place.bundles.items ≡ length remembered.bundles.items = c.loop-place.invariant.len in
    let each : length remembered.bundles.items ≡ length (arc_value remembered.crowd).menus.items = remembered.each in
    let at : c.from-in-loop-place.result ≡ (slice_index_or c.args.holders.now c.loop-place.place (0, 0)).1 = c.from-in-loop-place.ensures in
    omega (arith, low, long, each, at)

-- what another holder takes is written
pub loop-place-preserved : goal.loop-place-preserved
loop-place-preserved g c =
    let remembered = arc_value c.args.walk.now.notes.now.remembered in
    let low = holder_low remembered c.args.walk.now.section.0 c.args.holders.now c.loop-place.place c.requires (search rules) in
    let long : length c.loop-place.bundles.items ≡ length remembered.bundles.items = c.loop-place.invariant.len in
    let each : length remembered.bundles.items ≡ length (arc_value remembered.crowd).menus.items = remembered.each in
    let at : c.from-in-loop-place.result ≡ (slice_index_or c.args.holders.now c.loop-place.place (0, 0)).1 = c.from-in-loop-place.ensures in
    record {
      len = length-set c.loop-place.bundles.items _ _ ∙ long;
      few = search rules;
      raised = c.loop-place.invariant.raised;
      asked = c.loop-place.invariant.asked;
      kept =
          rest_written (crowd_of remembered) _ c.loop-place.place c.args.holders.now c.loop-place.bundles.items _ c.loop-place.list.items c.from-in-loop-place.result _
          c.loop-place.invariant.kept refl (omega (arith, low, long, each, at)) (sym at) (search rules);
    }

-- the list is as long as the crowd has students
pub write_asked-requires-clause-each : goal.write_asked-requires-clause-each
write_asked-requires-clause-each g c κs within =
    let remembered = arc_value c.args.walk.now.notes.now.remembered in
    ap length c.deref_mut.ensures.value ∙ c.loop-place.invariant.len ∙ remembered.each ∙ sym (students_length (arc_value remembered.crowd))

pub invariant_of-result : goal.invariant_of-result
invariant_of-result g c =
    let walk = c.args.walk.now in
    let remembered = arc_value c.args.walk.now.notes.now.remembered in
    let known = c.deref-remembered.result.now in
    let raised = slice_set c.in_ok-prices.prices.items c.from.result c.args.walk.now.least in
    let crowd_is : arc_value c.in_ok-try_clone.field-0 ≡ arc_value (arc_value c.args.walk.now.notes.now.remembered).crowd =
    c.in_ok-try_clone.ensures ∙ ap (λ (r : Remembered). arc_value r.crowd) c.deref-remembered.ensures in
    let prices_are : c.in_ok-prices.prices.items ≡ (arc_value c.args.walk.now.notes.now.remembered).prices.items =
    c.in_ok-prices.ensures.items_if_clones_equal (λ x y is. is) ∙ c.as_slice.ensures.value
    ∙ ap (λ (r : Remembered). r.prices.items) c.deref-remembered.ensures in
    let raised_is : slice_set c.in_ok-prices.prices.items c.from.result c.args.walk.now.least
    ≡ slice_set (arc_value c.args.walk.now.notes.now.remembered).prices.items c.args.walk.now.section.0 c.args.walk.now.least =
    ap (λ (l : List Tokens). slice_set l c.from.result c.args.walk.now.least) prices_are
    ∙ ap (λ n. slice_set (arc_value c.args.walk.now.notes.now.remembered).prices.items n c.args.walk.now.least) c.from.ensures in
    let lent = lent_back c.loop-place.bundles.len c.write_asked.new.bundles c.loop-place.bundles.items (search rules) in
    record {
      every =
          subst (λ (w : Crowd). (s : ℕ) → set.contains known.allowed s ≡ nat_lt s w.sections) (sym c.in_ok-try_clone.ensures) known.every;
      priced =
          subst (λ (w : Crowd). ArePricesFor (data_of w) raised) (sym crowd_is)
          (subst (ArePricesFor (crowd_of remembered)) (sym raised_is)
          (raised_prices (crowd_of remembered) remembered.prices.items walk.section.0 walk.least.0 remembered.priced walk.high));
      each =
          ap length lent ∙ c.write_asked.ensures.len ∙ ap length c.deref_mut.ensures.value ∙ c.loop-place.invariant.len ∙ remembered.each
          ∙ ap (λ (w : Crowd). length w.menus.items) (sym crowd_is);
      taken =
          subst (λ (b : List Bundle). AreTaken (data_of (arc_value c.in_ok-try_clone.field-0)) raised b) (sym lent)
          (subst (λ (w : Crowd). AreTaken (data_of w) raised c.write_asked.new.bundles) (sym crowd_is)
          (subst (λ (p : List Tokens). AreTaken (crowd_of remembered) p c.write_asked.new.bundles) c.deref-2.ensures.value
          c.in_ok-write_asked.ensures.taken));
    }

pub returns-clause-crowd : goal.returns-clause-crowd
returns-clause-crowd g c = ap data_of c.in_ok-try_clone.ensures ∙ ap crowd_of c.deref-remembered.ensures

-- at most one inquiry for each student
few_asked : (remembered : Remembered) (s : ℕ) (hs : List (ℕ × ℕ)) (list : List Task) (place before now : ℕ)
    → AreLeft (crowd_of remembered) (price_before remembered) s (price_before remembered s) hs → length list ≤ place → place ≤ length hs
    → RoseAtMost (length list) before now → RoseAtMost (length (crowd_of remembered).students) before now
few_asked remembered s hs list place before now left asked within rose =
    let few = few_holders (length (crowd_of remembered).students) hs left.students left.once in
    rose_within (length list) (length (crowd_of remembered).students) before now rose (omega (arith, few, asked, within))

pub returns-in_err-write_asked-clause-inquiries : goal.returns-in_err-write_asked-clause-inquiries
returns-in_err-write_asked-clause-inquiries g c =
    few_asked (arc_value c.args.walk.now.notes.now.remembered) c.args.walk.now.section.0 c.args.holders.now c.loop-place.list.items c.loop-place.place _ _
    c.requires c.loop-place.invariant.few (search rules) c.write_asked.ensures.inquiries

pub returns-in_err-try_clone-clause-inquiries : goal.returns-in_err-try_clone-clause-inquiries
returns-in_err-try_clone-clause-inquiries g c =
    few_asked (arc_value c.args.walk.now.notes.now.remembered) c.args.walk.now.section.0 c.args.holders.now c.loop-place.list.items c.loop-place.place _ _
    c.requires c.loop-place.invariant.few (search rules) c.write_asked.ensures.inquiries

pub returns-clause-inquiries : goal.returns-clause-inquiries
returns-clause-inquiries g c =
    few_asked (arc_value c.args.walk.now.notes.now.remembered) c.args.walk.now.section.0 c.args.holders.now c.loop-place.list.items c.loop-place.place _ _
    c.requires c.loop-place.invariant.few (search rules) c.write_asked.ensures.inquiries
