use Rattle.std.proofs.Common.{◌≡◌, ◌<◌, ◌≤◌, ◌+◌, ◌-◌, ◌*◌, ◌==◌, ℕ, Bool, List, false, [], length, drop, get_or, refl, sym, ap, subst, ◌∙◌, arith}
use Rattle.std.specs.Int.{bit_at}
use Rattle.std.proofs.Math.Seq.{drop-length}
use Rattle.std.proofs.lemmas.Nat.Bits.{bit_at-zero}
use Rattle.std.proofs.lemmas.Bool.{eqb-true}
use Rattle.bundle_bounds.specs.Courses.{has_course, greatest, by_course}
use Rattle.bundle_bounds.specs.declared.prospects.Prospect.{Prospect}
use Rattle.bundle_bounds.specs.Bounds.{over_price}
use Rattle.bundle_bounds.specs.Peaks.{IsPeak}
use Rattle.bundle_bounds.proofs.Outlook.{rest_whole}
use Rattle.bundle_bounds.proofs.Steps.{no_prospect}
use Rattle.bundle_bounds.proofs.Adding.{added_front, added_new, courses_more, courses_same, peak_front, peak_low, peak_new}
use Rattle.bundle_bounds.proofs.prospects.add_up_twice.Goals as goal

pub loop-index-init : goal.loop-index-init
loop-index-init c =
    let none : drop (length c.args.all.now.list.now) c.args.all.now.list.now ≡ [] = drop-length c.args.all.now.list.now in
    record {
      there = λ course. ap (λ n. n == 1) (bit_at-zero course) ∙ sym (ap (λ ps. has_course ps course) none);
      peak = record {
        course_is = refl;
        here_is = sym (ap (greatest (over_price c.args.rate.resource c.args.rate.price) 0) none);
        after_is = sym (ap (greatest (over_price c.args.rate.resource (c.args.rate.price + 1)) 0) none);
      };
      total_is = sym (ap (by_course (over_price c.args.rate.resource c.args.rate.price)) none);
      next_is = sym (ap (by_course (over_price c.args.rate.resource (c.args.rate.price + 1))) none);
      small = omega arith;
      next_small = omega arith;
    }

-- the course of the prospect has none behind it
none_behind : (courses : ℕ) (ps : List Prospect) (index : ℕ) (course : ℕ) (is : Bool) → index ≡ (index - 1) + 1
    → is ≡ (bit_at courses course == 1) → is ≡ false
    → ((other : ℕ) → (bit_at courses other == 1) ≡ has_course (drop index ps) other)
    → has_course (drop ((index - 1) + 1) ps) course ≡ false
none_behind courses ps index course is next is_in new there =
    sym (subst (λ n. (bit_at courses course == 1) ≡ has_course (drop n ps) course) next (there course)) ∙ sym is_in ∙ new

pub peak_behind-most-requires : goal.peak_behind-most-requires
peak_behind-most-requires c =
    let ps = c.args.all.now.list.now in
    let next : c.loop-index.index ≡ (c.loop-index.index - 1) + 1 = omega arith in
    let last = c.loop-index.last in
    subst (λ l. IsPeak c.args.rate.resource c.args.rate.price last.course l last) (sym (rest_whole ps ((c.loop-index.index - 1) + 1)))
    (subst (λ n. IsPeak c.args.rate.resource c.args.rate.price last.course (drop n ps) last) next c.loop-index.invariant.peak)

pub overflow_add-sum : goal.overflow_add-sum
overflow_add-sum c =
    let ps = c.args.all.now.list.now in
    let low : c.loop-index.index - 1 < length c.args.all.now.list.now = omega arith in
    let small : c.loop-index.sum ≤ 20000000 * (length c.args.all.now.list.now - c.loop-index.index) = c.loop-index.invariant.small in
    let more =
    peak_low c.args.rate.resource c.args.rate.price (get_or ps (c.loop-index.index - 1) no_prospect) c.peak_of-own.result.here
    (c.args.all.now.modest (c.loop-index.index - 1) no_prospect low) c.peak_of-own.ensures.here in
    omega (arith, c.args.all.now.few, more)

pub overflow_add-next : goal.overflow_add-next
overflow_add-next c =
    let ps = c.args.all.now.list.now in
    let low : c.loop-index.index - 1 < length c.args.all.now.list.now = omega arith in
    let small : c.loop-index.next ≤ 20000000 * (length c.args.all.now.list.now - c.loop-index.index) = c.loop-index.invariant.next_small in
    let more =
    peak_low c.args.rate.resource (c.args.rate.price + 1) (get_or ps (c.loop-index.index - 1) no_prospect) c.peak_of-own.result.after
    (c.args.all.now.modest (c.loop-index.index - 1) no_prospect low) c.peak_of-own.ensures.after in
    omega (arith, c.args.all.now.few, more)

pub overflow_add-sum-in-loop-index : goal.overflow_add-sum-in-loop-index
overflow_add-sum-in-loop-index c =
    let ps = c.args.all.now.list.now in
    let low : c.loop-index.index - 1 < length c.args.all.now.list.now = omega arith in
    let small : c.loop-index.sum ≤ 20000000 * (length c.args.all.now.list.now - c.loop-index.index) = c.loop-index.invariant.small in
    let more =
    peak_low c.args.rate.resource c.args.rate.price (get_or ps (c.loop-index.index - 1) no_prospect) c.peak_of-own.result.here
    (c.args.all.now.modest (c.loop-index.index - 1) no_prospect low) c.peak_of-own.ensures.here in
    omega (arith, c.saturating_sub-sum.ensures, c.args.all.now.few, more)

pub overflow_add-next-in-loop-index : goal.overflow_add-next-in-loop-index
overflow_add-next-in-loop-index c =
    let ps = c.args.all.now.list.now in
    let low : c.loop-index.index - 1 < length c.args.all.now.list.now = omega arith in
    let small : c.loop-index.next ≤ 20000000 * (length c.args.all.now.list.now - c.loop-index.index) = c.loop-index.invariant.next_small in
    let more =
    peak_low c.args.rate.resource (c.args.rate.price + 1) (get_or ps (c.loop-index.index - 1) no_prospect) c.peak_of-own.result.after
    (c.args.all.now.modest (c.loop-index.index - 1) no_prospect low) c.peak_of-own.ensures.after in
    omega (arith, c.saturating_sub-next.ensures, c.args.all.now.few, more)

pub loop-index-preserved-then-not-is_in : goal.loop-index-preserved-then-not-is_in
loop-index-preserved-then-not-is_in c =
    let ps = c.args.all.now.list.now in
    let f = over_price c.args.rate.resource c.args.rate.price in
    let g = over_price c.args.rate.resource (c.args.rate.price + 1) in
    let is = c.loop-index.invariant in
    let low : c.loop-index.index - 1 < length c.args.all.now.list.now = omega arith in
    let next : c.loop-index.index ≡ (c.loop-index.index - 1) + 1 = omega arith in
    let course = (get_or ps (c.loop-index.index - 1) no_prospect).course in
    let own = c.peak_of-own.result in
    let none : has_course (drop ((c.loop-index.index - 1) + 1) ps) course ≡ false =
    none_behind c.loop-index.courses ps c.loop-index.index course c.is_in.result next c.is_in.ensures c.if-not-is_in.true is.there in
    let modest = c.args.all.now.modest (c.loop-index.index - 1) no_prospect low in
    let more : own.here ≤ 20000000 =
    peak_low c.args.rate.resource c.args.rate.price (get_or ps (c.loop-index.index - 1) no_prospect) own.here modest c.peak_of-own.ensures.here in
    let more' : own.after ≤ 20000000 =
    peak_low c.args.rate.resource (c.args.rate.price + 1) (get_or ps (c.loop-index.index - 1) no_prospect) own.after modest c.peak_of-own.ensures.after in
    let so_far : c.loop-index.sum ≤ 20000000 * (length c.args.all.now.list.now - c.loop-index.index) = is.small in
    let so_far' : c.loop-index.next ≤ 20000000 * (length c.args.all.now.list.now - c.loop-index.index) = is.next_small in
    record {
      there =
          courses_more c.loop-index.courses c.with-courses.result ps (c.loop-index.index - 1) course no_prospect low refl
          c.with-courses.ensures.same c.with-courses.ensures.others
          (subst (λ n. (other : ℕ) → (bit_at c.loop-index.courses other == 1) ≡ has_course (drop n ps) other) next is.there);
      peak = record {
        course_is = refl;
        here_is =
            peak_new f ps (c.loop-index.index - 1) own.here no_prospect low c.peak_of-own.ensures.here none
            ∙ ap (λ n. greatest f n (drop (c.loop-index.index - 1) ps)) (sym c.peak_of-own.ensures.course);
        after_is =
            peak_new g ps (c.loop-index.index - 1) own.after no_prospect low c.peak_of-own.ensures.after none
            ∙ ap (λ n. greatest g n (drop (c.loop-index.index - 1) ps)) (sym c.peak_of-own.ensures.course);
      };
      total_is =
          added_new f ps (c.loop-index.index - 1) c.loop-index.sum own.here no_prospect low
          (is.total_is ∙ ap (λ n. by_course f (drop n ps)) next) c.peak_of-own.ensures.here none;
      next_is =
          added_new g ps (c.loop-index.index - 1) c.loop-index.next own.after no_prospect low
          (is.next_is ∙ ap (λ n. by_course g (drop n ps)) next) c.peak_of-own.ensures.after none;
      small = omega arith;
      next_small = omega arith;
    }

pub loop-index-preserved : goal.loop-index-preserved
loop-index-preserved c =
    let ps = c.args.all.now.list.now in
    let f = over_price c.args.rate.resource c.args.rate.price in
    let g = over_price c.args.rate.resource (c.args.rate.price + 1) in
    let is = c.loop-index.invariant in
    let low : c.loop-index.index - 1 < length c.args.all.now.list.now = omega arith in
    let next : c.loop-index.index ≡ (c.loop-index.index - 1) + 1 = omega arith in
    let whole = rest_whole ps ((c.loop-index.index - 1) + 1) in
    let course = (get_or ps (c.loop-index.index - 1) no_prospect).course in
    let most = c.peak_behind-most.result in
    let own = c.peak_of-own.result in
    let most_is = c.peak_behind-most.ensures in
    let here : most.here ≡ greatest f course (drop ((c.loop-index.index - 1) + 1) ps) = most_is.here_is ∙ ap (greatest f course) whole in
    let after : most.after ≡ greatest g course (drop ((c.loop-index.index - 1) + 1) ps) = most_is.after_is ∙ ap (greatest g course) whole in
    let modest = c.args.all.now.modest (c.loop-index.index - 1) no_prospect low in
    let more : own.here ≤ 20000000 =
    peak_low c.args.rate.resource c.args.rate.price (get_or ps (c.loop-index.index - 1) no_prospect) own.here modest c.peak_of-own.ensures.here in
    let more' : own.after ≤ 20000000 =
    peak_low c.args.rate.resource (c.args.rate.price + 1) (get_or ps (c.loop-index.index - 1) no_prospect) own.after modest c.peak_of-own.ensures.after in
    let less : c.saturating_sub-sum.result ≡ own.here - most.here = c.saturating_sub-sum.ensures in
    let less' : c.saturating_sub-next.result ≡ own.after - most.after = c.saturating_sub-next.ensures in
    let so_far' : c.loop-index.next ≤ 20000000 * (length c.args.all.now.list.now - c.loop-index.index) = is.next_small in
    let so_far : c.loop-index.sum ≤ 20000000 * (length c.args.all.now.list.now - c.loop-index.index) = is.small in
    let named : c.higher-last.result.course ≡ course = c.higher-last.ensures.course ∙ c.peak_of-own.ensures.course in
    record {
      there =
          courses_same c.loop-index.courses ps (c.loop-index.index - 1) no_prospect low
          (eqb-true (bit_at c.loop-index.courses course) 1 (sym c.is_in.ensures ∙ c.if-not-is_in.false))
          (subst (λ n. (other : ℕ) → (bit_at c.loop-index.courses other == 1) ≡ has_course (drop n ps) other) next is.there);
      peak = record {
        course_is = refl;
        here_is =
            peak_front f ps (c.loop-index.index - 1) own.here most.here c.higher-last.result.here no_prospect low c.peak_of-own.ensures.here here
            c.higher-last.ensures.here
            ∙ ap (λ n. greatest f n (drop (c.loop-index.index - 1) ps)) (sym named);
        after_is =
            peak_front g ps (c.loop-index.index - 1) own.after most.after c.higher-last.result.after no_prospect low c.peak_of-own.ensures.after after
            c.higher-last.ensures.after
            ∙ ap (λ n. greatest g n (drop (c.loop-index.index - 1) ps)) (sym named);
      };
      total_is =
          added_front f ps (c.loop-index.index - 1) c.loop-index.sum c.saturating_sub-sum.result no_prospect low
          (is.total_is ∙ ap (λ n. by_course f (drop n ps)) next) (less ∙ (λ j. c.peak_of-own.ensures.here j - here j));
      next_is =
          added_front g ps (c.loop-index.index - 1) c.loop-index.next c.saturating_sub-next.result no_prospect low
          (is.next_is ∙ ap (λ n. by_course g (drop n ps)) next) (less' ∙ (λ j. c.peak_of-own.ensures.after j - after j));
      small = omega arith;
      next_small = omega arith;
    }
