use Rattle.std.proofs.Common.{◌≡◌, ◌≢◌, ℕ, Bool, ◌∙◌, sym, subst, ap, inl, inr, arith}
use Rattle.std.specs.Ordering.{nat_cmp}
use Rattle.std.specs.FinSet as set
use Rattle.std.specs.FinSet.{contains-empty}
use Rattle.std.proofs.lemmas.Bool.{cases_eq}
use Rattle.bundle_rules.specs.Menus.{section_at}
use Rattle.bundle_rules.specs.Existence.Places.{section_at-is}
use Rattle.bundle_rules.specs.Ranks.{section_of}
use Rattle.demand_oracle.proofs.Filling.{insert_here, insert_there}
use Rattle.demand_oracle.proofs.renaming.allowed_in_order.Goals as goal
use Rattle.demand_oracle.proofs.renaming.allowed_in_order.Goals.{then-has, else-has}

pub loop-position-init : goal.loop-position-init
loop-position-init c = record {
  below = λ p low. absurd (omega arith);
  above = λ p past. rw c.empty-allowed.ensures (contains-empty nat_cmp p);
}

-- a set after one more position
record Goes (old new : set.FinSet nat_cmp) (n : ℕ) (is : Bool) : Type 0 where
  here : set.contains new n ≡ is
  others : (p : ℕ) → p ≢ n → set.contains new p ≡ set.contains old p

pub loop-position-preserved : goal.loop-position-preserved
loop-position-preserved c =
    let m = c.args.ranked.now.menu.now in
    let n : ℕ = c.loop-position.position in
    let section : c.rated.result.now.section.0 ≡ section_of m c.args.ranked.now.order.now n =
    sym (section_at-is c.args.offer.now.menu.now.places c.place_at-place.result c.rated.result.now c.rated.ensures.value)
    ∙ ap (λ d. section_at d.places c.place_at-place.result) (sym c.requires)
    ∙ ap (section_at m.places) c.place_at-place.ensures.place in
    let has : c.has.result ≡ set.contains c.args.offer.now.allowed.now (section_of m c.args.ranked.now.order.now n) =
    c.has.ensures ∙ ap (set.contains c.args.offer.now.allowed.now) section in
    let goes : Goes c.loop-position.allowed c.if-has.allowed n (set.contains c.args.offer.now.allowed.now (section_of m c.args.ranked.now.order.now n)) =
    elim c.if-has.branch [
      | then-has w ↦
          let at : c.if-has.allowed ≡ set.insert c.loop-position.allowed n =
          w.allowed-is ∙ w.with-allowed.ensures ∙ ap (set.insert c.loop-position.allowed) w.from.ensures in
          record {
            here = ap (λ s. set.contains s n) at ∙ insert_here c.loop-position.allowed n ∙ sym w.if-has.true ∙ has;
            others = λ p other. ap (λ s. set.contains s p) at ∙ insert_there c.loop-position.allowed n p other;
          }
      | else-has w ↦
          record {
            here = ap (λ s. set.contains s n) w.allowed-is ∙ c.loop-position.invariant.above n (omega arith) ∙ sym w.if-has.false ∙ has;
            others = λ p other. ap (λ s. set.contains s p) w.allowed-is;
          }
    ] in
    record {
      below = λ p low. elim (cases_eq p n) [
        | inl same ↦
            subst (λ q. set.contains c.if-has.allowed q ≡ set.contains c.args.offer.now.allowed.now (section_of m c.args.ranked.now.order.now q)) (sym same) goes.here
        | inr other ↦ goes.others p other ∙ c.loop-position.invariant.below p (omega arith)
      ];
      above = λ p past. goes.others p (λ same. omega arith) ∙ c.loop-position.invariant.above p (omega arith);
    }
