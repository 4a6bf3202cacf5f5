use Rattle.std.proofs.Common.{◌≡◌, ◌+◌, ◌*◌, ◌-◌, ◌^◌, ◌≤◌, ℕ, length, ap, subst, arith, inl, inr, refl, to_z, w64}
use Rattle.std.specs.Prelude.{ℤ, pos, ◌+ℤ◌, ◌*ℤ◌, ◌≤ℤ◌}
use Rattle.std.proofs.lemmas.Int.{ints}
use Rattle.std.proofs.lemmas.Bool.{cases_eq}
use Rattle.bundle_rules.specs.Menus.{wishes_of}
use Rattle.bundle_rules.specs.Wishes.{utility}
use Rattle.bundle_bounds.specs.Offers.{places_of}
use Rattle.bundle_bounds.specs.Opens.{budget_left, credits_left}
use Rattle.demand_oracle.specs.Covers.{hoped_of, CoversWithin}
use Rattle.demand_oracle.specs.Reaches.{within_at}
use Rattle.demand_oracle.proofs.Covering.{asked_left}
use Rattle.demand_oracle.proofs.Sound.{reach_within_is_sound, none_reached, fits_count}
use Rattle.demand_oracle.proofs.reach.Reach.added.Goals as goal

pub returns-clause-value : goal.returns-clause-value
returns-clause-value c offer chosen is_menu on_menu reach column node bundle may completes =
    let self = c.args.self.now in
    let at = c.args.column.now in
    let k : ℕ = c.args.place in
    let cs = places_of offer.menu chosen in
    let multipliers = self.credits in
    let read : within_at self.most c.from.result at.count at.units ≡ within_at self.most k at.count at.units =
    ap (λ n. within_at self.most n at.count at.units) c.from.ensures in
    let most : ℕ = within_at self.most k at.count at.units in
    let sum : ℕ = at.paid + 1000 * c.from-2.result in
    let low : at.paid ≤ 2 ^ 62 = at.paid_low in
    let same : to_z w64 sum ≡ pos sum = omega (arith, ints) in
    let fits =
    fits_count offer k chosen bundle self.lightest (offer.menu.courses - length chosen) (credits_left offer cs) at.count is_menu node may completes
    reach.lightest refl refl column.enough in
    let u : ℤ = utility (wishes_of offer.menu) bundle in
    let h : ℤ = hoped_of offer k cs in
    elim (cases_eq at.count 0) [
      | inl none ↦
          let few : length bundle ≤ length chosen = omega (arith, fits) in
          let alone : (pos 1000000 *ℤ u) ≤ℤ h = none_reached offer k chosen bundle is_menu node may completes few in
          let goal : (pos 1000000 *ℤ u) ≤ℤ (h +ℤ pos sum) = omega (arith, ints) in
          inr (rw same goal)
      | inr some ↦ elim column.paid [
        | inl none ↦ absurd (some none)
        | inr (inl enough) ↦ inl (rw same (omega (arith, ints)))
        | inr (inr has) ↦
            let capped : at.count ≤ offer.menu.courses = (let within : at.count ≤ offer.menu.courses - length chosen = column.within in omega arith) in
            let asked = asked_left offer self.unit.shift at.count at.units chosen at.low has.units column.within some in
            let covered =
            subst (λ n. CoversWithin offer multipliers self.unit.shift k at.count n most) has.units
            (reach.covers k at.count at.units (omega arith) on_menu capped asked) in
            let sound = reach_within_is_sound offer multipliers self.unit.shift k chosen bundle at.count most is_menu node may completes fits covered in
            let p : ℕ = multipliers.money * budget_left offer cs in
            let l : ℕ = multipliers.credits * credits_left offer cs in
            let sound' : (pos 1000000 *ℤ u) ≤ℤ (h +ℤ pos ((p + l) + 1000 * most)) = sound in
            let paid : at.paid ≡ p + l = has.paid in
            let whole : sum ≡ (p + l) + 1000 * most = omega arith in
            inr (rw (same, whole) sound')
      ]
    ]
