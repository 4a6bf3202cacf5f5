use Rattle.std.proofs.Common.{◌≡◌, ◌<◌, ℕ, Some, length, ap, sym, subst, ◌∙◌}
use Rattle.bundle_rules.specs.Menus.{place_in, section_at}
use Rattle.bundle_rules.specs.Ranks.{position_of}
use Rattle.bundle_rules.specs.Existence.Places.{section_at-is}
use Rattle.bundle_rules.proofs.Renamed.{place_in-section_at}
use Rattle.demand_oracle.proofs.renaming.given_in_order.Goals as goal

pub returns-in-Some : goal.returns-in-Some
returns-in-Some c =
    let m = c.args.ranked.now.menu.now in
    let k : ℕ = c.in-Some.place in
    let low : k < length m.places = subst (λ n. k < length n.places) (sym c.requires) (rw c.in-Some.is at c.args.asked.now.on_menu) in
    let read = subst (λ n. section_at n.places k ≡ c.rated.result.now.section.0) (sym c.requires)
    (section_at-is c.args.asked.now.offer.now.menu.now.places k c.rated.result.now c.rated.ensures.value) in
    let place : place_in m.places c.rated.result.now.section.0 ≡ k =
    ap (place_in m.places) (sym read) ∙ place_in-section_at m.places k c.len.ensures.menu.places.ascending low in
    rw c.in-Some.is (ap (λ p. Some p) (c.position.ensures.value ∙ ap (position_of c.args.ranked.now.order.now) place))
