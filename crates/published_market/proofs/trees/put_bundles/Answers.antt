use Rattle.std.proofs.Common.{◌≡◌, ◌<◌, ◌≤◌, ◌+◌, ◌∙◌, length, subst, sym, arith, rules}
use Rattle.bundle_rules.specs.Bundles.{sections_of}
use Rattle.published_parts.specs.Offers.{IsProvedBest}
use Rattle.published_market.specs.Rooms.{IsRoomOf}
use Rattle.published_market.proofs.Rooming.{room_at, room_for, shown_more}
use Rattle.published_market.proofs.trees.put_bundles.Goals as goal

pub best-requires : goal.best-requires
best-requires g c =
    let place : c.len-place.result ≡ length c.rooms.all.items = search rules in
    let low : c.rooms.room-index < length c.args.rooms.now = c.rooms-test.true in
    let count : length c.rooms.all.items ≡ length c.args.all.now.items + c.rooms.room-index = c.rooms.invariant.count in
    let places : length c.args.all.now.items + length c.args.rooms.now ≤ g.B.BestBundles.count c.args.bundles.now = c.requires.places in
    omega (arith, place, low, count, places)

pub prove_bundle-requires : goal.prove_bundle-requires
prove_bundle-requires g c =
    let place : c.len-place.result ≡ length c.rooms.all.items = search rules in
    let offer = g.B.BestBundles.offer c.args.bundles.now in
    let bundle = g.B.BestBundles.bundle c.args.bundles.now in
    room_for {offer = offer c.len-place.result} {bundle = bundle c.len-place.result} c.room-item.result (sym c.best.ensures.offer) (sym c.best.ensures.bundle)
    (room_at (λ n. IsRoomOf (offer n) (bundle n)) (length c.args.all.now.items)
    c.rooms.room-index c.len-place.result c.args.rooms.now c.room-item.result c.requires.rooms c.rooms-test.true c.room-item.is
    (place ∙ c.rooms.invariant.count))

pub show-requires-clause-place : goal.show-requires-clause-place
show-requires-clause-place g c =
    let place : c.len-place.result ≡ length c.rooms.all.items = search rules in
    let low : c.rooms.room-index < length c.args.rooms.now = c.rooms-test.true in
    let count : length c.rooms.all.items ≡ length c.args.all.now.items + c.rooms.room-index = c.rooms.invariant.count in
    let places : length c.args.all.now.items + length c.args.rooms.now ≤ g.B.BestBundles.count c.args.bundles.now = c.requires.places in
    omega (arith, place, low, count, places)

pub show-requires-clause-proved : goal.show-requires-clause-proved
show-requires-clause-proved g c =
    let proved = c.in_ok-proved.proved in
    subst (λ offer. IsProvedBest offer (sections_of proved.bundle) proved.tree.items) c.best.ensures.offer c.in_ok-proved.ensures.proved

pub rooms-preserved : goal.rooms-preserved
rooms-preserved g c =
    let place : c.len-place.result ≡ length c.rooms.all.items = search rules in
    record {
      count = search rules;
      shown =
          shown_more (g.B.BestBundles.is_shown c.args.bundles.now) c.rooms.all.items c.show.result c.push.new.self.items c.rooms.invariant.shown
          (subst (λ n. g.B.BestBundles.is_shown c.args.bundles.now n c.show.result) place c.show.ensures) c.in_ok-push.ensures.items;
    }
