-- Rooms that trees are written to.
use Rattle.std.specs.Prelude.{ℕ, ◌<◌, ◌≤◌, ◌+◌, None, List, IfSome, length, take, slice_index_or}
use Rattle.bundle_bounds.specs.Offers.{OfferData}
use Rattle.proof_tree.specs.Texts.{IsTreeText}
use Rattle.published_market.specs.declared.rooms.Room.{Room}

-- where something was written to the room, it is the tree of the bundle in the offer
abbrev pub IsRoomOf : OfferData → List ℕ → Room → Type 0
IsRoomOf offer bundle room =
    IfSome room.written
    (λ count. (count ≤ length room.bytes.items)
    × IsTreeText offer None bundle (take count room.bytes.items))

-- rooms of the bundles from a number on, each in its offer
abbrev pub AreRooms : (ℕ → OfferData) → (ℕ → List ℕ) → ℕ → List Room → Type 0
AreRooms offer bundle first rooms =
    (k : ℕ) (d : Room) → k < length rooms
    → IsRoomOf (offer (first + k)) (bundle (first + k)) (slice_index_or rooms k d)
