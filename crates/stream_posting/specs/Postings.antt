-- A session's seat before and after it makes its requests.
use Rattle.std.specs.Prelude.{◌≡◌, Bool, true, List, [], Some, length}
use Rattle.chronicle.specs.declared.origin.Origin.{Origin}
use Rattle.chronicle.specs.declared.standing.Standing.{Standing}
use Rattle.stream_posting.specs.Streams.{requests}

-- a seat of this chronicle that may make as many calls as the stream has requests, and has made
-- none; every request may be made
pub record IsReady {B S Q A : Type 0} (sound : B → Q → Bool) (chronicle : Origin B S)
    (stream : List Q) (seat : Standing B S Q A) : Type 0 where
  pub of : seat.chronicle ≡ Some chronicle
  pub left : seat.left ≡ length stream
  pub own : seat.own ≡ []
  pub requests_sound : (request : Q) → sound chronicle.base request ≡ true

-- a seat of this chronicle that has made the stream's requests, and no others
pub record HasPosted {B S Q A : Type 0} (chronicle : Origin B S) (stream : List Q)
    (seat : Standing B S Q A) : Type 0 where
  pub of : seat.chronicle ≡ Some chronicle
  pub own : requests seat.own ≡ stream
