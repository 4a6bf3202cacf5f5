-- The history of a closed chronicle to whose object all sessions have made their requests.
use Rattle.std.proofs.Common.{ℕ, ◌≡◌, ◌<◌, ◌≤◌, ◌+◌, ◌++◌, ◌∙◌, List, [], ◌∷◌, Vec, Global, Some, arith, length, map, take, drop, slice_index_or, refl, ap, sym, subst}
use Rattle.std.specs.List.{All, Any}
use Rattle.std.specs.Vec.{vec_len}
use Rattle.std.proofs.Math.Seq.{take-append_seam}
use Rattle.std.proofs.lemmas.List.{get_or-map, length-map}
use Rattle.market_units.specs.Totals.{total}
use Rattle.chronicle.specs.declared.journal.StepOf.{StepOf}
use Rattle.chronicle.specs.declared.origin.Origin.{Origin}
use Rattle.chronicle.specs.declared.standing.Standing.{Standing}
use Rattle.chronicle.specs.History.{calls_by}
use Rattle.chronicle.specs.Views.{sum_of}
use Rattle.chronicle.proofs.SeatLists.{all_at_their_numbers}
use Rattle.stream_posting.specs.Postings.{HasPosted}
use Rattle.stream_posting.specs.Streams.{MergesCalls, lists_of, requests}

-- all seats, at their numbers, each of which has made its stream's requests
pub record HaveAllPosted {B S Q A : Type 0} (chronicle : Origin B S) (streams : List (Vec Q Global)) (seats : List (Standing B S Q A)) : Type 0 where
  pub count : length seats ≡ length streams
  pub numbers : (n : ℕ) (d : Standing B S Q A) → n < length seats → (slice_index_or seats n d).number ≡ n
  pub posted : (n : ℕ) (d : Standing B S Q A) (none : Vec Q Global) → n < length seats
      → HasPosted chronicle (slice_index_or streams n none).items (slice_index_or seats n d)

-- so it is with the seats that were lent whole, and came back as many
pub all_posted : {B S Q A : Type 0} (chronicle : Origin B S) (streams : List (Vec Q Global)) (len : ℕ) (lent old new : List (Standing B S Q A))
    → length lent ≡ length streams → len ≡ length lent → length new ≡ length lent
    → ((n : ℕ) (d : Standing B S Q A) → n < length lent → (slice_index_or new n d).number ≡ n)
    →
    ((n : ℕ) (d : Standing B S Q A) (none : Vec Q Global) → n < length lent
    → HasPosted chronicle (slice_index_or streams n none).items (slice_index_or new n d))
    → HaveAllPosted chronicle streams (take len (new ++ drop (length new) old))
all_posted {B = B} {S = S} {Q = Q} {A = A} chronicle streams len lent old new count whole back numbers posted =
    let all : HaveAllPosted chronicle streams new = record {
      count = back ∙ count;
      numbers = λ n d below. numbers n d (subst (λ m. n < m) back below);
      posted = λ n d none below. posted n d none (subst (λ m. n < m) back below);
    } in
    let same : take len (new ++ drop (length new) old) ≡ new =
    ap (λ n. take n (new ++ drop (length new) old)) (whole ∙ sym back) ∙ take-append_seam new (drop (length new) old) in
    subst (λ seats. HaveAllPosted chronicle streams seats) (sym same) all

-- some item of a list that has one
item_of : {T : Type 0} (xs : List T) (k : ℕ) → k < length xs → T
item_of [] k below = absurd (omega arith)
item_of (x ∷ xs) k below = x

module _ {B S Q A : Type 0} (chronicle : Origin B S) (streams : List (Vec Q Global)) (seats : List (Standing B S Q A))
    (all : HaveAllPosted chronicle streams seats) where
  pub seats_of_chronicle : All (λ (seat : Standing B S Q A). seat.chronicle ≡ Some chronicle) seats
  seats_of_chronicle = λ n d below. (all.posted n d (item_of streams n (subst (λ m. n < m) all.count below)) below).of

  pub every_seat : (n : ℕ) → n < length streams → Any (λ (seat : Standing B S Q A). seat.number ≡ n) seats
  every_seat n below =
      let count : length seats ≡ length streams = all.count in
      all_at_their_numbers (length streams) seats (let goal : length streams ≤ length seats = omega arith in goal)
      (λ k d low. all.numbers k d (let goal : k < length seats = omega arith in goal)) n below

-- the steps of the closed chronicle merge the streams
pub steps_merge : {B S Q A : Type 0} (chronicle : Origin B S) (streams : List (Vec Q Global)) (seats : List (Standing B S Q A)) (history : List (StepOf Q A))
    → HaveAllPosted chronicle streams seats
    → All (λ (step : StepOf Q A). Any (λ (seat : Standing B S Q A). seat.number ≡ step.seat) seats) history
    → All (λ (seat : Standing B S Q A). calls_by seat.number history ≡ seat.own) seats
    → MergesCalls (lists_of streams) history
steps_merge {B = B} {S = S} {Q = Q} {A = A} chronicle streams seats history all by_seats own = record {
  given = λ k d below.
      let step = slice_index_or history k d in
      let of = by_seats k d below in
      let place : ℕ = of.0 in
      let seat = of.1 in
      let low : place < length seats = of.2 in
      let named : seat.number ≡ place = ap (λ (s : Standing B S Q A). s.number) (sym of.3) ∙ all.numbers place seat low in
      let number : seat.number ≡ step.seat = of.4 in
      let lists : length (lists_of streams) ≡ length streams = length-map streams _ in
      let count : length seats ≡ length streams = all.count in
      let goal : step.seat < length (lists_of streams) = omega arith in goal;
  whole = λ k below.
      let lists : length (lists_of streams) ≡ length streams = length-map streams _ in
      let count : length seats ≡ length streams = all.count in
      let low : k < length seats = omega arith in
      let there : k < length streams = omega arith in
      let none = item_of streams k there in
      let some = item_of seats k low in
      let seat = slice_index_or seats k some in
      let calls : calls_by k history ≡ seat.own = ap (λ n. calls_by n history) (sym (all.numbers k some low)) ∙ own k some low in
      ap requests calls ∙ (all.posted k some none low).own ∙ sym (get_or-map (λ (stream : Vec Q Global). stream.items) streams k none [] there);
}

-- the lengths of the streams, added up
pub sum_of-lengths : {Q : Type 0} (streams : List (Vec Q Global)) → sum_of (map vec_len streams) ≡ total vec_len streams
sum_of-lengths [] = refl
sum_of-lengths (first ∷ more) = ap (λ n. vec_len first + n) (sum_of-lengths more)
