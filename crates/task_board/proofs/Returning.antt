-- Seats that come back.
use Rattle.std.proofs.Common.{ℕ, zero, suc, ◌≡◌, ◌<◌, ◌∙◌, List, [], ◌∷◌, All, length, refl, slice_index_or, slice_set, arith}
use Rattle.chronicle.proofs.SeatLists.{all_at_their_numbers}
use Rattle.task_board.specs.Rules.{Rules}
use Rattle.task_board.specs.Seats.{BoardOf, SeatOf, HasBegun, IsFinished, AreBack}

-- the seats of a board that began, with the same numbers and all finished, are back
pub all_back : {B A : Type 0} (rules : Rules B A) (board : BoardOf B A) (old new : List (SeatOf B A)) (workers : ℕ) → HasBegun rules board old workers
    → length new ≡ length old
    → ((n : ℕ) (d : SeatOf B A) → n < length old → (slice_index_or new n d).number ≡ (slice_index_or old n d).number)
    → All (IsFinished rules board) new → AreBack rules board new
all_back rules board old new workers begun back same finished =
    record {
      all =
          all_at_their_numbers (length board.allotments) new (omega (arith, begun.allotments, begun.count, back))
          (λ n d low. same n d (omega (arith, low, begun.allotments, begun.count)) ∙ begun.numbers n d (omega (arith, low, begun.allotments)));
      finished = finished;
    }

-- the one seat of a board that began is back
pub alone_back : {B A : Type 0} (rules : Rules B A) (board : BoardOf B A) (old : List (SeatOf B A)) (seat new : SeatOf B A)
    → HasBegun rules board old (length old) → length old ≡ 1 → new.number ≡ (slice_index_or old 0 seat).number → IsFinished rules board new
    → AreBack rules board (slice_set old 0 new)
alone_back rules board [] seat new begun one same finished = absurd (omega arith)
alone_back {B = B} {A = A} rules board (s ∷ []) seat new begun one same finished =
    all_back rules board (s ∷ []) (new ∷ []) 1 begun refl numbers all
  where
    numbers : (n : ℕ) (d : SeatOf B A) → n < 1 → (slice_index_or (new ∷ []) n d).number ≡ (slice_index_or (s ∷ []) n d).number
    numbers zero d low = same
    numbers (suc n) d low = absurd (omega arith)

    all : (n : ℕ) (d : SeatOf B A) → n < 1 → IsFinished rules board (slice_index_or (new ∷ []) n d)
    all zero d low = finished
    all (suc n) d low = absurd (omega arith)
alone_back rules board (s ∷ x ∷ more) seat new begun one same finished = absurd (omega arith)
