-- A name and the zeros behind it.
use Rattle.std.proofs.Common.{◌≡◌, ◌-◌, ◌++◌, ℕ, List, length, take, drop, ap}
use Rattle.std.specs.Prelude.{replicate}
use Rattle.std.proofs.Math.Seq.{take-append_seam}
use Rattle.std.proofs.lemmas.List.{drop-replicate}
use Rattle.market_units.specs.Names.{IsName, HoldsName}

pub padded : (bytes : List ℕ) → IsName bytes → HoldsName (bytes ++ drop (length bytes) (replicate {A = ℕ} 32 0)) (length bytes)
padded bytes name =
    let zeros : drop (length bytes) (replicate {A = ℕ} 32 0) ≡ replicate (32 - length bytes) 0 = drop-replicate (length bytes) 32 0 in
    let front : take (length bytes) (bytes ++ drop (length bytes) (replicate {A = ℕ} 32 0)) ≡ bytes = take-append_seam bytes _ in
    record {
      name = rw front name;
      whole = ap length front;
      zeros = rw (front, zeros);
    }
