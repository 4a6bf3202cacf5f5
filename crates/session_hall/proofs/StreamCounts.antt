-- Counts of the commands of streams.
use Rattle.std.proofs.Common.{ℕ, zero, suc, ◌≡◌, ◌≤◌, ◌<◌, ◌+◌, List, [], ◌∷◌, Vec, Global, arith, length, take, slice_index_or, ap}
use Rattle.std.specs.Vec.{vec_len}
use Rattle.utility_language.specs.declared.commands.Command.{Command}
use Rattle.session_hall.specs.Streams.{command_count}

-- the commands of one stream more
count-take-suc : (k : ℕ) (streams : List (Vec Command Global)) (stream : Vec Command Global) → k < length streams → stream ≡ slice_index_or streams k stream
    → command_count (take (suc k) streams) ≡ command_count (take k streams) + vec_len stream
count-take-suc k [] stream below is = absurd (omega arith)
count-take-suc zero (first ∷ more) stream below is =
    let same : vec_len stream ≡ vec_len first = ap vec_len is in
    let n : ℕ = vec_len first in
    let m : ℕ = vec_len stream in
    let goal : n + 0 ≡ 0 + m = omega arith in goal
count-take-suc (suc k) (first ∷ more) stream below is =
    let rest = count-take-suc k more stream (omega arith) is in
    let n : ℕ = vec_len first in
    let m : ℕ = vec_len stream in
    let front : ℕ = command_count (take k more) in
    let longer : ℕ = command_count (take (suc k) more) in
    let h : longer ≡ front + m = rest in
    let goal : n + longer ≡ n + front + m = omega arith in goal

pub command_count-take : (k : ℕ) (streams : List (Vec Command Global)) (stream : Vec Command Global) → k < length streams
    → stream ≡ slice_index_or streams k stream
    → command_count (take (k + 1) streams) ≡ command_count (take k streams) + vec_len stream
command_count-take k streams stream below is = let next : k + 1 ≡ suc k = omega arith in rw next (count-take-suc k streams stream below is)

-- the streams so far and one more have no more commands than all
pub command_count-within : (k : ℕ) (streams : List (Vec Command Global)) (stream : Vec Command Global) → k < length streams
    → stream ≡ slice_index_or streams k stream
    → command_count (take k streams) + vec_len stream ≤ command_count streams
command_count-within k [] stream below is = absurd (omega arith)
command_count-within zero (first ∷ more) stream below is =
    let same : vec_len stream ≡ vec_len first = ap vec_len is in
    let n : ℕ = vec_len first in
    let m : ℕ = vec_len stream in
    let others : ℕ = command_count more in
    let goal : 0 + m ≤ n + others = omega arith in goal
command_count-within (suc k) (first ∷ more) stream below is =
    let rest = command_count-within k more stream (omega arith) is in
    let n : ℕ = vec_len first in
    let m : ℕ = vec_len stream in
    let front : ℕ = command_count (take k more) in
    let others : ℕ = command_count more in
    let h : front + m ≤ others = rest in
    let goal : n + front + m ≤ n + others = omega arith in goal
