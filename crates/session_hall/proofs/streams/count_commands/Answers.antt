use Rattle.std.proofs.Common.{◌≡◌, ◌≤◌, ◌+◌, ℕ, arith, take}
use Rattle.std.specs.Vec.{vec_len}
use Rattle.session_hall.specs.Streams.{command_count}
use Rattle.session_hall.proofs.StreamCounts.{command_count-take, command_count-within}
use Rattle.session_hall.proofs.streams.count_commands.Goals as goal

pub overflow_cast-count : goal.overflow_cast-count
overflow_cast-count c =
    let k : ℕ = c.loop-stream.stream-index in
    let before : ℕ = command_count (take k c.args.streams.now) in
    let whole : ℕ = command_count c.args.streams.now in
    let size : ℕ = vec_len c.stream-item.result in
    let within : before + size ≤ whole = command_count-within k c.args.streams.now c.stream-item.result c.loop-stream-test.true c.stream-item.is in
    let few : whole ≤ 200000 = c.requires in
    let len : c.len.result ≡ size = c.len.ensures in
    omega (arith, c.len.ensures)

pub overflow_add-count : goal.overflow_add-count
overflow_add-count c =
    let k : ℕ = c.loop-stream.stream-index in
    let before : ℕ = command_count (take k c.args.streams.now) in
    let whole : ℕ = command_count c.args.streams.now in
    let size : ℕ = vec_len c.stream-item.result in
    let within : before + size ≤ whole = command_count-within k c.args.streams.now c.stream-item.result c.loop-stream-test.true c.stream-item.is in
    let few : whole ≤ 200000 = c.requires in
    let len : c.len.result ≡ size = c.len.ensures in
    let so_far : c.loop-stream.count ≡ before = c.loop-stream.invariant in
    omega (arith, len, so_far)

pub loop-stream-preserved : goal.loop-stream-preserved
loop-stream-preserved c =
    let k : ℕ = c.loop-stream.stream-index in
    let before : ℕ = command_count (take k c.args.streams.now) in
    let after : ℕ = command_count (take (k + 1) c.args.streams.now) in
    let size : ℕ = vec_len c.stream-item.result in
    let more : after ≡ before + size = command_count-take k c.args.streams.now c.stream-item.result c.loop-stream-test.true c.stream-item.is in
    let len : c.len.result ≡ size = c.len.ensures in
    let so_far : c.loop-stream.count ≡ before = c.loop-stream.invariant in
    let goal : c.loop-stream.count + c.len.result ≡ after = omega (arith, len, so_far) in goal
