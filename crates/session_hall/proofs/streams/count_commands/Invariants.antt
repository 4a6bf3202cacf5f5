use Rattle.std.proofs.Common.{◌≡◌, take}
use Rattle.session_hall.specs.Streams.{command_count}
use Rattle.session_hall.proofs.streams.count_commands.Given as goal

-- the commands of the streams so far are counted
abbrev pub invariant-loop-stream : goal.invariant-loop-stream
invariant-loop-stream l = l.count ≡ command_count (take l.stream-index l.streams)
