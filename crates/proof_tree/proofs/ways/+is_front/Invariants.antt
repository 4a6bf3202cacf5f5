use Rattle.std.proofs.Common.{length}
use Rattle.proof_tree.proofs.ways.+is_front.Given as goal

abbrev pub decreases-is_front : goal.decreases-is_front
decreases-is_front l = length l.champion.now
