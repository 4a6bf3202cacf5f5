use Rattle.std.proofs.Common.{length}
use Rattle.bundle_rules.proofs.putting.+put_among.Given as goal

abbrev pub decreases-put_among : goal.decreases-put_among
decreases-put_among l = length l.sections.now
