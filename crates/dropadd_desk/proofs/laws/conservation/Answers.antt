use Rattle.dropadd_desk.proofs.Conserved.{conserved}
use Rattle.dropadd_desk.proofs.laws.conservation.Goals as goal

pub returns : goal.returns
returns c = conserved
