use Rattle.dropadd_desk.proofs.Handing.{first_whom_it_fits}
use Rattle.dropadd_desk.proofs.laws.first_whom_it_fits.Goals as goal

pub returns : goal.returns
returns c = first_whom_it_fits
