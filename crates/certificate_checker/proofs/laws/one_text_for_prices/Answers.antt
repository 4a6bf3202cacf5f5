use Rattle.certificate_checker.proofs.OneText.{one_text}
use Rattle.certificate_checker.proofs.laws.one_text_for_prices.Goals as goal

pub returns : goal.returns
returns c = one_text
