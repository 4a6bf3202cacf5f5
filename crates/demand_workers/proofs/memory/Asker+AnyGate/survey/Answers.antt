use Rattle.demand_workers.proofs.Allowing.{rose_within}
use Rattle.demand_workers.proofs.memory.Asker+AnyGate.survey.Goals as goal

pub returns-in_err-found-clause-inquiries : goal.returns-in_err-found-clause-inquiries
returns-in_err-found-clause-inquiries g c =
    rose_within _ _ c.args.inquiries.now c.inquire.new.inquiries c.inquire.ensures.inquiries c.in_ok-listed.ensures.few

pub returns-clause-inquiries : goal.returns-clause-inquiries
returns-clause-inquiries g c =
    rose_within _ _ c.args.inquiries.now c.inquire.new.inquiries c.inquire.ensures.inquiries c.in_ok-listed.ensures.few
