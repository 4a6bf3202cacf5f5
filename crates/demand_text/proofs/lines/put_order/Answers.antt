use Rattle.market_certificate.proofs.Joins.{order_written}
use Rattle.preference_desk.specs.Journals.{sessions_of}
use Rattle.demand_text.proofs.lines.put_order.Goals as goal

pub returns : goal.returns
returns c =
    order_written (sessions_of c.args.journal.now) c.args.text.now.items _ _ c.push.new.self.items c.in_ok-extend_from_slice.ensures.items
    c.in_ok-put_sessions.ensures c.in_ok-push.ensures.items
