use Rattle.market_certificate.proofs.Joins.{order_written}
use Rattle.market_certificate.proofs.writing.lines.put_order.Goals as goal

pub returns : goal.returns
returns c =
    order_written c.args.order.now c.args.text.now.items c.extend_from_slice.new.self.items c.put_number_fields.new.text.items c.push.new.self.items
    c.in_ok-extend_from_slice.ensures.items c.in_ok-put_number_fields.ensures c.in_ok-push.ensures.items
