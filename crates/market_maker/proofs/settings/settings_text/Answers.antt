use Rattle.std.proofs.Common.{rules}
use Rattle.market_maker.proofs.Members.{settings_written}
use Rattle.market_maker.proofs.settings.settings_text.Goals as goal

pub returns : goal.returns
returns c =
    settings_written c.args.seed c.args.accept c.extend_from_slice.new.self.items c.put_decimal.new.text.items c.extend_from_slice-2.new.self.items
    c.put_decimal-2.new.text.items c.extend_from_slice-3.new.self.items
    (search rules) c.in_ok-put_decimal.ensures c.in_ok-extend_from_slice-2.ensures.items c.in_ok-put_decimal-2.ensures c.in_ok-extend_from_slice-3.ensures.items
