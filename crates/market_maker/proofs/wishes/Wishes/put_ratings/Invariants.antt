use Rattle.std.proofs.Common.{◌≡◌, ◌++◌, map}
use Rattle.std.specs.List.{range_with_len}
use Rattle.market_maker.specs.Lines.{text_of}
use Rattle.market_maker.specs.Sessions.{rating_behind}
use Rattle.market_maker.proofs.wishes.Wishes.put_ratings.Given as goal

abbrev pub invariant-ratings : goal.invariant-ratings
invariant-ratings l = l.text.items ≡ l.initial.text.items ++ text_of (map (rating_behind l.self.seed l.self.sections l.student) (range_with_len 0 l.others))
