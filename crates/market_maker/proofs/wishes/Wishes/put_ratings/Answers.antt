use Rattle.std.proofs.Common.{◌++◌, arith, ap, ◌∙◌}
use Rattle.market_maker.specs.Lines.{ended}
use Rattle.market_maker.specs.Sessions.{rating_behind, rating_line}
use Rattle.market_maker.proofs.Growing.{line_more}
use Rattle.market_maker.proofs.wishes.Wishes.put_ratings.Goals as goal

pub ratings-preserved : goal.ratings-preserved
ratings-preserved c =
    line_more (rating_behind c.args.self.seed c.args.self.sections c.args.student) 0 c.ratings.others c.ratings.others c.args.text.now.items c.ratings.text.items c.put_rating.new.text.items (omega arith) c.ratings.invariant (
    c.in_ok-put_rating.ensures ∙ ap (λ section. c.ratings.text.items ++ ended (rating_line c.args.self.seed c.args.student section)) c.section_behind.ensures
    )
