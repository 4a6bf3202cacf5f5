use Rattle.std.proofs.Common.{sym, ◌∙◌}
use Rattle.std.specs.Prelude.{nat_le}
use Rattle.preference_desk.proofs.RatingLemmas.{position_is, position_is_length, place_from_position}
use Rattle.preference_desk.proofs.ratings.place_of.Goals as goal

pub returns-in-Some : goal.returns-in-Some
returns-in-Some c =
    position_is (λ rated. nat_le c.args.section.0 rated.0.0) c.args.items.now c.in-Some.place (sym c.find_from.ensures ∙ c.in-Some.is)
    ∙ place_from_position c.args.section.0 c.args.items.now

pub returns-in-None : goal.returns-in-None
returns-in-None c =
    position_is_length (λ rated. nat_le c.args.section.0 rated.0.0) c.args.items.now (sym c.find_from.ensures ∙ c.in-None.is)
    ∙ place_from_position c.args.section.0 c.args.items.now
