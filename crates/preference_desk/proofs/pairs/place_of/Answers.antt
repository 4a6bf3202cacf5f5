use Rattle.std.proofs.Common.{sym, ◌∙◌}
use Rattle.std.specs.Ordering.{is_le}
use Rattle.preference_desk.specs.Rows.{pair_entry}
use Rattle.preference_desk.specs.StudentPreferences.{pair_cmp}
use Rattle.preference_desk.proofs.RatingLemmas.{position_is, position_is_length}
use Rattle.preference_desk.proofs.PairLemmas.{place_from_position}
use Rattle.preference_desk.proofs.pairs.place_of.Goals as goal

pub returns-in-Some : goal.returns-in-Some
returns-in-Some c =
    position_is (λ adjusted. is_le (pair_cmp (c.args.first.0, c.args.second.0) (pair_entry adjusted).0)) c.args.items.now c.in-Some.place
    (sym c.find_from.ensures ∙ c.in-Some.is)
    ∙ place_from_position (c.args.first.0, c.args.second.0) c.args.items.now

pub returns-in-None : goal.returns-in-None
returns-in-None c =
    position_is_length (λ adjusted. is_le (pair_cmp (c.args.first.0, c.args.second.0) (pair_entry adjusted).0)) c.args.items.now
    (sym c.find_from.ensures ∙ c.in-None.is)
    ∙ place_from_position (c.args.first.0, c.args.second.0) c.args.items.now
