use Rattle.std.proofs.Common.{◌≡◌, ◌++◌, map, take}
use Rattle.market_units.specs.Name.{name_bytes}
use Rattle.preference_desk.specs.Rows.{rating_entry}
use Rattle.preference_text.specs.Texts.{ratings_text}
use Rattle.preference_text.proofs.preferences.put_ratings.Given as goal

abbrev pub invariant-ratings : goal.invariant-ratings
invariant-ratings l =
    l.text.items ≡ l.initial.text.items ++ ratings_text l.catalog.sections (name_bytes l.student) (map rating_entry (take l.section-index l.ratings))
