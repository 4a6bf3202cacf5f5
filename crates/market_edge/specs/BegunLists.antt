-- What a list of begun texts shows.
use Rattle.std.specs.Prelude.{ℕ, Bool, List, Option, Some, None, nat_le, if◌then◌else◌}
use Rattle.market_edge.specs.declared.begun_list.BegunList.{BegunList}
use Rattle.market_edge.specs.declared.begun_list.TheConstants.{ROOM}

-- the texts, each by its file and with whether it was read to its end, while there is room for them
abbrev pub told_texts : BegunList → Option (List (ℕ × Bool))
told_texts list = if nat_le list.count ROOM then Some list.texts.items else None
