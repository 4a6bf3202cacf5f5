-- Replies that name sections and students that there are.
use Rattle.std.specs.Prelude.{◌<◌, Some, ⊤}
use Rattle.dropadd_desk.specs.declared.reply.HallReply.{HallReply}
use Rattle.dropadd_desk.specs.declared.reply.HallReply.TheVariants as reply
use Rattle.dropadd_desk.specs.Market.{Market, section_count, student_count}

-- a section that is named is in the catalogue, and a student on the roll
abbrev pub NamesInRange : Market → HallReply → Type 0
NamesInRange market (reply.Clash with') = with'.0 < section_count market
NamesInRange market (reply.Dropped lapsed (Some next)) = next.0 < student_count market
NamesInRange market _ = ⊤
