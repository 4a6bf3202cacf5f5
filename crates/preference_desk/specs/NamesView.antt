-- What the desk's names are seen as.
use Rattle.preference_desk.specs.declared.names.Names.{Names}
use Rattle.preference_desk.specs.DeskNames.{DeskNames}
use Rattle.preference_desk.specs.MarketNames.{market_names}

abbrev pub names_in : Names → DeskNames
names_in names = market_names names.catalog.sections names.roll.students
