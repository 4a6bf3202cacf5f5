-- What a crowd is seen as.
use Rattle.demand_api.specs.declared.crowd.Crowd.{Crowd}
use Rattle.demand_api.specs.Crowds.{CrowdData}
use Rattle.demand_api.specs.Parts.{of_parts}

-- a crowd as plain data
abbrev pub data_of : Crowd → CrowdData
data_of crowd = of_parts crowd.menus.items crowd.budgets.items crowd.sections
