-- What explanations are seen as.
use Rattle.std.specs.Prelude.{option_map}
use Rattle.bundle_rules.specs.Bundles.{sections_of}
use Rattle.market_certificate.specs.Publications.{Proved}
use Rattle.explain_desk.specs.declared.explanation.Proved as own
use Rattle.explain_desk.specs.declared.explanation.Explained as own_explained
use Rattle.bundle_bounds.specs.Offers.{OfferData}
use Rattle.explain_desk.specs.declared.offered.Offered.{Offered}
use Rattle.explain_desk.specs.Explanations.{ExplainedData, offer_of_all}

-- what is offered to a student
abbrev pub offer_made : Offered → OfferData
offer_made offered =
    offer_of_all offered.menu.now offered.prices.now offered.budget.0 offered.sections

-- a bundle with its tree, as their lists
abbrev pub proved_of : own.Proved → Proved
proved_of proved = record { bundle = sections_of proved.bundle; tree = proved.tree.items }

-- the same of the bundle that is told, where one is
abbrev pub explained_of : own_explained.Explained → ExplainedData
explained_of explained =
    record { reason = explained.reason; best = option_map proved_of explained.best }
