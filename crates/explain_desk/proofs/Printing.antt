-- What is told can be printed.
use Rattle.std.proofs.Common.{ℕ, ◌<◌, List}
use Rattle.std.specs.Prelude.{All, IfSome, Option, Some, None, option_map}
use Rattle.bundle_rules.specs.declared.menu.Rated.{Rated}
use Rattle.bundle_rules.specs.Bundles.{sections_of}
use Rattle.bundle_rules.specs.Menus.{MenuData, wishes_of}
use Rattle.bundle_rules.specs.Wishes.{AllRated}
use Rattle.bundle_bounds.specs.Offers.{OfferData}
use Rattle.explain_desk.specs.declared.explanation.Proved as own
use Rattle.explain_desk.specs.declared.reasons.Reason.{Reason}
use Rattle.explain_desk.specs.declared.reasons.Reason.TheVariants.{Held, Unrated, Alone, Clash, Beside, Less}
use Rattle.explain_desk.specs.Explanations.{IsProvedWith}
use Rattle.explain_desk.specs.Reasons.{IsReason}
use Rattle.explain_desk.specs.Texts.{NamesBelow}
use Rattle.explain_desk.specs.Views.{proved_of}
use Rattle.explain_desk.proofs.Offering.{section_below}

-- the section that a reason names is one of the bundle's
pub names_below : (menu : MenuData) (price : ℕ → ℕ) (budget n : ℕ) (bundle : List ℕ) (section : ℕ) (reason : Reason)
    → All (λ (rated : Rated). rated.section.0 < n) menu.places → AllRated (wishes_of menu) bundle
    → IsReason (wishes_of menu) price budget bundle section reason → NamesBelow n reason
names_below menu price budget n bundle section Held each rated is = tt
names_below menu price budget n bundle section Unrated each rated is = tt
names_below menu price budget n bundle section (Alone limit) each rated is = tt
names_below menu price budget n bundle section (Clash other) each rated is = section_below menu n bundle each rated other.0 is.applies.member
names_below menu price budget n bundle section (Beside limit) each rated is = tt
names_below menu price budget n bundle section Less each rated is = tt

-- the bundle that is told has rated sections alone
pub rated_told : (offer : OfferData) (section : ℕ) (best : Option own.Proved) → IfSome (option_map proved_of best) (IsProvedWith offer section)
    → IfSome best (λ proved. AllRated (wishes_of offer.menu) (sections_of proved.bundle))
rated_told offer section (Some proved) is = is.best.choice.feasible.rated
rated_told offer section None is = tt
