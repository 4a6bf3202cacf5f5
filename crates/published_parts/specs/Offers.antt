-- What is offered to students, and bundles with the trees that prove them best.
use Rattle.std.specs.Prelude.{ℕ, Bool, None, List, [], nat_lt, slice_index_or}
use Rattle.bundle_rules.specs.Demand.{IsBest}
use Rattle.bundle_rules.specs.Menus.{wishes_of}
use Rattle.bundle_bounds.specs.Offers.{OfferData}
use Rattle.demand_api.specs.Crowds.{CrowdData, Student}
use Rattle.proof_tree.specs.Texts.{IsTreeText}
use Rattle.market_certificate.specs.Publications.{Proved}

-- the sections of a catalogue with so many
abbrev pub all_sections : ℕ → ℕ → Bool
all_sections count s = nat_lt s count

-- one who wants nothing and has a budget of 0
abbrev pub nobody : Student
nobody =
    record {
      menu = record { places = []; pairs = []; clashes = []; credits = 0; courses = 0 };
      budget = 0;
    }

-- the student of a number; a number that no student has stands for nobody
abbrev pub student_in : CrowdData → ℕ → Student
student_in crowd student = slice_index_or crowd.students student nobody

-- what is offered to a student at given prices, with this budget and these sections
abbrev pub offer_to : Student → (ℕ → ℕ) → ℕ → (ℕ → Bool) → OfferData
offer_to student price budget allowed =
    record { menu = student.menu; price = price; budget = budget; allowed = allowed }

-- the best bundle of an offer, and the text of its canonical tree
pub record IsProvedBest (offer : OfferData) (bundle tree : List ℕ) : Type 0 where
  pub best : IsBest (wishes_of offer.menu) offer.price offer.budget offer.allowed bundle
  pub proved : IsTreeText offer None bundle tree

-- the student's best bundle at the prices within the budget, of all sections, with its tree
abbrev pub IsProvedDemand : ℕ → (ℕ → ℕ) → Student → Proved → Type 0
IsProvedDemand sections price student proved =
    IsProvedBest (offer_to student price student.budget (all_sections sections)) proved.bundle
    proved.tree
