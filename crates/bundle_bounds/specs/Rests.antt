-- What chosen places leave, as it is kept.
use Rattle.std.specs.Prelude.{◌≡◌, List, ℕ}
use Rattle.bundle_bounds.specs.declared.opens.Rests.{Rests}
use Rattle.bundle_bounds.specs.Offers.{OfferData}
use Rattle.bundle_bounds.specs.Opens.{budget_left, credits_left, courses_left}

-- these are what the chosen places leave
pub record AreRests (offer : OfferData) (chosen : List ℕ) (rests : Rests) : Type 0 where
  pub budget_is : rests.budget ≡ budget_left offer chosen
  pub credits_is : rests.credits ≡ credits_left offer chosen
  pub courses_is : rests.courses ≡ courses_left offer chosen
