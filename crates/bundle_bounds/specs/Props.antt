-- Facts of bundles and nodes that types keep: each has at most one proof.
use Rattle.std.specs.Prelude.{ℕ, true, false, List}
use Rattle.std.specs.Coded.{Coded-set, coded_bool, le_prop}
use Rattle.bundle_rules.specs.Sets.{IsAscending-prop}
use Rattle.bundle_rules.specs.Wishes.{Wishes, IsFeasible}
use Rattle.bundle_rules.specs.Menus.{wishes_of}
use Rattle.bundle_bounds.specs.Offers.{OfferData}
use Rattle.bundle_bounds.specs.Laws.{IsTakable, IsNode}

pub IsFeasible-prop : (wishes : Wishes) (bundle : List ℕ) → IsProp (IsFeasible wishes bundle)
IsFeasible-prop wishes bundle p q = λ i. record {
  set = IsAscending-prop bundle p.set q.set i;
  rated = λ s is. le_prop (p.rated s is) (q.rated s is) i;
  apart = λ s t is is' other.
      Coded-set coded_bool (wishes.clash s t) false (p.apart s t is is' other)
      (q.apart s t is is' other) i;
  credits = le_prop p.credits q.credits i;
  courses = le_prop p.courses q.courses i;
}

pub IsTakable-prop : (offer : OfferData) (bundle : List ℕ) → IsProp (IsTakable offer bundle)
IsTakable-prop offer bundle p q = λ i. record {
  feasible = IsFeasible-prop (wishes_of offer.menu) bundle p.feasible q.feasible i;
  affordable = le_prop p.affordable q.affordable i;
  within = λ s is.
      Coded-set coded_bool (offer.allowed s) true (p.within s is) (q.within s is) i;
}

pub IsNode-prop : (offer : OfferData) (k : ℕ) (chosen : List ℕ) → IsProp (IsNode offer k chosen)
IsNode-prop offer k chosen p q = λ i. record {
  takable = IsTakable-prop offer chosen p.takable q.takable i;
  decided = λ s is. le_prop (p.decided s is) (q.decided s is) i;
}
