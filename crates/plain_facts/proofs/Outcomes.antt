-- What is found or is not, and what is read or refused.
use Rattle.std.proofs.Common.{◌≡◌, ℕ, Bool, true, false, cond, refl}
use Rattle.std.specs.Prelude.{None, Some, Ok, Result, IfNone, Option}

-- the place that was found, and none
pub cond_some : (b : Bool) (n i : ℕ) → cond b (Some n) None ≡ Some i → i ≡ n
cond_some true n i e = cc
cond_some false n i e = cc

pub cond_none : (b : Bool) (n : ℕ) → cond b (Some n) None ≡ None → b ≡ false
cond_none true n e = cc
cond_none false n e = refl

-- one thing
pub same_some : {A : Type 0} (x y : A) → Some x ≡ Some y → x ≡ y
same_some x y e = cc

-- what is read is one thing
pub one_answer : {A E : Type 0} (r : Result A E) (a b : A) → r ≡ Ok a → r ≡ Ok b → a ≡ b
one_answer r a b is so = cc

-- what follows from the want of a value
pub if_none : {A : Type 0} {P Q : Type 0} (r : Option A) → (P → Q) → IfNone r P → IfNone r Q
if_none None each is = each is
if_none (Some a) each is = tt
