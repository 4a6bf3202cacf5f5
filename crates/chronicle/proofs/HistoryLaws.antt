-- The laws of histories: how the state, legality and a seat's calls follow a history that grows.
use Rattle.std.proofs.lemmas.Bool.Decides.{nat_tests}
use Rattle.std.specs.List.{AllByRecursion as Each}
use Rattle.std.proofs.Common.{◌==◌, false, arith, ◌≡◌, ◌≢◌, ◌++◌, ◌∷◌, [], ◌∙◌, ℕ, List, Bool, true, refl, sym, subst, append_assoc, append-nil}
use Rattle.std.proofs.lemmas.List.{append_cancel_left, append_cancel_right}
use Rattle.market_units.specs.Beginnings.{BeginsWith}
use Rattle.market_units.proofs.Parts.{part_of-append, part_of-own, part_of-other}
use Rattle.chronicle.specs.declared.journal.StepOf.{StepOf}
use Rattle.chronicle.specs.History.{state_after, IsLegal, calls_by, Extends}

module _ {B S Q A : Type 0} (after : B → S → ℕ → Q → S) (base : B) where
  -- the state after two histories, one after the other
  pub state_after-append : (state : S) (xs ys : List (StepOf Q A))
      → state_after after base state (xs ++ ys) ≡ state_after after base (state_after after base state xs) ys
  state_after-append state [] ys = refl
  state_after-append state (x ∷ xs) ys = state_after-append (after base state x.seat x.request) xs ys

module _ {B S Q A : Type 0} (sound : B → Q → Bool) (after : B → S → ℕ → Q → S) (reply : B → S → ℕ → Q → A) (base : B) where
  -- a legal history, and one that is legal from its last state, make a legal one
  pub IsLegal-append : (state : S) (xs ys : List (StepOf Q A)) → IsLegal sound after reply base state xs
      → IsLegal sound after reply base (state_after after base state xs) ys
      → IsLegal sound after reply base state (xs ++ ys)
  IsLegal-append state [] ys front back = back
  IsLegal-append state (x ∷ xs) ys front back = (front.0, front.1, IsLegal-append (after base state x.seat x.request) xs ys front.2 back)

  -- what a legal history begins with is legal
  pub legal_front : (state : S) (xs ys : List (StepOf Q A)) → IsLegal sound after reply base state (xs ++ ys) → IsLegal sound after reply base state xs
  legal_front state [] ys legal = tt
  legal_front state (x ∷ xs) ys legal = (legal.0, legal.1, legal_front (after base state x.seat x.request) xs ys legal.2)

  -- and what follows is legal from its last state
  pub legal_back : (state : S) (xs ys : List (StepOf Q A)) → IsLegal sound after reply base state (xs ++ ys)
      → IsLegal sound after reply base (state_after after base state xs) ys
  legal_back state [] ys legal = legal
  legal_back state (x ∷ xs) ys legal = legal_back (after base state x.seat x.request) xs ys legal.2

  -- so is a beginning of it
  pub legal_beginning : (state : S) (history seen : List (StepOf Q A)) → IsLegal sound after reply base state history → BeginsWith history seen
      → IsLegal sound after reply base state seen
  legal_beginning state history seen legal (rest, is) =
      legal_front state seen rest (subst (λ (l : List (StepOf Q A)). IsLegal sound after reply base state l) is legal)

  -- one more step
  pub legal_with_step : (state : S) (history : List (StepOf Q A)) (step : StepOf Q A) → IsLegal sound after reply base state history
      → sound base step.request ≡ true
      → step.reply ≡ reply base (state_after after base state history) step.seat step.request → IsLegal sound after reply base state (history ++ step ∷ [])
  legal_with_step state history step legal ok replied = IsLegal-append state history (step ∷ []) legal (ok, replied, tt)

  -- the reply of a step is the object's in the state after the steps before it
  pub reply_of_step : (state : S) (before more : List (StepOf Q A)) (step : StepOf Q A) → IsLegal sound after reply base state (before ++ step ∷ more)
      → step.reply ≡ reply base (state_after after base state before) step.seat step.request
  reply_of_step state before more step legal = (legal_back state before (step ∷ more) legal).1

  -- and its request is sound
  pub sound_step : (state : S) (before more : List (StepOf Q A)) (step : StepOf Q A) → IsLegal sound after reply base state (before ++ step ∷ more)
      → sound base step.request ≡ true
  sound_step state before more step legal = (legal_back state before (step ∷ more) legal).0

module _ {Q A : Type 0} where
  -- a seat's calls of two histories, one after the other
  pub calls_by-append : (number : ℕ) (xs ys : List (StepOf Q A)) → calls_by number (xs ++ ys) ≡ calls_by number xs ++ calls_by number ys
  calls_by-append number xs ys = part_of-append (λ (step : StepOf Q A). step.seat) number xs ys

  -- its calls after one more of its own
  pub calls_by-own : (number : ℕ) (history : List (StepOf Q A)) (step : StepOf Q A) → step.seat ≡ number
      → calls_by number (history ++ step ∷ []) ≡ calls_by number history ++ step ∷ []
  calls_by-own number history step own = part_of-own (λ (x : StepOf Q A). x.seat) number history step own

  -- and after one of another seat
  pub calls_by-other : (number : ℕ) (history : List (StepOf Q A)) (step : StepOf Q A) → step.seat ≢ number
      → calls_by number (history ++ step ∷ []) ≡ calls_by number history
  calls_by-other number history step other = part_of-other (λ (x : StepOf Q A). x.seat) number history step other

  -- where a seat's calls are those of the front, the rest has none
  pub none_after : (number : ℕ) (front rest own : List (StepOf Q A)) → calls_by number front ≡ own → calls_by number (front ++ rest) ≡ own
      → calls_by number rest ≡ []
  none_after number front rest own before whole =
      append_cancel_left (calls_by number front) (calls_by number rest) []
      (sym (calls_by-append number front rest) ∙ whole ∙ sym before ∙ sym (append-nil (calls_by number front)))

  -- and where one more of its own ends them, there is none between
  pub none_between : (number : ℕ) (front between own : List (StepOf Q A)) (step : StepOf Q A) → step.seat ≡ number → calls_by number front ≡ own
      → calls_by number ((front ++ between) ++ step ∷ []) ≡ own ++ step ∷ [] → calls_by number between ≡ []
  none_between number front between own step is before whole =
      none_after number front between own before
      (append_cancel_right (calls_by number (front ++ between)) own (step ∷ []) (sym (calls_by-own number (front ++ between) step is) ∙ whole))

  -- what is extended is a beginning
  pub begins_from_extends : (old new : List (StepOf Q A)) (step : StepOf Q A) → Extends old new step → BeginsWith new old
  begins_from_extends old new step (between, is) = (between ++ step ∷ [], is ∙ append_assoc old between (step ∷ []))

  -- a number that no step has made no calls
  pub calls_by-unmade : (number : ℕ) (history : List (StepOf Q A)) → Each (λ (step : StepOf Q A). step.seat ≢ number) history → calls_by number history ≡ []
  calls_by-unmade number [] none = refl
  calls_by-unmade number (step ∷ more) none =
      let other : step.seat ≢ number = none.0 in
      let test : (step.seat == number) ≡ false = grind (arith, nat_tests) in rw test (calls_by-unmade number more none.1)
