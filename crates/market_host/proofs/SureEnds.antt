-- Calls over a shelf of which no count of faults rises.
use Rattle.std.proofs.Common.{ℕ, ◌≢◌, List, subst}
use Rattle.market_edge.specs.Faults.{Rose}
use Rattle.market_host.specs.declared.status.Status.{Status}
use Rattle.market_host.specs.declared.status.Status.TheVariants.{ShelfFault}
use Rattle.market_host.specs.Outcomes.{IsOutcome}
use Rattle.market_host.specs.Sights.{Sight}

-- an input that can't be read is no outcome of such a call
unread : (words : List (List ℕ)) (seen : Sight) (input : ℕ) (text : List ℕ) → ((name : List ℕ) → ¬ Rose (seen.before name) (seen.after name))
    → IsOutcome words seen (ShelfFault input) text → ⊥
unread words seen input text sound (form, has, (earlier, name, later, texts, split, number, read, failed), line) = sound name failed.0

pub never_unread : (words : List (List ℕ)) (seen : Sight) (status : Status) (input : ℕ) (text : List ℕ) → IsOutcome words seen status text
    → ((name : List ℕ) → ¬ Rose (seen.before name) (seen.after name)) → status ≢ ShelfFault input
never_unread words seen status input text outcome sound is = unread words seen input text sound (subst (λ s. IsOutcome words seen s text) is outcome)
