-- What is seen of a shelf, from an earlier call on.
use Rattle.std.proofs.Common.{ℕ, ◌≡◌, List, subst}
use Rattle.std.specs.Prelude.{Option}
use Rattle.market_edge.specs.Holdings.{Holding}
use Rattle.market_host.specs.Sights.{Sight}
use Rattle.market_host.specs.Troubles.{IsAtEnd}

-- what is seen of the same shelf from before an earlier call on, when it held this and had these counts
abbrev pub seen_from : Option Holding → (List ℕ → ℕ) → Sight → Sight
seen_from held before seen = record { held = held; before = before; after = seen.after; begun = seen.begun; serves = seen.serves; left = seen.left }

-- what was read to its end was so from there on
pub end_from : (held : Option Holding) (before : List ℕ → ℕ) (seen : Sight) (name : List ℕ) → seen.held ≡ held → IsAtEnd seen name
    → IsAtEnd (seen_from held before seen) name
end_from held before seen name same ended = subst (λ h. IsAtEnd (seen_from h before seen) name) same ended
