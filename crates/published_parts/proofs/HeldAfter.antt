-- What is held after turns.
use Rattle.std.proofs.Common.{ℕ, ◌≡◌, ◌∙◌, List, [], ◌∷◌, length, refl}
use Rattle.std.specs.Prelude.{slice_set}
use Rattle.std.proofs.lemmas.List.{length-set}
use Rattle.market_certificate.specs.Publications.{ProvedTurn}
use Rattle.published_parts.specs.Holdings.{held_after}

-- as many bundles as before
pub length-held_after : (held : List (List ℕ)) (turns : List ProvedTurn) → length (held_after held turns) ≡ length held
length-held_after held [] = refl
length-held_after held (turn ∷ turns) = length-held_after (slice_set held turn.student turn.bundle) turns ∙ length-set held turn.student turn.bundle
