-- Lists of places and of sections' numbers.
use Rattle.std.proofs.Common.{◌≡◌, ◌<◌, ◌+◌, ◌∙◌, ℕ, zero, suc, Bool, false, List, [], ◌∷◌, length, take, get_or, None, ap, refl}
use Rattle.std.specs.List.{find}
use Rattle.std.proofs.lemmas.List.{map_more}
use Rattle.std.proofs.lemmas.List.Folds.{find-append}
use Rattle.market_units.specs.declared.units.SectionNo.{SectionNo}
use Rattle.bundle_rules.specs.Ordinals.{ordinals}
use Rattle.bundle_rules.specs.Places.{places_from}

-- as many as were asked for
pub length-places_from : (first n : ℕ) → length (places_from first n) ≡ n
length-places_from first zero = refl
length-places_from first (suc n) = ap suc (length-places_from (suc first) n)

-- none was found before, and the next one is none
pub none_more : (p : ℕ → Bool) (xs : List SectionNo) (i : ℕ) (d : SectionNo) → i < length xs → find p (ordinals (take i xs)) ≡ None
    → p (get_or xs i d).0 ≡ false → find p (ordinals (take (i + 1) xs)) ≡ None
none_more p xs i d low none fails =
    ap (find p) (map_more (λ (section : SectionNo). section.0) xs i d low) ∙ find-append p (ordinals (take i xs)) ((get_or xs i d).0 ∷ [])
    ∙ rw (none, fails) refl
