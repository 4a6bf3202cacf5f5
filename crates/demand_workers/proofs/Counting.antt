-- What each student takes, as lists of one length.
use Rattle.std.proofs.Common.{ℕ, suc, ◌≡◌, ◌<◌, ◌∙◌, List, [], ◌∷◌, length, map, slice_index_or, refl, ap, arith}

-- lists of as many items are mapped to the same where each item is
pub maps_same : {A B C : Type 0} (f : A → C) (g : B → C) (xs : List A) (ys : List B) (e : B) → length xs ≡ length ys
    → ((k : ℕ) (d : A) → k < length xs → f (slice_index_or xs k d) ≡ g (slice_index_or ys k e)) → map f xs ≡ map g ys
maps_same f g [] [] e same each = refl
maps_same f g [] (y ∷ ys) e same each = absurd (omega arith)
maps_same f g (x ∷ xs) [] e same each = absurd (omega arith)
maps_same f g (x ∷ xs) (y ∷ ys) e same each =
    ap (λ z. z ∷ map f xs) (each 0 x (omega arith))
    ∙ ap (λ zs. g y ∷ zs) (maps_same f g xs ys e (omega arith) (λ k d low. each (suc k) d (let goal : suc k < suc (length xs) = omega arith in goal)))
