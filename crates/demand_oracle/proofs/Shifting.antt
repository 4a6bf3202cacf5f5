-- One more is put into a list, and each later one moves a place further.
use Rattle.std.proofs.Common.{◌≡◌, ◌<◌, ◌≤◌, ◌+◌, ◌++◌, min, ℕ, List, [], ◌∷◌, length, take, drop, set, get_or, sym, ◌∙◌, ap, arith, append_assoc}
use Rattle.std.proofs.Math.Seq.{take-set-lt}
use Rattle.std.proofs.lemmas.List.{take_more_set, take-take, drop-set-lt, drop_all, drop_more, get_or-take, length-take}

module _ {X : Type 0} (xs : List X) (count : ℕ) (within : count ≤ length xs) where
  -- the moved one is put down, and the one that stood there is taken
  pub shift_step : (i : ℕ) (moved d : X) → i < count
      → take (i + 1) (set xs i moved) ++ get_or xs i d ∷ drop (i + 1) (take count (set xs i moved)) ≡ take i xs ++ moved ∷ drop i (take count xs)
  shift_step i moved d low =
      let long : length (take count xs) ≡ min count (length xs) = length-take count xs in
      let front : take (i + 1) (set xs i moved) ≡ take i xs ++ moved ∷ [] = take_more_set xs i moved (omega arith) in
      let later : drop (i + 1) (take count (set xs i moved)) ≡ drop (i + 1) (take count xs) =
      ap (drop (i + 1)) (take-set-lt count xs i moved low) ∙ drop-set-lt (i + 1) (take count xs) i moved (omega arith) in
      let here : drop i (take count xs) ≡ get_or xs i d ∷ drop (i + 1) (take count xs) =
      drop_more (take count xs) i d (omega arith) ∙ ap (λ x. x ∷ drop (i + 1) (take count xs)) (get_or-take count xs i d low) in
      ap (λ l. l ++ get_or xs i d ∷ drop (i + 1) (take count (set xs i moved))) front
      ∙ ap (λ l. (take i xs ++ moved ∷ []) ++ get_or xs i d ∷ l) later
      ∙ append_assoc (take i xs) (moved ∷ []) (get_or xs i d ∷ drop (i + 1) (take count xs))
      ∙ ap (λ l. take i xs ++ moved ∷ l) (sym here)

  -- nothing was moved yet
  pub shift_start : (at : ℕ) (moved : X) → at ≤ count
      → take at xs ++ moved ∷ drop at (take count xs) ≡ take at (take count xs) ++ moved ∷ drop at (take count xs)
  shift_start at moved low = ap (λ l. l ++ moved ∷ drop at (take count xs)) (sym (take-take at count xs low))

  -- the last one is left
  pub shift_end : (moved : X) → take count xs ++ moved ∷ drop count (take count xs) ≡ take count xs ++ moved ∷ []
  shift_end moved =
      let long : length (take count xs) ≡ min count (length xs) = length-take count xs in
      ap (λ l. take count xs ++ moved ∷ l) (drop_all count (take count xs) (omega arith))
