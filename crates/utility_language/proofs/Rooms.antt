-- What stands behind a text in a room.
use Rattle.std.proofs.Common.{ℕ, ◌≡◌, ◌+◌, ◌-◌, ◌≤◌, List, drop, arith, ap, sym, ◌∙◌}
use Rattle.std.proofs.lemmas.List.{drop-drop}

-- what is the same from a place on is the same from each later place on
pub drop_further : (a b : ℕ) (xs ys : List ℕ) → drop a xs ≡ drop a ys → a ≤ b → drop b xs ≡ drop b ys
drop_further a b xs ys same after =
    let far : a + (b - a) ≡ b = omega arith in
    ap (λ n. drop n xs) (sym far) ∙ sym (drop-drop (b - a) a xs) ∙ ap (drop (b - a)) same ∙ drop-drop (b - a) a ys ∙ ap (λ n. drop n ys) far
