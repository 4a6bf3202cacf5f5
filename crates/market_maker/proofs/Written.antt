-- Parts that were put behind a text, one behind another.
use Rattle.std.proofs.Common.{ℕ, ◌≡◌, List, [], ◌∷◌, ◌++◌, ap, ◌∙◌, append_assoc}

five_in_a_row : (old a b c d e : List ℕ)
    → ((((((((((old ++ a) ++ 44 ∷ []) ++ b) ++ 44 ∷ []) ++ c) ++ 44 ∷ []) ++ d) ++ 44 ∷ []) ++ e) ++ 10 ∷ [])
    ≡ old ++ ((a ++ 44 ∷ (b ++ 44 ∷ (c ++ 44 ∷ (d ++ 44 ∷ e)))) ++ 10 ∷ [])
five_in_a_row old a b c d e = simp append_assoc

-- the five fields of a row and its line feed
pub five_written : (a b c d e old t1 t2 t3 t4 t5 new : List ℕ) → t1 ≡ (old ++ a) ++ 44 ∷ [] → t2 ≡ (t1 ++ b) ++ 44 ∷ [] → t3 ≡ (t2 ++ c) ++ 44 ∷ []
    → t4 ≡ (t3 ++ d) ++ 44 ∷ [] → t5 ≡ t4 ++ e → new ≡ t5 ++ 10 ∷ []
    → new ≡ old ++ ((a ++ 44 ∷ (b ++ 44 ∷ (c ++ 44 ∷ (d ++ 44 ∷ e)))) ++ 10 ∷ [])
five_written a b c d e old t1 t2 t3 t4 t5 new e1 e2 e3 e4 e5 e6 =
    let field = λ (f t : List ℕ). (t ++ f) ++ 44 ∷ [] in
    e6
    ∙ ap (λ t. t ++ 10 ∷ []) (e5 ∙ ap (λ t. t ++ e) (e4 ∙ ap (field d) (e3 ∙ ap (field c) (e2 ∙ ap (field b) e1))))
    ∙ five_in_a_row old a b c d e
