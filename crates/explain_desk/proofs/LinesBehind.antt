-- The lines of an explanation, one behind another.
use Rattle.std.proofs.Common.{ℕ, ◌≡◌, List, [], ◌∷◌, ◌++◌, refl, ap, sym, ◌∙◌, append_assoc}
use Rattle.std.proofs.lemmas.List.{append-nil}
use Rattle.market_certificate.specs.Lines.{joined}
use Rattle.market_certificate.proofs.Joins.{text_more}

-- three lines behind a text
pub three_lines : (begun first second third one two three : List ℕ) → first ≡ (begun ++ one) ++ 10 ∷ [] → second ≡ (first ++ two) ++ 10 ∷ []
    → third ≡ (second ++ three) ++ 10 ∷ [] → third ≡ begun ++ joined (one ∷ two ∷ three ∷ [])
three_lines begun first second third one two three e e' e'' =
    let at_one : first ≡ begun ++ joined (one ∷ []) = text_more begun begun first one [] (one ∷ []) refl (sym (append-nil begun)) e in
    let at_two : second ≡ begun ++ joined (one ∷ two ∷ []) = text_more begun first second two (one ∷ []) (one ∷ two ∷ []) refl at_one e' in
    text_more begun second third three (one ∷ two ∷ []) (one ∷ two ∷ three ∷ []) refl at_two e''

-- a first line and later ones
pub line_and_more : (begun first last line : List ℕ) (lines : List (List ℕ)) → begun ≡ [] → first ≡ (begun ++ line) ++ 10 ∷ [] → last ≡ first ++ joined lines
    → last ≡ joined (line ∷ lines)
line_and_more begun first last line lines none e e' =
    e' ∙ ap (λ t. t ++ joined lines) (e ∙ ap (λ (t : List ℕ). (t ++ line) ++ 10 ∷ []) none) ∙ append_assoc line (10 ∷ []) (joined lines)
