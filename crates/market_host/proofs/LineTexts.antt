-- A line with a text and a number behind it.
use Rattle.std.proofs.Common.{ℕ, ◌≡◌, List, ◌++◌, ◌∙◌, ap, append_assoc}
use Rattle.std.specs.Fmt.{decimal}

pub text_and_number : (line text front out : List ℕ) (n m : ℕ) → out ≡ front ++ decimal m → front ≡ line ++ text → m ≡ n → out ≡ line ++ (text ++ decimal n)
text_and_number line text front out n m p q r =
    p ∙ ap (λ x. x ++ decimal m) q ∙ append_assoc line text (decimal m) ∙ ap (λ k. line ++ (text ++ decimal k)) r
