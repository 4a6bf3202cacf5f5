-- Texts put behind a line, one after another.
use Rattle.std.proofs.Common.{ℕ, ◌≡◌, List, ◌++◌, ◌∙◌, ap, append_assoc}

pub two_behind : (line x y one two : List ℕ) → two ≡ one ++ y → one ≡ line ++ x → two ≡ line ++ (x ++ y)
two_behind line x y one two second first = second ∙ ap (λ front. front ++ y) first ∙ append_assoc line x y

pub three_behind : (line x y z one two three : List ℕ) → three ≡ two ++ z → two ≡ one ++ y → one ≡ line ++ x → three ≡ line ++ (x ++ (y ++ z))
three_behind line x y z one two three third second first =
    third ∙ ap (λ front. front ++ z) (second ∙ ap (λ front. front ++ y) first) ∙ append_assoc (line ++ x) y z ∙ append_assoc line x (y ++ z)
