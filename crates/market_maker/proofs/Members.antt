-- The parts of the settings, one behind another.
use Rattle.std.proofs.Common.{ℕ, ◌≡◌, List, [], ◌∷◌, ◌++◌, ap, sym, ◌∙◌, append_assoc}
use Rattle.std.specs.Prelude.{codes}
use Rattle.std.specs.Fmt.{decimal}
use Rattle.std.proofs.lemmas.List.{append-nil}
use Rattle.market_maker.specs.Settings.{settings_text}

in_a_row : (p d q a r e f : List ℕ) → (((p ++ d) ++ q) ++ a) ++ ((r ++ e) ++ f) ≡ p ++ ((((d ++ (q ++ (a ++ r))) ++ e) ++ f) ++ [])
in_a_row p d q a r e f = simp (append_assoc, append-nil)

-- what stands before, between and behind the two numbers
abbrev pub settings_begin : List ℕ
settings_begin = codes "{\"seed\":"

abbrev pub settings_middle : List ℕ
settings_middle = codes ",\"spread\":10,\"accept\":"

abbrev pub settings_end : List ℕ
settings_end = codes ",\"turns\":25,\"tabu\":20,\"patience\":10,\"steps\":[1,10,100],\"raise\":10}\n"

pub settings_parts : (seed accept : ℕ) → settings_text seed accept ≡ (((settings_begin ++ decimal seed) ++ settings_middle) ++ decimal accept) ++ settings_end
settings_parts seed accept =
    sym (in_a_row settings_begin (decimal seed) settings_middle (decimal accept) (codes ",\"turns\":25,\"tabu\":20,\"patience\":10,\"steps\":[1,10,100],\"raise\":10") (125 ∷ []) (10 ∷ []))

-- the texts after each part, of which the last is the settings
pub settings_written : (seed accept : ℕ) (begun seeded kept accepted whole : List ℕ) → begun ≡ settings_begin → seeded ≡ begun ++ decimal seed
    → kept ≡ seeded ++ settings_middle → accepted ≡ kept ++ decimal accept → whole ≡ accepted ++ settings_end
    → whole ≡ settings_text seed accept
settings_written seed accept begun seeded kept accepted whole e1 e2 e3 e4 e5 =
    e5
    ∙ ap (λ t. t ++ settings_end) (e4 ∙ ap (λ t. t ++ decimal accept) (e3 ∙ ap (λ t. t ++ settings_middle) (e2 ∙ ap (λ t. t ++ decimal seed) e1)))
    ∙ sym (settings_parts seed accept)
