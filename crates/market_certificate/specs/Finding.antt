-- The first defect of a text, by the lines that a language has.
use Rattle.std.specs.Prelude.{ℕ, ⊤, ◌≡◌, ◌<◌, ◌+◌, List, [], ◌∷◌, ◌++◌, length}
use Rattle.market_certificate.specs.declared.refusals.LineFault.{LineFault}
use Rattle.market_certificate.specs.declared.refusals.LineFault.TheVariants.{Missing, Form, Rest}
use Rattle.market_certificate.specs.declared.refusals.TextRefusal.{TextRefusal}
use Rattle.market_certificate.specs.declared.refusals.TextRefusal.TheVariants.{Defect, NoMemory}
use Rattle.market_certificate.specs.Lines.{Lacks, joined}

-- a text goes on with a line behind these lines, and maybe with more
abbrev pub GoesOn : (List (List ℕ) → Type 0) → List (List ℕ) → Type 0
GoesOn Is front = (line : List ℕ) × (lines : List (List ℕ)) × Is (front ++ line ∷ lines)

-- some text begins with these lines
abbrev pub Begins : (List (List ℕ) → Type 0) → List (List ℕ) → Type 0
Begins Is front = (lines : List (List ℕ)) × Is (front ++ lines)

-- the next line is no line with which a text could go on
pub record IsOutOfForm (Is : List (List ℕ) → Type 0) (front : List (List ℕ))
    (tail : List ℕ) : Type 0 where
  pub line : List ℕ
  pub rest : List ℕ
  pub next : tail ≡ line ++ 10 ∷ rest
  pub whole : Lacks 10 line
  pub form : ¬ Begins Is (front ++ line ∷ [])

-- why reading stops behind these lines
abbrev pub Stops : (List (List ℕ) → Type 0) → List (List ℕ) → List ℕ → LineFault → Type 0
Stops Is front tail Missing = GoesOn Is front × Lacks 10 tail
Stops Is front tail Form = GoesOn Is front × IsOutOfForm Is front tail
Stops Is front tail Rest = Is front × (0 < length tail)

-- The text's first defect, its first line having this number: a text of the language could begin
-- with the lines in front, and not with the next line.
pub record Finds (Is : List (List ℕ) → Type 0) (number : ℕ) (text : List ℕ) (at : ℕ)
    (fault : LineFault) : Type 0 where
  pub front : List (List ℕ)
  pub tail : List ℕ
  pub ahead : text ≡ joined front ++ tail
  pub line : at ≡ number + length front
  pub stop : Stops Is front tail fault

-- the text's next line is of another sort
pub record IsOtherLine (P : List ℕ → Type 0) (text : List ℕ) : Type 0 where
  pub line : List ℕ
  pub rest : List ℕ
  pub next : text ≡ line ++ 10 ∷ rest
  pub whole : Lacks 10 line
  pub form : ¬ P line

-- no line of this sort is next in the text, of which the next line has this number
abbrev pub StopsAt : (List ℕ → Type 0) → ℕ → List ℕ → ℕ → LineFault → Type 0
StopsAt P number text at Missing = (at ≡ number) × Lacks 10 text
StopsAt P number text at Form = (at ≡ number) × IsOtherLine P text
StopsAt P number text at Rest = ⊥

-- a refusal for a defect says this of it
abbrev pub OnDefect : TextRefusal → (ℕ → LineFault → Type 0) → Type 0
OnDefect (Defect line kind) P = P line kind
OnDefect NoMemory P = ⊤
