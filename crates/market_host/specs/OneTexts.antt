-- Two calls that are given the same inputs write one text.
use Rattle.std.specs.Prelude.{ℕ, ◌≡◌, List, ◌∷◌, ◌++◌}
use Rattle.market_certificate.specs.Lines.{Lacks}
use Rattle.market_units.specs.declared.names.Name.{Name}
use Rattle.market_words.specs.declared.words.Form.{Form}
use Rattle.market_words.specs.declared.words.Form.TheVariants.{Audit, Explain, Run}
use Rattle.market_words.specs.Forms.{HasForm, inputs_of}
use Rattle.market_host.specs.declared.status.Status.TheVariants.{Done}
use Rattle.market_host.specs.Inputs.{AreTold}
use Rattle.market_host.specs.Outcomes.{IsOutcome}
use Rattle.market_host.specs.Sights.{Sight}

-- calls with these words are of these forms, and have the same inputs: the shelf tells at both that
-- these are their texts
pub record HaveSameInputs (form also : Form) (one other : List (List ℕ))
    (at_one at_other : Sight) : Type 0 where
  pub is_one : HasForm one form
  pub is_other : HasForm other also
  pub texts : List (List ℕ)
  pub told_to_one : AreTold at_one.held (inputs_of form one) texts
  pub told_to_other : AreTold at_other.held (inputs_of also other) texts

-- the second line of a text, which in a published one is that of the order, is this
pub record HasOrderLine (line text : List ℕ) : Type 0 where
  pub first : List ℕ
  pub rest : List ℕ
  pub written : text ≡ first ++ 10 ∷ (line ++ 10 ∷ rest)
  pub first_ends : Lacks 10 first
  pub line_ends : Lacks 10 line

-- two runs that are done for the same inputs, with any numbers of workers, and write the same order
-- have written the same text
abbrev pub OneTextAnOrder : Type 0
OneTextAnOrder =
    (one other : List (List ℕ)) (at_one at_other : Sight) (workers also : ℕ)
    (line text alike : List ℕ)
    → HaveSameInputs (Run workers) (Run also) one other at_one at_other
    → IsOutcome one at_one Done text → IsOutcome other at_other Done alike
    → HasOrderLine line text → HasOrderLine line alike → text ≡ alike

-- what is told of an accepted text by two calls of `explain` for one student and one section is one
-- text
abbrev pub OneReasonTold : Type 0
OneReasonTold =
    (one other : List (List ℕ)) (at_one at_other : Sight) (student section : Name)
    (text alike : List ℕ)
    → HaveSameInputs (Explain student section) (Explain student section) one other at_one at_other
    → IsOutcome one at_one Done text → IsOutcome other at_other Done alike → text ≡ alike

-- what is told of it by two calls of `audit`, with any numbers of workers, is one text
abbrev pub OneAuditTold : Type 0
OneAuditTold =
    (one other : List (List ℕ)) (at_one at_other : Sight) (workers also : ℕ) (text alike : List ℕ)
    → HaveSameInputs (Audit workers) (Audit also) one other at_one at_other
    → IsOutcome one at_one Done text → IsOutcome other at_other Done alike → text ≡ alike
