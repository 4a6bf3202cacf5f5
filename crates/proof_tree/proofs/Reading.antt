-- Which symbol stands first in a text.
use Rattle.std.proofs.Common.{◌≡◌, ◌≢◌, ◌<◌, ◌++◌, ◌⊎◌, ℕ, Some, None, List, [], ◌∷◌, refl, sym, ◌∙◌, ap, subst, inl, inr}
use Rattle.std.specs.Fmt.{decimal}
use Rattle.bundle_bounds.specs.declared.nodes.Leaf.{Leaf}
use Rattle.bundle_bounds.specs.declared.nodes.Leaf.TheVariants.{Plain, Budget, Credits, Number}
use Rattle.proof_tree.specs.declared.signs.Sign.{Sign}
use Rattle.proof_tree.specs.declared.signs.Sign.TheVariants.{Champion, Shut, Pruned, Forced, Open, Passed}
use Rattle.proof_tree.specs.Texts.{NoDigitFirst, Stands, symbol, leaf_text, number_of}
use Rattle.proof_tree.proofs.Digits.{NoPlace}

-- a letter of the leaves with numbers
abbrev pub IsLetter : ℕ → Type 0
IsLetter letter = (letter ≡ 98) ⊎ ((letter ≡ 99) ⊎ (letter ≡ 109))

-- the symbol is the byte alone, or it is a letter and a number
abbrev pub Begins : Sign → ℕ → List ℕ → List ℕ → Type 0
Begins sign letter text rest =
    ((number_of sign ≡ None) × (symbol sign ≡ letter ∷ []))
    ⊎ ((place : ℕ) × (place < 100) × NoDigitFirst rest × IsLetter letter × (text ≡ decimal place ++ rest))

single : (sign : Sign) (letter byte : ℕ) (text rest : List ℕ) → number_of sign ≡ None → symbol sign ≡ byte ∷ [] → letter ∷ text ≡ byte ∷ rest
    → Begins sign letter text rest
single sign letter byte text rest none is whole = inl (none, (let same : letter ≡ byte = cc whole in is ∙ ap (λ b. b ∷ []) (sym same)))

numbered : (sign : Sign) (letter byte place : ℕ) (text rest : List ℕ) → number_of sign ≡ Some place → IsLetter byte → Stands sign (letter ∷ text) rest
    → letter ∷ text ≡ byte ∷ (decimal place ++ rest) → Begins sign letter text rest
numbered sign letter byte place text rest some is stands whole =
    let same : letter ≡ byte = cc whole in
    let later : text ≡ decimal place ++ rest = cc whole in
    inr (place, stands.short place some, stands.whole place some, subst IsLetter (sym same) is, later)

pub begins : (sign : Sign) (letter : ℕ) (text rest : List ℕ) → Stands sign (letter ∷ text) rest → Begins sign letter text rest
begins Champion letter text rest stands = single Champion letter 42 text rest refl refl stands.spelled
begins Shut letter text rest stands = single Shut letter 120 text rest refl refl stands.spelled
begins (Pruned Plain) letter text rest stands = single (Pruned Plain) letter 110 text rest refl refl stands.spelled
begins (Pruned (Budget place)) letter text rest stands = numbered (Pruned (Budget place)) letter 98 place text rest refl (inl refl) stands stands.spelled
begins (Pruned (Credits place)) letter text rest stands =
    numbered (Pruned (Credits place)) letter 99 place text rest refl (inr (inl refl)) stands stands.spelled
begins (Pruned (Number place)) letter text rest stands = numbered (Pruned (Number place)) letter 109 place text rest refl (inr (inr refl)) stands stands.spelled
begins Forced letter text rest stands = single Forced letter 33 text rest refl refl stands.spelled
begins Open letter text rest stands = single Open letter 43 text rest refl refl stands.spelled
begins Passed letter text rest stands = single Passed letter 45 text rest refl refl stands.spelled

-- no symbol stands first in nothing
pub none_stands_in_nothing : (sign : Sign) (rest : List ℕ) → Stands sign [] rest → ⊥
none_stands_in_nothing Champion rest stands = cc stands.spelled
none_stands_in_nothing Shut rest stands = cc stands.spelled
none_stands_in_nothing (Pruned Plain) rest stands = cc stands.spelled
none_stands_in_nothing (Pruned (Budget place)) rest stands = cc stands.spelled
none_stands_in_nothing (Pruned (Credits place)) rest stands = cc stands.spelled
none_stands_in_nothing (Pruned (Number place)) rest stands = cc stands.spelled
none_stands_in_nothing Forced rest stands = cc stands.spelled
none_stands_in_nothing Open rest stands = cc stands.spelled
none_stands_in_nothing Passed rest stands = cc stands.spelled

module _ (letter : ℕ) (text : List ℕ) (not_single : (sign : Sign) → number_of sign ≡ None → symbol sign ≢ letter ∷ []) where
  -- no number follows the letter
  pub none_without_place : NoPlace text → (sign : Sign) (rest : List ℕ) → Stands sign (letter ∷ text) rest → ⊥
  none_without_place no_place sign rest stands = elim (begins sign letter text rest stands) [
    | inl alone ↦ not_single sign alone.0 alone.1
    | inr with_place ↦ no_place with_place.0 rest with_place.1 with_place.2 with_place.4
  ]

  -- the letter is no leaf's
  pub none_without_letter : (letter ≢ 98) × (letter ≢ 99) × (letter ≢ 109) → (sign : Sign) (rest : List ℕ) → Stands sign (letter ∷ text) rest → ⊥
  none_without_letter other sign rest stands = elim (begins sign letter text rest stands) [
    | inl alone ↦ not_single sign alone.0 alone.1
    | inr with_place ↦ elim with_place.3 [ inl b ↦ other.0 b | inr more ↦ elim more [ inl c ↦ other.1 c | inr m ↦ other.2 m ] ]
  ]

pub single_stands : (sign : Sign) (letter : ℕ) (text rest : List ℕ) → symbol sign ≡ letter ∷ [] → number_of sign ≡ None → text ≡ letter ∷ rest
    → Stands sign text rest
single_stands sign letter text rest is none whole = record {
  spelled = whole ∙ ap (λ s. s ++ rest) (sym is);
  short = λ place some. (let e : Some place ≡ None = sym some ∙ none in absurd (cc e));
  whole = λ place some. (let e : Some place ≡ None = sym some ∙ none in absurd (cc e));
}

pub numbered_stands : (leaf : Leaf) (letter place : ℕ) (text more rest : List ℕ) → leaf_text leaf ≡ letter ∷ decimal place
    → number_of (Pruned leaf) ≡ Some place → text ≡ letter ∷ more → more ≡ decimal place ++ rest → place < 100 → NoDigitFirst rest
    → Stands (Pruned leaf) text rest
numbered_stands leaf letter place text more rest is some whole later low ends = record {
  spelled = whole ∙ ap (λ l. letter ∷ l) later ∙ ap (λ s. s ++ rest) (sym is);
  short = λ other some'. (let e : Some place ≡ Some other = sym some ∙ some' in let same : place ≡ other = cc e in subst (λ n. n < 100) same low);
  whole = λ other some'. ends;
}
