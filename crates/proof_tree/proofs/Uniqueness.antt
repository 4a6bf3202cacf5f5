-- A node has one canonical sign at most, and one tree.
use Rattle.std.proofs.Common.{◌≡◌, ◌+◌, ◌++◌, ℕ, Option, List, [], ◌∷◌, refl, sym, ◌∙◌, ap, inl, inr}
use Rattle.std.specs.Prelude.{ℤ}
use Rattle.std.proofs.lemmas.Bool.{true≢false}
use Rattle.bundle_bounds.specs.declared.nodes.Leaf.{Leaf}
use Rattle.bundle_bounds.specs.Offers.{OfferData}
use Rattle.bundle_bounds.specs.Bounds.{bounds, IsFirstPruning, NonePrunes}
use Rattle.proof_tree.specs.declared.signs.Sign.{Sign}
use Rattle.proof_tree.specs.declared.signs.Sign.TheVariants.{Champion, Shut, Pruned, Forced, Open, Passed}
use Rattle.proof_tree.specs.Trees.{Tree, Wins, Bars, Cuts, Takes, Splits, Passes, sign_of, IsChampionsEnd, IsSign, IsTree}
use Rattle.proof_tree.specs.Laws.{OneTree}

module _ (offer : OfferData) (required : Option ℕ) (champion : List ℕ) where
  pub one_first : (k : ℕ) (cs : List ℕ) (bs : List (Leaf × ℤ)) (a b : Leaf) → IsFirstPruning offer k cs champion bs a → IsFirstPruning offer k cs champion bs b
      → a ≡ b
  one_first k cs [] a b first second = absurd first
  one_first k cs (x ∷ bs) a b (inl here) (inl here') = sym here.1 ∙ here'.1
  one_first k cs (x ∷ bs) a b (inl here) (inr later) = absurd (later.0 here.0)
  one_first k cs (x ∷ bs) a b (inr later) (inl here) = absurd (later.0 here.0)
  one_first k cs (x ∷ bs) a b (inr later) (inr later') = one_first k cs bs a b later.1 later'.1

  pub not_none : (k : ℕ) (cs : List ℕ) (bs : List (Leaf × ℤ)) (a : Leaf) → IsFirstPruning offer k cs champion bs a → NonePrunes offer k cs champion bs → ⊥
  not_none k cs [] a first none = first
  not_none k cs (x ∷ bs) a (inl here) none = none.0 here.0
  not_none k cs (x ∷ bs) a (inr later) none = not_none k cs bs a later.1 none.1

  module _ (k : ℕ) (cs : List ℕ) where
    champion_only : (b : Sign) → IsChampionsEnd offer champion k cs → IsSign offer required champion k cs b → Champion ≡ b
    champion_only Champion end is = refl
    champion_only Shut end is = absurd (is.0 end)
    champion_only (Pruned leaf) end is = absurd (is.0.no_end end)
    champion_only Forced end is = absurd (is.0.unsettled.no_end end)
    champion_only Open end is = absurd (is.0.unsettled.no_end end)
    champion_only Passed end is = absurd (is.0.unsettled.no_end end)

    shut_only : (b : Sign) → IsSign offer required champion k cs Shut → IsSign offer required champion k cs b → Shut ≡ b
    shut_only Champion first is = absurd (first.0 is)
    shut_only Shut first is = refl
    shut_only (Pruned leaf) first is = absurd (is.0.not_shut first.1)
    shut_only Forced first is = absurd (is.0.unsettled.not_shut first.1)
    shut_only Open first is = absurd (is.0.unsettled.not_shut first.1)
    shut_only Passed first is = absurd (is.0.unsettled.not_shut first.1)

    pruned_only : (leaf : Leaf) (b : Sign) → IsSign offer required champion k cs (Pruned leaf) → IsSign offer required champion k cs b → Pruned leaf ≡ b
    pruned_only leaf Champion first is = absurd (first.0.no_end is)
    pruned_only leaf Shut first is = absurd (first.0.not_shut is.1)
    pruned_only leaf (Pruned other) first is = ap (λ l. Pruned l) (one_first k cs (bounds offer k cs) leaf other first.1 is.1)
    pruned_only leaf Forced first is = absurd (not_none k cs (bounds offer k cs) leaf first.1 is.0.none_prunes)
    pruned_only leaf Open first is = absurd (not_none k cs (bounds offer k cs) leaf first.1 is.0.none_prunes)
    pruned_only leaf Passed first is = absurd (not_none k cs (bounds offer k cs) leaf first.1 is.0.none_prunes)

    pub one_sign : (a b : Sign) → IsSign offer required champion k cs a → IsSign offer required champion k cs b → a ≡ b
    one_sign Champion b first is = champion_only b first is
    one_sign Shut b first is = shut_only b first is
    one_sign (Pruned leaf) b first is = pruned_only leaf b first is
    one_sign Forced Champion first is = sym (champion_only Forced is first)
    one_sign Forced Shut first is = sym (shut_only Forced is first)
    one_sign Forced (Pruned leaf) first is = sym (pruned_only leaf Forced is first)
    one_sign Forced Forced first is = refl
    one_sign Forced Open first is = absurd (is.1 first.1)
    one_sign Forced Passed first is = absurd (is.1 first.1)
    one_sign Open Champion first is = sym (champion_only Open is first)
    one_sign Open Shut first is = sym (shut_only Open is first)
    one_sign Open (Pruned leaf) first is = sym (pruned_only leaf Open is first)
    one_sign Open Forced first is = absurd (first.1 is.1)
    one_sign Open Open first is = refl
    one_sign Open Passed first is = absurd (true≢false (sym first.2 ∙ is.2))
    one_sign Passed Champion first is = sym (champion_only Passed is first)
    one_sign Passed Shut first is = sym (shut_only Passed is first)
    one_sign Passed (Pruned leaf) first is = sym (pruned_only leaf Passed is first)
    one_sign Passed Forced first is = absurd (first.1 is.1)
    one_sign Passed Open first is = absurd (true≢false (sym is.2 ∙ first.2))
    one_sign Passed Passed first is = refl

  pub sign_is : (k : ℕ) (cs : List ℕ) (tree : Tree) → IsTree offer required champion k cs tree → IsSign offer required champion k cs (sign_of tree)
  sign_is k cs Wins is = is
  sign_is k cs Bars is = is
  sign_is k cs (Cuts leaf) is = is
  sign_is k cs (Takes with_it) is = is.0
  sign_is k cs (Splits with_it without) is = is.0
  sign_is k cs (Passes without) is = is.0

  same_sign : (k : ℕ) (cs : List ℕ) (a b : Tree) → IsTree offer required champion k cs a → IsTree offer required champion k cs b → sign_of a ≡ sign_of b
  same_sign k cs a b is is' = one_sign k cs (sign_of a) (sign_of b) (sign_is k cs a is) (sign_is k cs b is')

  pub same_tree : (a b : Tree) (k : ℕ) (cs : List ℕ) → IsTree offer required champion k cs a → IsTree offer required champion k cs b → a ≡ b
  same_tree Wins Wins k cs is is' = refl
  same_tree Bars Bars k cs is is' = refl
  same_tree (Cuts leaf) (Cuts other) k cs is is' =
      let e : Pruned leaf ≡ Pruned other = same_sign k cs (Cuts leaf) (Cuts other) is is' in ap (λ l. Cuts l) (let f : leaf ≡ other = cc e in f)
  same_tree (Takes a) (Takes b) k cs is is' = ap (λ t. Takes t) (same_tree a b (k + 1) (cs ++ k ∷ []) is.1 is'.1)
  same_tree (Splits a b) (Splits c d) k cs is is' =
      let first : a ≡ c = same_tree a c (k + 1) (cs ++ k ∷ []) is.1 is'.1 in
      let second : b ≡ d = same_tree b d (k + 1) cs is.2 is'.2 in cc
  same_tree (Passes a) (Passes b) k cs is is' = ap (λ t. Passes t) (same_tree a b (k + 1) cs is.1 is'.1)
  same_tree a b k cs is is' = absurd (cc (same_sign k cs a b is is'))

pub one_tree : OneTree
one_tree offer required champion k chosen = record {
  sign = one_sign offer required champion k chosen;
  tree = λ a b is is'. same_tree offer required champion a b k chosen is is';
}
