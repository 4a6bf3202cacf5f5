-- A tree's text has no defect.
use Rattle.std.proofs.Common.{◌≡◌, ◌<◌, ◌≤◌, ◌+◌, ◌++◌, ℕ, Option, None, List, [], ◌∷◌, length, sym, ◌∙◌, subst, inl, inr, arith}
use Rattle.std.specs.Prelude.{⊤}
use Rattle.bundle_rules.specs.Menus.{IsMenu}
use Rattle.bundle_bounds.specs.Offers.{OfferData, places_of}
use Rattle.proof_tree.specs.declared.signs.Sign.{Sign}
use Rattle.proof_tree.specs.declared.signs.Sign.TheVariants.{Champion, Shut, Pruned, Forced, Open, Passed}
use Rattle.proof_tree.specs.declared.defects.TreeDefect.TheVariants.{Syntax, NotClosed, Redundant, WrongLeaf, WrongBranch, Rest}
use Rattle.proof_tree.specs.Trees.{sign_of, IsSign, HasNoSign}
use Rattle.proof_tree.specs.Texts.{NoDigitFirst, Stands, IsTreeText}
use Rattle.proof_tree.specs.Walks.{below, ComesTo, HasCome}
use Rattle.proof_tree.specs.Defects.{IsCanonical, Reads, Differs, IsStuck}
use Rattle.proof_tree.specs.Laws.{NoDefectInATree, NoFailureInATree}
use Rattle.proof_tree.proofs.Uniqueness.{sign_is, one_sign}
use Rattle.proof_tree.proofs.LowLeaves.{short_sign}
use Rattle.proof_tree.proofs.OneSymbol.{one_symbol, no_digit_after}
use Rattle.proof_tree.proofs.Spelling.{AreSpelled, split_node, no_tree, walk_leaves, text_spelled}

low_next : (k n : ℕ) → k < n → k + 1 ≤ n
low_next k n low = omega arith

module _ (offer : OfferData) (menu : IsMenu offer.menu) (required : Option ℕ) (champion : List ℕ) where
  -- each of these nodes has decided places of the menu alone
  abbrev AreWithin : List (ℕ × List ℕ) → Type 0
  AreWithin [] = ⊤
  AreWithin (node ∷ nodes) = (node.0 ≤ length offer.menu.places) × AreWithin nodes

  within_below : (sign : Sign) (k : ℕ) (cs : List ℕ) (nodes : List (ℕ × List ℕ)) → IsSign offer required champion k cs sign → AreWithin nodes
      → AreWithin (below sign k cs ++ nodes)
  within_below Champion k cs nodes is within = within
  within_below Shut k cs nodes is within = within
  within_below (Pruned leaf) k cs nodes is within = within
  within_below Forced k cs nodes is within = (low_next k (length offer.menu.places) is.0.left, within)
  within_below Open k cs nodes is within = (low_next k (length offer.menu.places) is.0.left, (low_next k (length offer.menu.places) is.0.left, within))
  within_below Passed k cs nodes is within = (low_next k (length offer.menu.places) is.0.left, within)

  walk_within : (signs : List Sign) (nodes : List (ℕ × List ℕ)) (text : List ℕ) (others : List (ℕ × List ℕ)) (rest : List ℕ)
      → ComesTo offer required champion signs nodes text others rest → AreWithin nodes → AreWithin others
  walk_within [] nodes text others rest come within = subst AreWithin come.0 within
  walk_within (sign ∷ signs) [] text others rest come within = absurd come
  walk_within (sign ∷ signs) (node ∷ nodes) text others rest come within =
      walk_within signs (below sign node.0 node.1 ++ nodes) come.1.0 others rest come.1.2 (within_below sign node.0 node.1 nodes come.0 within.1)

  -- what follows a symbol begins with no digit
  no_digit : (nodes : List (ℕ × List ℕ)) (text : List ℕ) → AreSpelled offer required champion nodes text → NoDigitFirst text
  no_digit [] text are = subst NoDigitFirst (sym are) tt
  no_digit (node ∷ nodes) text are =
      let split = split_node offer required champion node.0 node.1 nodes (sign_of are.0) text (sign_is offer required champion node.0 node.1 are.0 are.1) are in
      no_digit_after (sign_of are.0) text split.rest split.front

  -- where the text is that of the trees, the symbol of the first node's canonical sign stands first
  stands_first : (node : ℕ × List ℕ) (nodes : List (ℕ × List ℕ)) (text : List ℕ) (sign : Sign) → node.0 ≤ length offer.menu.places
      → IsSign offer required champion node.0 node.1 sign → AreSpelled offer required champion (node ∷ nodes) text
      → (rest : List ℕ) × Stands sign text rest
  stands_first node nodes text sign within is are =
      let split = split_node offer required champion node.0 node.1 nodes sign text is are in (
        split.rest,
        record {
          spelled = split.front;
          short = short_sign offer required champion node.0 node.1 sign menu within is;
          whole = λ place some. no_digit (below sign node.0 node.1 ++ nodes) split.rest split.are;
        },
      )

-- the signs of canonical trees
pub canonical_sign : (offer : OfferData) (champion : List ℕ) (k : ℕ) (cs : List ℕ) (sign : Sign) → IsSign offer None champion k cs sign → IsCanonical sign
canonical_sign offer champion k cs Champion is = tt
canonical_sign offer champion k cs Shut is = absurd (cc is.1.1)
canonical_sign offer champion k cs (Pruned leaf) is = tt
canonical_sign offer champion k cs Forced is = absurd (cc is.1)
canonical_sign offer champion k cs Open is = tt
canonical_sign offer champion k cs Passed is = tt

module _ (offer : OfferData) (menu : IsMenu offer.menu) (champion text : List ℕ) (is_text : IsTreeText offer None champion text) where
  ch : List ℕ
  ch = places_of offer.menu champion

  module _ (k : ℕ) (cs : List ℕ) (nodes : List (ℕ × List ℕ)) (rest : List ℕ) (come : HasCome offer None champion text ((k, cs) ∷ nodes) rest) where
    left : AreSpelled offer None (places_of offer.menu champion) ((k, cs) ∷ nodes) rest
    left =
        walk_leaves offer None (places_of offer.menu champion) come.0 ((0, []) ∷ []) text ((k, cs) ∷ nodes) rest come.1
        (text_spelled offer None champion text is_text)

    within : k ≤ length offer.menu.places
    within =
        (walk_within offer menu None (places_of offer.menu champion) come.0 ((0, []) ∷ []) text ((k, cs) ∷ nodes) rest come.1
        ((let low : 0 ≤ length offer.menu.places = omega arith in low), tt)).0

    own : Sign
    own = sign_of left.0

    own_is : IsSign offer None (places_of offer.menu champion) k cs (sign_of left.0)
    own_is = sign_is offer None (places_of offer.menu champion) k cs left.0 left.1

    reads_own : Reads rest (sign_of left.0)
    reads_own = (
      canonical_sign offer (places_of offer.menu champion) k cs (sign_of left.0) own_is,
      stands_first offer menu None (places_of offer.menu champion) (k, cs) nodes rest (sign_of left.0) within own_is left,
    )

    has_symbol : ((read : Sign) → ¬ Reads rest read) → ⊥
    has_symbol none = none (sign_of left.0) reads_own

    not_without : HasNoSign offer None (places_of offer.menu champion) k cs → ⊥
    not_without none = no_tree offer None (places_of offer.menu champion) k cs nodes left.0 none left.1

    not_other : (are : Sign → Sign → Type 0) → Differs offer champion are k cs rest → ⊥
    not_other are differs =
        let same : sign_of left.0 ≡ differs.2.0 = one_sign offer None (places_of offer.menu champion) k cs (sign_of left.0) differs.2.0 own_is differs.2.1 in
        let read : differs.0 ≡ sign_of left.0 = one_symbol differs.0 (sign_of left.0) rest differs.1.1.0 reads_own.1.0 differs.1.1.1 reads_own.1.1 in
        differs.2.2 (read ∙ same)

pub no_defect_in_a_tree : NoDefectInATree
no_defect_in_a_tree offer champion text (Syntax at) menu is defect =
    has_symbol offer menu champion text is defect.0 defect.1.0 defect.1.1.0 defect.1.1.1.0 defect.1.1.1.1 defect.1.1.1.3
no_defect_in_a_tree offer champion text (NotClosed at) menu is defect = elim defect.1.1.1.3 [
  | inl without ↦ not_without offer menu champion text is defect.0 defect.1.0 defect.1.1.0 defect.1.1.1.0 defect.1.1.1.1 without.1
  | inr other ↦ not_other offer menu champion text is defect.0 defect.1.0 defect.1.1.0 defect.1.1.1.0 defect.1.1.1.1 _ other
]
no_defect_in_a_tree offer champion text (Redundant at) menu is defect =
    not_other offer menu champion text is defect.0 defect.1.0 defect.1.1.0 defect.1.1.1.0 defect.1.1.1.1 _ defect.1.1.1.3
no_defect_in_a_tree offer champion text (WrongLeaf at) menu is defect =
    not_other offer menu champion text is defect.0 defect.1.0 defect.1.1.0 defect.1.1.1.0 defect.1.1.1.1 _ defect.1.1.1.3
no_defect_in_a_tree offer champion text (WrongBranch at) menu is defect =
    not_other offer menu champion text is defect.0 defect.1.0 defect.1.1.0 defect.1.1.1.0 defect.1.1.1.1 _ defect.1.1.1.3
no_defect_in_a_tree offer champion text (Rest at) menu is defect =
    defect.2
    (walk_leaves offer None (places_of offer.menu champion) defect.1.0 ((0, []) ∷ []) text [] defect.0 defect.1.1
    (text_spelled offer None champion text is))

pub no_failure_in_a_tree : NoFailureInATree
no_failure_in_a_tree offer required champion text at menu is fails = stuck fails.0 fails.1.0 fails.1.1 fails.1.3
  where
    stuck : (nodes : List (ℕ × List ℕ)) (rest : List ℕ) → HasCome offer required champion text nodes rest
        → IsStuck offer required (places_of offer.menu champion) nodes rest → ⊥
    stuck [] rest come more =
        more
        (walk_leaves offer required (places_of offer.menu champion) come.0 ((0, []) ∷ []) text [] rest come.1
        (text_spelled offer required champion text is))
    stuck (node ∷ nodes) rest come none =
        let left =
        walk_leaves offer required (places_of offer.menu champion) come.0 ((0, []) ∷ []) text (node ∷ nodes) rest come.1
        (text_spelled offer required champion text is) in
        let within =
        (walk_within offer menu required (places_of offer.menu champion) come.0 ((0, []) ∷ []) text (node ∷ nodes) rest come.1
        ((let low : 0 ≤ length offer.menu.places = omega arith in low), tt)).0 in
        let own = sign_is offer required (places_of offer.menu champion) node.0 node.1 left.0 left.1 in
        let stands = stands_first offer menu required (places_of offer.menu champion) node nodes rest (sign_of left.0) within own left in
        none (sign_of left.0) stands.0 own stands.1
