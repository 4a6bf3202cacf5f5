-- The texts of the trees of several nodes, one after another.
use Rattle.std.proofs.Common.{◌≡◌, ◌++◌, ℕ, Option, List, [], ◌∷◌, refl, sym, ◌∙◌, ap, subst, append_assoc, arith}
use Rattle.std.proofs.lemmas.List.{append-nil}
use Rattle.bundle_bounds.specs.Offers.{OfferData, places_of}
use Rattle.bundle_bounds.specs.Bounds.{bounds}
use Rattle.proof_tree.specs.declared.signs.Sign.{Sign}
use Rattle.proof_tree.specs.declared.signs.Sign.TheVariants.{Champion, Shut, Pruned, Forced, Open, Passed}
use Rattle.proof_tree.specs.Trees.{Tree, Wins, Bars, Cuts, Takes, Splits, Passes, sign_of, IsSign, IsTree, HasNoSign}
use Rattle.proof_tree.specs.Texts.{symbol, spelled, Stands, IsTreeText}
use Rattle.proof_tree.specs.Walks.{below, ComesTo}
use Rattle.proof_tree.proofs.Uniqueness.{not_none, one_sign, sign_is}

pub cancel : (xs ys zs : List ℕ) → xs ++ ys ≡ xs ++ zs → ys ≡ zs
cancel [] ys zs e = e
cancel (x ∷ xs) ys zs e = cancel xs ys zs (let f : xs ++ ys ≡ xs ++ zs = cc e in f)

-- the text is that of trees of these nodes, one after another
abbrev pub AreSpelled : OfferData → Option ℕ → List ℕ → List (ℕ × List ℕ) → List ℕ → Type 0
AreSpelled offer required champion [] text = text ≡ []
AreSpelled offer required champion (node ∷ nodes) text =
    (tree : Tree) × IsTree offer required champion node.0 node.1 tree
    × ((rest : List ℕ) × (text ≡ spelled tree ++ rest) × AreSpelled offer required champion nodes rest)

-- the text after the symbol of a node is that of the nodes below it, and those after them
pub record IsSplit (offer : OfferData) (required : Option ℕ) (champion : List ℕ) (sign : Sign) (k : ℕ) (chosen : List ℕ) (nodes : List (ℕ × List ℕ)) (text : List ℕ)
    : Type 0 where
  pub rest : List ℕ
  pub front : text ≡ symbol sign ++ rest
  pub are : AreSpelled offer required champion (below sign k chosen ++ nodes) rest

module _ (offer : OfferData) (required : Option ℕ) (champion : List ℕ) (k : ℕ) (chosen : List ℕ) (nodes : List (ℕ × List ℕ)) where
  split_tree : (tree : Tree) (text rest : List ℕ) → IsTree offer required champion k chosen tree → text ≡ spelled tree ++ rest
      → AreSpelled offer required champion nodes rest → IsSplit offer required champion (sign_of tree) k chosen nodes text
  split_tree Wins text rest is whole are = record { rest = rest; front = whole; are = are }
  split_tree Bars text rest is whole are = record { rest = rest; front = whole; are = are }
  split_tree (Cuts leaf) text rest is whole are = record { rest = rest; front = whole; are = are }
  split_tree (Takes with_it) text rest is whole are = record { rest = spelled with_it ++ rest; front = whole; are = (with_it, is.1, (rest, refl, are)) }
  split_tree (Splits with_it without) text rest is whole are = record {
    rest = spelled with_it ++ (spelled without ++ rest);
    front = whole ∙ ap (λ t. 43 ∷ t) (append_assoc (spelled with_it) (spelled without) rest);
    are = (with_it, is.1, (spelled without ++ rest, refl, (without, is.2, (rest, refl, are))));
  }
  split_tree (Passes without) text rest is whole are = record { rest = spelled without ++ rest; front = whole; are = (without, is.1, (rest, refl, are)) }

  pub split_node : (sign : Sign) (text : List ℕ) → IsSign offer required champion k chosen sign → AreSpelled offer required champion ((k, chosen) ∷ nodes) text
      → IsSplit offer required champion sign k chosen nodes text
  split_node sign text is are =
      let same : sign_of are.0 ≡ sign =
      one_sign offer required champion k chosen (sign_of are.0) sign (sign_is offer required champion k chosen are.0 are.1) is in
      subst (λ s. IsSplit offer required champion s k chosen nodes text) same (split_tree are.0 text are.2.0 are.1 are.2.1 are.2.2)

  -- and the other way round
  pub join_node : (sign : Sign) (rest : List ℕ) → IsSign offer required champion k chosen sign
      → AreSpelled offer required champion (below sign k chosen ++ nodes) rest → AreSpelled offer required champion ((k, chosen) ∷ nodes) (symbol sign ++ rest)
  join_node Champion rest is are = (Wins, is, (rest, refl, are))
  join_node Shut rest is are = (Bars, is, (rest, refl, are))
  join_node (Pruned leaf) rest is are = (Cuts leaf, is, (rest, refl, are))
  join_node Forced rest is are = (Takes are.0, (is, are.1), (are.2.0, ap (λ t. 33 ∷ t) are.2.1, are.2.2))
  join_node Open rest is are =
      let with_it = are.0 in
      let later = are.2.2 in (
        Splits are.0 are.2.2.0,
        (is, are.1, are.2.2.1),
        (
          are.2.2.2.0,
          ap (λ t. 43 ∷ t) (are.2.1 ∙ ap (λ t. spelled are.0 ++ t) are.2.2.2.1 ∙ sym (append_assoc (spelled are.0) (spelled are.2.2.0) are.2.2.2.0)),
          are.2.2.2.2,
        ),
      )
  join_node Passed rest is are = (Passes are.0, (is, are.1), (are.2.0, ap (λ t. 45 ∷ t) are.2.1, are.2.2))

  -- a node without a sign has no tree
  pub no_sign : (sign : Sign) → HasNoSign offer required champion k chosen → IsSign offer required champion k chosen sign → ⊥
  no_sign Champion none is = none.unsettled.no_end is
  no_sign Shut none is = none.unsettled.not_shut is.1
  no_sign (Pruned leaf) none is = not_none offer required champion k chosen (bounds offer k chosen) leaf is.1 none.none_prunes
  no_sign Forced none is = absurd (omega (arith, is.0.left, none.all))
  no_sign Open none is = absurd (omega (arith, is.0.left, none.all))
  no_sign Passed none is = absurd (omega (arith, is.0.left, none.all))

  pub no_tree : (tree : Tree) → HasNoSign offer required champion k chosen → IsTree offer required champion k chosen tree → ⊥
  no_tree tree none is = no_sign (sign_of tree) none (sign_is offer required champion k chosen tree is)

module _ (offer : OfferData) (required : Option ℕ) (champion : List ℕ) where
  -- the walk goes on by one node
  pub comes_more : (signs : List Sign) (nodes : List (ℕ × List ℕ)) (text : List ℕ) (node : ℕ × List ℕ) (later : List (ℕ × List ℕ)) (rest : List ℕ) (sign : Sign)
      (after : List ℕ)
      → ComesTo offer required champion signs nodes text (node ∷ later) rest → IsSign offer required champion node.0 node.1 sign → Stands sign rest after
      → ComesTo offer required champion (signs ++ sign ∷ []) nodes text (below sign node.0 node.1 ++ later) after
  comes_more [] nodes text node later rest sign after come is stands =
      subst (λ ns. ComesTo offer required champion (sign ∷ []) ns text (below sign node.0 node.1 ++ later) after) (sym come.0)
      (subst (λ t. ComesTo offer required champion (sign ∷ []) (node ∷ later) t (below sign node.0 node.1 ++ later) after) (sym come.1)
      (is, (after, stands, (refl, refl))))
  comes_more (s ∷ signs) [] text node later rest sign after come is stands = absurd come
  comes_more (s ∷ signs) (n ∷ nodes) text node later rest sign after come is stands =
      (come.0, (come.1.0, come.1.1, comes_more signs (below s n.0 n.1 ++ nodes) come.1.0 node later rest sign after come.1.2 is stands))

  -- a whole walk reads the text of the trees
  pub walk_spells : (signs : List Sign) (nodes : List (ℕ × List ℕ)) (text : List ℕ) → ComesTo offer required champion signs nodes text [] []
      → AreSpelled offer required champion nodes text
  walk_spells [] nodes text come = subst (λ ns. AreSpelled offer required champion ns text) (sym come.0) come.1
  walk_spells (sign ∷ signs) [] text come = absurd come
  walk_spells (sign ∷ signs) (node ∷ nodes) text come =
      subst (AreSpelled offer required champion (node ∷ nodes)) (sym come.1.1.spelled)
      (join_node offer required champion node.0 node.1 nodes sign come.1.0 come.0 (walk_spells signs (below sign node.0 node.1 ++ nodes) come.1.0 come.1.2))

  -- and where the text is that of the trees, what is left is that of the trees of the nodes that are left
  pub walk_leaves : (signs : List Sign) (nodes : List (ℕ × List ℕ)) (text : List ℕ) (others : List (ℕ × List ℕ)) (rest : List ℕ)
      → ComesTo offer required champion signs nodes text others rest → AreSpelled offer required champion nodes text
      → AreSpelled offer required champion others rest
  walk_leaves [] nodes text others rest come are =
      subst (λ ns. AreSpelled offer required champion ns rest) come.0 (subst (AreSpelled offer required champion nodes) come.1 are)
  walk_leaves (sign ∷ signs) [] text others rest come are = absurd come
  walk_leaves (sign ∷ signs) (node ∷ nodes) text others rest come are =
      let split = split_node offer required champion node.0 node.1 nodes sign text come.0 are in
      let same : split.rest ≡ come.1.0 = cancel (symbol sign) split.rest come.1.0 (sym split.front ∙ come.1.1.spelled) in
      walk_leaves signs (below sign node.0 node.1 ++ nodes) come.1.0 others rest come.1.2
      (subst (AreSpelled offer required champion (below sign node.0 node.1 ++ nodes)) same split.are)

-- the text of one tree
pub text_spelled : (offer : OfferData) (required : Option ℕ) (champion text : List ℕ) → IsTreeText offer required champion text
    → AreSpelled offer required (places_of offer.menu champion) ((0, []) ∷ []) text
text_spelled offer required champion text is = (is.0, is.1, ([], is.2 ∙ sym (append-nil (spelled is.0)), refl))

pub spelled_text : (offer : OfferData) (required : Option ℕ) (champion text : List ℕ)
    → AreSpelled offer required (places_of offer.menu champion) ((0, []) ∷ []) text → IsTreeText offer required champion text
spelled_text offer required champion text are = (are.0, are.1, are.2.1 ∙ ap (λ r. spelled are.0 ++ r) are.2.2 ∙ append-nil (spelled are.0))
