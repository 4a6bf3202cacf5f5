-- A tree that is being written, symbol after symbol.
use Rattle.std.proofs.Common.{◌≡◌, ◌<◌, ◌≤◌, ◌+◌, ◌-◌, ◌++◌, ℕ, zero, suc, Option, None, Some, List, [], ◌∷◌, length, drop, length-append, append_assoc, refl, sym, ◌∙◌, ap, subst, arith}
use Rattle.std.proofs.lemmas.List.{append-nil, drop-drop}
use Rattle.std.specs.Prelude.{IfNone}
use Rattle.bundle_bounds.specs.Offers.{OfferData, places_of}
use Rattle.proof_tree.specs.declared.signs.Sign.{Sign}
use Rattle.proof_tree.specs.declared.signs.Sign.TheVariants.{Champion, Shut, Pruned, Forced, Open, Passed}
use Rattle.proof_tree.specs.declared.walk.Step.TheVariants.{Signed, Unsigned}
use Rattle.proof_tree.specs.Trees.{Tree, IsSign, IsTree}
use Rattle.proof_tree.specs.Texts.{symbol, spelled, IsTreeText}
use Rattle.proof_tree.specs.Walks.{below}
use Rattle.bundle_bounds.specs.Below.{nodes_below}
use Rattle.proof_tree.specs.Steps.{IsStep, nodes_left}
use Rattle.proof_tree.specs.Laws.{HasTree}
use Rattle.proof_tree.proofs.Uniqueness.{same_tree}
use Rattle.proof_tree.proofs.Spelling.{AreSpelled, split_node, no_tree, text_spelled}

pub if_none_any : {X : Type 0} (r : Option X) (Q : Type 0) → Q → IfNone r Q
if_none_any None Q q = q
if_none_any (Some x) Q q = tt

-- what is equal behind a place is equal behind a later one
pub drop_later : (xs ys : List ℕ) (m n : ℕ) → m ≤ n → drop m xs ≡ drop m ys → drop n xs ≡ drop n ys
drop_later xs ys m n low same =
    let more : n ≡ m + (n - m) = omega arith in
    ap (λ k. drop k xs) more ∙ sym (drop-drop (n - m) m xs) ∙ ap (drop (n - m)) same ∙ drop-drop (n - m) m ys ∙ ap (λ k. drop k ys) (sym more)

-- the champion's tree is what is written, and then the trees of the nodes that are left
pub record IsWritten (offer : OfferData) (required : Option ℕ) (champion written : List ℕ) (nodes : List (ℕ × List ℕ)) : Type 0 where
  pub tree : Tree
  pub is : IsTree offer required (places_of offer.menu champion) 0 [] tree
  pub left : List ℕ
  pub are : AreSpelled offer required (places_of offer.menu champion) nodes left
  pub whole : spelled tree ≡ written ++ left

module _ (offer : OfferData) (required : Option ℕ) (champion : List ℕ) where
  pub nothing_written : HasTree offer required champion → IsWritten offer required champion [] ((0, []) ∷ [])
  nothing_written has = record {
    tree = has.0;
    is = has.1;
    left = spelled has.0;
    are = text_spelled offer required champion (spelled has.0) (has.0, has.1, refl);
    whole = refl;
  }

  module _ (written : List ℕ) (nodes : List (ℕ × List ℕ)) (so_far : IsWritten offer required champion written nodes) where
    -- one more symbol is written
    pub written_more : (sign : Sign) (others : List (ℕ × List ℕ)) → IsStep offer required (places_of offer.menu champion) nodes (Signed sign) others
        → IsWritten offer required champion (written ++ symbol sign) others
    written_more sign others step =
        let here = subst (λ ns. AreSpelled offer required (places_of offer.menu champion) ns so_far.left) step.1.1 so_far.are in
        let split = split_node offer required (places_of offer.menu champion) step.0.0 step.0.1 step.1.0 sign so_far.left step.1.2 here in
        record {
          tree = so_far.tree;
          is = so_far.is;
          left = split.rest;
          are = subst (λ ns. AreSpelled offer required (places_of offer.menu champion) ns split.rest) (sym step.1.3) split.are;
          whole = so_far.whole ∙ ap (λ t. written ++ t) split.front ∙ sym (append_assoc written (symbol sign) split.rest);
        }

    -- where no node is left the tree is whole
    pub written_whole : nodes ≡ [] → IsTreeText offer required champion written
    written_whole ended =
        let none : so_far.left ≡ [] = subst (λ ns. AreSpelled offer required (places_of offer.menu champion) ns so_far.left) ended so_far.are in
        (so_far.tree, so_far.is, sym (append-nil written) ∙ ap (λ t. written ++ t) (sym none) ∙ sym so_far.whole)

    -- and no node is without a sign
    pub never_unsigned : (others : List (ℕ × List ℕ)) → IsStep offer required (places_of offer.menu champion) nodes Unsigned others → ⊥
    never_unsigned others step =
        let here = subst (λ ns. AreSpelled offer required (places_of offer.menu champion) ns so_far.left) step.1.1 so_far.are in
        no_tree offer required (places_of offer.menu champion) step.0.0 step.0.1 step.1.0 here.0 step.1.2 here.1

    -- what does not fit is longer
    pub longer : (sign : Sign) (others : List (ℕ × List ℕ)) → IsStep offer required (places_of offer.menu champion) nodes (Signed sign) others → (text : List ℕ)
        → IsTreeText offer required champion text → length written + length (symbol sign) ≤ length text
    longer sign others step text is =
        let more = written_more sign others step in
        let one : more.tree ≡ is.0 = same_tree offer required (places_of offer.menu champion) more.tree is.0 0 [] more.is is.1 in
        let whole : text ≡ (written ++ symbol sign) ++ more.left = is.2 ∙ ap spelled (sym one) ∙ more.whole in
        let size : length text ≡ length ((written ++ symbol sign) ++ more.left) = ap length whole in
        let split : length ((written ++ symbol sign) ++ more.left) ≡ length (written ++ symbol sign) + length more.left =
        length-append (written ++ symbol sign) more.left in
        let split' : length (written ++ symbol sign) ≡ length written + length (symbol sign) = length-append written (symbol sign) in
        omega arith

left_less : (k n : ℕ) → k < n → n - k ≡ suc (n - (k + 1))
left_less k n low = omega arith

one_at_least : (n : ℕ) → 0 < nodes_below n
one_at_least zero = omega arith
one_at_least (suc n) = omega arith

-- a step leaves fewer nodes
pub fewer_below : (offer : OfferData) (required : Option ℕ) (ch : List ℕ) (k : ℕ) (cs : List ℕ) (sign : Sign) (later : List (ℕ × List ℕ))
    → IsSign offer required ch k cs sign → nodes_left offer (below sign k cs ++ later) < nodes_left offer ((k, cs) ∷ later)
fewer_below offer required ch k cs Champion later is =
    let some : 0 < nodes_below (length offer.menu.places - k) = one_at_least (length offer.menu.places - k) in omega arith
fewer_below offer required ch k cs Shut later is =
    let some : 0 < nodes_below (length offer.menu.places - k) = one_at_least (length offer.menu.places - k) in omega arith
fewer_below offer required ch k cs (Pruned leaf) later is =
    let some : 0 < nodes_below (length offer.menu.places - k) = one_at_least (length offer.menu.places - k) in omega arith
fewer_below offer required ch k cs Forced later is = rw (left_less k (length offer.menu.places) is.0.left) (omega arith)
fewer_below offer required ch k cs Open later is = rw (left_less k (length offer.menu.places) is.0.left) (omega arith)
fewer_below offer required ch k cs Passed later is = rw (left_less k (length offer.menu.places) is.0.left) (omega arith)

pub fewer : (offer : OfferData) (required : Option ℕ) (ch : List ℕ) (nodes others : List (ℕ × List ℕ)) (sign : Sign)
    → IsStep offer required ch nodes (Signed sign) others → nodes_left offer others < nodes_left offer nodes
fewer offer required ch nodes others sign step = rw (step.1.3, step.1.1) (fewer_below offer required ch step.0.0 step.0.1 sign step.1.0 step.1.2)
