-- The text of a canonical tree has bytes of its alphabet alone.
use Rattle.std.proofs.Common.{◌≡◌, ◌<◌, ◌≤◌, ◌+◌, ◌++◌, ◌^◌, ℕ, true, None, List, [], ◌∷◌, length, get_or, refl, sym, subst, arith, length-append}
use Rattle.std.specs.Prelude.{All, IsTrue}
use Rattle.std.specs.Fmt.{decimal}
use Rattle.std.specs.Char.{is_ascii_digit}
use Rattle.std.proofs.lemmas.Bool.Decides.{nat_tests}
use Rattle.std.proofs.lemmas.Fmt.{decimal_is_IsNumeral}
use Rattle.std.proofs.lemmas.List.{get_or_default}
use Rattle.std.proofs.lemmas.List.Elements.{All-append, All-cons, All-nil}
use Rattle.std.proofs.lemmas.Str.Parse.{digit_at}
use Rattle.bundle_rules.specs.Menus.{IsMenu}
use Rattle.bundle_bounds.specs.declared.nodes.Leaf.{Leaf}
use Rattle.bundle_bounds.specs.declared.nodes.Leaf.TheVariants.{Plain, Budget, Credits, Number}
use Rattle.bundle_bounds.specs.Offers.{OfferData, places_of}
use Rattle.proof_tree.specs.declared.signs.Sign.TheVariants.{Pruned}
use Rattle.proof_tree.specs.Trees.{Tree, Wins, Bars, Cuts, Takes, Splits, Passes, IsTree}
use Rattle.proof_tree.specs.Texts.{IsShort, spelled, symbol}
use Rattle.proof_tree.specs.Alphabets.{AreTreeBytes, TreesHaveTreeBytes, is_tree_byte}
use Rattle.proof_tree.proofs.LowLeaves.{short_sign}

digit_is : (byte : ℕ) → 48 ≤ byte → byte ≤ 57 → IsTrue (is_tree_byte byte)
digit_is byte low high =
    let is : is_ascii_digit byte ≡ true = grind (arith, nat_tests) in
    rw is refl

one_byte : (byte : ℕ) → IsTrue (is_tree_byte byte) → AreTreeBytes (byte ∷ [])
one_byte byte is = record {
  some = omega arith;
  each = All-cons (λ b. IsTrue (is_tree_byte b)) byte [] is (All-nil (λ b. IsTrue (is_tree_byte b)));
}

behind : (a b : List ℕ) → AreTreeBytes a → All (λ byte. IsTrue (is_tree_byte byte)) b → AreTreeBytes (a ++ b)
behind a b is are = record {
  some = let size : length (a ++ b) ≡ length a + length b = length-append a b in let some = is.some in omega arith;
  each = All-append (λ byte. IsTrue (is_tree_byte byte)) a b is.each are;
}

number_bytes : (place : ℕ) → place < 100 → All (λ byte. IsTrue (is_tree_byte byte)) (decimal place)
number_bytes place low k d inside =
    let small : place < 2 ^ 64 = omega arith in
    let digit = digit_at (decimal place) k (decimal_is_IsNumeral place small).0.1 inside in
    subst (λ b. IsTrue (is_tree_byte b)) (sym (get_or_default (decimal place) k d 0 inside)) (digit_is (get_or (decimal place) k 0) digit.0 digit.1)

leaf_bytes : (leaf : Leaf) → IsShort (Pruned leaf) → AreTreeBytes (symbol (Pruned leaf))
leaf_bytes Plain short = one_byte 110 refl
leaf_bytes (Budget place) short = behind (98 ∷ []) (decimal place) (one_byte 98 refl) (number_bytes place (short place refl))
leaf_bytes (Credits place) short = behind (99 ∷ []) (decimal place) (one_byte 99 refl) (number_bytes place (short place refl))
leaf_bytes (Number place) short = behind (109 ∷ []) (decimal place) (one_byte 109 refl) (number_bytes place (short place refl))

module _ (offer : OfferData) (menu : IsMenu offer.menu) (champion : List ℕ) where
  tree_bytes : (tree : Tree) (k : ℕ) (chosen : List ℕ) → k ≤ length offer.menu.places → IsTree offer None champion k chosen tree → AreTreeBytes (spelled tree)
  tree_bytes Wins k chosen within is = one_byte 42 refl
  tree_bytes Bars k chosen within is = absurd (cc is.1.1)
  tree_bytes (Cuts leaf) k chosen within is = leaf_bytes leaf (short_sign offer None champion k chosen (Pruned leaf) menu within is)
  tree_bytes (Takes with_it) k chosen within is = absurd (cc is.0.1)
  tree_bytes (Splits with_it without) k chosen within is =
      let next : k + 1 ≤ length offer.menu.places = let left = is.0.0.left in omega arith in
      let first = tree_bytes with_it (k + 1) (chosen ++ k ∷ []) next is.1 in
      let second = tree_bytes without (k + 1) chosen next is.2 in
      behind (43 ∷ []) (spelled with_it ++ spelled without) (one_byte 43 refl) (behind (spelled with_it) (spelled without) first second.each).each
  tree_bytes (Passes without) k chosen within is =
      let next : k + 1 ≤ length offer.menu.places = let left = is.0.0.left in omega arith in
      behind (45 ∷ []) (spelled without) (one_byte 45 refl) (tree_bytes without (k + 1) chosen next is.1).each

pub trees_have_tree_bytes : TreesHaveTreeBytes
trees_have_tree_bytes offer champion text menu is =
    subst AreTreeBytes (sym is.2)
    (tree_bytes offer menu (places_of offer.menu champion) is.0 0 [] (let low : 0 ≤ length offer.menu.places = omega arith in low) is.1)
