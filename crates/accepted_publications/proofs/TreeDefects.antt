-- A text is the tree of a champion, or has a first defect.
use Rattle.std.proofs.Common.{ℕ, zero, suc, ◌≡◌, ◌≢◌, ◌<◌, ◌≤◌, ◌⊎◌, ◌++◌, List, [], ◌∷◌, length, refl, subst, inl, inr, arith}
use Rattle.std.specs.Prelude.{ℤ, None}
use Rattle.std.specs.List.{AllByRecursion}
use Rattle.std.proofs.lemmas.Bool.{cases_Bool, cases_lt}
use Rattle.bundle_bounds.specs.Bounds.{IsFirstPruning, NonePrunes, Prunes, bounds}
use Rattle.bundle_bounds.specs.Offers.{OfferData, places_of}
use Rattle.bundle_bounds.specs.Opens.{is_open}
use Rattle.bundle_bounds.specs.declared.nodes.Leaf.{Leaf}
use Rattle.proof_tree.specs.Defects.{IsDefect, IsLeaf, Reads, offset}
use Rattle.proof_tree.specs.Mismatches.{IsMismatch, IsUnsigned, offset_in}
use Rattle.proof_tree.specs.Texts.{IsTreeText, Stands}
use Rattle.proof_tree.specs.Trees.{GoesOn, HasNoSign, IsSign, IsUnsettled}
use Rattle.proof_tree.specs.Walks.{HasCome, below}
use Rattle.proof_tree.specs.declared.defects.TreeDefect.{TreeDefect}
use Rattle.proof_tree.specs.declared.defects.TreeDefect.TheVariants.{NotClosed, Redundant, Rest, Syntax, WrongBranch, WrongLeaf}
use Rattle.proof_tree.specs.declared.signs.Sign.{Sign}
use Rattle.proof_tree.specs.declared.signs.Sign.TheVariants.{Champion, Forced, Open, Passed, Pruned, Shut}
use Rattle.proof_tree.proofs.Following.{come_first, come_more, defect_signed, defect_unsigned, defect_where_ended, text_where_ended}
use Rattle.proof_tree.proofs.OneSymbol.{shorter}
use Rattle.accepted_publications.proofs.Cases.{by_cases}

leaf_or_not : (sign : Sign) → IsLeaf sign ⊎ (¬ IsLeaf sign)
leaf_or_not (Pruned leaf) = inl tt
leaf_or_not Champion = inr (λ leaf. leaf)
leaf_or_not Shut = inr (λ leaf. leaf)
leaf_or_not Forced = inr (λ leaf. leaf)
leaf_or_not Open = inr (λ leaf. leaf)
leaf_or_not Passed = inr (λ leaf. leaf)

-- where no bound is the first that prunes a node, none prunes it
none_first : (offer : OfferData) (k : ℕ) (chosen champion : List ℕ) (bs : List (Leaf × ℤ)) → ((leaf : Leaf) → ¬ IsFirstPruning offer k chosen champion bs leaf)
    → NonePrunes offer k chosen champion bs
none_first offer k chosen champion [] none = tt
none_first offer k chosen champion (b ∷ bs) none =
    let here : ¬ Prunes offer k chosen champion b.1 = λ prunes. none b.0 (inl (prunes, refl)) in
    (here, none_first offer k chosen champion bs (λ leaf first. none leaf (inr (here, first))))

-- a node within the menu that has no canonical sign has none because all is decided
no_sign : (offer : OfferData) (champion : List ℕ) (k : ℕ) (chosen : List ℕ) → k ≤ length offer.menu.places
    → ((sign : Sign) → ¬ IsSign offer None champion k chosen sign) → HasNoSign offer None champion k chosen
no_sign offer champion k chosen low none =
    let unsettled : IsUnsettled offer None champion k chosen = record { no_end = none Champion; not_shut = λ shut. absurd (cc shut.1) } in
    let unpruned : NonePrunes offer k chosen champion (bounds offer k chosen) =
    none_first offer k chosen champion (bounds offer k chosen) (λ leaf first. none (Pruned leaf) (unsettled, first)) in
    record {
      unsettled = unsettled;
      none_prunes = unpruned;
      all = elim (cases_lt k (length offer.menu.places)) [
        | inl less ↦
            let goes_on : GoesOn offer None champion k chosen = record { unsettled = unsettled; none_prunes = unpruned; left = less } in
            elim (cases_Bool (is_open offer chosen k)) [
              | inl open_ ↦ absurd (none Open (goes_on, (λ e. cc e), open_))
              | inr shut ↦ absurd (none Passed (goes_on, (λ e. cc e), shut))
            ]
        | inr more ↦ omega (arith, low, more)
      ];
    }

-- nodes within the menu
abbrev AreLow : OfferData → List (ℕ × List ℕ) → Type 0
AreLow offer nodes = AllByRecursion (λ (node : ℕ × List ℕ). node.0 ≤ length offer.menu.places) nodes

low_below : (offer : OfferData) (champion : List ℕ) (sign : Sign) (k : ℕ) (chosen : List ℕ) (nodes : List (ℕ × List ℕ))
    → IsSign offer None champion k chosen sign → AreLow offer nodes → AreLow offer (below sign k chosen ++ nodes)
low_below offer champion Champion k chosen nodes is low = low
low_below offer champion Shut k chosen nodes is low = low
low_below offer champion (Pruned leaf) k chosen nodes is low = low
low_below offer champion Forced k chosen nodes is low = (omega (arith, is.0.left), low)
low_below offer champion Open k chosen nodes is low = (omega (arith, is.0.left), (omega (arith, is.0.left), low))
low_below offer champion Passed k chosen nodes is low = (omega (arith, is.0.left), low)

module _ (offer : OfferData) (champion text : List ℕ) (proves : IsTreeText offer None champion text → ⊥)
    (wrong : (defect : TreeDefect) → IsDefect offer champion text defect → ⊥) where
  abbrev ch : List ℕ
  ch = places_of offer.menu champion

  -- the symbol of a node's sign does not stand first
  other_symbol : (node : ℕ × List ℕ) (nodes : List (ℕ × List ℕ)) (rest : List ℕ) (sign : Sign) → HasCome offer None champion text (node ∷ nodes) rest
      → IsSign offer None (places_of offer.menu champion) node.0 node.1 sign → ((later : List ℕ) → ¬ Stands sign rest later) → ⊥
  other_symbol node nodes rest sign come is stuck =
      let at : ℕ = offset text rest in
      by_cases {A = (read : Sign) × Reads rest read}
      (λ reads.
      let other : reads.0 ≢ sign = λ same. stuck reads.1.1.0 (subst (λ s. Stands s rest reads.1.1.0) same reads.1.1.1) in
      elim (leaf_or_not reads.0) [
        | inl leaf ↦ elim (leaf_or_not sign) [
          | inl also ↦ told (WrongLeaf (offset text rest)) (reads.0, reads.1, other, (leaf, also)) refl
          | inr none ↦ told (NotClosed (offset text rest)) (reads.0, reads.1, other, (leaf, none)) refl
        ]
        | inr none ↦ elim (leaf_or_not sign) [
          | inl leaf ↦ told (Redundant (offset text rest)) (reads.0, reads.1, other, (none, leaf)) refl
          | inr also ↦ told (WrongBranch (offset text rest)) (reads.0, reads.1, other, (none, also)) refl
        ]
      ])
      (λ none. told (Syntax (offset text rest)) (λ read reads. none (read, reads)) refl)
    where
      told : (defect : TreeDefect) → IsMismatch sign rest defect → offset_in defect ≡ offset text rest → ⊥
      told defect is_wrong same =
          wrong defect
          (defect_signed offer champion text (node ∷ nodes) rest come defect sign (below sign node.0 node.1 ++ nodes) (node, (nodes, refl, is, refl)) is_wrong
          same)

  -- a node has no sign
  unsigned : (node : ℕ × List ℕ) (nodes : List (ℕ × List ℕ)) (rest : List ℕ) → HasCome offer None champion text (node ∷ nodes) rest
      → HasNoSign offer None (places_of offer.menu champion) node.0 node.1 → ⊥
  unsigned node nodes rest come none =
      by_cases {A = (read : Sign) × Reads rest read} (λ reads. told (NotClosed (offset text rest)) reads refl)
      (λ unread. told (Syntax (offset text rest)) (λ read reads. unread (read, reads)) refl)
    where
      told : (defect : TreeDefect) → IsUnsigned rest defect → offset_in defect ≡ offset text rest → ⊥
      told defect is_wrong same =
          wrong defect (defect_unsigned offer champion text (node ∷ nodes) rest come defect nodes (node, (nodes, refl, none)) is_wrong same)

  walk : (fuel : ℕ) (nodes : List (ℕ × List ℕ)) (rest : List ℕ) → length rest < fuel → AreLow offer nodes → HasCome offer None champion text nodes rest → ⊥
  walk zero nodes rest small low come = absurd (omega (arith, small))
  walk (suc fuel) [] [] small low come = proves (text_where_ended offer None champion text [] [] come refl refl)
  walk (suc fuel) [] (byte ∷ rest) small low come =
      wrong (Rest (offset text (byte ∷ rest)))
      (defect_where_ended offer champion text [] (byte ∷ rest) come (offset text (byte ∷ rest)) refl (λ e. cc e) refl)
  walk (suc fuel) (node ∷ nodes) rest small low come =
      by_cases {A = (sign : Sign) × IsSign offer None (places_of offer.menu champion) node.0 node.1 sign}
      (λ signed. by_cases {A = (later : List ℕ) × Stands signed.0 rest later}
      (λ stands. walk fuel (below signed.0 node.0 node.1 ++ nodes) stands.0 (omega (arith, small, shorter signed.0 rest stands.0 stands.1.spelled))
      (low_below offer (places_of offer.menu champion) signed.0 node.0 node.1 nodes signed.1 low.1)
      (come_more offer None champion text (node ∷ nodes) rest come signed.0 (below signed.0 node.0 node.1 ++ nodes) stands.0
      (node, (nodes, refl, signed.1, refl)) stands.1))
      (λ stuck. other_symbol node nodes rest signed.0 come signed.1 (λ later stands. stuck (later, stands))))
      (λ none. unsigned node nodes rest come
      (no_sign offer (places_of offer.menu champion) node.0 node.1 low.0 (λ sign is. none (sign, is))))

  pub tree_or_defect : ⊥
  tree_or_defect = walk (suc (length text)) ((0, []) ∷ []) text (omega arith) (omega arith, tt) (come_first offer None champion text)
