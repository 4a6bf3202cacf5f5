-- The walk of a tree with a text finds one defect at most.
use Rattle.std.proofs.Common.{ℕ, ◌≡◌, ◌≢◌, ◌<◌, ◌⊎◌, ◌∙◌, ◌++◌, Option, None, List, [], ◌∷◌, refl, ap, sym, subst, arith, inl, inr}
use Rattle.std.proofs.lemmas.Bool.{cases_lt}
use Rattle.bundle_bounds.specs.Offers.{OfferData, places_of}
use Rattle.proof_tree.specs.declared.signs.Sign.{Sign}
use Rattle.proof_tree.specs.declared.defects.TreeDefect.{TreeDefect}
use Rattle.proof_tree.specs.declared.defects.TreeDefect.TheVariants.{Syntax, NotClosed, Redundant, WrongLeaf, WrongBranch, Rest}
use Rattle.proof_tree.specs.Defects.{Differs, IsDefect, IsLeaf, Reads, offset}
use Rattle.proof_tree.specs.Mismatches.{offset_in}
use Rattle.proof_tree.specs.Texts.{Stands, symbol}
use Rattle.proof_tree.specs.Trees.{HasNoSign, IsSign}
use Rattle.proof_tree.specs.Walks.{ComesTo, HasCome, below}
use Rattle.proof_tree.proofs.OneSymbol.{one_symbol}
use Rattle.proof_tree.proofs.Spelling.{cancel, no_sign}
use Rattle.proof_tree.proofs.Uniqueness.{one_sign}
use Rattle.proof_tree.proofs.NoDefects.{canonical_sign}

module _ (offer : OfferData) (required : Option ℕ) (champion : List ℕ) where
  -- the symbol of the next node's canonical sign stands first
  abbrev CanGoOn : List (ℕ × List ℕ) → List ℕ → Type 0
  CanGoOn [] rest = ⊥
  CanGoOn (node ∷ nodes) rest = (sign : Sign) × IsSign offer required champion node.0 node.1 sign × ((later : List ℕ) × Stands sign rest later)

  -- two walks with one text have come to one place, or one of them can go on
  two_walks : (signs others : List Sign) (nodes : List (ℕ × List ℕ)) (text : List ℕ) (here there : List (ℕ × List ℕ)) (rest left : List ℕ)
      → ComesTo offer required champion signs nodes text here rest → ComesTo offer required champion others nodes text there left
      → ((here ≡ there) × (rest ≡ left)) ⊎ (CanGoOn here rest ⊎ CanGoOn there left)
  two_walks [] [] nodes text here there rest left one other = inl (sym one.0 ∙ other.0, sym one.1 ∙ other.1)
  two_walks [] (sign ∷ others) [] text here there rest left one other = absurd other
  two_walks [] (sign ∷ others) (node ∷ nodes) text here there rest left one other =
      inr (inl (subst (λ ns. CanGoOn ns rest) one.0 (subst (CanGoOn (node ∷ nodes)) one.1 (sign, other.0, (other.1.0, other.1.1)))))
  two_walks (sign ∷ signs) [] [] text here there rest left one other = absurd one
  two_walks (sign ∷ signs) [] (node ∷ nodes) text here there rest left one other =
      inr (inr (subst (λ ns. CanGoOn ns left) other.0 (subst (CanGoOn (node ∷ nodes)) other.1 (sign, one.0, (one.1.0, one.1.1)))))
  two_walks (sign ∷ signs) (also ∷ others) [] text here there rest left one other = absurd one
  two_walks (sign ∷ signs) (also ∷ others) (node ∷ nodes) text here there rest left one other =
      let same : sign ≡ also = one_sign offer required champion node.0 node.1 sign also one.0 other.0 in
      let behind : one.1.0 ≡ other.1.0 =
      cancel (symbol also) one.1.0 other.1.0 (ap (λ s. symbol s ++ one.1.0) (sym same) ∙ sym one.1.1.spelled ∙ other.1.1.spelled) in
      two_walks signs others (below also node.0 node.1 ++ nodes) other.1.0 here there rest left
      (subst (λ t. ComesTo offer required champion signs (below also node.0 node.1 ++ nodes) t here rest) behind
      (subst (λ s. ComesTo offer required champion signs (below s node.0 node.1 ++ nodes) one.1.0 here rest) same one.1.2))
      other.1.2

-- the kinds of defects, by number
abbrev kind : TreeDefect → ℕ
kind (Syntax at) = 0
kind (NotClosed at) = 1
kind (Redundant at) = 2
kind (WrongLeaf at) = 3
kind (WrongBranch at) = 4
kind (Rest at) = 5

-- defects of one kind that tell one offset are one
one_kind : (one other : TreeDefect) → kind one ≡ kind other → offset_in one ≡ offset_in other → one ≡ other
one_kind (Syntax at) (Syntax place) same e = ap (λ n. Syntax n) e
one_kind (NotClosed at) (NotClosed place) same e = ap (λ n. NotClosed n) e
one_kind (Redundant at) (Redundant place) same e = ap (λ n. Redundant n) e
one_kind (WrongLeaf at) (WrongLeaf place) same e = ap (λ n. WrongLeaf n) e
one_kind (WrongBranch at) (WrongBranch place) same e = ap (λ n. WrongBranch n) e
one_kind (Rest at) (Rest place) same e = ap (λ n. Rest n) e
one_kind one other same e = absurd (omega (arith, same))

module _ (offer : OfferData) (champion : List ℕ) where
  -- what is wrong at a node
  abbrev Fault : TreeDefect → ℕ → List ℕ → List ℕ → Type 0
  Fault (Syntax at) k chosen rest = (read : Sign) → ¬ Reads rest read
  Fault (NotClosed at) k chosen rest =
      (((read : Sign) × Reads rest read) × HasNoSign offer None (places_of offer.menu champion) k chosen)
      ⊎ Differs offer champion (λ read canonical. IsLeaf read × (¬ IsLeaf canonical)) k chosen rest
  Fault (Redundant at) k chosen rest = Differs offer champion (λ read canonical. (¬ IsLeaf read) × IsLeaf canonical) k chosen rest
  Fault (WrongLeaf at) k chosen rest = Differs offer champion (λ read canonical. IsLeaf read × IsLeaf canonical) k chosen rest
  Fault (WrongBranch at) k chosen rest = Differs offer champion (λ read canonical. (¬ IsLeaf read) × (¬ IsLeaf canonical)) k chosen rest
  Fault (Rest at) k chosen rest = ⊥

  -- or where no node is left
  abbrev Ended : TreeDefect → List ℕ → Type 0
  Ended (Rest at) rest = rest ≢ []
  Ended defect rest = ⊥

  abbrev FaultAt : TreeDefect → List (ℕ × List ℕ) → List ℕ → Type 0
  FaultAt defect [] rest = Ended defect rest
  FaultAt defect (node ∷ nodes) rest = Fault defect node.0 node.1 rest

  -- where another symbol stands than that of the canonical sign, the walk can't go on
  differs_stuck : (are : Sign → Sign → Type 0) (k : ℕ) (chosen rest : List ℕ) (nodes : List (ℕ × List ℕ)) → Differs offer champion are k chosen rest
      → ¬ CanGoOn offer None (places_of offer.menu champion) ((k, chosen) ∷ nodes) rest
  differs_stuck are k chosen rest nodes differs goes =
      let same : goes.0 ≡ differs.2.0 = one_sign offer None (places_of offer.menu champion) k chosen goes.0 differs.2.0 goes.1 differs.2.1 in
      let read : differs.0 ≡ goes.0 = one_symbol differs.0 goes.0 rest differs.1.1.0 goes.2.0 differs.1.1.1 goes.2.1 in
      differs.2.2 (read ∙ same)

  -- nor where a defect is
  stuck : (defect : TreeDefect) (nodes : List (ℕ × List ℕ)) (rest : List ℕ) → FaultAt defect nodes rest
      → ¬ CanGoOn offer None (places_of offer.menu champion) nodes rest
  stuck defect [] rest wrong goes = goes
  stuck (Syntax at) ((k, chosen) ∷ nodes) rest wrong goes = wrong goes.0 (canonical_sign offer (places_of offer.menu champion) k chosen goes.0 goes.1, goes.2)
  stuck (NotClosed at) ((k, chosen) ∷ nodes) rest (inl without) goes = no_sign offer None (places_of offer.menu champion) k chosen nodes goes.0 without.1 goes.1
  stuck (NotClosed at) ((k, chosen) ∷ nodes) rest (inr other) goes = differs_stuck _ k chosen rest nodes other goes
  stuck (Redundant at) ((k, chosen) ∷ nodes) rest wrong goes = differs_stuck _ k chosen rest nodes wrong goes
  stuck (WrongLeaf at) ((k, chosen) ∷ nodes) rest wrong goes = differs_stuck _ k chosen rest nodes wrong goes
  stuck (WrongBranch at) ((k, chosen) ∷ nodes) rest wrong goes = differs_stuck _ k chosen rest nodes wrong goes
  stuck (Rest at) ((k, chosen) ∷ nodes) rest wrong goes = wrong

  -- at one node one symbol is read, and one sign is canonical
  both : (are also : Sign → Sign → Type 0) (k : ℕ) (chosen rest : List ℕ) → Differs offer champion are k chosen rest → Differs offer champion also k chosen rest
      → (read : Sign) × ((canonical : Sign) × are read canonical × also read canonical)
  both are also k chosen rest one other =
      let read : other.0 ≡ one.0 = one_symbol other.0 one.0 rest other.1.1.0 one.1.1.0 other.1.1.1 one.1.1.1 in
      let canonical : other.2.0 ≡ one.2.0 = one_sign offer None (places_of offer.menu champion) k chosen other.2.0 one.2.0 other.2.1 one.2.1 in
      (one.0, (one.2.0, one.2.3, subst (λ s. also one.0 s) canonical (subst (λ s. also s other.2.0) read other.2.3)))

  -- at one node two defects are of one kind
  not_two : (one other : TreeDefect) (k : ℕ) (chosen rest : List ℕ) → kind one < kind other → Fault one k chosen rest → ¬ Fault other k chosen rest
  not_two (Syntax at) (NotClosed place) k chosen rest less none (inl without) = none without.0.0 without.0.1
  not_two (Syntax at) (NotClosed place) k chosen rest less none (inr other) = none other.0 other.1
  not_two (Syntax at) (Redundant place) k chosen rest less none other = none other.0 other.1
  not_two (Syntax at) (WrongLeaf place) k chosen rest less none other = none other.0 other.1
  not_two (Syntax at) (WrongBranch place) k chosen rest less none other = none other.0 other.1
  not_two (NotClosed at) (Redundant place) k chosen rest less (inl without) other =
      no_sign offer None (places_of offer.menu champion) k chosen [] other.2.0 without.1 other.2.1
  not_two (NotClosed at) (WrongLeaf place) k chosen rest less (inl without) other =
      no_sign offer None (places_of offer.menu champion) k chosen [] other.2.0 without.1 other.2.1
  not_two (NotClosed at) (WrongBranch place) k chosen rest less (inl without) other =
      no_sign offer None (places_of offer.menu champion) k chosen [] other.2.0 without.1 other.2.1
  not_two (NotClosed at) (Redundant place) k chosen rest less (inr one) other = let they = both _ _ k chosen rest one other in they.1.2.0 they.1.1.0
  not_two (NotClosed at) (WrongLeaf place) k chosen rest less (inr one) other = let they = both _ _ k chosen rest one other in they.1.1.1 they.1.2.1
  not_two (NotClosed at) (WrongBranch place) k chosen rest less (inr one) other = let they = both _ _ k chosen rest one other in they.1.2.0 they.1.1.0
  not_two (Redundant at) (WrongLeaf place) k chosen rest less one other = let they = both _ _ k chosen rest one other in they.1.1.0 they.1.2.0
  not_two (Redundant at) (WrongBranch place) k chosen rest less one other = let they = both _ _ k chosen rest one other in they.1.2.1 they.1.1.1
  not_two (WrongLeaf at) (WrongBranch place) k chosen rest less one other = let they = both _ _ k chosen rest one other in they.1.2.0 they.1.1.0
  not_two one (Rest place) k chosen rest less wrong other = other
  not_two one other k chosen rest less wrong also = absurd (omega (arith, less))

  ended : (defect : TreeDefect) (rest : List ℕ) → Ended defect rest → kind defect ≡ 5
  ended (Rest at) rest wrong = refl
  ended defect rest wrong = absurd wrong

  same_kind : (one other : TreeDefect) (nodes : List (ℕ × List ℕ)) (rest : List ℕ) → FaultAt one nodes rest → FaultAt other nodes rest → kind one ≡ kind other
  same_kind one other [] rest wrong also = ended one rest wrong ∙ sym (ended other rest also)
  same_kind one other (node ∷ nodes) rest wrong also = elim (cases_lt (kind one) (kind other)) [
    | inl less ↦ absurd (not_two one other node.0 node.1 rest less wrong also)
    | inr more ↦ elim (cases_lt (kind other) (kind one)) [
      | inl less ↦ absurd (not_two other one node.0 node.1 rest less also wrong)
      | inr less ↦ (let e : kind one ≡ kind other = omega (arith, more, less) in e)
    ]
  ]

-- the place of a defect on the walk
record HasPlace (offer : OfferData) (champion text : List ℕ) (defect : TreeDefect) : Type 0 where
  nodes : List (ℕ × List ℕ)
  rest : List ℕ
  come : HasCome offer None champion text nodes rest
  told : offset_in defect ≡ offset text rest
  wrong : FaultAt offer champion defect nodes rest

has_place : (offer : OfferData) (champion text : List ℕ) (defect : TreeDefect) → IsDefect offer champion text defect → HasPlace offer champion text defect
has_place offer champion text (Syntax at) is =
    record { nodes = (is.0, is.1.0) ∷ is.1.1.0; rest = is.1.1.1.0; come = is.1.1.1.1; told = is.1.1.1.2; wrong = is.1.1.1.3 }
has_place offer champion text (NotClosed at) is =
    record { nodes = (is.0, is.1.0) ∷ is.1.1.0; rest = is.1.1.1.0; come = is.1.1.1.1; told = is.1.1.1.2; wrong = is.1.1.1.3 }
has_place offer champion text (Redundant at) is =
    record { nodes = (is.0, is.1.0) ∷ is.1.1.0; rest = is.1.1.1.0; come = is.1.1.1.1; told = is.1.1.1.2; wrong = is.1.1.1.3 }
has_place offer champion text (WrongLeaf at) is =
    record { nodes = (is.0, is.1.0) ∷ is.1.1.0; rest = is.1.1.1.0; come = is.1.1.1.1; told = is.1.1.1.2; wrong = is.1.1.1.3 }
has_place offer champion text (WrongBranch at) is =
    record { nodes = (is.0, is.1.0) ∷ is.1.1.0; rest = is.1.1.1.0; come = is.1.1.1.1; told = is.1.1.1.2; wrong = is.1.1.1.3 }
has_place offer champion text (Rest at) is = record { nodes = []; rest = is.0; come = is.1; told = is.3; wrong = is.2 }

pub one_defect : (offer : OfferData) (champion text : List ℕ) (one other : TreeDefect) → IsDefect offer champion text one → IsDefect offer champion text other
    → one ≡ other
one_defect offer champion text one other is so =
    let here = has_place offer champion text one is in
    let there = has_place offer champion text other so in
    elim (two_walks offer None (places_of offer.menu champion) here.come.0 there.come.0 ((0, []) ∷ []) text here.nodes there.nodes here.rest there.rest here.come.1 there.come.1) [
      | inl same ↦
          let also : FaultAt offer champion other here.nodes here.rest =
          subst (λ ns. FaultAt offer champion other ns here.rest) (sym same.0) (subst (FaultAt offer champion other there.nodes) (sym same.1) there.wrong) in
          one_kind one other (same_kind offer champion one other here.nodes here.rest here.wrong also) (here.told ∙ ap (offset text) same.1 ∙ sym there.told)
      | inr goes ↦ elim goes [
        | inl first ↦ absurd (stuck offer champion one here.nodes here.rest here.wrong first)
        | inr second ↦ absurd (stuck offer champion other there.nodes there.rest there.wrong second)
      ]
    ]
