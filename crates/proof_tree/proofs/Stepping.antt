-- What waits after a step of the walk.
use Rattle.std.proofs.Common.{◌≡◌, ◌<◌, ◌≤◌, ◌+◌, ◌-◌, ◌++◌, min, ℕ, suc, true, Option, List, [], ◌∷◌, length, reverse, take, get_or, length-append, sym, ◌∙◌, ap, inl, inr, arith}
use Rattle.std.proofs.lemmas.Bool.{cases_Bool}
use Rattle.std.proofs.lemmas.List.{take_more, reverse-append, length-reverse, length-take}
use Rattle.bundle_rules.specs.Bundles.{sections_of}
use Rattle.bundle_rules.specs.Menus.{IsMenu, section_at}
use Rattle.bundle_bounds.specs.declared.nodes.Node.{Node}
use Rattle.bundle_bounds.specs.Offers.{OfferData, places_of}
use Rattle.bundle_bounds.specs.Opens.{is_open}
use Rattle.bundle_bounds.proofs.Openings.{open_facts, takable_where_open, node_with, node_without, node_same}
use Rattle.proof_tree.specs.declared.signs.Sign.TheVariants.{Forced}
use Rattle.proof_tree.specs.Trees.{IsSign}
use Rattle.proof_tree.specs.Steps.{spot, MayWait}
use Rattle.proof_tree.proofs.Nodes.{places_with}

-- of nine places no more are counted than wait, where fewer wait
pub count_within : (nodes : List Node) (n few : ℕ) → length nodes ≡ 9 → length (reverse (take n nodes)) ≤ few → few < 9 → n ≤ few
count_within nodes n few whole waits low =
    let size : length (reverse (take n nodes)) ≡ min n (length nodes) = length-reverse (take n nodes) ∙ length-take n nodes in
    omega arith

-- so there is room for two more where fewer than 8 sections are chosen
pub room_for_two : (nodes old : List Node) (n : ℕ) (next : Node) (chosen : ℕ) → length nodes ≡ 9 → reverse (take n nodes) ≡ next ∷ old → length old ≤ chosen
    → chosen < 8 → n ≤ 8
room_for_two nodes old n next chosen whole is waits room =
    let one_more : length (reverse (take n nodes)) ≡ suc (length old) = ap length is in count_within nodes n 8 whole (omega arith) (omega arith)

-- the last of the counted ones is the next
pub next_of : (nodes : List Node) (n : ℕ) (d : Node) → n < length nodes → reverse (take (n + 1) nodes) ≡ get_or nodes n d ∷ reverse (take n nodes)
next_of nodes n d low = ap reverse (take_more nodes n d low) ∙ reverse-append (take n nodes) (get_or nodes n d ∷ [])

pub next_waits : (nodes : List Node) (n : ℕ) (node : Node) → 0 < n → n ≤ length nodes → node ≡ get_or nodes (n - 1) node
    → reverse (take n nodes) ≡ node ∷ reverse (take (n - 1) nodes)
next_waits nodes n node some low is =
    let one_less : n ≡ (n - 1) + 1 = omega arith in
    ap (λ m. reverse (take m nodes)) one_less ∙ next_of nodes (n - 1) node (omega arith) ∙ ap (λ x. x ∷ reverse (take (n - 1) nodes)) (sym is)

module _ (offer : OfferData) (required : Option ℕ) (champion : List ℕ) (k : ℕ) (cs : List ℕ) where
  -- a node with a sign that goes on is open where it is taken
  pub open_where_forced : IsSign offer required champion k cs Forced → is_open offer cs k ≡ true
  open_where_forced is =
      elim (cases_Bool (is_open offer cs k)) [
        | inl open_ ↦ open_
        | inr shut ↦ absurd (is.0.unsettled.not_shut (k, is.1, (let h : k ≤ k = omega arith in h), shut))
      ]

module _ (offer : OfferData) (node : Node) (under : List Node) (waits : MayWait offer (node ∷ under)) (low : node.place < length offer.menu.places) where
  -- the node with the next place, and the one without it, may wait
  pub wait_with : IsMenu offer.menu → (next : Node) (others : List Node) → next.place ≡ node.place + 1
      → sections_of next.chosen ≡ sections_of node.chosen ++ section_at offer.menu.places node.place ∷ []
      → is_open offer (places_of offer.menu (sections_of node.chosen)) node.place ≡ true → length others ≤ length (sections_of node.chosen) + 1
      → MayWait offer others → MayWait offer (next ∷ others)
  wait_with menu next others place chosen open_ few are =
      let k : ℕ = node.place in
      let more : length (sections_of next.chosen) ≡ length (sections_of node.chosen) + 1 =
      ap length chosen ∙ length-append (sections_of node.chosen) (section_at offer.menu.places node.place ∷ []) in
      let next_place : next.place ≡ k + 1 = place in
      let takable = takable_where_open offer menu node.place (sections_of node.chosen) waits.2 low (open_facts offer (places_of offer.menu (sections_of node.chosen)) node.place open_) in (
        omega arith,
        omega arith,
        node_same offer (node.place + 1) next.place (sections_of node.chosen ++ section_at offer.menu.places node.place ∷ []) (sections_of next.chosen)
            (sym place) (sym chosen) (node_with offer node.place (sections_of node.chosen) menu low waits.2 takable),
        are,
      )

  pub wait_without : (next : Node) → next.place ≡ node.place + 1 → sections_of next.chosen ≡ sections_of node.chosen → MayWait offer (next ∷ under)
  wait_without next place chosen =
      let k : ℕ = node.place in
      let same : length (sections_of next.chosen) ≡ length (sections_of node.chosen) = ap length chosen in
      let few : length under ≤ length (sections_of node.chosen) = waits.0 in
      let next_place : next.place ≡ k + 1 = place in (
        omega arith,
        omega arith,
        node_same offer (node.place + 1) next.place (sections_of node.chosen) (sections_of next.chosen) (sym place) (sym chosen)
            (node_without offer node.place (sections_of node.chosen) waits.2),
        waits.3,
      )

  pub spot_with : IsMenu offer.menu → (next : Node) → next.place ≡ node.place + 1
      → sections_of next.chosen ≡ sections_of node.chosen ++ section_at offer.menu.places node.place ∷ []
      → spot offer.menu next ≡ (node.place + 1, places_of offer.menu (sections_of node.chosen) ++ node.place ∷ [])
  spot_with menu next place chosen =
      let split : places_of offer.menu (sections_of next.chosen) ≡ places_of offer.menu (sections_of node.chosen) ++ node.place ∷ [] =
      ap (places_of offer.menu) chosen ∙ places_with offer menu node.place (sections_of node.chosen) low in
      λ i. (place i, split i)

  pub spot_without : (next : Node) → next.place ≡ node.place + 1 → sections_of next.chosen ≡ sections_of node.chosen
      → spot offer.menu next ≡ (node.place + 1, places_of offer.menu (sections_of node.chosen))
  spot_without next place chosen = λ i. (place i, places_of offer.menu (chosen i))
