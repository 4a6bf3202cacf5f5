-- The best bundles that a search has found so far.
use Rattle.std.specs.Prelude.{ℕ, ◌+◌, ◌≤◌, ⊤, List, [], ◌∷◌, length, map, take}
use Rattle.bundle_rules.specs.Menus.{wishes_of}
use Rattle.bundle_bounds.specs.Offers.{OfferData}
use Rattle.bundle_bounds.specs.Laws.{IsTakable}
use Rattle.demand_oracle.specs.declared.leading.Leading.{Leading}
use Rattle.demand_oracle.specs.declared.leaders.Leaders.{Leaders}
use Rattle.demand_oracle.specs.declared.summed_node.SummedNode.{SummedNode}
use Rattle.demand_oracle.specs.Bests.{AreInOrder}
use Rattle.demand_oracle.specs.Names.{IsPreferredByName}
use Rattle.demand_oracle.specs.Search.{Kept, bundles_kept}
use Rattle.demand_oracle.specs.SummedNodes.{chosen_of, IsSummed}

-- a champion may be taken, and is a node with its sums
pub record IsChampion (offer : OfferData) (champion : SummedNode) : Type 0 where
  pub takable : IsTakable offer (chosen_of champion)
  pub sums : IsSummed offer.menu offer.price champion

-- each node may be taken, and has its sums
abbrev pub AreChampions : OfferData → List SummedNode → Type 0
AreChampions offer [] = ⊤
AreChampions offer (first ∷ others) = IsChampion offer first × AreChampions offer others

-- the nodes of a list
abbrev pub nodes_of : Leading → List SummedNode
nodes_of leading = take leading.count leading.nodes

-- what a search has found so far, by its sections
abbrev pub kept_of : Leaders → Kept
kept_of leaders =
    record {
      leading = map chosen_of (nodes_of leaders.leading);
      champion = chosen_of leaders.champion;
      most = leaders.most;
    }

-- each may be taken and has its sums, they are in order, and no more than may be kept
pub record AreLeaders (offer : OfferData) (name : ℕ → ℕ) (leaders : Leaders) : Type 0 where
  pub champion : IsChampion offer leaders.champion
  pub leading : AreChampions offer (nodes_of leaders.leading)
  pub in_order : AreInOrder (IsPreferredByName name (wishes_of offer.menu))
      (bundles_kept (kept_of leaders))
  pub few : length (nodes_of leaders.leading) + 1 ≤ leaders.most
