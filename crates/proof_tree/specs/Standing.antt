-- The stems of the nodes that wait.
use Rattle.std.specs.Prelude.{ℕ, ◌+◌, ◌<◌, ◌≡◌, List, length, slice_index_or}
use Rattle.market_units.specs.declared.limits.TheConstants.{MAX_COURSES}
use Rattle.bundle_rules.specs.Bundles.{sections_of}
use Rattle.bundle_bounds.specs.declared.nodes.Node.{Node}
use Rattle.bundle_bounds.specs.declared.stems.Stem.{Stem}
use Rattle.bundle_bounds.specs.Offers.{OfferData}
use Rattle.bundle_bounds.specs.Stems.{IsStem}
use Rattle.proof_tree.specs.declared.walk.Walk.{Walk}

-- the stem at this index is at this node, for the champion
abbrev pub IsStemAt : OfferData → List ℕ → List Stem → ℕ → ℕ → List ℕ → Type 0
IsStemAt offer champion stems at k chosen =
    (d : Stem) → IsStem offer champion k chosen (slice_index_or stems at d)

-- each waiting node has its stem
pub record HaveStems (offer : OfferData) (champion : List ℕ) (walk : Walk) : Type 0 where
  pub whole : length walk.stems ≡ MAX_COURSES + 1
  pub each : (i : ℕ) (d : Node) → i < walk.count
      → IsStemAt offer champion walk.stems i (slice_index_or walk.waiting i d).place
      (sections_of (slice_index_or walk.waiting i d).chosen)
