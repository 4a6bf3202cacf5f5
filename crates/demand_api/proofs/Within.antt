-- Bundles of sections below a number.
use Rattle.std.proofs.Common.{ℕ, ◌≡◌, ◌<◌, ◌∙◌, true, List, [], length, map, All, sym, ap}
use Rattle.std.specs.Prelude.{slice_index_or}
use Rattle.std.proofs.lemmas.List.{get_or-map}
use Rattle.market_units.specs.declared.units.SectionNo.{SectionNo}
use Rattle.market_units.specs.Members.{has}
use Rattle.bundle_rules.specs.declared.bundle.Bundle.{Bundle}
use Rattle.bundle_rules.specs.Bundles.{sections_of}
use Rattle.bundle_rules.specs.Ordinals.{ordinals}
use Rattle.demand_api.specs.Counting.{AreWithin}
use Rattle.demand_api.proofs.Takers.{listed_in}

-- the sections of the bundle at a place
pub read_at : (bundles : List Bundle) (i : ℕ) (bundle : Bundle) → i < length bundles → bundle ≡ slice_index_or bundles i bundle
    → slice_index_or (map sections_of bundles) i [] ≡ sections_of bundle
read_at bundles i bundle low is = get_or-map sections_of bundles i bundle [] low ∙ ap sections_of (sym is)

-- sections of a bundle at a place are below the number
pub within_at : (n : ℕ) (bundles : List Bundle) (i : ℕ) (bundle : Bundle) → AreWithin n (map sections_of bundles) → i < length bundles
    → bundle ≡ slice_index_or bundles i bundle → (s : ℕ) → has (sections_of bundle) s ≡ true → s < n
within_at n bundles i bundle within low is s has_it = within i s (ap (λ b. has b s) (read_at bundles i bundle low is) ∙ has_it)

pub sections_below : (n m : ℕ) (sections : List SectionNo) (bundle : List ℕ) → ordinals sections ≡ bundle → ((s : ℕ) → has bundle s ≡ true → s < n) → m ≡ n
    → All (λ section. section.0 < m) sections
sections_below n m sections bundle listed within same k d low =
    rw same (within (slice_index_or sections k d).0 (ap (λ b. has b (slice_index_or sections k d).0) (sym listed) ∙ listed_in sections k d low))
