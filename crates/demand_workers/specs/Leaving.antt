-- Holders of a section whose price rises, and who of them is left at a price.
use Rattle.std.specs.Prelude.{ℕ, ◌<◌, ◌≤◌, ◌≡◌, ◌-◌, ◌==◌, Bool, true, List, All, length, slice_index_or, if◌then◌else◌}
use Rattle.std.proofs.Common.{Vec, Global}
use Rattle.std.specs.List.{sum_by}
use Rattle.market_units.specs.declared.limits.TheConstants.{MAX_PRICE}
use Rattle.market_units.specs.Members.{has}
use Rattle.demand_api.specs.Crowds.{CrowdData, top, demand_of}
use Rattle.demand_api.specs.Prices.{with_price}

-- whether the student takes the section where this is its price, the other prices as given
abbrev pub takes : CrowdData → (ℕ → ℕ) → ℕ → ℕ → ℕ → Bool
takes crowd price s p student = has (demand_of crowd (with_price price s p) student) s

-- the price below which a listed holder takes the section, of which nothing is said from there on;
-- the list has 1,000,001 less that price, and the holder's number
abbrev pub leaves : ℕ × ℕ → ℕ
leaves holder = MAX_PRICE - holder.0

-- how often the student is listed
abbrev pub listed : ℕ → List (ℕ × ℕ) → ℕ
listed student holders = sum_by (λ holder. if holder.1 == student then 1 else 0) holders

-- the holder does not leave below this price, and still takes the section a token below the price
-- at which it leaves, which is at most the top
pub record Keeps (crowd : CrowdData) (price : ℕ → ℕ) (s level : ℕ) (holder : ℕ × ℕ) : Type 0 where
  pub room : holder.0 ≤ MAX_PRICE
  pub some : 1 ≤ leaves holder
  pub later : level ≤ leaves holder
  pub capped : leaves holder ≤ top crowd
  pub still : takes crowd price s (leaves holder - 1) holder.1 ≡ true

-- The holders that are left where the section has this price: each once, each keeps what it holds
-- up to its price, and nobody else takes the section
pub record AreLeft (crowd : CrowdData) (price : ℕ → ℕ) (s level : ℕ)
    (holders : List (ℕ × ℕ)) : Type 0 where
  pub students : All (λ holder. holder.1 < length crowd.students) holders
  pub once : (student : ℕ) → listed student holders ≤ 1
  pub keep : All (Keeps crowd price s level) holders
  pub others : (student : ℕ) → takes crowd price s level student ≡ true → 1 ≤ listed student holders

-- at the place of each section is a list of all who take it, and perhaps of some who would take it
-- for a token less
abbrev pub AreListed : CrowdData → (ℕ → ℕ) → List (Vec (ℕ × ℕ) Global) → Type 0
AreListed crowd price lists =
    (s : ℕ) (d : _) → s < length lists
    → AreLeft crowd price s (price s) (slice_index_or lists s d).items
