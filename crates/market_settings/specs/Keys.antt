-- The settings by name, in the order in which they are looked for.
use Rattle.std.specs.Prelude.{ℕ, ◌^◌, ◌-◌, Bool, List, [], ◌∷◌, codes, bytes_eq}
use Rattle.std.specs.List.{list_any}
use Rattle.market_units.specs.declared.limits.TheConstants.{MAX_ACCEPT, MAX_PATIENCE, MAX_RAISE, MAX_SPREAD, MAX_STEP, MAX_TABU, MAX_TURNS}
use Rattle.market_settings.specs.declared.keys.Key.{Key}
use Rattle.market_settings.specs.declared.keys.Key.TheVariants.{Seed, Spread, Accept, Turns, Tabu, Patience, Steps, Raise}

-- the settings in their order
abbrev pub keys : List Key
keys = Seed ∷ Spread ∷ Accept ∷ Turns ∷ Tabu ∷ Patience ∷ Steps ∷ Raise ∷ []

-- the name of a setting, as it is written
abbrev pub key_name : Key → List ℕ
key_name Seed = codes "seed"
key_name Spread = codes "spread"
key_name Accept = codes "accept"
key_name Turns = codes "turns"
key_name Tabu = codes "tabu"
key_name Patience = codes "patience"
key_name Steps = codes "steps"
key_name Raise = codes "raise"

-- whether a setting has this name
abbrev pub is_setting : List ℕ → Bool
is_setting name = list_any (λ key. bytes_eq (key_name key) name) keys

-- the least number of a setting; for the steps, of each step
abbrev pub least_of : Key → ℕ
least_of Seed = 0
least_of Spread = 0
least_of Accept = 0
least_of Turns = 0
least_of Tabu = 1
least_of Patience = 1
least_of Steps = 1
least_of Raise = 0

-- the greatest number of a setting; for the steps, of each step
abbrev pub greatest_of : Key → ℕ
greatest_of Seed = 2 ^ 64 - 1
greatest_of Spread = MAX_SPREAD
greatest_of Accept = MAX_ACCEPT
greatest_of Turns = MAX_TURNS
greatest_of Tabu = MAX_TABU
greatest_of Patience = MAX_PATIENCE
greatest_of Steps = MAX_STEP
greatest_of Raise = MAX_RAISE
