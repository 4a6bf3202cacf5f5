-- What settings are in a JSON value.
use Rattle.std.specs.Prelude.{ℕ, ◌&&◌, ◌||◌, List, [], ◌∷◌, Option, Some, None, option_map, option_and_then, if◌then◌else◌, Bool, false, not, nat_le}
use Rattle.std.specs.Str.{is_utf8}
use Rattle.market_units.specs.declared.limits.TheConstants.{MAX_STEPS}
use Rattle.serde_json.specs.Data.{Data, Members, no_members, member, Items, no_items, item}
use Rattle.serde_json.specs.Events.{items_len}
use Rattle.serde_json.specs.Read.{read}
use Rattle.serde_json.specs.Find.{get, as_number, as_u64, as_array}
use Rattle.market_settings.specs.declared.keys.Key.{Key}
use Rattle.market_settings.specs.declared.keys.Key.TheVariants.{Steps}
use Rattle.market_settings.specs.Keys.{key_name, is_setting, least_of, greatest_of}

-- the value that these bytes read as, if they have a reading
abbrev pub reading : List ℕ → Option Data
reading bytes = if is_utf8 bytes then read bytes else None

-- some member is no setting
abbrev pub has_unknown : Members → Bool
has_unknown no_members = false
has_unknown (member name d ms) = not (is_setting name) || has_unknown ms

-- this number, if it is from the least to the greatest
abbrev pub if_within : ℕ → ℕ → ℕ → Option ℕ
if_within least greatest n = if nat_le least n && nat_le n greatest then Some n else None

-- the whole number from the least to the greatest that a value is
abbrev pub whole_within : ℕ → ℕ → Data → Option ℕ
whole_within least greatest d =
    option_and_then (if_within least greatest) (option_and_then as_u64 (as_number d))

-- the items as such numbers, if each is one
abbrev pub numbers_within : ℕ → ℕ → Items → Option (List ℕ)
numbers_within least greatest no_items = Some []
numbers_within least greatest (item d ds) =
    option_and_then (λ n. option_map (λ ns. n ∷ ns) (numbers_within least greatest ds))
    (whole_within least greatest d)

-- the number of a setting, if it is in its range
abbrev pub number_at : Key → Data → Option ℕ
number_at key d =
    option_and_then (whole_within (least_of key) (greatest_of key)) (get (key_name key) d)

-- the step sizes that an array of 1 to 16 items is
abbrev pub step_sizes_of : Items → Option (List ℕ)
step_sizes_of items =
    if nat_le 1 (items_len items) && nat_le (items_len items) MAX_STEPS
    then numbers_within (least_of Steps) (greatest_of Steps) items else None

-- the step sizes of the settings, if they are in range
abbrev pub step_sizes_in : Data → Option (List ℕ)
step_sizes_in d = option_and_then step_sizes_of (option_and_then as_array (get (key_name Steps) d))
