-- The step sizes by the count of the items.
use Rattle.std.proofs.Common.{◌≡◌, ◌&&◌, nat_le, List, length, Some, None, option_and_then, true, false, refl}
use Rattle.serde_json.specs.Data.{Data}
use Rattle.serde_json.specs.Find.{get, as_array}
use Rattle.serde_json.specs.View.{items_view}
use Rattle.serde_json.specs.declared.value.Value.{Value}
use Rattle.serde_json.proofs.Views.{items_len-items_view}
use Rattle.market_settings.specs.declared.keys.Key.TheVariants.{Steps}
use Rattle.market_settings.specs.Keys.{key_name}
use Rattle.market_settings.specs.Values.{numbers_within, step_sizes_in}

-- another count leaves no step sizes
pub other_count : (d : Data) (vs : List Value) → Some (items_view vs) ≡ option_and_then as_array (get (key_name Steps) d)
    → (nat_le 1 (length vs) && nat_le (length vs) 16) ≡ false → step_sizes_in d ≡ None
other_count d vs is count = rw (← is, items_len-items_view, count) refl

-- of a right count they are the numbers of the items
pub right_count : (d : Data) (vs : List Value) → Some (items_view vs) ≡ option_and_then as_array (get (key_name Steps) d)
    → (nat_le 1 (length vs) && nat_le (length vs) 16) ≡ true → step_sizes_in d ≡ numbers_within 1 100000 (items_view vs)
right_count d vs is count = rw (← is, items_len-items_view, count) refl
