-- The settings that bytes are, or the first fault.
use Rattle.std.specs.Prelude.{ℕ, ◌≤◌, List, [], Option, Some, None, option_map, option_and_then, unwrap_or, is_some, is_none, if◌then◌else◌, Bool, not, find, Result, Ok, Err}
use Rattle.std.specs.Option.{option_or}
use Rattle.serde_json.specs.Data.{Data}
use Rattle.serde_json.specs.Find.{get, as_object}
use Rattle.market_settings.specs.declared.keys.Key.{Key}
use Rattle.market_settings.specs.declared.keys.Key.TheVariants.{Seed, Spread, Accept, Turns, Tabu, Patience, Steps, Raise}
use Rattle.market_settings.specs.declared.reader.Settings.{Settings}
use Rattle.market_settings.specs.declared.reader.SettingsRefusal.{SettingsRefusal}
use Rattle.market_settings.specs.declared.reader.SettingsRefusal.TheVariants.{NotJson, NotObject, Missing, Unknown, Range}
use Rattle.market_settings.specs.Keys.{keys, key_name, least_of, greatest_of}
use Rattle.market_settings.specs.StepSizes.{AreStepSizes}
use Rattle.market_settings.specs.Values.{reading, has_unknown, number_at, step_sizes_in}

-- whether the value of a setting is in its range
abbrev pub is_in_range : Data → Key → Bool
is_in_range d Steps = is_some (step_sizes_in d)
is_in_range d key = is_some (number_at key d)

abbrev pub no_object : Data → Option SettingsRefusal
no_object d = if is_some (as_object d) then None else Some NotObject

-- the first setting in order that is absent
abbrev pub first_missing : Data → Option Key
first_missing d = find (λ key. is_none (get (key_name key) d)) keys

abbrev pub missing : Data → Option SettingsRefusal
missing d = option_map Missing (first_missing d)

-- some name that is no setting's
abbrev pub unknown : Data → Option SettingsRefusal
unknown d = option_and_then (λ ms. if has_unknown ms then Some Unknown else None) (as_object d)

-- the first setting in order that is not in its range
abbrev pub out_of_range : Data → Option SettingsRefusal
out_of_range d = option_map Range (find (λ key. not (is_in_range d key)) keys)

-- the first fault of a value
abbrev pub fault_of : Data → Option SettingsRefusal
fault_of d =
    option_or (no_object d) (option_or (missing d) (option_or (unknown d) (out_of_range d)))

-- the settings of a value, where each is in its range
abbrev pub values_of : Data → Settings
values_of d = record {
  seed = unwrap_or (number_at Seed d) 0;
  spread = unwrap_or (number_at Spread d) 0;
  accept = unwrap_or (number_at Accept d) 0;
  turns = unwrap_or (number_at Turns d) 0;
  tabu = unwrap_or (number_at Tabu d) 0;
  patience = unwrap_or (number_at Patience d) 0;
  steps = unwrap_or (step_sizes_in d) [];
  raise = unwrap_or (number_at Raise d) 0;
}

abbrev pub unless : Option SettingsRefusal → Settings → Result Settings SettingsRefusal
unless None settings = Ok settings
unless (Some fault) settings = Err fault

-- the settings that bytes are, or why they are none
abbrev pub settings_of : List ℕ → Result Settings SettingsRefusal
settings_of bytes =
    elim (reading bytes) [ None ↦ Err NotJson | Some d ↦ unless (fault_of d) (values_of d) ]

-- each setting is in its range
pub record AreInRange (settings : Settings) : Type 0 where
  pub seed_in_range : settings.seed ≤ greatest_of Seed
  pub spread_in_range : settings.spread ≤ greatest_of Spread
  pub accept_in_range : settings.accept ≤ greatest_of Accept
  pub turns_in_range : settings.turns ≤ greatest_of Turns
  pub tabu_in_range : (least_of Tabu ≤ settings.tabu) × (settings.tabu ≤ greatest_of Tabu)
  pub patience_in_range : (least_of Patience ≤ settings.patience)
      × (settings.patience ≤ greatest_of Patience)
  pub steps_in_range : AreStepSizes settings.steps
  pub raise_in_range : settings.raise ≤ greatest_of Raise
