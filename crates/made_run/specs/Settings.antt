-- What the settings of a made market say.
use Rattle.std.specs.Prelude.{ℕ, [], ◌∷◌}
use Rattle.market_settings.specs.declared.reader.Settings.{Settings}

-- the settings of this seed and this accepted error
abbrev pub made_settings : ℕ → ℕ → Settings
made_settings seed accept = record {
  seed = seed;
  spread = 10;
  accept = accept;
  turns = 25;
  tabu = 20;
  patience = 10;
  steps = 1 ∷ 10 ∷ 100 ∷ [];
  raise = 10;
}
