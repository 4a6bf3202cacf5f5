-- The law of made markets.
use Rattle.std.specs.Prelude.{ℕ, ◌+◌, ◌^◌, ◌<◌, ◌≤◌, length}
use Rattle.market_units.specs.declared.limits.TheConstants.{MAX_ACCEPT, MAX_COMMANDS, MAX_INPUT_BYTES, MAX_SECTIONS, MAX_STUDENTS}
use Rattle.market_maker.specs.Catalogs.{catalog_text}
use Rattle.market_maker.specs.Rolls.{roll_text}
use Rattle.market_maker.specs.Sessions.{first_text, is_even, is_odd, lines_of, second_text}
use Rattle.market_maker.specs.Settings.{settings_text}

-- each text has at most the bytes of an input, and both sessions together have at most so many
-- lines
pub record IsWithinLimits (seed students sections accept : ℕ) : Type 0 where
  pub catalog : length (catalog_text students sections) ≤ MAX_INPUT_BYTES
  pub roll : length (roll_text students) ≤ MAX_INPUT_BYTES
  pub settings : length (settings_text seed accept) ≤ MAX_INPUT_BYTES
  pub first : length (first_text seed students sections) ≤ MAX_INPUT_BYTES
  pub second : length (second_text seed students sections) ≤ MAX_INPUT_BYTES
  pub lines : length (lines_of is_odd seed students sections)
      + length (lines_of is_even seed students sections)
      ≤ MAX_COMMANDS

-- so it is with every made market
abbrev pub MadeMarketsAreWithinLimits : Type 0
MadeMarketsAreWithinLimits =
    (seed students sections accept : ℕ) → seed < 2 ^ 64 → students ≤ MAX_STUDENTS → 1 ≤ sections
    → sections ≤ MAX_SECTIONS → accept ≤ MAX_ACCEPT → IsWithinLimits seed students sections accept
