-- What a name of a section, a course or a student may be.
use Rattle.std.specs.Prelude.{ℕ, ◌≡◌, ◌-◌, ◌<◌, ◌≤◌, ◌++◌, Bool, ◌||◌, ◌==◌, IsTrue, List, All, length, take, replicate}
use Rattle.std.specs.Char.{is_ascii_alphanumeric}
use Rattle.market_units.specs.declared.limits.TheConstants.{MAX_NAME}

-- a letter, a digit, a dash, an underscore or a dot
abbrev pub is_name_byte : ℕ → Bool
is_name_byte b = is_ascii_alphanumeric b || b == 45 || b == 95 || b == 46

-- 1 to 32 such bytes
pub record IsName (bytes : List ℕ) : Type 0 where
  pub some : 0 < length bytes
  pub short : length bytes ≤ MAX_NAME
  pub each : All (λ b. IsTrue (is_name_byte b)) bytes

-- a room of 32 bytes begins with a name of this length, and has zeros behind it
pub record HoldsName (room : List ℕ) (len : ℕ) : Type 0 where
  pub name : IsName (take len room)
  pub whole : length (take len room) ≡ len
  pub zeros : room ≡ take len room ++ replicate (MAX_NAME - len) 0
