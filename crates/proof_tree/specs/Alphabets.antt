-- The bytes of canonical trees.
use Rattle.std.specs.Prelude.{ℕ, ◌<◌, ◌||◌, ◌==◌, Bool, IsTrue, None, List, length, All}
use Rattle.std.specs.Char.{is_ascii_digit}
use Rattle.bundle_rules.specs.Menus.{IsMenu}
use Rattle.bundle_bounds.specs.Offers.{OfferData}
use Rattle.proof_tree.specs.Texts.{IsTreeText}

-- `*`, `n`, `b`, `c`, `m`, `+`, `-`, or a digit
abbrev pub is_tree_byte : ℕ → Bool
is_tree_byte byte =
    is_ascii_digit byte || byte == 42 || byte == 110 || byte == 98 || byte == 99 || byte == 109
    || byte == 43 || byte == 45

-- one such byte or more
pub record AreTreeBytes (text : List ℕ) : Type 0 where
  pub some : 0 < length text
  pub each : All (λ byte. IsTrue (is_tree_byte byte)) text

-- the text of a canonical tree has one such byte or more, and no other ones
abbrev pub TreesHaveTreeBytes : Type 0
TreesHaveTreeBytes =
    (offer : OfferData) (champion text : List ℕ) → IsMenu offer.menu
    → IsTreeText offer None champion text → AreTreeBytes text
