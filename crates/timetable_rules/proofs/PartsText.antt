-- The texts of parts.
use Rattle.std.proofs.Common.{ℕ, ◌≡◌, ◌↔◌, Bool, true, false, List, Some, codes, refl, inl, inr}
use Rattle.std.specs.Str.{bytes_eq}
use Rattle.std.specs.Cmp.Lexicographic.{bytes_decides}
use Rattle.std.proofs.lemmas.Bool.{cases_Bool}
use Rattle.timetable_rules.specs.declared.parts.Parts.{Parts}
use Rattle.timetable_rules.specs.Parts.{SpellsParts, spelled_parts, first_half, second_half, whole_term}

from_spelled : (text : List ℕ) (parts : Parts) → spelled_parts text ≡ Some parts → SpellsParts text parts
from_spelled text parts is =
    elim (cases_Bool (bytes_eq text (codes "1"))) [
      | inl one ↦ let same : first_half ≡ parts = cc (rw one at is) in rw (← same) (record { some = refl; digits = (bytes_decides text (codes "1")).0 one })
      | inr not_one ↦ elim (cases_Bool (bytes_eq text (codes "2"))) [
        | inl two ↦ let same : second_half ≡ parts = cc (rw (not_one, two) at is) in rw (← same) (record { some = refl; digits = (bytes_decides text (codes "2")).0 two })
        | inr not_two ↦ elim (cases_Bool (bytes_eq text (codes "12"))) [
          | inl both ↦ let same : whole_term ≡ parts = cc (rw (not_one, not_two, both) at is) in rw (← same) (record { some = refl; digits = (bytes_decides text (codes "12")).0 both })
          | inr neither ↦ absurd (cc (rw (not_one, not_two, neither) at is))
        ]
      ]
    ]

to_spelled : (first second : Bool) (text : List ℕ) → SpellsParts text (record { first = first; second = second })
    → spelled_parts text ≡ Some (record { first = first; second = second })
to_spelled true true text spells = rw spells.digits refl
to_spelled true false text spells = rw spells.digits refl
to_spelled false true text spells = rw spells.digits refl
to_spelled false false text spells = absurd (cc (spells.some))

pub parts_spelled-relation : (text : List ℕ) (parts : Parts) → (spelled_parts text ≡ Some parts) ↔ SpellsParts text parts
parts_spelled-relation text parts = (from_spelled text parts, to_spelled parts.first parts.second text)
