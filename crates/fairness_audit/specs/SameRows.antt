-- When rows are the same.
use Rattle.std.specs.Prelude.{ℕ, ◌==◌, ◌&&◌, Bool, true, false, Option, Some, None}
use Rattle.std.specs.Str.{bytes_eq}
use Rattle.fairness_audit.specs.Rows.{RowData, SeenData}

-- the same section, or none
abbrev pub same_section : Option ℕ → Option ℕ → Bool
same_section None None = true
same_section None (Some t) = false
same_section (Some s) None = false
same_section (Some s) (Some t) = s == t

-- the same envied student with the same sight, or none
abbrev pub same_first : Option SeenData → Option SeenData → Bool
same_first None None = true
same_first None (Some b) = false
same_first (Some a) None = false
same_first (Some a) (Some b) =
    a.student == b.student && (bytes_eq a.bundle b.bundle && same_section a.without b.without)

-- the same row
abbrev pub same_row : RowData → RowData → Bool
same_row a b =
    a.lower == b.lower
    && (a.higher == b.higher && (a.beyond == b.beyond && same_first a.first b.first))
