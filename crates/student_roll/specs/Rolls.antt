-- What the bytes of a roll say.
use Rattle.std.specs.Prelude.{ℕ, ◌-◌, ◌==◌, if◌then◌else◌, List, [], ◌∷◌, Result, Ok, codes}
use Rattle.market_units.specs.declared.limits.TheConstants.{MAX_BASE, MAX_COURSES, MAX_CREDITS, MAX_STUDENTS}
use Rattle.table_records.specs.declared.fault.Fault.{Fault}
use Rattle.table_records.specs.declared.fault.Fault.TheVariants as fault
use Rattle.table_records.specs.Columns.{◌>>=◌, number_or}
use Rattle.table_records.specs.Reading.{Rules, naming_rules, reading}
use Rattle.table_records.specs.Records.{field_in, first_field, records_of}
use Rattle.student_roll.specs.declared.refusal.RollRefusal.{RollRefusal}
use Rattle.student_roll.specs.declared.refusal.RollRefusal.TheVariants as refusal
use Rattle.student_roll.specs.Students.{RollData, Student}

-- the refusal of a fault in no later column than the name's
abbrev pub refusal_of : Fault → RollRefusal
refusal_of fault.Header = refusal.Header
refusal_of (fault.Fields row) = refusal.Fields row
refusal_of (fault.Name row) = refusal.Name row 1
refusal_of (fault.Repeated row earlier) = refusal.Repeated row earlier

-- the fields of the first record in version 1
abbrev pub first_header : List (List ℕ)
first_header = codes "student" ∷ codes "budget" ∷ codes "credits" ∷ codes "courses" ∷ []

-- the tokens that a row's student carries over: none in version 1, and in version 2 what column 5
-- says, with the base at most 900,000
abbrev pub carry_in : ℕ → ℕ → ℕ → List (List ℕ) → Result ℕ RollRefusal
carry_in version row base fields =
    if version == 1 then Ok 0
    else number_or (refusal.Number row 5) (MAX_BASE - base) (field_in 5 fields)

-- the student of this row: columns 2 to 4 are numbers up to 900,000, 800 and 8, and then the tokens
-- that are carried over
abbrev pub student_of : ℕ → ℕ → List (List ℕ) → Result Student RollRefusal
student_of version row fields = do
  base ← number_or (refusal.Number row 2) MAX_BASE (field_in 2 fields)
  credits ← number_or (refusal.Number row 3) MAX_CREDITS (field_in 3 fields)
  courses ← number_or (refusal.Number row 4) MAX_COURSES (field_in 4 fields)
  carry ← carry_in version row base fields
  Ok
      (record {
        name = first_field fields;
        base = base;
        credits = credits;
        courses = courses;
        carry = carry;
      })

-- the rules of a roll: its headers, at most 2,000 rows, and what a row is
abbrev pub roll_rules : Rules Student RollRefusal
roll_rules =
    naming_rules first_header (codes "carry") (MAX_STUDENTS, refusal.TooMany) refusal_of student_of

-- the roll that bytes stand for, or the first refusal
abbrev pub roll_of : List ℕ → Result RollData RollRefusal
roll_of bytes = do
  read ← reading roll_rules (records_of bytes)
  Ok (record { version = read.version; students = read.rows })
