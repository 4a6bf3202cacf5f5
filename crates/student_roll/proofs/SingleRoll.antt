-- A roll of one student.
use Rattle.std.proofs.Common.{refl, ◌≡◌, ◌≤◌, ℕ, List, [], ◌∷◌, arith}
use Rattle.std.specs.List.{IsDistinct}
use Rattle.std.proofs.lemmas.List.Elements.{All-cons, All-nil}
use Rattle.market_units.specs.declared.names.Name.{Name}
use Rattle.market_units.specs.Name.{name_bytes}
use Rattle.student_roll.specs.Kept.{KeepsStudents}
use Rattle.student_roll.specs.Students.{IsListed, Student, single_student}

-- one student in its ranges is a roll
pub keeps_one : (keys : List Name) (students : List Student) (name : Name) (credits courses : ℕ) → credits ≤ 800 → courses ≤ 8
    → keys ≡ name ∷ [] → students ≡ single_student (name_bytes name) credits courses ∷ [] → KeepsStudents keys (record { version = 1; students = students })
unfolding IsDistinct
keeps_one keys students name credits courses few short is are =
    let only = single_student (name_bytes name) credits courses in
    let listed : IsListed 1 only =
    record { is_student = record { name = name.holds.name; tokens = omega arith; credits = few; courses = short }; fresh = λ first. refl } in
    rw (is, are) (record {
      names = refl;
      is_roll = record {
        some_version = omega arith;
        known_version = omega arith;
        few = omega arith;
        each = All-cons (IsListed 1) only [] listed (All-nil (IsListed 1));
        distinct = (tt, tt);
      };
    })
