-- Rows that are the same.
use Rattle.std.proofs.Common.{ℕ, ◌≡◌, ◌==◌, ◌&&◌, true, Option, Some, None, refl, ap, arith}
use Rattle.std.specs.Str.{bytes_eq}
use Rattle.std.proofs.lemmas.Bool.{false≢true}
use Rattle.std.proofs.lemmas.Bool.Decides.{nat_tests}
use Rattle.plain_facts.proofs.Truths.{and_parts}
use Rattle.course_catalog.proofs.Occurrences.{bytes_eq-same, same-bytes_eq}
use Rattle.fairness_audit.specs.Rows.{RowData, SeenData}
use Rattle.fairness_audit.specs.SameRows.{same_first, same_row, same_section}

same_number : (a b : ℕ) → (a == b) ≡ true → a ≡ b
same_number a b same = grind (arith, nat_tests)

own_number : (a : ℕ) → (a == a) ≡ true
own_number a = grind (arith, nat_tests)

section_same : (a b : Option ℕ) → same_section a b ≡ true → a ≡ b
section_same None None same = refl
section_same None (Some t) same = absurd (false≢true same)
section_same (Some s) None same = absurd (false≢true same)
section_same (Some s) (Some t) same = ap (λ n. Some n) (same_number s t same)

section_own : (a : Option ℕ) → same_section a a ≡ true
section_own None = refl
section_own (Some s) = own_number s

first_same : (a b : Option SeenData) → same_first a b ≡ true → a ≡ b
first_same None None same = refl
first_same None (Some b) same = absurd (false≢true same)
first_same (Some a) None same = absurd (false≢true same)
first_same (Some a) (Some b) same =
    let p = and_parts (a.student == b.student) (bytes_eq a.bundle b.bundle && same_section a.without b.without) same in
    let q = and_parts (bytes_eq a.bundle b.bundle) (same_section a.without b.without) p.1 in
    λ i. Some
    (record {
      student = same_number a.student b.student p.0 i;
      bundle = bytes_eq-same a.bundle b.bundle q.0 i;
      without = section_same a.without b.without q.1 i;
    })

first_own : (a : Option SeenData) → same_first a a ≡ true
first_own None = refl
first_own (Some a) = rw (own_number a.student, same-bytes_eq a.bundle a.bundle refl) (section_own a.without)

pub row_same : (a b : RowData) → same_row a b ≡ true → a ≡ b
row_same a b same =
    let p = and_parts (a.lower == b.lower) (a.higher == b.higher && (a.beyond == b.beyond && same_first a.first b.first)) same in
    let q = and_parts (a.higher == b.higher) (a.beyond == b.beyond && same_first a.first b.first) p.1 in
    let r = and_parts (a.beyond == b.beyond) (same_first a.first b.first) q.1 in
    λ i. record {
      lower = same_number a.lower b.lower p.0 i;
      higher = same_number a.higher b.higher q.0 i;
      beyond = same_number a.beyond b.beyond r.0 i;
      first = first_same a.first b.first r.1 i;
    }

pub row_own : (a : RowData) → same_row a a ≡ true
row_own a = rw (own_number a.lower, own_number a.higher, own_number a.beyond) (first_own a.first)
