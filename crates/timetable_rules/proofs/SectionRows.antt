-- The rows of a table of clashes.
use Rattle.std.proofs.Common.{ℕ, ◌+◌, ◌<◌, ◌≤◌, ◌≢◌, List, [], ◌∷◌, ◌++◌, length, get_or, length-append, ◌≡◌, Bool, true, false, ◌&&◌, arith, ap, sym, ◌∙◌, inl, inr, nat_lt}
use Rattle.std.specs.Ordering.{nat_cmp}
use Rattle.std.specs.Cmp.{nat_cmp_total, unsigned_tied}
use Rattle.std.specs.FinSet as set
use Rattle.timetable_rules.specs.declared.meeting.Meeting.{Meeting}
use Rattle.timetable_rules.specs.declared.parts.Parts.{Parts}
use Rattle.timetable_rules.specs.Clash.{AreEarlierRows, IsClashTable, clashes, tells}
use Rattle.timetable_rules.proofs.Relations.{clashes-relation, clashes_mutual}
use Rattle.std.specs.FinSet.{contains-empty, contains-insert}
use Rattle.std.proofs.lemmas.Bool.{cases_eq, cases_order, le-ltb, lt-ltb, and_left}
use Rattle.std.proofs.lemmas.Bool.Decides.{nat_tests}
use Rattle.std.proofs.Math.ListN.{set as replaced}
use Rattle.std.proofs.lemmas.List.{get_or_append_left, get_or_default, get_or-set_other, length-set}
use Rattle.std.proofs.lemmas.Grind.{get_or-set_at}
use Rattle.std.proofs.Math.Seq.{get_or-append_seam}

-- a row tells of the sections below a number
abbrev pub IsRowTo : (ℕ → Bool) → set.FinSet nat_cmp → ℕ → Type 0
IsRowTo test row n = (s : ℕ) → set.contains row s ≡ (nat_lt s n && test s)

-- no section is below 0
pub none_yet : (test : ℕ → Bool) → IsRowTo test set.empty 0
none_yet test s = contains-empty nat_cmp s ∙ sym (and_left (nat_lt s 0) (test s) (le-ltb s 0 (omega arith)))

-- one more section that passes
pub with_next : (row : set.FinSet nat_cmp) (test : ℕ → Bool) (n s : ℕ) → test n ≡ true
    → set.contains row s ≡ (nat_lt s n && test s)
    → set.contains (set.insert row n) s ≡ (nat_lt s (n + 1) && test s)
with_next row test n s passes so = elim (cases_order s n) [
  | inl same ↦ grind (arith, nat_tests, contains-insert nat_cmp_total row n s, unsigned_tied s n, passes, ap test same)
  | inr (inl below) ↦ grind (arith, nat_tests, contains-insert nat_cmp_total row n s, unsigned_tied s n)
  | inr (inr above) ↦ grind (arith, nat_tests, contains-insert nat_cmp_total row n s, unsigned_tied s n)
]

-- one more section that does not
pub without_next : (row : set.FinSet nat_cmp) (test : ℕ → Bool) (n s : ℕ) → test n ≡ false
    → set.contains row s ≡ (nat_lt s n && test s)
    → set.contains row s ≡ (nat_lt s (n + 1) && test s)
without_next row test n s fails so = elim (cases_order s n) [
  | inl same ↦ grind (arith, nat_tests, fails, ap test same)
  | inr (inl below) ↦ grind (arith, nat_tests)
  | inr (inr above) ↦ grind (arith, nat_tests)
]

-- the rows of the sections before one tell which of them clash, and those below a number also tell
-- of this one
pub record AreToldOf (test : ℕ → ℕ → Bool) (rows : List (set.FinSet nat_cmp)) (section told : ℕ) : Type 0 where
  pub count : length rows ≡ section
  pub below : (a : ℕ) → a < told → IsRowTo (test a) (get_or rows a set.empty) (section + 1)
  pub above : (a : ℕ) → told ≤ a → a < section → IsRowTo (test a) (get_or rows a set.empty) section

-- at first no row tells of it
pub told_none : (meetings : List (List Meeting)) (courses : List ℕ) (parts : List Parts) (rows : List (set.FinSet nat_cmp)) (section : ℕ)
    → AreEarlierRows meetings courses parts section rows → AreToldOf (clashes meetings courses parts) rows section 0
told_none meetings courses parts rows section earlier = record {
  count = earlier.count;
  below = λ a low. absurd (omega arith);
  above = λ a low high s. earlier.told a s high;
}

-- the next row, where it clashes
pub told_next : (test : ℕ → ℕ → Bool) (rows : List (set.FinSet nat_cmp)) (d : set.FinSet nat_cmp) (section told : ℕ) → told < section
    → test told section ≡ true → AreToldOf test rows section told
    → AreToldOf test (replaced rows told (set.insert (get_or rows told d) section)) section (told + 1)
told_next test rows d section told within clash so =
    let row = set.insert (get_or rows told d) section in
    let room : told < length rows = omega (arith, so.count) in
    let was : IsRowTo (test told) (get_or rows told d) section =
    rw (get_or_default rows told d set.empty room) (so.above told (omega arith) within) in
    record {
      count = length-set rows told row ∙ so.count;
      below = λ a low s. elim (cases_eq a told) [
        | inl same ↦
            let here : get_or (replaced rows told row) a set.empty ≡ row = get_or-set_at rows told a row set.empty same room in
            rw (here, same) (with_next (get_or rows told d) (test told) section s clash (was s))
        | inr apart ↦
            let here : get_or (replaced rows told row) a set.empty ≡ get_or rows a set.empty = get_or-set_other rows told a row set.empty apart in
            rw here (so.below a (omega arith) s)
      ];
      above = λ a low high s.
          let apart : a ≢ told = λ same. absurd (omega arith) in
          let here : get_or (replaced rows told row) a set.empty ≡ get_or rows a set.empty = get_or-set_other rows told a row set.empty apart in
          rw here (so.above a (omega arith) high s);
    }

-- the next row, where it does not
pub told_next_apart : (test : ℕ → ℕ → Bool) (rows : List (set.FinSet nat_cmp)) (section told : ℕ) → told < section → test told section ≡ false
    → AreToldOf test rows section told → AreToldOf test rows section (told + 1)
told_next_apart test rows section told within clear so = record {
  count = so.count;
  below = λ a low s. elim (cases_eq a told) [
    | inl same ↦ rw same (without_next (get_or rows told set.empty) (test told) section s clear (so.above told (omega arith) within s))
    | inr apart ↦ so.below a (omega arith) s
  ];
  above = λ a low high s. so.above a (omega arith) high s;
}

-- once all rows tell of a section, its own is the next
pub next_row : (meetings : List (List Meeting)) (courses : List ℕ) (parts : List Parts) (rows : List (set.FinSet nat_cmp)) (row : set.FinSet nat_cmp)
    (section told : ℕ) → section ≤ told → AreToldOf (clashes meetings courses parts) rows section told
    → IsRowTo (clashes meetings courses parts section) row section
    → AreEarlierRows meetings courses parts (section + 1) (rows ++ row ∷ [])
next_row meetings courses parts rows row section told whole so own = record {
  count = simp length-append (omega (arith, so.count));
  told = λ a b low. elim (cases_eq a section) [
    | inl same ↦
        let here : get_or (rows ++ row ∷ []) a set.empty ≡ row = rw (same, ← so.count) (get_or-append_seam rows row [] set.empty) in
        rw (here, same) (without_next row (clashes meetings courses parts section) section b (clashes_mutual meetings courses parts section section).not_itself (own b))
    | inr apart ↦
        let here : get_or (rows ++ row ∷ []) a set.empty ≡ get_or rows a set.empty = get_or_append_left rows (row ∷ []) set.empty a (omega (arith, so.count)) in
        rw here (so.below a (omega arith) b)
  ];
}

-- the rows of all sections are the table of clashes
pub clash_table : (rows : List (set.FinSet nat_cmp)) (meetings : List (List Meeting)) (courses : List ℕ) (parts : List Parts) (n : ℕ)
    → length courses ≤ n → n ≤ length courses → AreEarlierRows meetings courses parts n rows → IsClashTable meetings courses parts rows
clash_table rows meetings courses parts n up down so =
    let test : (a b : ℕ) → a < length courses → b < length courses → tells rows a b ≡ clashes meetings courses parts a b =
    λ a b first second. so.told a b (omega arith) ∙ ap (λ (within : Bool). within && clashes meetings courses parts a b) (lt-ltb b n (omega arith)) in
    record {
      sections = omega (arith, so.count);
      relation = λ a b first second. rw (test a b first second) (clashes-relation meetings courses parts a b);
      test = test;
    }
