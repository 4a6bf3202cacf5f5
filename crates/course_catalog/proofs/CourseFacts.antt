-- Course numbers, section after section.
use Rattle.std.proofs.Common.{ℕ, ◌+◌, ◌≤◌, ◌≡◌, ◌∙◌, ◌++◌, Bool, true, false, cond, ◌||◌, List, [], ◌∷◌, length, map, refl, sym, ap, inl, inr, arith, length-append}
use Rattle.std.specs.List.{list_any, list_all, position_or_len}
use Rattle.std.specs.Str.{bytes_eq}
use Rattle.std.proofs.lemmas.Bool.{cases_Bool}
use Rattle.std.proofs.lemmas.List.{map-append}
use Rattle.std.proofs.lemmas.List.Folds.{list_all-append, list_any-append}
use Rattle.plain_facts.proofs.Truths.{and_parts}
use Rattle.market_units.specs.declared.names.Name.{Name}
use Rattle.market_units.specs.Name.{name_bytes}
use Rattle.table_records.specs.Reading.{bytes_of}
use Rattle.course_catalog.specs.Sections.{Section}
use Rattle.course_catalog.specs.Courses.{first_occurrences, course_numbers}
use Rattle.course_catalog.proofs.Occurrences.{any-first_occurrences, first_occurrences-snoc, position_or_len-snoc, same-bytes_eq}

-- the courses of some sections by first occurrence, with the number of each section's course
pub record Numbered (sections : List Section) (courses : List (List ℕ)) (numbers : List ℕ) : Type 0 where
  pub firsts : courses ≡ first_occurrences (map (λ s. s.course) sections)
  pub each : numbers ≡ map (λ s. position_or_len (bytes_eq s.course) courses) sections
  pub known : list_all (λ s. list_any (bytes_eq s.course) courses) sections ≡ true
  pub few : length courses ≤ length sections

pub none_numbered : Numbered [] [] []
none_numbered = record { firsts = refl; each = refl; known = refl; few = omega arith }

-- numbers stay after one more course
kept_numbers : (sections : List Section) (courses : List (List ℕ)) (y : List ℕ) → list_all (λ s. list_any (bytes_eq s.course) courses) sections ≡ true
    → (map (λ s. position_or_len (bytes_eq s.course) courses) sections ≡ map (λ s. position_or_len (bytes_eq s.course) (courses ++ y ∷ [])) sections)
    × (list_all (λ s. list_any (bytes_eq s.course) (courses ++ y ∷ [])) sections ≡ true)
kept_numbers [] courses y known = (refl, refl)
kept_numbers (s ∷ more) courses y known =
    let parts = and_parts (list_any (bytes_eq s.course) courses) (list_all (λ t. list_any (bytes_eq t.course) courses) more) known in
    let here : list_any (bytes_eq s.course) courses ≡ true = parts.0 in
    let rest = kept_numbers more courses y parts.1 in
    let found : (list_any (bytes_eq s.course) courses || bytes_eq s.course y) ≡ true = rw here refl in
    let place : position_or_len (bytes_eq s.course) (courses ++ y ∷ []) ≡ position_or_len (bytes_eq s.course) courses =
    position_or_len-snoc (bytes_eq s.course) courses y found in
    let any : list_any (bytes_eq s.course) (courses ++ y ∷ []) ≡ true = list_any-append (bytes_eq s.course) courses (y ∷ []) ∙ rw here refl in
    (rw (place, rest.0) refl, rw (any, rest.1) refl)

-- one more section
numbered_by : (seen : Bool) (sections : List Section) (courses : List (List ℕ)) (numbers : List ℕ) (s : Section) → list_any (bytes_eq s.course) courses ≡ seen
    → Numbered sections courses numbers
    → Numbered (sections ++ s ∷ []) (cond seen courses (courses ++ s.course ∷ [])) (numbers ++ position_or_len (bytes_eq s.course) courses ∷ [])
numbered_by true sections courses numbers s seen old = record {
  firsts =
      let has : list_any (bytes_eq s.course) (map (λ t. t.course) sections) ≡ true =
      sym (any-first_occurrences s.course (map (λ t. t.course) sections)) ∙ ap (list_any (bytes_eq s.course)) (sym old.firsts) ∙ seen in
      rw (map-append (λ (t : Section). t.course) sections (s ∷ []), first_occurrences-snoc (map (λ t. t.course) sections) s.course, has) old.firsts;
  each =
      ap (λ (ns : List ℕ). ns ++ position_or_len (bytes_eq s.course) courses ∷ []) old.each
      ∙ sym (map-append (λ (t : Section). position_or_len (bytes_eq t.course) courses) sections (s ∷ []));
  known = list_all-append (λ (t : Section). list_any (bytes_eq t.course) courses) sections (s ∷ []) ∙ rw (old.known, seen) refl;
  few = omega (arith, old.few, length-append sections (s ∷ []));
}
numbered_by false sections courses numbers s seen old =
    let lacks : list_any (bytes_eq s.course) (map (λ t. t.course) sections) ≡ false =
    sym (any-first_occurrences s.course (map (λ t. t.course) sections)) ∙ ap (list_any (bytes_eq s.course)) (sym old.firsts) ∙ seen in
    let itself : bytes_eq s.course s.course ≡ true = same-bytes_eq s.course s.course refl in
    let found : (list_any (bytes_eq s.course) courses || bytes_eq s.course s.course) ≡ true = rw (seen, itself) refl in
    let place : position_or_len (bytes_eq s.course) (courses ++ s.course ∷ []) ≡ position_or_len (bytes_eq s.course) courses =
    position_or_len-snoc (bytes_eq s.course) courses s.course found in
    let kept = kept_numbers sections courses s.course old.known in
    let any : list_any (bytes_eq s.course) (courses ++ s.course ∷ []) ≡ true =
    list_any-append (bytes_eq s.course) courses (s.course ∷ []) ∙ rw (seen, itself) refl in
    record {
      firsts =
          rw (map-append (λ (t : Section). t.course) sections (s ∷ []), first_occurrences-snoc (map (λ t. t.course) sections) s.course, lacks)
          (ap (λ (cs : List (List ℕ)). cs ++ s.course ∷ []) old.firsts);
      each =
          ap (λ (ns : List ℕ). ns ++ position_or_len (bytes_eq s.course) courses ∷ []) (old.each ∙ kept.0)
          ∙ ap (λ n. map (λ (t : Section). position_or_len (bytes_eq t.course) (courses ++ s.course ∷ [])) sections ++ n ∷ []) (sym place)
          ∙ sym (map-append (λ (t : Section). position_or_len (bytes_eq t.course) (courses ++ s.course ∷ [])) sections (s ∷ []));
      known = list_all-append (λ (t : Section). list_any (bytes_eq t.course) (courses ++ s.course ∷ [])) sections (s ∷ []) ∙ rw (kept.1, any) refl;
      few = omega (arith, old.few, length-append sections (s ∷ []), length-append courses (s.course ∷ []));
    }

list_any-names : (p : List ℕ → Bool) (names : List Name) → list_any (λ n. p (name_bytes n)) names ≡ list_any p (bytes_of names)
list_any-names p [] = refl
list_any-names p (n ∷ ns) = ap (λ (b : Bool). p (name_bytes n) || b) (list_any-names p ns)

position_or_len-names : (p : List ℕ → Bool) (names : List Name) → position_or_len (λ n. p (name_bytes n)) names ≡ position_or_len p (bytes_of names)
position_or_len-names p [] = refl
position_or_len-names p (n ∷ ns) = elim (cases_Bool (p (name_bytes n))) [ inl t ↦ rw t refl | inr f ↦ rw f (ap (λ k. 1 + k) (position_or_len-names p ns)) ]

bytes_of-added : (seen : Bool) (names : List Name) (name : Name)
    → bytes_of (cond seen names (names ++ name ∷ [])) ≡ cond seen (bytes_of names) (bytes_of names ++ name_bytes name ∷ [])
bytes_of-added true names name = refl
bytes_of-added false names name = map-append name_bytes names (name ∷ [])

-- one more section, with the names in a set
pub one_more : (sections : List Section) (names new : List Name) (numbers : List ℕ) (s : Section) (course : Name) (number : ℕ) → name_bytes course ≡ s.course
    → new ≡ cond (list_any (λ n. bytes_eq (name_bytes course) (name_bytes n)) names) names (names ++ course ∷ [])
    → number ≡ position_or_len (λ n. bytes_eq (name_bytes course) (name_bytes n)) names
    → Numbered sections (bytes_of names) numbers
    → Numbered (sections ++ s ∷ []) (bytes_of new) (numbers ++ number ∷ [])
one_more sections names new numbers s course number is keys index old =
    let seen : list_any (λ n. bytes_eq (name_bytes course) (name_bytes n)) names ≡ list_any (bytes_eq s.course) (bytes_of names) =
    list_any-names (bytes_eq (name_bytes course)) names ∙ ap (λ (c : List ℕ). list_any (bytes_eq c) (bytes_of names)) is in
    let added : bytes_of new ≡ cond (list_any (bytes_eq s.course) (bytes_of names)) (bytes_of names) (bytes_of names ++ s.course ∷ []) =
    ap bytes_of keys ∙ bytes_of-added (list_any (λ n. bytes_eq (name_bytes course) (name_bytes n)) names) names course ∙ rw (seen, is) refl in
    let place : number ≡ position_or_len (bytes_eq s.course) (bytes_of names) =
    index ∙ position_or_len-names (bytes_eq (name_bytes course)) names ∙ ap (λ (c : List ℕ). position_or_len (bytes_eq c) (bytes_of names)) is in
    rw (added, place) (numbered_by (list_any (bytes_eq s.course) (bytes_of names)) sections (bytes_of names) numbers s refl old)

-- all sections
pub all_numbered : (sections : List Section) (courses : List (List ℕ)) (numbers : List ℕ) → Numbered sections courses numbers
    → numbers ≡ course_numbers sections
all_numbered sections courses numbers done = done.each ∙ ap (λ (cs : List (List ℕ)). map (λ s. position_or_len (bytes_eq s.course) cs) sections) done.firsts
