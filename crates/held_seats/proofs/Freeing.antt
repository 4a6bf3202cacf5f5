-- Sets of free sections as sections are looked at.
use Rattle.std.proofs.Common.{ℕ, ◌≡◌, ◌≢◌, ◌<◌, ◌≤◌, ◌+◌, ◌-◌, ◌||◌, ◌&&◌, ◌==◌, Bool, true, false, not, List, ◌∷◌, length, take, drop, arith, refl, sym, ◌∙◌, ap, subst, inl, inr}
use Rattle.std.specs.Prelude.{slice_index, slice_index_or, nat_lt, if◌then◌else◌}
use Rattle.std.specs.Ordering.{nat_cmp}
use Rattle.std.specs.Cmp.{nat_cmp_total, unsigned_tied}
use Rattle.std.specs.FinSet as set
use Rattle.std.specs.FinSet.{contains-empty, contains-insert, contains-remove}
use Rattle.std.proofs.lemmas.Bool.{cases_Bool, cases_order, cases_lt, eq-eqb, ne_eqb, le-ltb}
use Rattle.std.proofs.lemmas.Bool.Decides.{nat_tests}
use Rattle.std.proofs.lemmas.List.{get_or_past}
use Rattle.plain_facts.proofs.Lists.{first_rest}
use Rattle.market_units.specs.declared.units.SectionNo.{SectionNo}
use Rattle.market_units.specs.Members.{has}
use Rattle.bundle_rules.specs.Ordinals.{ordinals}

insert_here : (s : set.FinSet nat_cmp) (n : ℕ) → set.contains (set.insert s n) n ≡ true
insert_here s n = contains-insert nat_cmp_total s n n ∙ ap (λ b. b || set.contains s n) (unsigned_tied n n ∙ eq-eqb n n refl)

insert_there : (s : set.FinSet nat_cmp) (n q : ℕ) → q ≢ n → set.contains (set.insert s n) q ≡ set.contains s q
insert_there s n q apart = contains-insert nat_cmp_total s n q ∙ ap (λ b. b || set.contains s q) (unsigned_tied q n ∙ ne_eqb q n apart)

remove_here : (s : set.FinSet nat_cmp) (n : ℕ) → set.contains (set.remove s n) n ≡ false
remove_here s n = contains-remove nat_cmp_total s n n ∙ ap (λ b. not b && set.contains s n) (unsigned_tied n n ∙ eq-eqb n n refl)

remove_there : (s : set.FinSet nat_cmp) (n q : ℕ) → q ≢ n → set.contains (set.remove s n) q ≡ set.contains s q
remove_there s n q apart = contains-remove nat_cmp_total s n q ∙ ap (λ b. not b && set.contains s q) (unsigned_tied q n ∙ ne_eqb q n apart)

-- a set that tells of these sections by a test, and of the others by another set
abbrev pub Tells : (ℕ → Bool) → set.FinSet nat_cmp → List ℕ → set.FinSet nat_cmp → Type 0
Tells test free sections result = (s : ℕ) → set.contains result s ≡ (if has sections s then test s else set.contains free s)

tells_first : (test : ℕ → Bool) (free rest result : set.FinSet nat_cmp) (x : ℕ) (more : List ℕ) → Tells test free more rest → set.contains result x ≡ test x
    → ((q : ℕ) → q ≢ x → set.contains result q ≡ set.contains rest q) → Tells test free (x ∷ more) result
tells_first test free rest result x more told here others s = elim (cases_Bool (x == s)) [
  | inl same ↦ let e : x ≡ s = grind (arith, nat_tests) in rw same (subst (λ q. set.contains result q ≡ test q) e here)
  | inr apart ↦ let other : s ≢ x = λ e. grind (arith, nat_tests) in rw apart (others s other ∙ told s)
]

-- one section more, which is changed alone
one_first : (test : ℕ → Bool) (free rest result : set.FinSet nat_cmp) (sections : List SectionNo) (x : ℕ) → 1 ≤ length sections
    → x ≡ (slice_index_or sections 0 (record { 0 = 0 })).0
    → Tells test free (ordinals (take (length sections - 1) (drop 1 sections))) rest → set.contains result x ≡ test x
    → ((q : ℕ) → q ≢ x → set.contains result q ≡ set.contains rest q) → Tells test free (ordinals sections) result
one_first test free rest result sections x some at told here others =
    subst (λ ss. Tells test free (ordinals ss) result) (sym (first_rest sections (record { 0 = 0 }) some))
    (subst (λ y. Tells test free (y ∷ ordinals (take (length sections - 1) (drop 1 sections))) result) at
    (tells_first test free rest result x (ordinals (take (length sections - 1) (drop 1 sections))) told here others))

-- with its seats not all held, and with all held
pub freed_first : (test : ℕ → Bool) (free rest : set.FinSet nat_cmp) (sections : List SectionNo) (x : ℕ) → 1 ≤ length sections
    → x ≡ (slice_index_or sections 0 (record { 0 = 0 })).0 → test x ≡ true
    → Tells test free (ordinals (take (length sections - 1) (drop 1 sections))) rest → Tells test free (ordinals sections) (set.insert rest x)
freed_first test free rest sections x some at is told =
    one_first test free rest (set.insert rest x) sections x some at told (insert_here rest x ∙ sym is) (λ q apart. insert_there rest x q apart)

pub taken_first : (test : ℕ → Bool) (free rest : set.FinSet nat_cmp) (sections : List SectionNo) (x : ℕ) → 1 ≤ length sections
    → x ≡ (slice_index_or sections 0 (record { 0 = 0 })).0 → test x ≡ false
    → Tells test free (ordinals (take (length sections - 1) (drop 1 sections))) rest → Tells test free (ordinals sections) (set.remove rest x)
taken_first test free rest sections x some at is told =
    one_first test free rest (set.remove rest x) sections x some at told (remove_here rest x ∙ sym is) (λ q apart. remove_there rest x q apart)

-- one section more that may be chosen
pub with_first : (free rest : set.FinSet nat_cmp) (sections : List SectionNo) (x : ℕ) → 1 ≤ length sections
    → x ≡ (slice_index_or sections 0 (record { 0 = 0 })).0
    → ((s : ℕ) → set.contains rest s ≡ (has (ordinals (take (length sections - 1) (drop 1 sections))) s || set.contains free s)) → (s : ℕ)
    → set.contains (set.insert rest x) s ≡ (has (ordinals sections) s || set.contains free s)
with_first free rest sections x some at told s =
    let first : SectionNo = slice_index_or sections 0 (record { 0 = 0 }) in
    let later : List ℕ = ordinals (take (length sections - 1) (drop 1 sections)) in
    let whole = first_rest sections (record { 0 = 0 }) some in
    subst (λ ss. set.contains (set.insert rest x) s ≡ (has (ordinals ss) s || set.contains free s)) (sym whole)
    (subst (λ y. set.contains (set.insert rest x) s ≡ (has (y ∷ later) s || set.contains free s)) at
    (elim (cases_Bool (x == s)) [
      | inl same ↦ let e : x ≡ s = grind (arith, nat_tests) in rw same (subst (λ q. set.contains (set.insert rest x) q ≡ true) e (insert_here rest x))
      | inr apart ↦ let other : s ≢ x = λ e. grind (arith, nat_tests) in rw apart (insert_there rest x s other ∙ told s)
    ]))

-- the free ones of the first sections
abbrev pub FreeBelow : List ℕ → List ℕ → ℕ → set.FinSet nat_cmp → Type 0
FreeBelow counts seats n free = (s : ℕ) → set.contains free s ≡ (nat_lt s n && nat_lt (slice_index counts s) (slice_index seats s))

pub free_none : (counts seats : List ℕ) → FreeBelow counts seats 0 set.empty
free_none counts seats s = contains-empty nat_cmp s ∙ ap (λ b. b && nat_lt (slice_index counts s) (slice_index seats s)) (sym (le-ltb s 0 (omega arith)))

pub free_one : (counts seats : List ℕ) (n : ℕ) (free : set.FinSet nat_cmp) → FreeBelow counts seats n free → slice_index counts n < slice_index seats n
    → FreeBelow counts seats (n + 1) (set.insert free n)
free_one counts seats n free so_far room s = elim (cases_order s n) [
  | inl same ↦ let here = insert_here free n in rw same (here ∙ grind (arith, nat_tests))
  | inr (inl below) ↦ let told = insert_there free n s (λ e. omega arith) ∙ so_far s in told ∙ grind (arith, nat_tests)
  | inr (inr above) ↦ let told = insert_there free n s (λ e. omega arith) ∙ so_far s in told ∙ grind (arith, nat_tests)
]

pub free_same : (counts seats : List ℕ) (n : ℕ) (free : set.FinSet nat_cmp) → FreeBelow counts seats n free → slice_index seats n ≤ slice_index counts n
    → FreeBelow counts seats (n + 1) free
free_same counts seats n free so_far full s = elim (cases_order s n) [
  | inl same ↦ rw same (so_far n ∙ grind (arith, nat_tests))
  | inr (inl below) ↦ so_far s ∙ grind (arith, nat_tests)
  | inr (inr above) ↦ so_far s ∙ grind (arith, nat_tests)
]

-- a section without seats is not free
pub no_seats : (seats : List ℕ) (count s : ℕ) → length seats ≤ s → nat_lt count (slice_index seats s) ≡ false
no_seats seats count s past = let none : slice_index seats s ≡ 0 = get_or_past seats s 0 past in le-ltb count (slice_index seats s) (omega arith)

pub free_all : (counts seats : List ℕ) (n : ℕ) (free : set.FinSet nat_cmp) → length seats ≤ n → FreeBelow counts seats n free → (s : ℕ)
    → set.contains free s ≡ nat_lt (slice_index counts s) (slice_index seats s)
free_all counts seats n free done so_far s = elim (cases_lt s n) [
  | inl below ↦ so_far s ∙ grind (arith, nat_tests)
  | inr past ↦
      so_far s ∙ ap (λ b. nat_lt s n && b) (no_seats seats (slice_index counts s) s (omega arith)) ∙ and_false (nat_lt s n)
      ∙ sym (no_seats seats (slice_index counts s) s (omega arith))
]
  where
    and_false : (b : Bool) → (b && false) ≡ false
    and_false true = refl
    and_false false = refl
