-- How long the texts of a made market are at most.
use Rattle.std.proofs.Common.{ℕ, suc, ◌≡◌, ◌+◌, ◌*◌, ◌/◌, ◌%◌, ◌^◌, ◌<◌, ◌≤◌, Bool, true, false, not, List, [], ◌∷◌, ◌++◌, length, length-append, map, ap, subst, sym, refl, arith, mod-lt, ◌∙◌}
use Rattle.std.specs.Prelude.{All, ℤ, pos, negsuc, ◌-ℤ◌, codes, if◌then◌else◌, nat_lt}
use Rattle.std.specs.Fmt.{decimal, signed_decimal}
use Rattle.std.proofs.lemmas.Int.{ints}
use Rattle.std.specs.List.{filter, flat_map, range_with_len}
use Rattle.std.proofs.lemmas.Fmt.{length-decimal-le}
use Rattle.std.proofs.lemmas.List.Concat.{flat_map-append, length-flat_map}
use Rattle.std.proofs.lemmas.List.Elements.{All-filter}
use Rattle.std.proofs.lemmas.List.FromFn.{get_or-map-range_with_len, get_or-range_with_len, length-map-range_with_len, length-range_with_len}
use Rattle.std.proofs.lemmas.List.Filters.{length-filter_both}
use Rattle.std.proofs.lemmas.List.Sums.{sum_by-le}
use Rattle.market_maker.specs.Catalogs.{catalog_header, catalog_text, meeting_of, section_name, section_row, course_name}
use Rattle.market_maker.specs.Laws.{MadeMarketsAreWithinLimits}
use Rattle.market_maker.specs.Lines.{ended, numbers_to, text_of}
use Rattle.market_maker.specs.Rolls.{roll_header, roll_text, student_name, student_row}
use Rattle.market_maker.specs.Settings.{settings_text}
use Rattle.market_maker.proofs.Members.{settings_begin, settings_end, settings_middle, settings_parts}
use Rattle.market_maker.specs.Sessions.{adjustment_line, adjustment_lines, lines_of, rated_count, rated_section, rating_behind, rating_line, rating_of, student_lines, adjustment_of, is_odd, is_even}

decimal_short : (n : ℕ) → n < 2 ^ 64 → length (decimal n) ≤ 20
decimal_short n small = length-decimal-le 20 n (omega arith) (omega arith) small

signed_short : (z : ℤ) (a b : ℕ) → z ≡ pos a -ℤ pos b → a < 41 → b ≤ 20 → length (signed_decimal z) ≤ 21
signed_short (pos n) a b e small small' = omega (arith, decimal_short n (omega (arith, ints, e)))
signed_short (negsuc n) a b e small small' = omega (arith, decimal_short (suc n) (omega (arith, ints, e)))

four_fields : (s : ℕ) (a b c d : List ℕ) → length ((a ++ s ∷ (b ++ s ∷ (c ++ s ∷ d))) ++ 10 ∷ []) ≡ length a + length b + length c + length d + 4
four_fields s a b c d = grind (arith, length-append)

five_fields : (s : ℕ) (a b c d e : List ℕ)
    → length ((a ++ s ∷ (b ++ s ∷ (c ++ s ∷ (d ++ s ∷ e)))) ++ 10 ∷ []) ≡ length a + length b + length c + length d + length e + 5
five_fields s a b c d e = grind (arith, length-append)

five_parts : (a b c d e : List ℕ) → length ((((a ++ b) ++ c) ++ d) ++ e) ≡ length a + length b + length c + length d + length e
five_parts a b c d e = grind (arith, length-append)

-- what holds of each number holds of the list
each_mapped : {X : Type 0} (f : ℕ → X) (P : X → Type 0) (from n : ℕ) → ((j : ℕ) → from ≤ j → j < from + n → P (f j)) → All P (map f (range_with_len from n))
each_mapped f P from n each k d inside =
    let within : k < n = omega (arith, length-map-range_with_len f from n) in
    subst P (sym (get_or-map-range_with_len f from n k (from + k) d within refl)) (each (from + k) (omega arith) (omega arith))

each_number : (P : ℕ → Type 0) (n : ℕ) → ((j : ℕ) → 1 ≤ j → j < 1 + n → P j) → All P (numbers_to n)
each_number P n each k d inside =
    let within : k < n = omega (arith, length-range_with_len 1 n) in
    subst P (sym (get_or-range_with_len 1 n k d within)) (each (1 + k) (omega arith) (omega arith))

text_short : (m : ℕ) (lines : List (List ℕ)) → All (λ line. length (ended line) ≤ m) lines → length (text_of lines) ≤ length lines * m
text_short m lines each = subst (λ (n : ℕ). n ≤ length lines * m) (sym (length-flat_map ended lines)) (sum_by-le (λ line. length (ended line)) m lines each)

mapped_short : (f : ℕ → List ℕ) (m from n : ℕ) → ((j : ℕ) → from ≤ j → j < from + n → length (ended (f j)) ≤ m)
    → length (text_of (map f (range_with_len from n))) ≤ n * m
mapped_short f m from n each =
    let rows = map f (range_with_len from n) in
    subst (λ (k : ℕ). length (text_of rows) ≤ k * m) (length-map-range_with_len f from n)
    (text_short m rows (each_mapped f (λ line. length (ended line) ≤ m) from n each))

table_short : (header : List ℕ) (f : ℕ → List ℕ) (m n : ℕ) → length (ended header) ≤ m → ((j : ℕ) → 1 ≤ j → j < 1 + n → length (ended (f j)) ≤ m)
    → length (text_of (header ∷ map f (numbers_to n))) ≤ m + n * m
table_short header f m n h each = omega (arith, length-append (ended header) (text_of (map f (numbers_to n))), mapped_short f m 1 n each)

section_short : (students j : ℕ) → students ≤ 2000 → j ≤ 400 → length (ended (section_row students j)) ≤ 120
section_short students j few small =
    omega (
      arith,
      five_fields 44 (section_name j) (course_name j) (decimal (1 + students / 4)) (decimal (1 + j % 3)) (meeting_of j),
      decimal_short j (omega arith),
      decimal_short ((j + 1) / 2) (omega arith),
      decimal_short (1 + students / 4) (omega arith),
      decimal_short (1 + j % 3) (omega arith),
    )

pub catalog_short : (students sections : ℕ) → students ≤ 2000 → sections ≤ 400 → length (catalog_text students sections) ≤ 16777216
catalog_short students sections few small =
    omega (arith, table_short catalog_header (section_row students) 120 sections (omega arith) (λ j some inside. section_short students j few (omega arith)))

student_short : (i : ℕ) → i ≤ 2000 → length (ended (student_row i)) ≤ 120
student_short i small = omega (arith, four_fields 44 (student_name i) (codes "100000") (codes "12") (codes "4"), decimal_short i (omega arith))

pub roll_short : (students : ℕ) → students ≤ 2000 → length (roll_text students) ≤ 16777216
roll_short students few = omega (arith, table_short roll_header student_row 120 students (omega arith) (λ i some inside. student_short i (omega arith)))

pub settings_short : (seed accept : ℕ) → seed < 2 ^ 64 → accept < 2 ^ 64 → length (settings_text seed accept) ≤ 16777216
settings_short seed accept small small' =
    omega (
      arith,
      ap length (settings_parts seed accept),
      five_parts settings_begin (decimal seed) settings_middle (decimal accept) settings_end,
      decimal_short seed small,
      decimal_short accept small',
    )

pub rated_small : (sections i t : ℕ) → 1 ≤ sections → sections ≤ 400 → rated_section sections i t ≤ 400
rated_small sections i t some few =
    let below : (7 * i + t) % sections < sections = mod-lt (7 * i + t) some in
    omega (arith, below)

rating_short : (seed i j : ℕ) → i ≤ 2000 → j ≤ 400 → length (ended (rating_line seed i j)) ≤ 120
rating_short seed i j small small' =
    omega (
      arith,
      four_fields 32 (codes "rate") (student_name i) (section_name j) (decimal (rating_of seed i j)),
      decimal_short i (omega arith),
      decimal_short j (omega arith),
      decimal_short (rating_of seed i j) (omega arith),
    )

adjustment_short : (seed sections i : ℕ) → i ≤ 2000 → 1 ≤ sections → sections ≤ 400 → length (ended (adjustment_line seed sections i)) ≤ 120
adjustment_short seed sections i small some few =
    let one = rated_section sections i 0 in
    let other = rated_section sections i 1 in
    omega (
      arith,
      five_fields 32 (codes "pair") (student_name i) (section_name one) (section_name other) (signed_decimal (adjustment_of seed i)),
      decimal_short i (omega arith),
      decimal_short one (omega (arith, rated_small sections i 0 some few)),
      decimal_short other (omega (arith, rated_small sections i 1 some few)),
      signed_short (adjustment_of seed i) ((seed % 41 + i) % 41) 20 refl (omega arith) (omega arith),
    )

-- at most one line, and it is short
one_few : (b : Bool) (line : List ℕ) → length (if b then [] else (line ∷ [])) ≤ 1
one_few true line = omega arith
one_few false line = omega arith

one_short : (m : ℕ) (b : Bool) (line : List ℕ) → length (ended line) ≤ m → length (text_of (if b then [] else (line ∷ []))) ≤ m
one_short m true line short = omega arith
one_short m false line short = omega (arith, length-append (ended line) [])

student_few : (seed sections i : ℕ) → length (student_lines seed sections i) ≤ 21
student_few seed sections i =
    omega (
      arith,
      length-append (map (rating_behind seed sections i) (range_with_len 0 (rated_count sections))) (adjustment_lines seed sections i),
      length-map-range_with_len (rating_behind seed sections i) 0 (rated_count sections),
      one_few (nat_lt (rated_count sections) 2) (adjustment_line seed sections i),
    )

student_text_short : (seed sections i : ℕ) → i ≤ 2000 → 1 ≤ sections → sections ≤ 400 → length (text_of (student_lines seed sections i)) ≤ 3000
student_text_short seed sections i small some few =
    let ratings = map (rating_behind seed sections i) (range_with_len 0 (rated_count sections)) in
    let short =
    mapped_short (rating_behind seed sections i) 120 0 (rated_count sections)
    (λ t least most. rating_short seed i (rated_section sections i t) small (rated_small sections i t some few)) in
    let last = one_short 120 (nat_lt (rated_count sections) 2) (adjustment_line seed sections i) (adjustment_short seed sections i small some few) in
    omega (
      arith,
      ap length (flat_map-append ended ratings (adjustment_lines seed sections i)),
      length-append (text_of ratings) (text_of (adjustment_lines seed sections i)),
      short,
      last,
    )

flat_text : (g : ℕ → List (List ℕ)) (xs : List ℕ) → text_of (flat_map g xs) ≡ flat_map (λ i. text_of (g i)) xs
flat_text g [] = refl
flat_text g (x ∷ xs) = flat_map-append ended (g x) (flat_map g xs) ∙ ap (λ t. text_of (g x) ++ t) (flat_text g xs)

some_of : (is_in : ℕ → Bool) (n : ℕ) → length (filter is_in (numbers_to n)) ≤ n
some_of is_in n = omega (arith, length-filter_both is_in (λ i. not (is_in i)) (λ i. refl) (numbers_to n), length-range_with_len 1 n)

flat_few : {A : Type 0} (g : ℕ → List A) (m : ℕ) (is_in : ℕ → Bool) (n : ℕ) → ((i : ℕ) → 1 ≤ i → i < 1 + n → length (g i) ≤ m)
    → length (flat_map g (filter is_in (numbers_to n))) ≤ length (filter is_in (numbers_to n)) * m
flat_few g m is_in n each =
    let among = filter is_in (numbers_to n) in
    subst (λ (k : ℕ). k ≤ length among * m) (sym (length-flat_map g among))
    (sum_by-le (λ i. length (g i)) m among (All-filter is_in (λ i. length (g i) ≤ m) (numbers_to n) (each_number (λ i. length (g i) ≤ m) n each)))

pub lines_few : (is_in : ℕ → Bool) (seed students sections : ℕ) → students ≤ 2000 → length (lines_of is_in seed students sections) ≤ 42000
lines_few is_in seed students sections few =
    omega (arith, flat_few (student_lines seed sections) 21 is_in students (λ i least most. student_few seed sections i), some_of is_in students)

pub session_short : (is_in : ℕ → Bool) (seed students sections : ℕ) → students ≤ 2000 → 1 ≤ sections → sections ≤ 400
    → length (text_of (lines_of is_in seed students sections)) ≤ 16777216
session_short is_in seed students sections few some small =
    let among = filter is_in (numbers_to students) in
    omega (
      arith,
      ap length (flat_text (student_lines seed sections) among),
      flat_few (λ i. text_of (student_lines seed sections i)) 3000 is_in students (λ i least most. student_text_short seed sections i (omega arith) some small),
      some_of is_in students,
    )

pub within_limits : MadeMarketsAreWithinLimits
within_limits seed students sections accept seeded few some small accepted = record {
  catalog = catalog_short students sections few small;
  roll = roll_short students few;
  settings = settings_short seed accept seeded (omega arith);
  first = session_short is_odd seed students sections few some small;
  second = session_short is_even seed students sections few some small;
  lines = omega (arith, lines_few is_odd seed students sections few, lines_few is_even seed students sections few);
}
