-- The first line of a text.
use Rattle.std.proofs.Common.{ℕ, ◌+◌, ◌≡◌, ◌<◌, ◌==◌, Bool, true, false, cond, List, [], ◌∷◌, ◌++◌, length, take, drop, map, arith, refl, ap, ◌∙◌, inl, inr}
use Rattle.std.specs.Prelude.{Some, None}
use Rattle.std.specs.List.{slice_split, onto_first, position, position_or_len, after_first, All}
use Rattle.std.specs.Str.Lines.{strip_carriage_return}
use Rattle.std.proofs.lemmas.Bool.{ne_eqb, cases_lt, lt-ltb, ltb-true}
use Rattle.std.proofs.lemmas.List.Splits.{slice_split_none, slice_split_at, slice_split_first}
use Rattle.std.proofs.lemmas.List.Sums.{fails_before_first}
use Rattle.utility_language.specs.Lines.{lines_of, without_empty_last}
use Rattle.utility_language.specs.Laws.{IsOneLine, LinesOfATextLaw}

-- a part before other parts stays
kept_part : (part : List ℕ) (parts : List (List ℕ)) → (0 < length parts) → without_empty_last (part ∷ parts) ≡ part ∷ without_empty_last parts
kept_part part [] some = absurd (omega arith)
kept_part part (next ∷ more) some = refl

some_onto : {X : Type 0} (x : X) (parts : List (List X)) → 0 < length (onto_first x parts)
some_onto x [] = omega arith
some_onto x (part ∷ parts) = omega arith

some_choice : {X : Type 0} (b : Bool) (x : X) (parts : List (List X)) → 0 < length (cond b ([] ∷ parts) (onto_first x parts))
some_choice true x parts = omega arith
some_choice false x parts = some_onto x parts

-- a split has a part
pub some_parts : {X : Type 0} (p : X → Bool) (xs : List X) → 0 < length (slice_split p xs)
some_parts p [] = omega arith
some_parts p (x ∷ xs) = some_choice (p x) x (slice_split p xs)

last_part : (part : List ℕ) → 0 < length part → without_empty_last (part ∷ []) ≡ part ∷ []
last_part part some = rw (ne_eqb (length part) 0 (λ e. absurd (omega arith))) refl

pub ended_line : (line rest : List ℕ) → IsOneLine line → lines_of (line ++ 10 ∷ rest) ≡ strip_carriage_return line ∷ lines_of rest
ended_line line rest whole =
    ap (λ parts. map strip_carriage_return (without_empty_last parts)) (slice_split_at (λ byte. byte == 10) line 10 rest whole refl)
    ∙ ap (map strip_carriage_return) (kept_part line (slice_split (λ byte. byte == 10) rest) (some_parts _ rest))

pub last_line : (line : List ℕ) → IsOneLine line → 0 < length line → lines_of line ≡ strip_carriage_return line ∷ []
last_line line whole some =
    ap (λ parts. map strip_carriage_return (without_empty_last parts)) (slice_split_none (λ byte. byte == 10) line whole)
    ∙ ap (map strip_carriage_return) (last_part line some)

pub lines_of_a_text_law : LinesOfATextLaw
lines_of_a_text_law = record { none = refl; ended = ended_line; last = last_line }

-- the first place at which a test passes
pub record IsPosition {X : Type 0} (p : X → Bool) (xs : List X) (i : ℕ) : Type 0 where
  pub first : position_or_len p xs ≡ i
  pub inside : i < length xs

position_cases : {X : Type 0} (p : X → Bool) (xs : List X) (b : Bool) (i : ℕ) → (b ≡ true → position_or_len p xs < length xs)
    → cond b (Some (position_or_len p xs)) None ≡ Some i → IsPosition p xs i
position_cases p xs true i within e =
    let same : position_or_len p xs ≡ i = cc in record { first = same; inside = rw (← same) (within refl) }
position_cases p xs false i within e = cc

pub position_found : {X : Type 0} (p : X → Bool) (xs : List X) (i : ℕ) → position p xs ≡ Some i → IsPosition p xs i
position_found p xs i e = position_cases p xs _ i (λ b. ltb-true _ _ b) e

none_cases : {X : Type 0} (p : X → Bool) (xs : List X) → (position_or_len p xs < length xs → ⊥) → All (λ x. p x ≡ false) xs
none_cases p xs none =
    λ k d inside. fails_before_first p xs k d
    (elim (cases_lt (position_or_len p xs) (length xs)) [ inl within ↦ absurd (none within) | inr above ↦ omega arith ])

pub position_none : {X : Type 0} (p : X → Bool) (xs : List X) → position p xs ≡ None → All (λ x. p x ≡ false) xs
position_none p xs e = none_cases p xs (λ within. let t = lt-ltb _ _ within in let found = rw t at e in cc)

-- up to its first line feed a text is one line
pub first_line_ended : (text : List ℕ) (end : ℕ) → position (λ byte. byte == 10) text ≡ Some end
    → lines_of text ≡ strip_carriage_return (take end text) ∷ lines_of (drop (end + 1) text)
first_line_ended text end e =
    let at = position_found (λ byte. byte == 10) text end e in
    ap (λ parts. map strip_carriage_return (without_empty_last parts)) (slice_split_first (λ byte. byte == 10) text 0 (omega arith))
    ∙ ap (map strip_carriage_return)
    (kept_part _ (slice_split (λ byte. byte == 10) (after_first (λ byte. byte == 10) text)) (some_parts _ (after_first (λ byte. byte == 10) text)))
    ∙ ap (λ at. strip_carriage_return (take at text) ∷ lines_of (drop (at + 1) text)) at.first

-- a text without a line feed is its last line
pub first_line_last : (text : List ℕ) → position (λ byte. byte == 10) text ≡ None → 0 < length text → lines_of text ≡ strip_carriage_return text ∷ lines_of []
first_line_last text e some = last_line text (position_none (λ byte. byte == 10) text e) some
