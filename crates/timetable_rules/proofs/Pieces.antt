-- The text of a list of meetings, cut at the semicolons.
use Rattle.std.proofs.Common.{ℕ, suc, zero, ◌+◌, ◌<◌, ◌≤◌, ◌≡◌, ◌≢◌, ◌/◌, ◌%◌, false, List, [], ◌∷◌, length, get_or, map, eqb, arith, ap, sym, ◌∙◌, refl, Option, None}
use Rattle.std.specs.List.{All, slice_split, join_with_byte}
use Rattle.std.proofs.lemmas.List.Splits.{slice_split_at, slice_split_none, join_with_byte-slice_split}
use Rattle.std.proofs.lemmas.List.{length-map}
use Rattle.std.proofs.lemmas.Bool.{ne_eqb}
use Rattle.std.specs.Iterator.{Yields}
use Rattle.std.proofs.lemmas.Iterator.{YieldsList}
use Rattle.std.proofs.lemmas.Iterator.Consumers.{YieldsList-end}
use Rattle.timetable_rules.specs.declared.meeting.Meeting.{Meeting}
use Rattle.timetable_rules.specs.Meeting.{IsMeeting}
use Rattle.timetable_rules.specs.Spelling.{Spells, spelling, day_letter}

-- a part of a list of which each element has the property
pub All-tail : {X : Type 0} (P : X → Type 0) (x : X) (xs : List X) → All P (x ∷ xs) → All P xs
All-tail P x xs all = λ k d inside. all (suc k) d (omega arith)

pub All-head : {X : Type 0} (P : X → Type 0) (x : X) (xs : List X) → All P (x ∷ xs) → P x
All-head P x xs all = all 0 x (omega arith)

-- a letter of a day is no semicolon
letter_differs : (day : ℕ) → day_letter day ≢ 59
letter_differs zero e = absurd (omega arith)
letter_differs (suc zero) e = absurd (omega arith)
letter_differs (suc (suc zero)) e = absurd (omega arith)
letter_differs (suc (suc (suc zero))) e = absurd (omega arith)
letter_differs (suc (suc (suc (suc zero)))) e = absurd (omega arith)
letter_differs (suc (suc (suc (suc (suc zero))))) e = absurd (omega arith)
letter_differs (suc (suc (suc (suc (suc (suc zero)))))) e = absurd (omega arith)
letter_differs (suc (suc (suc (suc (suc (suc (suc k))))))) e = absurd (omega arith)

-- no element is a semicolon, said one element after another
abbrev Lacks : List ℕ → Type 0
Lacks [] = Unit {0}
Lacks (b ∷ bs) = (eqb b 59 ≡ false) × Lacks bs

All-from_Lacks : (bs : List ℕ) → Lacks bs → All (λ b. eqb b 59 ≡ false) bs
All-from_Lacks [] lacks k d inside = absurd (omega arith)
All-from_Lacks (b ∷ bs) lacks zero d inside = lacks.0
All-from_Lacks (b ∷ bs) lacks (suc k) d inside = All-from_Lacks bs lacks.1 k d (omega arith)

digit_differs : (d : ℕ) → d < 10 → eqb (48 + d) 59 ≡ false
digit_differs d small = ne_eqb (48 + d) 59 (λ (e : 48 + d ≡ 59). omega arith)

-- no semicolon stands in a meeting
spelling_lacks : (m : Meeting) → IsMeeting m → All (λ b. eqb b 59 ≡ false) (spelling m)
spelling_lacks m is =
    let first : m.start / 60 < 24 = omega (arith, is.in_order, is.same_day) in
    let last : m.end / 60 < 24 = omega (arith, is.same_day) in
    All-from_Lacks (spelling m) (
      ne_eqb (day_letter m.day) 59 (letter_differs m.day),
      (
        digit_differs (m.start / 60 / 10) (omega arith),
        (
          digit_differs (m.start / 60 % 10) (omega arith),
          (
            digit_differs (m.start % 60 / 10) (omega arith),
            (
              digit_differs (m.start % 60 % 10) (omega arith),
              (
                refl,
                (
                  digit_differs (m.end / 60 / 10) (omega arith),
                  (
                    digit_differs (m.end / 60 % 10) (omega arith),
                    (
                      digit_differs (m.end % 60 / 10) (omega arith),
                      (
                        digit_differs (m.end % 60 % 10) (omega arith),
                        tt,
                      ),
                    ),
                  ),
                ),
              ),
            ),
          ),
        ),
      ),
    )

-- the pieces of the joined text are the spelled meetings
pieces : (m : Meeting) (ms : List Meeting) → All IsMeeting (m ∷ ms)
    → slice_split (λ b. eqb b 59) (join_with_byte 59 (map spelling (m ∷ ms))) ≡ map spelling (m ∷ ms)
pieces m [] all = slice_split_none (λ b. eqb b 59) (spelling m) (spelling_lacks m (All-head IsMeeting m [] all))
pieces m (n ∷ ms) all =
    slice_split_at (λ b. eqb b 59) (spelling m) 59 (join_with_byte 59 (map spelling (n ∷ ms))) (spelling_lacks m (All-head IsMeeting m (n ∷ ms) all)) refl
    ∙ ap (λ (rest : List (List ℕ)). spelling m ∷ rest) (pieces n ms (All-tail IsMeeting m (n ∷ ms) all))

spelled_at : (ms : List Meeting) (k : ℕ) (d : List ℕ) → All IsMeeting ms → k < length ms
    → (m : Meeting) × IsMeeting m × (get_or (map spelling ms) k d ≡ spelling m)
spelled_at [] k d all inside = absurd (omega arith)
spelled_at (m ∷ ms) zero d all inside = (m, All-head IsMeeting m ms all, refl)
spelled_at (m ∷ ms) (suc k) d all inside = spelled_at ms k d (All-tail IsMeeting m ms all) (omega arith)

-- the pieces of a spelled text are the spelled meetings
pub pieces_of_spelled : (text : List ℕ) (ms : List Meeting) → Spells text ms → 0 < length text → slice_split (λ b. eqb b 59) text ≡ map spelling ms
pieces_of_spelled text [] spells some = absurd (omega (arith, ap length spells.joined))
pieces_of_spelled text (m ∷ ms) spells some = ap (slice_split (λ b. eqb b 59)) spells.joined ∙ pieces m ms spells.each

-- each piece of a spelled text spells a meeting
pub meeting_of_piece : (text : List ℕ) (ms : List Meeting) (k : ℕ) (d : List ℕ) → Spells text ms → 0 < length text
    → k < length (slice_split (λ b. eqb b 59) text)
    → (m : Meeting) × IsMeeting m × (get_or (slice_split (λ b. eqb b 59) text) k d ≡ spelling m)
meeting_of_piece text ms k d spells some inside =
    let cut = pieces_of_spelled text ms spells some in
    let within : k < length ms = omega (arith, ap length cut, length-map ms spelling) in
    let (m, is, here) = spelled_at ms k d spells.each within in
    (m, is, ap (λ (xs : List (List ℕ)). get_or xs k d) cut ∙ here)

-- a spelled text has at most ten pieces
pub few_pieces : (text : List ℕ) (ms : List Meeting) → Spells text ms → 0 < length text → length (slice_split (λ b. eqb b 59) text) ≤ 10
few_pieces text ms spells some = omega (arith, ap length (pieces_of_spelled text ms spells some), length-map ms spelling, spells.few)

-- the pieces, where they spell meetings, give the whole text
pub spelled_by_pieces : (text : List ℕ) (ms : List Meeting) → length ms ≤ 10 → All IsMeeting ms → map spelling ms ≡ slice_split (λ b. eqb b 59) text
    → Spells text ms
spelled_by_pieces text ms few each cut = record {
  few = few;
  each = each;
  joined = sym (ap (join_with_byte 59) cut ∙ join_with_byte-slice_split 59 text);
}

pub all_at_end : {S A B : Type 0} {steps : S → Option A → S → Type 0} {v : A → B} {s : S} {all : List B} (xs : List A) (t : S) (y : Yields steps s xs t)
    → (r : Option A) (u : S) → r ≡ None → steps t r u → YieldsList steps v s all → (map v xs ≡ all) × (length xs ≡ length all)
all_at_end xs t y r u is step e = YieldsList-end e xs t y r u is step
