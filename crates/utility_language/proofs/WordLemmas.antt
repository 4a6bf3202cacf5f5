-- The first word of a line, and words joined by spaces.
use Rattle.std.proofs.Common.{ℕ, zero, suc, ◌+◌, ◌≡◌, ◌<◌, true, false, not, List, [], ◌∷◌, ◌++◌, length, take, drop, get_or, arith, add-zero, ◌-◌, refl, ap, sym, ◌∙◌, ◌≤◌, true≢false}
use Rattle.std.specs.List.{filter, slice_split, position}
use Rattle.std.specs.Prelude.{nat_lt, IsTrue, Some, None}
use Rattle.std.proofs.lemmas.Bool.{lt-ltb}
use Rattle.std.proofs.lemmas.List.{drop_all, drop_more, take-append-drop, take_rest, get_or-drop, get_or-take, length-drop, length-take}
use Rattle.std.proofs.lemmas.List.Sums.{fails_before_first, passes_at_first}
use Rattle.std.proofs.lemmas.List.Splits.{slice_split_none, slice_split_at, slice_split-cons_yes}
use Rattle.plain_facts.proofs.Truths.{not_false, not_true}
use Rattle.utility_language.specs.Words.{is_blank, words_of}
use Rattle.utility_language.proofs.LineLemmas.{IsPosition, position_found, position_none}
use Rattle.utility_language.specs.Laws.{IsWord, WordsOfALineLaw}

with_word : (word : List ℕ) (parts : List (List ℕ)) → 0 < length word
    → filter (λ part. nat_lt 0 (length part)) (word ∷ parts) ≡ word ∷ filter (λ part. nat_lt 0 (length part)) parts
with_word word parts some = rw (lt-ltb 0 (length word) some) refl

pub blank_passes : (byte : ℕ) (rest : List ℕ) → IsTrue (is_blank byte) → words_of (byte ∷ rest) ≡ words_of rest
blank_passes byte rest blank = ap (filter (λ part. nat_lt 0 (length part))) (slice_split-cons_yes is_blank byte rest blank)

pub ended_word : (word : List ℕ) (byte : ℕ) (rest : List ℕ) → IsWord word → IsTrue (is_blank byte) → words_of (word ++ byte ∷ rest) ≡ word ∷ words_of rest
ended_word word byte rest is blank =
    ap (filter (λ part. nat_lt 0 (length part))) (slice_split_at is_blank word byte rest is.whole blank) ∙ with_word word (slice_split is_blank rest) is.some

pub last_word : (word : List ℕ) → IsWord word → words_of word ≡ word ∷ []
last_word word is = ap (filter (λ part. nat_lt 0 (length part))) (slice_split_none is_blank word is.whole) ∙ with_word word [] is.some

pub words_of_a_line_law : WordsOfALineLaw
words_of_a_line_law = record { none = refl; blank = blank_passes; ended = ended_word; last = last_word }

-- blanks in front are passed over
skip_blanks : (n : ℕ) (line : List ℕ) → n ≤ length line → ((k : ℕ) → k < n → is_blank (get_or line k 0) ≡ true) → words_of line ≡ words_of (drop n line)
skip_blanks zero line fits blanks = refl
skip_blanks (suc n) [] fits blanks = refl
skip_blanks (suc n) (byte ∷ line) fits blanks =
    blank_passes byte line (blanks 0 (omega arith)) ∙ skip_blanks n line (omega arith) (λ k below. blanks (suc k) (omega arith))

pub only_blanks : (line : List ℕ) → position (λ byte. not (is_blank byte)) line ≡ None → words_of line ≡ []
only_blanks line e =
    let blanks = position_none (λ byte. not (is_blank byte)) line e in
    skip_blanks (length line) line (omega arith) (λ k below. not_false _ (blanks k 0 below)) ∙ ap words_of (drop_all (length line) line (omega arith))

-- a line that does not begin with a blank
pub record BeginsWithWord (line : List ℕ) : Type 0 where
  pub some : 0 < length line
  pub first : is_blank (get_or line 0 0) ≡ false

-- from its first byte that is no blank on, a line begins with a word, and has the same words
pub record IsRest (line rest : List ℕ) : Type 0 where
  pub words : words_of line ≡ words_of rest
  pub begins : BeginsWithWord rest

from_start : (line : List ℕ) (start : ℕ) → position (λ byte. not (is_blank byte)) line ≡ Some start → IsRest line (drop start line)
from_start line start e =
    let at = position_found (λ byte. not (is_blank byte)) line start e in
    let inside : start < length line = at.inside in
    let passes = passes_at_first (λ byte. not (is_blank byte)) line 0 (omega (arith, at.first, at.inside)) in
    record {
      words =
          skip_blanks start line (omega (arith, at.inside))
          (λ k below. not_false _ (fails_before_first (λ byte. not (is_blank byte)) line k 0 (omega (arith, at.first))));
      begins = record {
        some = simp length-drop (omega (arith, at.inside));
        first = not_true _ (rw (get_or-drop, add-zero) (rw at.first at passes));
      };
    }

pub from_first_word : (line : List ℕ) (start : ℕ) → position (λ byte. not (is_blank byte)) line ≡ Some start
    → IsRest line (take (length line - start) (drop start line))
from_first_word line start e = rw (take_rest line start) (from_start line start e)

not_at_front : (rest : List ℕ) (end : ℕ) → BeginsWithWord rest → is_blank (get_or rest end 0) ≡ true → 0 < end
not_at_front rest zero begins here = absurd (true≢false (sym here ∙ begins.first))
not_at_front rest (suc end) begins here = omega arith

front_is_word : (rest : List ℕ) (end : ℕ) → BeginsWithWord rest → IsPosition is_blank rest end → IsWord (take end rest)
front_is_word rest end begins at =
    let here : is_blank (get_or rest end 0) ≡ true =
    let passes = passes_at_first is_blank rest 0 (omega (arith, at.first, at.inside)) in rw at.first at passes in
    let some : 0 < end = not_at_front rest end begins here in
    let long : length (take end rest) ≡ end = simp length-take (omega (arith, at.inside)) in
    record {
      some = rw long some;
      whole = λ k d below. let inside : k < end = omega (arith, long) in rw (get_or-take) (fails_before_first is_blank rest k d (omega (arith, at.first)));
    }

-- up to its first blank it is a word
pub word_ended : (rest : List ℕ) (end : ℕ) → BeginsWithWord rest → position is_blank rest ≡ Some end → words_of rest ≡ take end rest ∷ words_of (drop end rest)
word_ended rest end begins e =
    let at = position_found is_blank rest end e in
    let here : is_blank (get_or rest end 0) ≡ true =
    let passes = passes_at_first is_blank rest 0 (omega (arith, at.first, at.inside)) in rw at.first at passes in
    let tail : drop end rest ≡ get_or rest end 0 ∷ drop (end + 1) rest = drop_more rest end 0 at.inside in
    let word : IsWord (take end rest) = front_is_word rest end begins at in
    ap words_of (sym (take-append-drop end rest) ∙ ap (λ behind. take end rest ++ behind) tail)
    ∙ ended_word (take end rest) (get_or rest end 0) (drop (end + 1) rest) word here
    ∙ ap (λ words. take end rest ∷ words) (sym (ap words_of tail ∙ blank_passes (get_or rest end 0) (drop (end + 1) rest) here))

pub word_ended_some : (rest : List ℕ) (end : ℕ) → BeginsWithWord rest → position is_blank rest ≡ Some end → 0 < length (take end rest)
word_ended_some rest end begins e = (front_is_word rest end begins (position_found is_blank rest end e)).some

pub word_last : (rest : List ℕ) → BeginsWithWord rest → position is_blank rest ≡ None → words_of rest ≡ rest ∷ words_of []
word_last rest begins e = last_word rest (record { some = begins.some; whole = position_none is_blank rest e })
