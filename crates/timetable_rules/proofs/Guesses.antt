-- What is guessed from a spelled text is what it spells.
use Rattle.std.proofs.Common.{ℕ, suc, zero, ◌<◌, ◌≡◌, ◌↔◌, Bool, true, false, cond, List, [], ◌∷◌, length, map, eqb, arith, ap, sym, ◌∙◌, refl, Option, Some, None, inl, inr}
use Rattle.std.specs.Prelude.{codes, nat_le, option_map, IfSome, IfNone}
use Rattle.std.specs.List.{All, join_with_byte, list_all, position_or_len}
use Rattle.std.specs.Str.{bytes_eq}
use Rattle.std.proofs.lemmas.Bool.{cases_Bool}
use Rattle.std.proofs.lemmas.Bool.Decides.{nat_tests}
use Rattle.std.proofs.lemmas.List.Sums.{AllPass-from_list_all, list_all-from_AllPass}
use Rattle.std.proofs.lemmas.Slice.Eq.{bytes_eq-Decides}
use Rattle.plain_facts.proofs.Truths.{and_three}
use Rattle.timetable_rules.specs.declared.meeting.Meeting.{Meeting}
use Rattle.timetable_rules.specs.declared.meetings.Meetings.{Meetings}
use Rattle.timetable_rules.specs.Meeting.{IsMeeting, is_meeting}
use Rattle.timetable_rules.specs.Meetings.{meetings_of}
use Rattle.timetable_rules.specs.Spelling.{Spells, spelling, day_letter}
use Rattle.timetable_rules.specs.Spelled.{guessed, guessed_meeting, spells, spelled}
use Rattle.timetable_rules.proofs.Pieces.{All-head, All-tail, pieces_of_spelled}

guessed_day : (day : ℕ) → day < 7 → position_or_len (λ letter. eqb letter (day_letter day)) (codes "MTWRFSU") ≡ day
guessed_day zero small = refl
guessed_day (suc zero) small = refl
guessed_day (suc (suc zero)) small = refl
guessed_day (suc (suc (suc zero))) small = refl
guessed_day (suc (suc (suc (suc zero)))) small = refl
guessed_day (suc (suc (suc (suc (suc zero))))) small = refl
guessed_day (suc (suc (suc (suc (suc (suc zero)))))) small = refl
guessed_day (suc (suc (suc (suc (suc (suc (suc k))))))) small = absurd (omega arith)

same_meeting : (m : Meeting) (day start end : ℕ) → day ≡ m.day → start ≡ m.start → end ≡ m.end
    → (let guess : Meeting = record { day = day; start = start; end = end } in guess) ≡ m
same_meeting m day start end d s e = rw (d, s, e) refl

guessed_meeting-spelling : (m : Meeting) → IsMeeting m → guessed_meeting (spelling m) ≡ m
guessed_meeting-spelling m is =
    same_meeting m _ _ _ (guessed_day m.day is.weekday) (omega arith) (omega arith)

map-guessed_meeting : (ms : List Meeting) → All IsMeeting ms → map guessed_meeting (map spelling ms) ≡ ms
map-guessed_meeting [] all = refl
map-guessed_meeting (m ∷ ms) all =
    let first = guessed_meeting-spelling m (All-head IsMeeting m ms all) in
    let more = map-guessed_meeting ms (All-tail IsMeeting m ms all) in
    rw (first, more) refl

guessed_is : (text : List ℕ) (ms : List Meeting) → Spells text ms → guessed text ≡ ms
guessed_is [] [] spells = refl
guessed_is (b ∷ bs) [] spells = absurd (omega (arith, ap length spells.joined))
guessed_is [] (m ∷ []) spells = absurd (omega (arith, ap length spells.joined))
guessed_is [] (m ∷ n ∷ ms) spells = absurd (omega (arith, ap length spells.joined))
guessed_is (b ∷ bs) (m ∷ ms) spells =
    ap (map guessed_meeting) (pieces_of_spelled (b ∷ bs) (m ∷ ms) spells (omega arith)) ∙ map-guessed_meeting (m ∷ ms) spells.each

meeting_by_test : (m : Meeting) → is_meeting m ≡ true → IsMeeting m
meeting_by_test m t = record { weekday = grind (arith, nat_tests); in_order = grind (arith, nat_tests); same_day = grind (arith, nat_tests) }

test_by_meeting : (m : Meeting) → IsMeeting m → is_meeting m ≡ true
test_by_meeting m is = grind (arith, nat_tests, is.weekday, is.in_order, is.same_day)

Spells-from_test : (text : List ℕ) (ms : List Meeting) → spells text ms ≡ true → Spells text ms
Spells-from_test text ms t =
    let parts = and_three (nat_le (length ms) 10) (list_all is_meeting ms) (bytes_eq text (join_with_byte 59 (map spelling ms))) t in
    record {
      few = grind (arith, nat_tests, parts.0);
      each = λ k d inside. meeting_by_test _ (AllPass-from_list_all is_meeting ms parts.1 k d inside);
      joined = (bytes_eq-Decides text _).0 parts.2;
    }

test-from_Spells : (text : List ℕ) (ms : List Meeting) → Spells text ms → spells text ms ≡ true
test-from_Spells text ms spells =
    let few : nat_le (length ms) 10 ≡ true = grind (arith, nat_tests, spells.few) in
    let each : list_all is_meeting ms ≡ true = list_all-from_AllPass is_meeting ms (λ k d inside. test_by_meeting _ (spells.each k d inside)) in
    let joined : bytes_eq text (join_with_byte 59 (map spelling ms)) ≡ true = (bytes_eq-Decides text _).1 spells.joined in
    rw (few, each, joined) refl

chosen : (b : Bool) (ms : List Meeting) (found : List Meeting) → cond b (Some ms) None ≡ Some found → (b ≡ true) × (ms ≡ found)
chosen true ms found e = (refl, cc)
chosen false ms found e = absurd (cc)

-- the function is the relation
pub spelled-relation : (text : List ℕ) (ms : List Meeting) → (spelled text ≡ Some ms) ↔ Spells text ms
spelled-relation text ms = (
  λ e. let h = chosen (spells text (guessed text)) (guessed text) ms e in rw h.1 at (Spells-from_test text (guessed text) h.0),
  λ is. let g = guessed_is text ms is in
      let t : spells text (guessed text) ≡ true = rw g (test-from_Spells text ms is) in
      rw t (ap Some g),
)

-- a text spells one list at most
pub one_list : (text : List ℕ) (ones others : List Meeting) → Spells text ones → Spells text others → ones ≡ others
one_list text ones others a b = sym (guessed_is text ones a) ∙ guessed_is text others b

-- what is read, by the relation, is what the function gives
pub read_is_spelled : (text : List ℕ) (read : Option Meetings) → IfSome read (λ ms. Spells text (meetings_of ms))
    → IfNone read ((ms : List Meeting) → ¬ Spells text ms) → option_map meetings_of read ≡ spelled text
read_is_spelled text (Some ms) some none = sym ((spelled-relation text (meetings_of ms)).1 some)
read_is_spelled text None some none = elim (cases_Bool (spells text (guessed text))) [
  | inl t ↦ absurd (none (guessed text) (Spells-from_test text (guessed text) t))
  | inr f ↦ rw f refl
]
