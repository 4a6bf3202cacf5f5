-- Meetings by their days.
use Rattle.std.proofs.Common.{ℕ, ◌≡◌, ◌<◌, ◌*◌, ◌^◌, ◌%◌, ◌∷◌, min, false, List, [], ◌+◌, get_or, length, take, set, arith, sym, ap, ◌∙◌, subst, inl, inr, w8}
use Rattle.std.specs.Prelude.{bit_and, bit_or}
use Rattle.std.specs.Int.{bit_at}
use Rattle.std.specs.List.{list_any}
use Rattle.std.proofs.lemmas.Bool.{cases_eq}
use Rattle.std.proofs.lemmas.Bool.Decides.{nat_tests}
use Rattle.std.proofs.lemmas.List.{take_more_set}
use Rattle.std.proofs.lemmas.List.Elements.{All-nil, All-cons, All-append}
use Rattle.std.proofs.lemmas.List.Folds.{list_any_none}
use Rattle.std.proofs.lemmas.Nat.Bits.{bit_at-zero, bit_at-lt, bit_at_and, bit_at_or, bit_at_set_same}
use Rattle.timetable_rules.specs.declared.meeting.Meeting.{Meeting}
use Rattle.timetable_rules.specs.Days.{AreOnDays}
use Rattle.timetable_rules.specs.Overlap.{overlaps, some_overlap}

-- more days are the days of the same meetings too
pub on_more_days : (days more : ℕ) (meetings : List Meeting) → AreOnDays days meetings → AreOnDays (bit_or days more) meetings
on_more_days days more meetings are k d low =
    let own : bit_at days (get_or meetings k d).day ≡ 1 = are k d low in
    let other : bit_at more (get_or meetings k d).day < 2 = bit_at-lt more (get_or meetings k d).day in
    let both = bit_at_or days more (get_or meetings k d).day in
    omega arith

module _ (x y : ℕ) (none : bit_and x y ≡ 0) where
  -- meetings of different days do not overlap
  differ : (m n : Meeting) → bit_at x m.day ≡ 1 → bit_at y n.day ≡ 1 → overlaps m n ≡ false
  differ m n first second = elim (cases_eq m.day n.day) [
    | inl same ↦
        let both : bit_at (bit_and x y) m.day ≡ min (bit_at x m.day) (bit_at y m.day) = bit_at_and x y m.day in
        let clear : bit_at (bit_and x y) m.day ≡ 0 = ap (λ w. bit_at w m.day) none ∙ bit_at-zero m.day in
        let other : bit_at y m.day ≡ 1 = ap (bit_at y) same ∙ second in
        absurd (omega arith)
    | inr apart ↦ grind (arith, nat_tests, apart)
  ]

  -- where no day is of both, no two meetings overlap
  pub on_other_days : (ones others : List Meeting) → AreOnDays x ones → AreOnDays y others → some_overlap ones others ≡ false
  on_other_days ones others first second =
      list_any_none (λ m. list_any (overlaps m) others) ones
      (λ k d low.
      list_any_none (overlaps (get_or ones k d)) others
      (λ j e low'. differ (get_or ones k d) (get_or others j e) (first k d low) (second j e low')))

-- one more meeting, on its day
pub on_one_more_day : (days : ℕ) (places : List Meeting) (len : ℕ) (meeting : Meeting) → len < length places → meeting.day < 8 → AreOnDays days (take len places)
    → AreOnDays (bit_or days (1 * 2 ^ meeting.day % 2 ^ 8)) (take (len + 1) (set places len meeting))
on_one_more_day days places len meeting room weekday are =
    let more : ℕ = 1 * 2 ^ meeting.day % 2 ^ 8 in
    let own : bit_at (bit_or days more) meeting.day ≡ 1 = bit_at_set_same w8 days meeting.day weekday in
    let on : Meeting → Type 0 = λ m. bit_at (bit_or days more) m.day ≡ 1 in
    subst (AreOnDays (bit_or days more)) (sym (take_more_set places len meeting room))
    (All-append on (take len places) (meeting ∷ []) (on_more_days days more (take len places) are) (All-cons on meeting [] own (All-nil on)))
