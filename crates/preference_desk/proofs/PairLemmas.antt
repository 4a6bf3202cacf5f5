-- What a change makes of one student's adjustments.
use Rattle.std.proofs.Common.{ℕ, zero, suc, get_or, ◌≡◌, ◌+◌, ◌<◌, ◌≤◌, Bool, true, false, not, cond, List, [], ◌∷◌, map, length, refl, ap, sym, subst, ◌==◌, ◌&&◌, ◌∙◌, arith}
use Rattle.std.specs.Prelude.{ℤ, pos, negsuc, unsigned_abs, nat_lt, nat_le, Option, Some, None, is_some, option_map}
use Rattle.std.specs.List.{position_or_len}
use Rattle.std.specs.Ordering.{nat_cmp, is_le, is_eq, ordering_then}
use Rattle.std.specs.declared.cmp.Ordering.{Ordering}
use Rattle.std.specs.declared.cmp.Ordering.TheVariants.{Less, Equal, Greater}
use Rattle.std.specs.Cmp.{IsTotalOrder, nat_cmp_total, on_total, then_total}
use Rattle.std.specs.FinMap.{FinMap, IsAntisymmetric, nat_cmp-IsAntisymmetric, from_sorted, insert as insert_in, remove as remove_from, contains_key, len}
use Rattle.std.proofs.lemmas.Int.{to_z-of_z}
use mir.Val.{SFits, to_z, of_z}
use mir.Syntax.{w16}
use Rattle.std.proofs.lemmas.Bool.{eq-eqb, ne_eqb, le-ltb}
use Rattle.std.proofs.lemmas.Bool.Decides.{nat_tests}
use Rattle.std.proofs.lemmas.List.{length-map}
use Rattle.market_units.specs.declared.units.SectionNo.{SectionNo}
use Rattle.preference_desk.specs.Places.{place_in, stands}
use Rattle.preference_desk.specs.Rows.{ArePairs, IsAdjustment, pair_entry}
use Rattle.preference_desk.specs.Writes.{written, has_room}
use Rattle.preference_desk.specs.StudentPreferences.{pair_cmp, with_pair}
use Rattle.preference_desk.proofs.RowLemmas.{stands_at, not_behind}
use Rattle.preference_desk.proofs.RowWrites.{IsRow, row_set, with_value}
use Rattle.preference_desk.proofs.RatingLemmas.{get_or-entries}

pub pair_cmp_total : IsTotalOrder pair_cmp
pair_cmp_total = then_total (on_total (λ (pair : ℕ × ℕ). pair.0) nat_cmp_total) (on_total (λ (pair : ℕ × ℕ). pair.1) nat_cmp_total)

equal_first : (r s : Ordering) → ordering_then r s ≡ Equal → r ≡ Equal
equal_first Less s e = cc
equal_first Equal s e = refl
equal_first Greater s e = cc

equal_second : (r s : Ordering) → ordering_then r s ≡ Equal → s ≡ Equal
equal_second Less s e = cc
equal_second Equal s e = e
equal_second Greater s e = cc

-- only a pair itself ties with it
pub pair_cmp_same : IsAntisymmetric pair_cmp
pair_cmp_same a b is =
    let first : a.0 ≡ b.0 = nat_cmp-IsAntisymmetric a.0 b.0 (equal_first (nat_cmp a.0 b.0) (nat_cmp a.1 b.1) is) in
    let second : a.1 ≡ b.1 = nat_cmp-IsAntisymmetric a.1 b.1 (equal_second (nat_cmp a.0 b.0) (nat_cmp a.1 b.1) is) in
    λ i. (first i, second i)

-- what the bits of an adjustment say of it
pub zero_is : (n : ℤ) → SFits w16 n → of_z w16 n ≡ 0 → n ≡ pos 0
zero_is n fits e = sym (to_z-of_z w16 n fits) ∙ ap (to_z w16) e

pub other_is : (n : ℤ) → (of_z w16 n ≡ 0 → ⊥) → n ≡ pos 0 → ⊥
other_is n other e = other (ap (of_z w16) e)

zero_size : (n : ℤ) → n ≡ pos 0 → unsigned_abs n ≡ 0
zero_size n e = ap unsigned_abs e

some_size : (n : ℤ) → (n ≡ pos 0 → ⊥) → unsigned_abs n ≡ 0 → ⊥
some_size (pos zero) other e = other refl
some_size (pos (suc n)) other e = omega (arith, e)
some_size (negsuc n) other e = omega (arith, e)

-- whether an adjustment is 0
pub is_zero : (n : ℤ) → SFits w16 n → of_z w16 n ≡ 0 → (unsigned_abs n == 0) ≡ true
is_zero n fits e = eq-eqb (unsigned_abs n) 0 (zero_size n (zero_is n fits e))

pub is_other : (n : ℤ) → (of_z w16 n ≡ 0 → ⊥) → (unsigned_abs n == 0) ≡ false
is_other n other = ne_eqb (unsigned_abs n) 0 (some_size n (other_is n other))

-- the value that an adjustment makes: none of 0
abbrev pub value_of : ℤ → Option ℤ
value_of n = cond (unsigned_abs n == 0) None (Some n)

tie : (first second : SectionNo) (n : ℤ) (b : Bool)
    → option_map pair_entry (cond b None (Some (first, second, n))) ≡ option_map (λ v. ((first.0, second.0), v)) (cond b None (Some n))
tie first second n true = refl
tie first second n false = refl

fine : (first second : SectionNo) (n : ℤ) → first.0 < second.0 → unsigned_abs n ≤ 200 → (b : Bool) → (unsigned_abs n == 0) ≡ b → (e : SectionNo × SectionNo × ℤ)
    → cond b None (Some (first, second, n)) ≡ Some e → IsAdjustment e
fine first second n order small true nought e is = cc
fine first second n order small false other e is =
    let same : (first, second, n) ≡ e = cc in
    let some : 1 ≤ unsigned_abs n = grind (arith, nat_tests) in
    subst IsAdjustment same (order, some, small)

wants : (n : ℤ) (b : Bool) → (unsigned_abs n == 0) ≡ b → nat_lt 0 (unsigned_abs n) ≡ is_some (cond b None (Some n))
wants n true nought = grind (arith, nat_tests)
wants n false other = grind (arith, nat_tests)

valued : (m : FinMap {K = ℕ × ℕ} pair_cmp ℤ) (pair : ℕ × ℕ) (n : ℤ) (b : Bool)
    → with_value pair_cmp pair_cmp_total pair_cmp_same pair_entry IsAdjustment 200 m pair (cond b None (Some n))
    ≡ cond b (remove_from m pair) (insert_in m pair n)
valued m pair n true = refl
valued m pair n false = refl

-- what setting an adjustment leaves of a student's adjustments
pub record IsAdjusted (old new : List (SectionNo × SectionNo × ℤ)) (pair : ℕ × ℕ) (n : ℤ) (result : Bool) : Type 0 where
  pub kept : ArePairs new
  pub room : result
      ≡ not
      (nat_lt 0 (unsigned_abs n) && not (contains_key (from_sorted {R = pair_cmp} (map pair_entry old)) pair)
      && nat_le 200 (len (from_sorted {R = pair_cmp} (map pair_entry old))))
  pub view : from_sorted {R = pair_cmp} (map pair_entry new)
      ≡ cond result (with_pair (from_sorted (map pair_entry old)) pair n) (from_sorted (map pair_entry old))

pub adjusted_set : (old new : List (SectionNo × SectionNo × ℤ)) (first second : SectionNo) (n : ℤ) (x : Option (SectionNo × SectionNo × ℤ)) (place : ℕ)
    (here result : Bool)
    → ArePairs old → first.0 < second.0 → unsigned_abs n ≤ 200
    → x ≡ cond (unsigned_abs n == 0) None (Some (first, second, n)) → place ≡ place_in pair_cmp (first.0, second.0) (map pair_entry old)
    → here ≡ stands pair_cmp (first.0, second.0) (map pair_entry old)
    → result ≡ has_room 200 old here x → new ≡ cond result (written old place here x) old → IsAdjusted old new (first.0, second.0) n result
adjusted_set old new first second n x place here result kept order small x_is place_is here_is room is =
    let row : IsRow pair_cmp pair_cmp_total pair_cmp_same pair_entry IsAdjustment 200 old = record { sorted = kept.sorted; few = kept.few; each = kept.each } in
    let none = unsigned_abs n == 0 in
    let s = row_set pair_cmp pair_cmp_total pair_cmp_same pair_entry IsAdjustment 200 old new (first.0, second.0) x (value_of n) place here result
    (ap (option_map pair_entry) x_is ∙ tie first second n none) (λ e is. fine first second n order small none refl e (sym x_is ∙ is)) row place_is here_is room
    is in
    let m = from_sorted {R = pair_cmp} (map pair_entry old) in
    record {
      kept = record { sorted = s.row.sorted; few = s.row.few; each = s.row.each };
      room = s.room ∙ ap (λ b. not (b && not (contains_key m (first.0, second.0)) && nat_le 200 (len m))) (sym (wants n none refl));
      view = s.view ∙ ap (λ w. cond result w m) (valued m (first.0, second.0) n none);
    }

one_place : (b : Bool) (n m : ℕ) → n ≡ m → cond (not b) (1 + n) 0 ≡ cond b 0 (suc m)
one_place true n m is = refl
one_place false n m is = omega (arith, is)

pub place_from_position : (k : ℕ × ℕ) (items : List (SectionNo × SectionNo × ℤ))
    → position_or_len (λ adjusted. is_le (pair_cmp k (pair_entry adjusted).0)) items ≡ place_in pair_cmp k (map pair_entry items)
place_from_position k [] = refl
place_from_position k (adjusted ∷ items) = one_place (is_le (pair_cmp k (pair_entry adjusted).0)) _ _ (place_from_position k items)

-- whether the pair is the one at its place
pub stands_here : (k : ℕ × ℕ) (items : List (SectionNo × SectionNo × ℤ)) (place : ℕ) (d : SectionNo × SectionNo × ℤ)
    → place ≡ place_in pair_cmp k (map pair_entry items) → place < length items
    → is_eq (pair_cmp k (pair_entry (get_or items place d)).0) ≡ stands pair_cmp k (map pair_entry items)
stands_here k items place d e below =
    let seen = get_or-entries pair_entry items place d in
    let here = stands_at pair_cmp k (map pair_entry items) (pair_entry d) (omega (arith, e, length-map items pair_entry)) in
    ap (λ (e : (ℕ × ℕ) × ℤ). is_eq (pair_cmp k e.0)) (sym seen) ∙ ap (λ at. is_eq (pair_cmp k (get_or (map pair_entry items) at (pair_entry d)).0)) e ∙ sym here

pub stands_nowhere : (k : ℕ × ℕ) (items : List (SectionNo × SectionNo × ℤ)) (place : ℕ) → place ≡ place_in pair_cmp k (map pair_entry items)
    → length items ≤ place
    → nat_lt place (length items) ≡ stands pair_cmp k (map pair_entry items)
stands_nowhere k items place e behind =
    le-ltb place (length items) behind ∙ sym (not_behind pair_cmp k (map pair_entry items) (omega (arith, e, length-map items pair_entry)))
