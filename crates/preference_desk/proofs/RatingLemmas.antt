-- What a change makes of one student's ratings.
use Rattle.std.proofs.Common.{ℕ, zero, suc, ◌==◌, get_or, ◌≡◌, ◌+◌, ◌<◌, ◌≤◌, Bool, true, false, true≢false, not, cond, ◌&&◌, List, [], ◌∷◌, map, length, refl, ap, sym, subst, ◌∙◌, arith, inl, inr}
use Rattle.std.specs.Prelude.{Option, nat_lt, nat_le, Some, None, is_some, option_map}
use Rattle.std.specs.List.{position, position_or_len}
use Rattle.std.specs.Ordering.{nat_cmp, is_le, is_eq}
use Rattle.std.specs.Cmp.{nat_cmp_total}
use Rattle.std.specs.FinMap.{FinMap, nat_cmp-IsAntisymmetric, from_sorted, insert as insert_in, remove as remove_from, contains_key, len}
use Rattle.std.proofs.lemmas.Bool.{cases_order, ltb-false, le-ltb}
use Rattle.std.proofs.lemmas.Bool.Decides.{nat_tests}
use Rattle.std.proofs.lemmas.List.Sums.{prefix_len-le-length}
use Rattle.std.proofs.lemmas.List.{length-map}
use Rattle.plain_facts.proofs.Outcomes.{cond_some, cond_none}
use Rattle.market_units.specs.declared.units.SectionNo.{SectionNo}
use Rattle.preference_desk.specs.Places.{place_in, stands}
use Rattle.preference_desk.specs.Rows.{AreRatings, IsRating, rating_entry}
use Rattle.preference_desk.specs.Writes.{written, has_room}
use Rattle.preference_desk.specs.StudentPreferences.{with_rating}
use Rattle.preference_desk.proofs.RowLemmas.{stands_at, not_behind}
use Rattle.preference_desk.proofs.RowWrites.{IsRow, row_set, with_value}

-- where a row is as it was seen, so is the place
pub same_place : {A B : Type 0} (F : List A → B) (seen items : List A) (x : B) → x ≡ F seen → seen ≡ items → x ≡ F items
same_place F seen items x e is = e ∙ ap F is

-- the value that a rating makes: none of 0
abbrev pub value_of : ℕ → Option ℕ
value_of rating = cond (rating == 0) None (Some rating)

tie : (section : SectionNo) (rating : ℕ) (b : Bool)
    → option_map rating_entry (cond b None (Some (section, rating))) ≡ option_map (λ v. (section.0, v)) (cond b None (Some rating))
tie section rating true = refl
tie section rating false = refl

fine : (section : SectionNo) (rating : ℕ) → rating ≤ 100 → (b : Bool) → (rating == 0) ≡ b → (e : SectionNo × ℕ) → cond b None (Some (section, rating)) ≡ Some e
    → IsRating e
fine section rating small true nought e is = cc
fine section rating small false other e is =
    let same : (section, rating) ≡ e = cc in
    let some : 1 ≤ rating = grind (arith, nat_tests) in
    subst IsRating same (some, small)

wants : (rating : ℕ) (b : Bool) → (rating == 0) ≡ b → nat_lt 0 rating ≡ is_some (cond b None (Some rating))
wants rating true nought = grind (arith, nat_tests)
wants rating false other = grind (arith, nat_tests)

valued : (m : FinMap {K = ℕ} nat_cmp ℕ) (section rating : ℕ) (b : Bool)
    → with_value nat_cmp nat_cmp_total nat_cmp-IsAntisymmetric rating_entry IsRating 60 m section (cond b None (Some rating))
    ≡ cond b (remove_from m section) (insert_in m section rating)
valued m section rating true = refl
valued m section rating false = refl

-- what setting a rating leaves of a student's ratings
pub record IsRated (old new : List (SectionNo × ℕ)) (section rating : ℕ) (result : Bool) : Type 0 where
  pub kept : AreRatings new
  pub room : result
      ≡ not
      (nat_lt 0 rating && not (contains_key (from_sorted {R = nat_cmp} (map rating_entry old)) section)
      && nat_le 60 (len (from_sorted {R = nat_cmp} (map rating_entry old))))
  pub view : from_sorted {R = nat_cmp} (map rating_entry new)
      ≡ cond result (with_rating (from_sorted (map rating_entry old)) section rating) (from_sorted (map rating_entry old))

pub rated_set : (old new : List (SectionNo × ℕ)) (section : SectionNo) (rating : ℕ) (x : Option (SectionNo × ℕ)) (place : ℕ) (here result : Bool)
    → AreRatings old → rating ≤ 100 → x ≡ cond (rating == 0) None (Some (section, rating))
    → place ≡ place_in nat_cmp section.0 (map rating_entry old) → here ≡ stands nat_cmp section.0 (map rating_entry old) → result ≡ has_room 60 old here x
    → new ≡ cond result (written old place here x) old
    → IsRated old new section.0 rating result
rated_set old new section rating x place here result kept small x_is place_is here_is room is =
    let row : IsRow nat_cmp nat_cmp_total nat_cmp-IsAntisymmetric rating_entry IsRating 60 old =
    record { sorted = kept.sorted; few = kept.few; each = kept.each } in
    let s = row_set nat_cmp nat_cmp_total nat_cmp-IsAntisymmetric rating_entry IsRating 60 old new section.0 x (value_of rating) place here result
    (ap (option_map rating_entry) x_is ∙ tie section rating (rating == 0)) (λ e is. fine section rating small (rating == 0) refl e (sym x_is ∙ is)) row place_is
    here_is room is in
    let m = from_sorted {R = nat_cmp} (map rating_entry old) in
    record {
      kept = record { sorted = s.row.sorted; few = s.row.few; each = s.row.each };
      room = s.room ∙ ap (λ b. not (b && not (contains_key m section.0) && nat_le 60 (len m))) (sym (wants rating (rating == 0) refl));
      view = s.view ∙ ap (λ w. cond result w m) (valued m section.0 rating (rating == 0));
    }

pub position_is : {A : Type 0} (p : A → Bool) (xs : List A) (i : ℕ) → position p xs ≡ Some i → i ≡ position_or_len p xs
position_is p xs i e = cond_some (nat_lt (position_or_len p xs) (length xs)) (position_or_len p xs) i e

pub position_is_length : {A : Type 0} (p : A → Bool) (xs : List A) → position p xs ≡ None → length xs ≡ position_or_len p xs
position_is_length p xs e =
    omega (arith, prefix_len-le-length (λ x. not (p x)) xs, ltb-false _ _ (cond_none (nat_lt (position_or_len p xs) (length xs)) (position_or_len p xs) e))

same_order : (k x : ℕ) → nat_le k x ≡ is_le (nat_cmp k x)
same_order k x = elim (cases_order k x) [
  | inl same ↦ grind (arith, nat_tests)
  | inr (inl below) ↦ grind (arith, nat_tests)
  | inr (inr above) ↦ grind (arith, nat_tests)
]

one_place : (b c : Bool) (n m : ℕ) → b ≡ c → n ≡ m → cond (not b) (1 + n) 0 ≡ cond c 0 (suc m)
one_place true true n m e is = refl
one_place false false n m e is = omega (arith, is)
one_place true false n m e is = absurd (true≢false e)
one_place false true n m e is = absurd (true≢false (sym e))

pub place_from_position : (k : ℕ) (items : List (SectionNo × ℕ))
    → position_or_len (λ rated. nat_le k rated.0.0) items ≡ place_in nat_cmp k (map rating_entry items)
place_from_position k [] = refl
place_from_position k (rated ∷ items) = one_place _ _ _ _ (same_order k rated.0.0) (place_from_position k items)

pub get_or-entries : {A B : Type 0} (f : A → B) (xs : List A) (i : ℕ) (d : A) → get_or (map f xs) i (f d) ≡ f (get_or xs i d)
get_or-entries f [] i d = refl
get_or-entries f (x ∷ xs) zero d = refl
get_or-entries f (x ∷ xs) (suc i) d = get_or-entries f xs i d

same_key : (k x : ℕ) → (x == k) ≡ is_eq (nat_cmp k x)
same_key k x = elim (cases_order k x) [
  | inl same ↦ grind (arith, nat_tests)
  | inr (inl below) ↦ grind (arith, nat_tests)
  | inr (inr above) ↦ grind (arith, nat_tests)
]

-- whether the section is the one at its place
pub stands_here : (section : SectionNo) (items : List (SectionNo × ℕ)) (place : ℕ) (d : SectionNo × ℕ)
    → place ≡ place_in nat_cmp section.0 (map rating_entry items) → place < length items
    → ((get_or items place d).0.0 == section.0) ≡ stands nat_cmp section.0 (map rating_entry items)
stands_here section items place d e below =
    let seen = get_or-entries rating_entry items place d in
    let here = stands_at nat_cmp section.0 (map rating_entry items) (rating_entry d) (omega (arith, e, length-map items rating_entry)) in
    same_key section.0 (get_or items place d).0.0 ∙ ap (λ (e : ℕ × ℕ). is_eq (nat_cmp section.0 e.0)) (sym seen)
    ∙ ap (λ at. is_eq (nat_cmp section.0 (get_or (map rating_entry items) at (rating_entry d)).0)) e ∙ sym here

pub stands_nowhere : (section : SectionNo) (items : List (SectionNo × ℕ)) (place : ℕ) → place ≡ place_in nat_cmp section.0 (map rating_entry items)
    → length items ≤ place
    → nat_lt place (length items) ≡ stands nat_cmp section.0 (map rating_entry items)
stands_nowhere section items place e behind =
    le-ltb place (length items) behind ∙ sym (not_behind nat_cmp section.0 (map rating_entry items) (omega (arith, e, length-map items rating_entry)))
