-- What a write at a key's place makes of a row, whatever its entries are.
use Rattle.std.proofs.Common.{ℕ, ◌≡◌, ◌<◌, ◌≤◌, Bool, true, false, not, cond, ◌&&◌, List, map, length, refl, ap, sym, ◌∙◌, subst, arith, length-set}
use Rattle.std.specs.Prelude.{Option, Some, None, is_some, nat_le, option_map, All}
use Rattle.std.specs.Cmp.{IsTotalOrder}
use Rattle.std.specs.declared.cmp.Ordering.{Ordering}
use Rattle.std.specs.FinMap.{FinMap, IsAntisymmetric, from_sorted, insert as insert_in, remove as remove_from, contains_key, len}
use Rattle.std.specs.FinMap.Entries.{is_sorted}
use Rattle.std.proofs.lemmas.Bool.Decides.{nat_tests}
use Rattle.std.proofs.lemmas.List.Edits.{length-insert, length-remove}
use Rattle.std.proofs.lemmas.List.Elements.{All-set}
use Rattle.std.proofs.lemmas.List.{length-map}
use Rattle.plain_facts.proofs.Outcomes.{same_some}
use Rattle.preference_desk.specs.Places.{place_in, stands}
use Rattle.preference_desk.specs.Writes.{written, has_room}
use Rattle.preference_desk.proofs.RowLemmas.{taken_out, none_out, put_in, put_over, place_inside, place_fits, key_at, map-has, map-len, All-insert, All-remove}

not_none : {A : Type 0} (x : A) → None ≡ Some x → ⊥
not_none x e = cc

not_some : {A : Type 0} (x : A) → Some x ≡ None → ⊥
not_some x e = cc

module _ {E K X : Type 0} (R : K → K → Ordering) (o : IsTotalOrder R) (same : IsAntisymmetric R) (entry : E → K × X) (P : E → Type 0) (limit : ℕ) where
  -- a row: in the order of its keys, at most so many entries, each of them fine
  pub record IsRow (items : List E) : Type 0 where
    pub sorted : is_sorted R (map entry items) ≡ true
    pub few : length items ≤ limit
    pub each : All P items

  -- the map with this value at the key, or with none
  abbrev pub with_value : FinMap R X → K → Option X → FinMap R X
  with_value m k None = remove_from m k
  with_value m k (Some v) = insert_in m k v

  record IsWritten (items new : List E) (k : K) (v : Option X) : Type 0 where
    pub sorted : is_sorted R (map entry new) ≡ true
    pub view : from_sorted {R = R} (map entry new) ≡ with_value (from_sorted (map entry items)) k v

  is_written : (items : List E) (k : K) (x : Option E) (v : Option X) → option_map entry x ≡ option_map (λ v. (k, v)) v → is_sorted R (map entry items) ≡ true
      → (here : Bool) → stands R k (map entry items) ≡ here → IsWritten items (written items (place_in R k (map entry items)) here x) k v
  is_written items k None None tie sorted true here = let t = taken_out R o same entry items k sorted here in record { sorted = t.sorted; view = t.view }
  is_written items k None None tie sorted false none = record { sorted = sorted; view = none_out R o same entry items k sorted none }
  is_written items k None (Some v) tie sorted here is = absurd (not_none (k, v) tie)
  is_written items k (Some x) None tie sorted here is = absurd (not_some (entry x) tie)
  is_written items k (Some x) (Some v) tie sorted true here =
      let is : entry x ≡ (k, v) = same_some (entry x) (k, v) tie in
      let t = put_over R o same entry items k x v (k, v) (is ∙ ap (λ q. (q, v)) (sym (key_at R o same entry items k (k, v) here))) sorted here in
      record { sorted = t.sorted; view = t.view }
  is_written items k (Some x) (Some v) tie sorted false none =
      let t = put_in R o same entry items k x v (same_some (entry x) (k, v) tie) sorted none in record { sorted = t.sorted; view = t.view }

  one_more : (n : ℕ) → not (true && true && nat_le limit n) ≡ true → n < limit
  one_more n room = grind (arith, nat_tests)

  few_written : (items : List E) (k : K) (x : Option E) → length items ≤ limit → (here : Bool) → stands R k (map entry items) ≡ here
      → has_room limit items here x ≡ true → length (written items (place_in R k (map entry items)) here x) ≤ limit
  few_written items k (Some x) few true here room = omega (arith, few, length-set items (place_in R k (map entry items)) x)
  few_written items k None few true here room =
      let inside : place_in R k (map entry items) < length items = omega (arith, place_inside R k (map entry items) here, length-map items entry) in
      omega (arith, few, length-remove items (place_in R k (map entry items)) inside)
  few_written items k (Some x) few false none room =
      let fits : place_in R k (map entry items) ≤ length items = omega (arith, place_fits R k (map entry items), length-map items entry) in
      omega (arith, one_more (length items) room, length-insert items (place_in R k (map entry items)) x fits)
  few_written items k None few false none room = few

  each_written : (items : List E) (place : ℕ) (x : Option E) → All P items → ((e : E) → x ≡ Some e → P e) → (here : Bool) → All P (written items place here x)
  each_written items place (Some x) each fine true = All-set P items place x (fine x refl) each
  each_written items place None each fine true = All-remove P items place each
  each_written items place (Some x) each fine false = All-insert P items place x each (fine x refl)
  each_written items place None each fine false = each

  wants_room : (k : K) (x : Option E) (v : Option X) → option_map entry x ≡ option_map (λ v. (k, v)) v → is_some x ≡ is_some v
  wants_room k None None tie = refl
  wants_room k None (Some v) tie = absurd (not_none (k, v) tie)
  wants_room k (Some x) None tie = absurd (not_some (entry x) tie)
  wants_room k (Some x) (Some v) tie = refl

  -- what a write of a value at a key leaves of a row
  pub record IsSet (old new : List E) (k : K) (v : Option X) (result : Bool) : Type 0 where
    pub row : IsRow new
    pub room : result
        ≡ not (is_some v && not (contains_key (from_sorted {R = R} (map entry old)) k) && nat_le limit (len (from_sorted {R = R} (map entry old))))
    pub view : from_sorted {R = R} (map entry new) ≡ cond result (with_value (from_sorted (map entry old)) k v) (from_sorted (map entry old))

  room_is : (old : List E) (k : K) (x : Option E) (v : Option X) → option_map entry x ≡ option_map (λ v. (k, v)) v → IsRow old
      → has_room limit old (stands R k (map entry old)) x
      ≡ not (is_some v && not (contains_key (from_sorted {R = R} (map entry old)) k) && nat_le limit (len (from_sorted {R = R} (map entry old))))
  room_is old k x v tie row =
      let has : contains_key (from_sorted {R = R} (map entry old)) k ≡ stands R k (map entry old) = map-has R o k (map entry old) row.sorted in
      let long : len (from_sorted {R = R} (map entry old)) ≡ length old = map-len R o (map entry old) row.sorted ∙ length-map old entry in
      rw (has, long, wants_room k x v tie) refl

  by_result : (old : List E) (k : K) (x : Option E) (v : Option X) → option_map entry x ≡ option_map (λ v. (k, v)) v → ((e : E) → x ≡ Some e → P e) → IsRow old
      → (result : Bool) → has_room limit old (stands R k (map entry old)) x ≡ result
      → IsSet old (cond result (written old (place_in R k (map entry old)) (stands R k (map entry old)) x) old) k v result
  by_result old k x v tie fine row true room =
      let w = is_written old k x v tie row.sorted (stands R k (map entry old)) refl in
      record {
        row = record {
          sorted = w.sorted;
          few = few_written old k x row.few (stands R k (map entry old)) refl room;
          each = each_written old (place_in R k (map entry old)) x row.each fine (stands R k (map entry old));
        };
        room = sym room ∙ room_is old k x v tie row;
        view = w.view;
      }
  by_result old k x v tie fine row false room = record { row = row; room = sym room ∙ room_is old k x v tie row; view = refl }

  pub row_set : (old new : List E) (k : K) (x : Option E) (v : Option X) (place : ℕ) (here result : Bool) → option_map entry x ≡ option_map (λ v. (k, v)) v
      → ((e : E) → x ≡ Some e → P e) → IsRow old
      → place ≡ place_in R k (map entry old) → here ≡ stands R k (map entry old) → result ≡ has_room limit old here x
      → new ≡ cond result (written old place here x) old → IsSet old new k v result
  row_set old new k x v place here result tie fine row place_is here_is room is =
      let room_at : has_room limit old (stands R k (map entry old)) x ≡ result = ap (λ h. has_room limit old h x) (sym here_is) ∙ sym room in
      let new_is : new ≡ cond result (written old (place_in R k (map entry old)) (stands R k (map entry old)) x) old =
      is ∙ ap (λ p. cond result (written old p here x) old) place_is ∙ ap (λ h. cond result (written old (place_in R k (map entry old)) h x) old) here_is in
      subst (λ n. IsSet old n k v result) (sym new_is) (by_result old k x v tie fine row result room_at)
