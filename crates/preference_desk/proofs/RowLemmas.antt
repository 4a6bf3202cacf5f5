-- What a write at a key's place makes of a row in the order of its keys.
use Rattle.std.proofs.Common.{ℕ, zero, suc, ◌≡◌, ◌<◌, ◌≤◌, Bool, true, false, not, cond, ◌&&◌, List, [], ◌∷◌, map, length, set, get_or, take, drop, refl, ap, sym, ◌∙◌, subst, arith, true≢false}
use Rattle.std.specs.Prelude.{Some, None, is_some, T}
use Rattle.std.specs.List.{insert, remove, All}
use Rattle.std.specs.Ordering.{is_le, is_lt, is_eq, eq_by_cmp}
use Rattle.std.specs.declared.cmp.Ordering.{Ordering}
use Rattle.std.specs.declared.cmp.Ordering.TheVariants.{Less, Equal, Greater}
use Rattle.std.specs.Cmp.{IsTotalOrder, alike_right, eq_by_cmp_equiv}
use Rattle.std.specs.FinMap.{FinMap, IsAntisymmetric, entries, entries_sorted, from_sorted, empty, insert as insert_in, remove as remove_from, contains_key, len, len-entries, empty_of_len, same_entries_map, same_map, entries-from_sorted, entries-insert, get-from_sorted, get-remove}
use Rattle.std.specs.FinMap.Entries.{by_order, put, find, is_sorted, where_key, below_all, is_sorted-put, is_sorted-where_key, find-where_key}
use Rattle.std.proofs.lemmas.List.{map-set}
use Rattle.std.proofs.lemmas.List.Elements.{All-nil, All-cons, All-head, All-tail, All-append, All-take, All-drop}
use Rattle.plain_facts.proofs.Truths.{and_first, and_second, true_of, only_equal, only_less}
use Rattle.preference_desk.specs.Places.{place_in, stands}

pub insert-map : {A B : Type 0} (f : A → B) (xs : List A) (i : ℕ) (x : A) → map f (insert xs i x) ≡ insert (map f xs) i (f x)
insert-map f xs zero x = refl
insert-map f [] (suc i) x = refl
insert-map f (y ∷ xs) (suc i) x = ap (λ rest. f y ∷ rest) (insert-map f xs i x)

pub remove-map : {A B : Type 0} (f : A → B) (xs : List A) (i : ℕ) → map f (remove xs i) ≡ remove (map f xs) i
remove-map f [] zero = refl
remove-map f [] (suc i) = refl
remove-map f (y ∷ xs) zero = refl
remove-map f (y ∷ xs) (suc i) = ap (λ rest. f y ∷ rest) (remove-map f xs i)

pub All-insert : {A : Type 0} (P : A → Type 0) (xs : List A) (i : ℕ) (x : A) → All P xs → P x → All P (insert xs i x)
All-insert P xs i x each here = All-append P (take i xs) _ (All-take P i xs each) (All-cons P x (drop i xs) here (All-drop P i xs each))

pub All-remove : {A : Type 0} (P : A → Type 0) (xs : List A) (i : ℕ) → All P xs → All P (remove xs i)
All-remove P xs i each = All-append P (take i xs) _ (All-take P i xs each) (All-drop P (suc i) xs each)

told : {b : Bool} → b ≡ true → T b
told e = subst T (sym e) tt

turned : {A : Type 0} (b : Bool) (x y : A) → cond (not b) x y ≡ cond b y x
turned true x y = refl
turned false x y = refl

module _ {K X : Type 0} (R : K → K → Ordering) where
  pub place_fits : (k : K) (es : List (K × X)) → place_in R k es ≤ length es
  place_fits k [] = omega arith
  place_fits k (e ∷ es) =
      elim (is_le (R k e.0)) as (λ b. cond b 0 (suc (place_in R k es)) ≤ suc (length es)) [ true ↦ omega arith | false ↦ omega (arith, place_fits k es) ]

  -- a key that does not stand is put in at its place
  pub put_new : (k : K) (v : X) (es : List (K × X)) → stands R k es ≡ false → insert es (place_in R k es) (k, v) ≡ put R k v es
  put_new k v [] none = refl
  put_new k v (e ∷ es) none =
      elim (R k e.0) as (λ r. cond (is_le r) (is_eq r) (stands R k es) ≡ false → insert (e ∷ es) (cond (is_le r) 0 (suc (place_in R k es))) (k, v) ≡ by_order r ((k, v) ∷ e ∷ es) ((e.0, v) ∷ es) (e ∷ put R k v es)) [
        | Less ↦ λ n. refl
        | Equal ↦ λ n. absurd (true≢false n)
        | Greater ↦ λ n. ap (λ rest. e ∷ rest) (put_new k v es n)
      ] none

  -- a key that stands keeps its place, with the new value
  pub put_same : (k : K) (v : X) (es : List (K × X)) (d : K × X) → stands R k es ≡ true
      → set es (place_in R k es) ((get_or es (place_in R k es) d).0, v) ≡ put R k v es
  put_same k v [] d here = absurd (true≢false (sym here))
  put_same k v (e ∷ es) d here =
      elim (R k e.0) as (λ r. cond (is_le r) (is_eq r) (stands R k es) ≡ true
      → set (e ∷ es) (cond (is_le r) 0 (suc (place_in R k es))) ((get_or (e ∷ es) (cond (is_le r) 0 (suc (place_in R k es))) d).0, v)
      ≡ by_order r ((k, v) ∷ e ∷ es) ((e.0, v) ∷ es) (e ∷ put R k v es)) [
        | Less ↦ λ h. absurd (true≢false (sym h))
        | Equal ↦ λ h. refl
        | Greater ↦ λ h. ap (λ rest. e ∷ rest) (put_same k v es d h)
      ] here

  pub place_inside : (k : K) (es : List (K × X)) → stands R k es ≡ true → place_in R k es < length es
  place_inside k [] here = absurd (true≢false (sym here))
  place_inside k (e ∷ es) here =
      elim (R k e.0) as (λ r. cond (is_le r) (is_eq r) (stands R k es) ≡ true → cond (is_le r) 0 (suc (place_in R k es)) < suc (length es)) [
        | Less ↦ λ h. omega arith
        | Equal ↦ λ h. omega arith
        | Greater ↦ λ h. omega (arith, place_inside k es h)
      ] here

  -- whether it stands is seen at its place
  pub stands_at : (k : K) (es : List (K × X)) (d : K × X) → place_in R k es < length es → stands R k es ≡ is_eq (R k (get_or es (place_in R k es) d).0)
  stands_at k [] d inside = absurd (omega arith)
  stands_at k (e ∷ es) d inside =
      elim (R k e.0) as (λ r. R k e.0 ≡ r → cond (is_le r) 0 (suc (place_in R k es)) < suc (length es)
      → cond (is_le r) (is_eq r) (stands R k es) ≡ is_eq (R k (get_or (e ∷ es) (cond (is_le r) 0 (suc (place_in R k es))) d).0)) [
        | Less ↦ λ p h. ap is_eq (sym p)
        | Equal ↦ λ p h. ap is_eq (sym p)
        | Greater ↦ λ p h. stands_at k es d (omega arith)
      ] refl inside

  pub not_behind : (k : K) (es : List (K × X)) → length es ≤ place_in R k es → stands R k es ≡ false
  not_behind k [] behind = refl
  not_behind k (e ∷ es) behind =
      elim (R k e.0) as (λ r. suc (length es) ≤ cond (is_le r) 0 (suc (place_in R k es)) → cond (is_le r) (is_eq r) (stands R k es) ≡ false) [
        | Less ↦ λ h. refl
        | Equal ↦ λ h. absurd (omega arith)
        | Greater ↦ λ h. not_behind k es (omega arith)
      ] behind

  module _ (o : IsTotalOrder R) where
    none_below : (q : K) (es : List (K × X)) → below_all R q es ≡ true → find R q es ≡ None
    none_below q [] h = refl
    none_below q (e ∷ es) h =
        let less : R q e.0 ≡ Less = only_less (R q e.0) (and_first _ _ h) in
        ap (λ r. cond (is_eq r) (Some e.1) (find R q es)) less ∙ none_below q es (and_second _ _ h)

    less_below : (k y : K) (es : List (K × X)) → R k y ≡ Less → below_all R y es ≡ true → below_all R k es ≡ true
    less_below k y [] p h = refl
    less_below k y (e ∷ es) p h =
        let far = o.trans k y e.0 p (only_less (R y e.0) (and_first _ _ h)) in
        ap (λ r. is_lt r && below_all R k es) far ∙ less_below k y es p (and_second _ _ h)

    -- it stands where the map has the key
    pub stands-find : (k : K) (es : List (K × X)) → is_sorted R es ≡ true → stands R k es ≡ is_some (find R k es)
    stands-find k [] sorted = refl
    stands-find k (e ∷ es) sorted =
        elim (R k e.0) as (λ r. R k e.0 ≡ r → cond (is_le r) (is_eq r) (stands R k es) ≡ is_some (cond (is_eq r) (Some e.1) (find R k es))) [
          | Less ↦ λ p. ap is_some (sym (none_below k es (less_below k e.0 es p (and_first _ _ sorted))))
          | Equal ↦ λ p. refl
          | Greater ↦ λ p. stands-find k es (and_second _ _ sorted)
        ] refl

    -- a row without the entry at the key's place has the other entries
    kept_all : (k : K) (es : List (K × X)) → below_all R k es ≡ true → where_key R (λ x. not (eq_by_cmp R k x)) es ≡ es
    kept_all k [] below = refl
    kept_all k (e ∷ es) below =
        let less : R k e.0 ≡ Less = only_less (R k e.0) (and_first _ _ below) in
        ap (λ r. cond (not (is_eq r)) (e ∷ where_key R (λ x. not (eq_by_cmp R k x)) es) (where_key R (λ x. not (eq_by_cmp R k x)) es)) less
        ∙ ap (λ rest. e ∷ rest) (kept_all k es (and_second _ _ below))

    equal_below : (k y : K) (es : List (K × X)) → R k y ≡ Equal → below_all R y es ≡ true → below_all R k es ≡ true
    equal_below k y [] p h = refl
    equal_below k y (e ∷ es) p h =
        let far : R k e.0 ≡ Less = o.congr k y e.0 p ∙ only_less (R y e.0) (and_first _ _ h) in
        ap (λ r. is_lt r && below_all R k es) far ∙ equal_below k y es p (and_second _ _ h)

    pub remove_at : (k : K) (es : List (K × X)) → is_sorted R es ≡ true → stands R k es ≡ true
        → remove es (place_in R k es) ≡ where_key R (λ x. not (eq_by_cmp R k x)) es
    remove_at k [] sorted here = absurd (true≢false (sym here))
    remove_at k (e ∷ es) sorted here =
        let others = where_key R (λ x. not (eq_by_cmp R k x)) es in
        elim (R k e.0) as (λ r. R k e.0 ≡ r → cond (is_le r) (is_eq r) (stands R k es) ≡ true → remove (e ∷ es) (cond (is_le r) 0 (suc (place_in R k es))) ≡ cond (not (is_eq r)) (e ∷ others) others) [
          | Less ↦ λ p h. absurd (true≢false (sym h))
          | Equal ↦ λ p h. sym (kept_all k es (equal_below k e.0 es p (and_first _ _ sorted)))
          | Greater ↦ λ p h. ap (λ rest. e ∷ rest) (remove_at k es (and_second _ _ sorted) h)
        ] refl here

    pub nothing_removed : (k : K) (es : List (K × X)) → is_sorted R es ≡ true → stands R k es ≡ false → where_key R (λ x. not (eq_by_cmp R k x)) es ≡ es
    nothing_removed k [] sorted none = refl
    nothing_removed k (e ∷ es) sorted none =
        let others = where_key R (λ x. not (eq_by_cmp R k x)) es in
        elim (R k e.0) as (λ r. R k e.0 ≡ r → cond (is_le r) (is_eq r) (stands R k es) ≡ false → cond (not (is_eq r)) (e ∷ others) others ≡ e ∷ es) [
          | Less ↦ λ p h. ap (λ rest. e ∷ rest) (kept_all k es (less_below k e.0 es p (and_first _ _ sorted)))
          | Equal ↦ λ p h. absurd (true≢false h)
          | Greater ↦ λ p h. ap (λ rest. e ∷ rest) (nothing_removed k es (and_second _ _ sorted) h)
        ] refl none

    pub sorted_put : (k : K) (v : X) (es : List (K × X)) → is_sorted R es ≡ true → is_sorted R (put R k v es) ≡ true
    sorted_put k v es sorted = true_of _ (is_sorted-put R o k v es (told sorted))

    pub sorted_without : (p : K → Bool) (es : List (K × X)) → is_sorted R es ≡ true → is_sorted R (where_key R p es) ≡ true
    sorted_without p es sorted = true_of _ (is_sorted-where_key R p es (told sorted))

    pub map-put : (k : K) (v : X) (es : List (K × X)) → is_sorted R es ≡ true → from_sorted {R = R} (put R k v es) ≡ insert_in (from_sorted es) k v
    map-put k v es sorted =
        same_entries_map _ _ (entries-from_sorted R (put R k v es) (is_sorted-put R o k v es (told sorted))
        ∙ sym (entries-insert o (from_sorted es) k v ∙ ap (put R k v) (entries-from_sorted R es (told sorted))))

    pub map-without : IsAntisymmetric R → (k : K) (es : List (K × X)) → is_sorted R es ≡ true
        → from_sorted {R = R} (where_key R (λ x. not (eq_by_cmp R k x)) es) ≡ remove_from (from_sorted es) k
    map-without same k es sorted = same_map o same _ _ (λ q.
        get-from_sorted R _ q (is_sorted-where_key R _ es (told sorted))
        ∙ find-where_key R (λ x. not (eq_by_cmp R k x)) q (λ x t. ap (λ r. not (is_eq r)) (sym (alike_right o q x k t))) es
        ∙ turned (eq_by_cmp R k q) (find R q es) None
        ∙ ap (λ b. cond b None (find R q es)) ((eq_by_cmp_equiv o).symm k q)
        ∙ ap (λ found. cond (eq_by_cmp R q k) None found) (sym (get-from_sorted R es q (told sorted)))
        ∙ sym (get-remove o (from_sorted es) k q))

    pub map-has : (k : K) (es : List (K × X)) → is_sorted R es ≡ true → contains_key (from_sorted {R = R} es) k ≡ stands R k es
    map-has k es sorted = ap is_some (get-from_sorted R es k (told sorted)) ∙ sym (stands-find k es sorted)

    pub map-len : (es : List (K × X)) → is_sorted R es ≡ true → len (from_sorted {R = R} es) ≡ length es
    map-len es sorted = len-entries (from_sorted es) ∙ ap length (entries-from_sorted R es (told sorted))

    -- the entries after a removal
    pub entries-remove : IsAntisymmetric R → (m : FinMap R X) (k : K) → entries (remove_from m k) ≡ where_key R (λ x. not (eq_by_cmp R k x)) (entries m)
    entries-remove same m k =
        let kept : m ≡ from_sorted (entries m) = same_entries_map m (from_sorted (entries m)) (sym (entries-from_sorted R (entries m) (entries_sorted m))) in
        ap (λ m. entries (remove_from m k)) kept ∙ ap entries (sym (map-without same k (entries m) (true_of _ (entries_sorted m))))
        ∙ entries-from_sorted R _ (is_sorted-where_key R (λ x. not (eq_by_cmp R k x)) (entries m) (entries_sorted m))

    -- what holds of each key, and of the one that is put in
    pub All-put : (P : K → Type 0) (k : K) (v : X) (es : List (K × X)) → All (λ (e : K × X). P e.0) es → P k → All (λ (e : K × X). P e.0) (put R k v es)
    All-put P k v [] each here = All-cons (λ (e : K × X). P e.0) (k, v) [] here (All-nil (λ (e : K × X). P e.0))
    All-put P k v (e ∷ es) each here =
        let Q : K × X → Type 0 = λ e. P e.0 in
        elim (R k e.0) as (λ r. All (λ (e : K × X). P e.0) (by_order r ((k, v) ∷ e ∷ es) ((e.0, v) ∷ es) (e ∷ put R k v es))) [
          | Less ↦ All-cons Q (k, v) (e ∷ es) here each
          | Equal ↦ All-cons Q (e.0, v) es (All-head Q e es each) (All-tail Q e es each)
          | Greater ↦ All-cons Q e (put R k v es) (All-head Q e es each) (All-put P k v es (All-tail Q e es each) here)
        ]

  pub map-nothing : from_sorted {X = X} {R = R} [] ≡ empty
  map-nothing = empty_of_len (from_sorted []) (len-entries (from_sorted []) ∙ ap length (entries-from_sorted R [] tt))

  pub entries-nothing : entries (empty {X = X} {R = R}) ≡ []
  entries-nothing = ap entries (sym map-nothing) ∙ entries-from_sorted R [] tt

-- rows of items that stand for entries
module _ {E K X : Type 0} (R : K → K → Ordering) (o : IsTotalOrder R) (same : IsAntisymmetric R) (entry : E → K × X) where
  -- a row in order, with the entry at a key's place taken out
  pub record TakenOut (items new : List E) (k : K) : Type 0 where
    pub sorted : is_sorted R (map entry new) ≡ true
    pub view : from_sorted {R = R} (map entry new) ≡ remove_from (from_sorted (map entry items)) k

  pub taken_out : (items : List E) (k : K) → is_sorted R (map entry items) ≡ true → stands R k (map entry items) ≡ true
      → TakenOut items (remove items (place_in R k (map entry items))) k
  taken_out items k sorted here =
      let es = map entry items in
      let is : map entry (remove items (place_in R k es)) ≡ where_key R (λ x. not (eq_by_cmp R k x)) es =
      remove-map entry items (place_in R k es) ∙ remove_at R o k es sorted here in
      record {
        sorted = rw is (sorted_without R o (λ x. not (eq_by_cmp R k x)) es sorted);
        view = ap (λ es. from_sorted es) is ∙ map-without R o same k es sorted;
      }

  pub none_out : (items : List E) (k : K) → is_sorted R (map entry items) ≡ true → stands R k (map entry items) ≡ false
      → from_sorted {R = R} (map entry items) ≡ remove_from (from_sorted (map entry items)) k
  none_out items k sorted none =
      let es = map entry items in
      ap (λ es. from_sorted es) (sym (nothing_removed R o k es sorted none)) ∙ map-without R o same k es sorted

  -- a row in order, with an entry put in
  pub record PutIn (items new : List E) (k : K) (v : X) : Type 0 where
    pub sorted : is_sorted R (map entry new) ≡ true
    pub view : from_sorted {R = R} (map entry new) ≡ insert_in (from_sorted (map entry items)) k v

  put_by : (items new : List E) (k : K) (v : X) → is_sorted R (map entry items) ≡ true → map entry new ≡ put R k v (map entry items) → PutIn items new k v
  put_by items new k v sorted is = record {
    sorted = rw is (sorted_put R o k v (map entry items) sorted);
    view = ap (λ es. from_sorted es) is ∙ map-put R o k v (map entry items) sorted;
  }

  pub put_in : (items : List E) (k : K) (x : E) (v : X) → entry x ≡ (k, v) → is_sorted R (map entry items) ≡ true → stands R k (map entry items) ≡ false
      → PutIn items (insert items (place_in R k (map entry items)) x) k v
  put_in items k x v is sorted none =
      let es = map entry items in
      put_by items _ k v sorted (insert-map entry items (place_in R k es) x ∙ ap (insert es (place_in R k es)) is ∙ put_new R k v es none)

  pub put_over : (items : List E) (k : K) (x : E) (v : X) (d : K × X) → entry x ≡ ((get_or (map entry items) (place_in R k (map entry items)) d).0, v)
      → is_sorted R (map entry items) ≡ true → stands R k (map entry items) ≡ true
      → PutIn items (set items (place_in R k (map entry items)) x) k v
  put_over items k x v d is sorted here =
      let es = map entry items in
      put_by items _ k v sorted (map-set entry items (place_in R k es) x ∙ ap (set es (place_in R k es)) is ∙ put_same R k v es d here)

  -- the key that stands at its place
  pub key_at : (items : List E) (k : K) (d : K × X) → stands R k (map entry items) ≡ true → (get_or (map entry items) (place_in R k (map entry items)) d).0 ≡ k
  key_at items k d here =
      let es = map entry items in
      let tied : is_eq (R k (get_or es (place_in R k es) d).0) ≡ true = sym (stands_at R k es d (place_inside R k es here)) ∙ here in
      sym (same k _ (only_equal _ tied))
