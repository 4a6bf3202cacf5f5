-- The first item of least value.
use Rattle.std.proofs.Common.{ℕ, ◌<◌, ◌≤◌, ◌≡◌, ◌∙◌, ◌++◌, Bool, true, false, List, [], ◌∷◌, refl, sym, ap, subst, inl, inr, arith, append_assoc}
use Rattle.std.specs.Prelude.{All, find, nat_le, Some}
use Rattle.std.specs.List.{list_all}
use Rattle.std.proofs.lemmas.Bool.{cases_Bool, cases_lt, true≢false, false≢true}
use Rattle.std.proofs.lemmas.Bool.Decides.{nat_tests}
use Rattle.std.proofs.lemmas.List.Elements.{All-nil, All-cons, All-head, All-tail, All-append, All-push, All-weaker}

-- a list around the first item that passes a test
pub record IsAround {A : Type 0} (p : A → Bool) (xs : List A) (x : A) : Type 0 where
  pub front : List A
  pub back : List A
  pub is : xs ≡ front ++ x ∷ back
  pub none : All (λ y. p y ≡ false) front
  pub here : p x ≡ true

pub find_around : {A : Type 0} (p : A → Bool) (xs : List A) (x : A) → find p xs ≡ Some x → IsAround p xs x
find_around p [] x found = absurd cc
find_around {A} p (y ∷ ys) x found = elim (cases_Bool (p y)) [
  | inl t ↦
      let at : Some y ≡ Some x = rw t at found in
      let same : y ≡ x = cc in
      record { front = []; back = ys; is = ap (λ (z : A). z ∷ ys) same; none = All-nil (λ z. p z ≡ false); here = rw (← same) t }
  | inr n ↦
      let later = find_around p ys x (rw n at found) in
      record {
        front = y ∷ later.front;
        back = later.back;
        is = ap (λ (zs : List A). y ∷ zs) later.is;
        none = All-cons (λ z. p z ≡ false) y later.front n later.none;
        here = later.here;
      }
]

module _ {A : Type 0} (f : A → ℕ) where
  -- whether no item of the list has a lesser value
  abbrev pub is_least : List A → A → Bool
  is_least xs x = list_all (λ y. nat_le (f x) (f y)) xs

  -- the list around its first item of least value
  pub record IsFirstOfLeast (xs : List A) (x : A) : Type 0 where
    pub front : List A
    pub back : List A
    pub is : xs ≡ front ++ x ∷ back
    pub greater : All (λ y. f x < f y) front
    pub least : All (λ y. f x ≤ f y) back

  least_yes : (xs : List A) (x : A) → All (λ y. f x ≤ f y) xs → is_least xs x ≡ true
  least_yes [] x all = refl
  least_yes (y ∷ ys) x all =
      let h : f x ≤ f y = All-head (λ y. f x ≤ f y) y ys all in
      let t : nat_le (f x) (f y) ≡ true = grind (arith, nat_tests) in
      rw t (least_yes ys x (All-tail (λ y. f x ≤ f y) y ys all))

  least_not : (front back : List A) (x y : A) → f x < f y → is_least (front ++ x ∷ back) y ≡ false
  least_not [] back x y less = let n : nat_le (f y) (f x) ≡ false = grind (arith, nat_tests) in rw n refl
  least_not (z ∷ zs) back x y less = elim (cases_Bool (nat_le (f y) (f z))) [
    | inl t ↦ rw t (least_not zs back x y less)
    | inr n ↦ rw n refl
  ]

  find_behind : (p : A → Bool) (front back : List A) (x : A) → All (λ y. p y ≡ false) front → p x ≡ true → find p (front ++ x ∷ back) ≡ Some x
  find_behind p [] back x none here = rw here refl
  find_behind p (y ∷ ys) back x none here =
      let n : p y ≡ false = All-head (λ y. p y ≡ false) y ys none in rw n (find_behind p ys back x (All-tail (λ y. p y ≡ false) y ys none) here)

  -- it is the one that is found
  pub first_found : (xs : List A) (x : A) → IsFirstOfLeast xs x → find (is_least xs) xs ≡ Some x
  first_found xs x is =
      let all : All (λ y. f x ≤ f y) (is.front ++ x ∷ is.back) =
      All-append (λ y. f x ≤ f y) is.front (x ∷ is.back) (All-weaker (λ y. f x < f y) (λ y. f x ≤ f y) (λ y less. omega arith) is.front is.greater)
      (All-cons (λ y. f x ≤ f y) x is.back (omega arith) is.least) in
      let found : find (is_least (is.front ++ x ∷ is.back)) (is.front ++ x ∷ is.back) ≡ Some x =
      find_behind (is_least (is.front ++ x ∷ is.back)) is.front is.back x
      (All-weaker (λ y. f x < f y) (λ y. is_least (is.front ++ x ∷ is.back) y ≡ false) (λ y less. least_not is.front is.back x y less) is.front is.greater)
      (least_yes (is.front ++ x ∷ is.back) x all) in
      subst (λ l. find (is_least l) l ≡ Some x) (sym is.is) found

  -- no item has a lesser value
  pub least_of_all : (xs : List A) (x : A) → IsFirstOfLeast xs x → All (λ y. f x ≤ f y) xs
  least_of_all xs x is =
      subst (λ l. All (λ y. f x ≤ f y) l) (sym is.is)
      (All-append (λ y. f x ≤ f y) is.front (x ∷ is.back) (All-weaker (λ y. f x < f y) (λ y. f x ≤ f y) (λ y less. omega arith) is.front is.greater)
      (All-cons (λ y. f x ≤ f y) x is.back (omega arith) is.least))

  pub first_alone : (x : A) → IsFirstOfLeast (x ∷ []) x
  first_alone x = record { front = []; back = []; is = refl; greater = All-nil (λ y. f x < f y); least = All-nil (λ y. f x ≤ f y) }

  -- a lesser item comes last
  pub first_then : (xs : List A) (x y : A) → IsFirstOfLeast xs x → f y < f x → IsFirstOfLeast (xs ++ y ∷ []) y
  first_then xs x y is less = record {
    front = xs;
    back = [];
    is = refl;
    greater = All-weaker (λ z. f x ≤ f z) (λ z. f y < f z) (λ z most. omega arith) xs (least_of_all xs x is);
    least = All-nil (λ z. f y ≤ f z);
  }

  -- no lesser item comes last
  pub first_still : (xs : List A) (x y : A) → IsFirstOfLeast xs x → f x ≤ f y → IsFirstOfLeast (xs ++ y ∷ []) x
  first_still xs x y is more = record {
    front = is.front;
    back = is.back ++ y ∷ [];
    is = ap (λ l. l ++ y ∷ []) is.is ∙ append_assoc is.front (x ∷ is.back) (y ∷ []);
    greater = is.greater;
    least = All-push (λ z. f x ≤ f z) is.back y is.least more;
  }

  least_all : (xs : List A) (x : A) → is_least xs x ≡ true → All (λ y. f x ≤ f y) xs
  least_all [] x is = All-nil (λ y. f x ≤ f y)
  least_all (y ∷ ys) x is = elim (cases_Bool (nat_le (f x) (f y))) [
    | inl t ↦ let h : f x ≤ f y = grind (arith, nat_tests) in All-cons (λ z. f x ≤ f z) y ys h (least_all ys x (rw t at is))
    | inr n ↦ let no' : false ≡ true = rw n at is in absurd (false≢true no')
  ]

  less_than_not : (xs : List A) (x y : A) → is_least xs x ≡ true → is_least xs y ≡ false → f x < f y
  less_than_not xs x y is not_least = elim (cases_lt (f x) (f y)) [
    | inl less ↦ less
    | inr more ↦
        absurd (true≢false (sym (least_yes xs y (All-weaker (λ z. f x ≤ f z) (λ z. f y ≤ f z) (λ z most. omega arith) xs (least_all xs x is))) ∙ not_least))
  ]

  tail_of : (front back : List A) (x : A) → All (λ y. f x ≤ f y) (front ++ x ∷ back) → All (λ y. f x ≤ f y) back
  tail_of [] back x all = All-tail (λ y. f x ≤ f y) x back all
  tail_of (y ∷ ys) back x all = tail_of ys back x (All-tail (λ z. f x ≤ f z) y (ys ++ x ∷ back) all)

  -- what is found is it
  pub found_first : (xs : List A) (x : A) → find (is_least xs) xs ≡ Some x → IsFirstOfLeast xs x
  found_first xs x found =
      let around = find_around (is_least xs) xs x found in
      record {
        front = around.front;
        back = around.back;
        is = around.is;
        greater = All-weaker (λ y. is_least xs y ≡ false) (λ y. f x < f y) (λ y not_least. less_than_not xs x y around.here not_least) around.front around.none;
        least = tail_of around.front around.back x (subst (All (λ y. f x ≤ f y)) around.is (least_all xs x around.here));
      }
