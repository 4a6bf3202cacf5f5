-- What a field says: a name by its test, and a number by its spelling.
use Rattle.std.proofs.Common.{◌≡◌, ◌≢◌, ◌∙◌, ◌<◌, ◌≤◌, ◌^◌, ◌&&◌, cond, ℕ, Bool, true, false, List, length, Option, Some, None, option_map, refl, ap, inl, inr, arith, nat_lt, nat_le}
use Rattle.std.specs.Prelude.{IfSome, IfNone}
use Rattle.std.specs.Fmt.{decimal}
use Rattle.std.specs.List.{list_all}
use Rattle.std.specs.Str.{bytes_eq}
use Rattle.std.specs.Str.Parse.{digits_value}
use Rattle.std.specs.Cmp.Lexicographic.{bytes_decides}
use Rattle.std.proofs.lemmas.Bool.{cases_Bool}
use Rattle.std.proofs.lemmas.Bool.Decides.{nat_tests}
use Rattle.std.proofs.lemmas.List.Sums.{AllPass-from_list_all, list_all-from_AllPass}
use Rattle.std.proofs.lemmas.Fmt.{decimal_is_IsNumeral}
use Rattle.plain_facts.proofs.Truths.{and_three}
use Rattle.market_units.specs.declared.names.Name.{Name}
use Rattle.market_units.specs.Name.{name_bytes}
use Rattle.market_units.specs.Names.{IsName, is_name_byte}
use Rattle.table_records.specs.Columns.{is_name, name_of, number_of}

tests_true : (a b c : Bool) → a ≡ true → b ≡ true → c ≡ true → (a && b && c) ≡ true
tests_true a b c ha hb hc = rw (ha, hb, hc) refl

-- bytes that are a name pass the test
pub is_name-true : (bytes : List ℕ) → IsName bytes → is_name bytes ≡ true
is_name-true bytes name =
    let some : nat_lt 0 (length bytes) ≡ true = grind (arith, nat_tests, name.some) in
    let short : nat_le (length bytes) 32 ≡ true = grind (arith, nat_tests, name.short) in
    tests_true _ _ _ some short (list_all-from_AllPass is_name_byte bytes name.each)

-- bytes that pass the test are a name
pub IsName-from_test : (bytes : List ℕ) → is_name bytes ≡ true → IsName bytes
IsName-from_test bytes test =
    let tests = and_three (nat_lt 0 (length bytes)) (nat_le (length bytes) 32) (list_all is_name_byte bytes) test in
    let some : nat_lt 0 (length bytes) ≡ true = tests.0 in
    let short : nat_le (length bytes) 32 ≡ true = tests.1 in
    record {
      some = grind (arith, nat_tests);
      short = grind (arith, nat_tests);
      each = AllPass-from_list_all is_name_byte bytes tests.2;
    }

-- what `read_name` answers is the name that the bytes are
pub is_name_of : (r : Option Name) (bytes : List ℕ) → IfSome r (λ name. name_bytes name ≡ bytes) → IfNone r (IsName bytes → ⊥)
    → option_map name_bytes r ≡ name_of bytes
is_name_of None bytes is none = elim (cases_Bool (is_name bytes)) [ inl t ↦ absurd (none (IsName-from_test bytes t)) | inr f ↦ rw f refl ]
is_name_of (Some name) bytes is none = let t : is_name bytes ≡ true = is_name-true bytes (rw is at name.holds.name) in rw t (ap Some is)

spells : (bytes : List ℕ) (n : ℕ) → n < 2 ^ 64 → bytes ≡ decimal n → digits_value 10 bytes ≡ n
spells bytes n small e = rw e ((decimal_is_IsNumeral n small).1)

answer_of : (a b : Bool) (n : ℕ) → a ≡ true → b ≡ true → Some n ≡ cond (a && b) (Some n) None
answer_of a b n ha hb = rw (ha, hb) refl

both_tests : (a b : Bool) (n m : ℕ) → cond (a && b) (Some n) None ≡ Some m → (a ≡ true) × (b ≡ true) × (n ≡ m)
both_tests true true n m e = (refl, refl, cc)
both_tests true false n m e = absurd (cc)
both_tests false b n m e = absurd (cc)

-- the bytes that spell a number at most max are that number
pub number_of-spelled : (max : ℕ) (bytes : List ℕ) (n : ℕ) → max < 2 ^ 64 → n ≤ max → bytes ≡ decimal n → Some n ≡ number_of max bytes
number_of-spelled max bytes n small within e =
    let value : digits_value 10 bytes ≡ n = spells bytes n (omega arith) e in
    rw value (answer_of (bytes_eq bytes (decimal n)) (nat_le n max) n ((bytes_decides bytes (decimal n)).1 e) (grind (arith, nat_tests)))

-- a number that bytes are is one that they spell
pub spelled-number_of : (max : ℕ) (bytes : List ℕ) (n : ℕ) → number_of max bytes ≡ Some n → (n ≤ max) × (bytes ≡ decimal n)
spelled-number_of max bytes n e =
    let h = both_tests (bytes_eq bytes (decimal (digits_value 10 bytes))) (nat_le (digits_value 10 bytes) max) (digits_value 10 bytes) n e in
    let within : nat_le (digits_value 10 bytes) max ≡ true = h.1 in
    let value : digits_value 10 bytes ≡ n = h.2 in
    let spelled : bytes ≡ decimal (digits_value 10 bytes) = (bytes_decides bytes (decimal (digits_value 10 bytes))).0 h.0 in
    (grind (arith, nat_tests), spelled ∙ ap decimal value)

-- what `read_number` answers is the number at most max that the bytes spell
pub is_number_of : (r : Option ℕ) (max : ℕ) (bytes : List ℕ) → max < 2 ^ 64 → IfSome r (λ n. n ≤ max) → IfSome r (λ n. bytes ≡ decimal n)
    → IfNone r ((n : ℕ) → n ≤ max → bytes ≢ decimal n) → r ≡ number_of max bytes
is_number_of None max bytes small within spelled none =
    elim (number_of max bytes) as (λ r. number_of max bytes ≡ r → None ≡ r)
    [ None ↦ λ e. refl | Some n ↦ λ e. let h = spelled-number_of max bytes n e in absurd (none n h.0 h.1) ] refl
is_number_of (Some n) max bytes small within spelled none = number_of-spelled max bytes n small within spelled
