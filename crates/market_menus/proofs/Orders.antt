-- Orders of keys, and lists in their order.
use Rattle.std.proofs.Common.{ℕ, ◌≡◌, ◌<◌, true, nat_eq, List, [], ◌∷◌, map, refl, sym, arith}
use Rattle.std.specs.Ordering.{nat_cmp, is_lt, is_eq}
use Rattle.std.specs.Cmp.{ranked}
use Rattle.std.specs.declared.cmp.Ordering.TheVariants.{Less, Equal, Greater}
use Rattle.std.specs.FinMap.Entries.{is_sorted, below_all}
use Rattle.std.proofs.lemmas.Bool.Decides.{nat_tests}
use Rattle.plain_facts.proofs.Truths.{and_first, and_second, only_less}
use Rattle.bundle_rules.specs.Sets.{AllAbove, IsAscending}

pub below_is : (a b : ℕ) → is_lt (nat_cmp a b) ≡ true → a < b
below_is a b e = ranked a b Less (sym (only_less (nat_cmp a b) e))

pub equal_is : (a b : ℕ) → is_eq (nat_cmp a b) ≡ nat_eq b a
equal_is a b =
    elim (nat_cmp a b) as (λ r. nat_cmp a b ≡ r → is_eq r ≡ nat_eq b a) [
      | Less ↦ λ e. let l : a < b = ranked a b Less (sym e) in grind (arith, nat_tests)
      | Equal ↦ λ e. let l : a ≡ b = ranked a b Equal (sym e) in grind (arith, nat_tests)
      | Greater ↦ λ e. let l : b < a = ranked a b Greater (sym e) in grind (arith, nat_tests)
    ] refl

above_all : {X : Type 0} (s : ℕ) (es : List (ℕ × X)) → below_all nat_cmp s es ≡ true → AllAbove s (map (λ e. e.0) es)
above_all s [] e = tt
above_all s (x ∷ es) e = (below_is s x.0 (and_first _ _ e), above_all s es (and_second _ _ e))

-- keys in order ascend
pub ascending_keys : {X : Type 0} (es : List (ℕ × X)) → is_sorted nat_cmp es ≡ true → IsAscending (map (λ e. e.0) es)
ascending_keys [] e = tt
ascending_keys (x ∷ es) e = (above_all x.0 es (and_first _ _ e), ascending_keys es (and_second _ _ e))
