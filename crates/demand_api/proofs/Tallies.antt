-- Bundles, their counts, and one bundle that is exchanged.
use Rattle.std.proofs.Common.{ℕ, zero, suc, ◌≡◌, ◌≢◌, ◌<◌, ◌≤◌, ◌+◌, ◌==◌, ◌∙◌, Bool, true, List, [], ◌∷◌, length, map, All, arith, subst, sym, ap, inl, inr}
use Rattle.std.specs.Prelude.{slice_index, slice_index_or, slice_set, if◌then◌else◌}
use Rattle.std.proofs.lemmas.Bool.{cases_Bool}
use Rattle.std.proofs.lemmas.Bool.Decides.{nat_tests}
use Rattle.std.proofs.lemmas.Option.{slice_get-get_or}
use Rattle.std.proofs.lemmas.List.{get_or-set_same, get_or-set_other, map-set, length-set, length-map}
use Rattle.market_units.specs.declared.units.SectionNo.{SectionNo}
use Rattle.bundle_rules.specs.declared.bundle.Bundle.{Bundle}
use Rattle.bundle_rules.specs.Bundles.{sections_of}
use Rattle.market_units.specs.Members.{has}
use Rattle.bundle_rules.specs.Ordinals.{ordinals, IsBundle}
use Rattle.demand_api.specs.Crowds.{holders}
use Rattle.demand_api.specs.Counting.{HasCounted, IsTally}
use Rattle.demand_api.proofs.Holders.{holders_set}
use Rattle.demand_api.proofs.Takers.{holders_few, listed_in, sections_few, index_same}
use Rattle.demand_api.proofs.Within.{read_at, within_at}

-- 1 for true, 0 for false
abbrev one_if : Bool → ℕ
one_if b = if b then 1 else 0

-- a bundle that is held has a holder of each of its sections
holders_some : (s i : ℕ) (bundles : List (List ℕ)) → i < length bundles → has (slice_index_or bundles i []) s ≡ true → 1 ≤ holders s bundles
holders_some s i [] low is = absurd (omega arith)
holders_some s zero (x ∷ xs) low is = rw is (omega arith)
holders_some s (suc i) (x ∷ xs) low is = let rest : 1 ≤ holders s xs = holders_some s i xs (omega arith) is in omega arith

-- each section of a bundle that is held has a count
pub sections_some : (n : ℕ) (bundles : List Bundle) (counts : List ℕ) (i : ℕ) (bundle : Bundle) (sections : List SectionNo) → IsTally n bundles counts
    → i < length bundles → bundle ≡ slice_index_or bundles i bundle → ordinals sections ≡ sections_of bundle
    → All (λ section. 1 ≤ slice_index counts section.0) sections
sections_some n bundles counts i bundle sections tally low is listed k d below =
    let s : ℕ = (slice_index_or sections k d).0 in
    let has_it : has (sections_of bundle) s ≡ true = ap (λ b. has b s) (sym listed) ∙ listed_in sections k d below in
    let in_range : s < n = within_at n bundles i bundle tally.within low is s has_it in
    let low_map : i < length (map sections_of bundles) = rw (length-map bundles sections_of) low in
    let some : 1 ≤ holders s (map sections_of bundles) =
    holders_some s i (map sections_of bundles) low_map (ap (λ b. has b s) (read_at bundles i bundle low is) ∙ has_it) in
    let count : slice_index counts s ≡ holders s (map sections_of bundles) = tally.counted.each s in_range in
    omega arith

-- no count passes the number of bundles
pub count_few : (n : ℕ) (bundles : List Bundle) (counts : List ℕ) (s d : ℕ) → IsTally n bundles counts → s < n → slice_index_or counts s d ≤ 2000
count_few n bundles counts s d tally in_range =
    let at_most : holders s (map sections_of bundles) ≤ length (map sections_of bundles) = holders_few s (map sections_of bundles) in
    let few : length bundles ≤ 2000 = tally.few in
    let mapped : length (map sections_of bundles) ≡ length bundles = length-map bundles sections_of in
    let here : slice_index counts s ≡ holders s (map sections_of bundles) = tally.counted.each s in_range in
    let long : length counts ≡ n = tally.counted.len in
    let read : slice_index_or counts s d ≡ slice_index counts s = index_same counts s d (omega arith) in
    omega arith

-- a count has room for one more
pub tally_room : (n : ℕ) (bundles : List Bundle) (counts mid : List ℕ) (old : List ℕ) (sections : List SectionNo) (bundle : List ℕ) → IsTally n bundles counts
    → length mid ≡ length counts → ((s : ℕ) → s < length counts → HasCounted mid counts old s)
    → ordinals sections ≡ bundle → IsBundle bundle → All (λ m. m + length sections < 4294967296) mid
tally_room n bundles counts mid old sections bundle tally same uncounted listed is k d low =
    let short : length sections ≤ 8 = sections_few sections bundle listed is in
    let long : length counts ≡ n = tally.counted.len in
    let few : slice_index counts k ≤ 2000 = count_few n bundles counts k 0 tally (omega arith) in
    let less : slice_index counts k ≡ slice_index mid k + (if has old k then 1 else 0) = uncounted k (omega arith) in
    let read : slice_index_or mid k d ≡ slice_index mid k = index_same mid k d low in
    omega arith

-- the counts after one exchange
pub tally_exchanged : (n : ℕ) (bundles : List Bundle) (counts mid after : List ℕ) (i : ℕ) (bundle other : Bundle) (old new : List ℕ) → IsTally n bundles counts
    → i < length bundles → bundle ≡ slice_index_or bundles i bundle
    → old ≡ sections_of bundle → new ≡ sections_of other → ((s : ℕ) → has (sections_of other) s ≡ true → s < n) → length mid ≡ length counts
    → length after ≡ length mid
    → ((s : ℕ) → s < length counts → HasCounted mid counts old s) → ((s : ℕ) → s < length mid → HasCounted mid after new s)
    → IsTally n (slice_set bundles i other) after
tally_exchanged n bundles counts mid after i bundle other old new tally low is held others within same_mid same_after uncounted counted = record {
  few = rw (length-set bundles i other) tally.few;
  within = λ j s has_it. within_set j s (ap (λ bs. has (slice_index_or bs j []) s) (sym (map-set sections_of bundles i other)) ∙ has_it);
  counted = record {
    len = same_after ∙ same_mid ∙ tally.counted.len;
    each = λ s in_range.
        let long : length counts ≡ n = tally.counted.len in
        let before : slice_index counts s ≡ holders s (map sections_of bundles) = tally.counted.each s in_range in
        let less : slice_index counts s ≡ slice_index mid s + (if has old s then 1 else 0) = uncounted s (omega arith) in
        let more : slice_index after s ≡ slice_index mid s + (if has new s then 1 else 0) = counted s (omega arith) in
        let set : holders s (slice_set (map sections_of bundles) i (sections_of other)) + (if has (slice_index_or (map sections_of bundles) i []) s then 1 else 0)
        ≡ holders s (map sections_of bundles) + (if has (sections_of other) s then 1 else 0) =
        holders_set s (map sections_of bundles) i (slice_index_or (map sections_of bundles) i []) (sections_of other)
        (slice_get-get_or (map sections_of bundles) i [] low_map) in
        let old_is : one_if (has (slice_index_or (map sections_of bundles) i []) s) ≡ one_if (has old s) =
        ap (λ b. one_if (has b s)) (read_at bundles i bundle low is ∙ sym held) in
        let new_is : one_if (has new s) ≡ one_if (has (sections_of other) s) = ap (λ b. one_if (has b s)) others in
        let mapped : holders s (map sections_of (slice_set bundles i other)) ≡ holders s (slice_set (map sections_of bundles) i (sections_of other)) =
        ap (holders s) (map-set sections_of bundles i other) in
        omega (arith, before, less, more, set, old_is, new_is, mapped);
  };
}
  where
    low_map : i < length (map sections_of bundles)
    low_map = rw (length-map bundles sections_of) low

    within_set : (j s : ℕ) → has (slice_index_or (slice_set (map sections_of bundles) i (sections_of other)) j []) s ≡ true → s < n
    within_set j s has_it = elim (cases_Bool (j == i)) [
      | inl here ↦
          let e : j ≡ i = grind (arith, nat_tests) in
          within s
          (ap (λ b. has b s) (sym (get_or-set_same (map sections_of bundles) i (sections_of other) [] low_map))
          ∙ subst (λ k. has (slice_index_or (slice_set (map sections_of bundles) i (sections_of other)) k []) s ≡ true) e has_it)
      | inr there ↦
          let apart : j ≢ i = λ e. grind (arith, nat_tests) in
          tally.within j s (ap (λ b. has b s) (sym (get_or-set_other (map sections_of bundles) i j (sections_of other) [] apart)) ∙ has_it)
    ]
