-- What one bundle less leaves of the counts.
use Rattle.std.proofs.Common.{ℕ, ◌≡◌, ◌≢◌, ◌<◌, ◌≤◌, ◌+◌, ◌-◌, ◌==◌, ◌∙◌, false, List, ◌∷◌, length, take, drop, arith, subst, sym, ap, inl, inr}
use Rattle.std.specs.Prelude.{slice_index, slice_index_or, slice_set, if◌then◌else◌}
use Rattle.std.proofs.lemmas.Bool.{cases_Bool}
use Rattle.std.proofs.lemmas.Bool.Decides.{nat_tests}
use Rattle.std.proofs.lemmas.List.{get_or-set_same, get_or-set_other}
use Rattle.plain_facts.proofs.Lists.{first_rest}
use Rattle.market_units.specs.declared.units.SectionNo.{SectionNo}
use Rattle.market_units.specs.Members.{has}
use Rattle.bundle_rules.specs.Sets.{IsAscending}
use Rattle.bundle_rules.specs.Ordinals.{ordinals}
use Rattle.bundle_rules.specs.Existence.Orders.{none_below}
use Rattle.demand_api.specs.Counting.{HasCounted}

-- what is not among the later sections keeps its count while they are taken away
kept_first : (before mid : List ℕ) (x : SectionNo) (rest : List SectionNo) → IsAscending (ordinals (x ∷ rest)) → HasCounted mid before (ordinals rest) x.0
    → slice_index before x.0 ≡ slice_index mid x.0
kept_first before mid x rest up counted =
    let none : has (ordinals rest) x.0 ≡ false = none_below x.0 (ordinals rest) up.0 x.0 (omega arith) in
    let same : slice_index before x.0 ≡ slice_index mid x.0 + 0 = rw none at counted in
    omega (arith, same)

uncounted_first : (before mid : List ℕ) (x : SectionNo) (rest : List SectionNo) (s : ℕ) → IsAscending (ordinals (x ∷ rest)) → x.0 < length mid
    → 1 ≤ slice_index before x.0 → HasCounted mid before (ordinals rest) x.0
    → HasCounted mid before (ordinals rest) s → HasCounted (slice_set mid x.0 (slice_index mid x.0 - 1)) before (ordinals (x ∷ rest)) s
uncounted_first before mid x rest s up low some counted_x counted = elim (cases_Bool (x.0 == s)) [
  | inl here ↦
      let e : s ≡ x.0 = grind (arith, nat_tests) in
      let none : has (ordinals rest) s ≡ false = none_below x.0 (ordinals rest) up.0 s (omega arith) in
      let value : slice_index (slice_set mid x.0 (slice_index mid x.0 - 1)) s ≡ slice_index mid x.0 - 1 =
      rw e (get_or-set_same mid x.0 (slice_index mid x.0 - 1) 0 low) in
      let same : slice_index before s ≡ slice_index before x.0 = ap (slice_index before) e in
      let kept : slice_index before x.0 ≡ slice_index mid x.0 = kept_first before mid x rest up counted_x in
      rw here (omega (arith, value, same, kept, some))
  | inr there ↦
      let other : s ≢ x.0 = λ e. grind (arith, nat_tests) in
      let value : slice_index (slice_set mid x.0 (slice_index mid x.0 - 1)) s ≡ slice_index mid s =
      get_or-set_other mid x.0 s (slice_index mid x.0 - 1) 0 other in
      rw there (counted ∙ ap (λ n. n + (if has (ordinals rest) s then 1 else 0)) (sym value))
]

-- the first section has a count when the later ones are taken away
pub some_left : (before mid : List ℕ) (sections : List SectionNo) (place : ℕ) → 1 ≤ length sections → IsAscending (ordinals sections)
    → place ≡ (slice_index_or sections 0 (record { 0 = 0 })).0 → 1 ≤ slice_index before (slice_index_or sections 0 (record { 0 = 0 })).0
    → HasCounted mid before (ordinals (take (length sections - 1) (drop 1 sections))) (slice_index_or sections 0 (record { 0 = 0 })).0
    → 1 ≤ slice_index mid place
some_left before mid sections place one up at some counted =
    let first : SectionNo = slice_index_or sections 0 (record { 0 = 0 }) in
    let rest : List SectionNo = take (length sections - 1) (drop 1 sections) in
    let whole : sections ≡ first ∷ rest = first_rest sections (record { 0 = 0 }) one in
    let kept : slice_index before first.0 ≡ slice_index mid first.0 =
    kept_first before mid first rest (subst (λ ss. IsAscending (ordinals ss)) whole up) counted in
    rw at (omega (arith, kept, some))

pub uncounted_slice : (before mid : List ℕ) (sections : List SectionNo) (place s : ℕ) → 1 ≤ length sections → IsAscending (ordinals sections)
    → place ≡ (slice_index_or sections 0 (record { 0 = 0 })).0 → place < length mid → 1 ≤ slice_index before (slice_index_or sections 0 (record { 0 = 0 })).0
    → HasCounted mid before (ordinals (take (length sections - 1) (drop 1 sections))) (slice_index_or sections 0 (record { 0 = 0 })).0
    → HasCounted mid before (ordinals (take (length sections - 1) (drop 1 sections))) s
    → HasCounted (slice_set mid place (slice_index mid place - 1)) before (ordinals sections) s
uncounted_slice before mid sections place s one up at low some counted_first counted =
    let first : SectionNo = slice_index_or sections 0 (record { 0 = 0 }) in
    let rest : List SectionNo = take (length sections - 1) (drop 1 sections) in
    let whole : sections ≡ first ∷ rest = first_rest sections (record { 0 = 0 }) one in
    subst (λ ss. HasCounted (slice_set mid place (slice_index mid place - 1)) before (ordinals ss) s) (sym whole)
    (subst (λ p. HasCounted (slice_set mid p (slice_index mid p - 1)) before (ordinals (first ∷ rest)) s) (sym at)
    (uncounted_first before mid first rest s (subst (λ ss. IsAscending (ordinals ss)) whole up) (subst (λ p. p < length mid) at low) some counted_first counted))
