-- What one bundle adds to the counts.
use Rattle.std.proofs.Common.{ℕ, ◌≡◌, ◌≢◌, ◌<◌, ◌≤◌, ◌+◌, ◌-◌, ◌==◌, ◌∙◌, false, List, ◌∷◌, length, take, drop, arith, subst, sym, ap, inl, inr}
use Rattle.std.specs.Prelude.{slice_index, slice_index_or, slice_set, if◌then◌else◌}
use Rattle.std.proofs.lemmas.Bool.{cases_Bool}
use Rattle.std.proofs.lemmas.Bool.Decides.{nat_tests}
use Rattle.std.proofs.lemmas.List.{get_or-set_same, get_or-set_other}
use Rattle.plain_facts.proofs.Lists.{first_rest}
use Rattle.market_units.specs.declared.units.SectionNo.{SectionNo}
use Rattle.market_units.specs.Members.{has}
use Rattle.bundle_rules.specs.Sets.{IsAscending}
use Rattle.bundle_rules.specs.Ordinals.{ordinals}
use Rattle.bundle_rules.specs.Existence.Orders.{none_below}
use Rattle.demand_api.specs.Counting.{HasCounted}

counted_first : (before after : List ℕ) (x : SectionNo) (rest : List SectionNo) (s : ℕ) → IsAscending (ordinals (x ∷ rest)) → x.0 < length before
    → HasCounted (slice_set before x.0 (slice_index before x.0 + 1)) after (ordinals rest) s → HasCounted before after (ordinals (x ∷ rest)) s
counted_first before after x rest s up low counted = elim (cases_Bool (x.0 == s)) [
  | inl here ↦
      let e : s ≡ x.0 = grind (arith, nat_tests) in
      let none : has (ordinals rest) s ≡ false = none_below x.0 (ordinals rest) up.0 s (omega arith) in
      let value : slice_index (slice_set before x.0 (slice_index before x.0 + 1)) s ≡ slice_index before s + 1 =
      rw e (get_or-set_same before x.0 (slice_index before x.0 + 1) 0 low) in
      let so_far : slice_index after s ≡ slice_index (slice_set before x.0 (slice_index before x.0 + 1)) s + 0 = rw none at counted in
      rw here (omega (arith, value, so_far))
  | inr there ↦
      let other : s ≢ x.0 = λ e. grind (arith, nat_tests) in
      let value : slice_index (slice_set before x.0 (slice_index before x.0 + 1)) s ≡ slice_index before s =
      get_or-set_other before x.0 s (slice_index before x.0 + 1) 0 other in
      rw there (counted ∙ ap (λ n. n + (if has (ordinals rest) s then 1 else 0)) value)
]

pub counted_slice : (before after : List ℕ) (sections : List SectionNo) (place s : ℕ) → 1 ≤ length sections → IsAscending (ordinals sections)
    → place ≡ (slice_index_or sections 0 (record { 0 = 0 })).0 → place < length before
    → HasCounted (slice_set before place (slice_index before place + 1)) after (ordinals (take (length sections - 1) (drop 1 sections))) s
    → HasCounted before after (ordinals sections) s
counted_slice before after sections place s some up at low counted =
    let first : SectionNo = slice_index_or sections 0 (record { 0 = 0 }) in
    let rest : List SectionNo = take (length sections - 1) (drop 1 sections) in
    let whole : sections ≡ first ∷ rest = first_rest sections (record { 0 = 0 }) some in
    subst (λ ss. HasCounted before after (ordinals ss) s) (sym whole)
    (counted_first before after first rest s (subst (λ ss. IsAscending (ordinals ss)) whole up) (subst (λ p. p < length before) at low)
    (subst (λ p. HasCounted (slice_set before p (slice_index before p + 1)) after (ordinals rest) s) at counted))
