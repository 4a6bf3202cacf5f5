-- Bounds of a resource, looked at one after another.
use Rattle.std.proofs.Common.{◌≡◌, ◌≤◌, ◌<◌, ◌+◌, ℕ, ◌*◌, ◌/◌, ◌&&◌, List, [], ◌∷◌, ◌++◌, length, get_or, take, drop, refl, sym, ◌∙◌, ap, subst, arith, inl, inr}
use Rattle.std.specs.Prelude.{ℤ, pos, ◌+ℤ◌, ◌≤ℤ◌, ◌<ℤ◌, nat_lt, All}
use Rattle.std.proofs.Math.Nat.{div-le_self}
use Rattle.std.proofs.lemmas.Int.{ints}
use Rattle.std.proofs.lemmas.Bool.{cases_Bool, cases_lt}
use Rattle.std.proofs.lemmas.List.{take-append-drop, take_more}
use Rattle.bundle_bounds.specs.declared.prospects.Prospect.{Prospect}
use Rattle.bundle_bounds.specs.declared.prospects.Resource.{Resource}
use Rattle.bundle_bounds.specs.declared.known.Known.{Known}
use Rattle.bundle_bounds.specs.Courses.{takes_of}
use Rattle.bundle_bounds.specs.Bounds.{leaf_of, at_price, resource_bounds}
use Rattle.bundle_bounds.specs.Limits.{NoneBelow, IsFirstBelow}
use Rattle.bundle_bounds.specs.Known.{IsKnown}
use Rattle.bundle_bounds.specs.Modest.{IsModest}
use Rattle.bundle_bounds.proofs.Adding.{drop_here}
use Rattle.bundle_bounds.proofs.Limits.{Below, first_here, none_later, none-append, first-append_right, all_tail}

head_of : (P : Prospect → Type 0) (x : Prospect) (xs : List Prospect) → All P (x ∷ xs) → P x
head_of P x xs all = all 0 x (omega arith)

module _ (base : ℤ) (limit : ℤ) (rest : ℕ) (resource : Resource) (all : List Prospect) where
  resource_bounds-append : (ps qs : List Prospect)
      → resource_bounds base rest resource all (ps ++ qs) ≡ resource_bounds base rest resource all ps ++ resource_bounds base rest resource all qs
  resource_bounds-append [] qs = refl
  resource_bounds-append (p ∷ ps) qs = elim (cases_Bool (nat_lt 0 p.worth && nat_lt 0 (takes_of resource p))) [
    | inl has ↦
        rw has
        (ap (λ bs. (leaf_of resource p.place, base +ℤ pos (at_price resource rest (1000 * p.worth / takes_of resource p) all)) ∷ bs)
        (resource_bounds-append ps qs))
    | inr none ↦ rw none (resource_bounds-append ps qs)
  ]

  -- one more has none below the limit
  pub none_more : (ps : List Prospect) (i : ℕ) (d : Prospect) → i < length ps → NoneBelow limit (resource_bounds base rest resource all (take i ps))
      → ¬ Below base limit rest resource all (get_or ps i d)
      → NoneBelow limit (resource_bounds base rest resource all (take (i + 1) ps))
  none_more ps i d low so_far above =
      subst (λ qs. NoneBelow limit (resource_bounds base rest resource all qs)) (sym (take_more ps i d low))
      (subst (NoneBelow limit) (sym (resource_bounds-append (take i ps) (get_or ps i d ∷ [])))
      (none-append limit (resource_bounds base rest resource all (take i ps)) (resource_bounds base rest resource all (get_or ps i d ∷ [])) so_far (none_later base limit rest resource all (get_or ps i d) [] above tt)))

  -- the first that has one
  pub first_at : (ps : List Prospect) (i : ℕ) (d : Prospect) → i < length ps → NoneBelow limit (resource_bounds base rest resource all (take i ps))
      → Below base limit rest resource all (get_or ps i d)
      → IsFirstBelow limit (resource_bounds base rest resource all ps) (leaf_of resource (get_or ps i d).place)
  first_at ps i d low so_far below =
      let whole : take i ps ++ (get_or ps i d ∷ drop (i + 1) ps) ≡ ps = ap (λ qs. take i ps ++ qs) (sym (drop_here ps i d low)) ∙ take-append-drop i ps in
      subst (λ qs. IsFirstBelow limit (resource_bounds base rest resource all qs) (leaf_of resource (get_or ps i d).place)) whole
      (subst (λ bs. IsFirstBelow limit bs (leaf_of resource (get_or ps i d).place)) (sym (resource_bounds-append (take i ps) (get_or ps i d ∷ drop (i + 1) ps)))
      (first-append_right limit (resource_bounds base rest resource all (take i ps)) (resource_bounds base rest resource all (get_or ps i d ∷ drop (i + 1) ps)) (leaf_of resource (get_or ps i d).place) so_far
      (first_here base limit rest resource all (get_or ps i d) (drop (i + 1) ps) below)))

  -- where everything is known none has one
  pub none_where_known : (known : Known) → IsKnown base limit rest resource all known → known.high ≤ known.low → (ps : List Prospect) → All IsModest ps
      → NoneBelow limit (resource_bounds base rest resource all ps)
  none_where_known known is covers [] modest = tt
  none_where_known known is covers (p ∷ ps) modest =
      let price : ℕ = 1000 * p.worth / takes_of resource p in
      let small : p.worth ≤ 20000 = (head_of IsModest p ps modest).worth_low in
      let less : 1000 * p.worth / takes_of resource p ≤ 1000 * p.worth = div-le_self (1000 * p.worth) (takes_of resource p) in
      let not_below : limit ≤ℤ (base +ℤ pos (at_price resource rest (1000 * p.worth / takes_of resource p) all)) =
      elim (cases_lt (1000 * p.worth / takes_of resource p) known.low) [
        | inl before ↦ is.low (1000 * p.worth / takes_of resource p) before
        | inr after ↦ is.high (1000 * p.worth / takes_of resource p) (omega arith) (omega arith)
      ] in
      none_later base limit rest resource all p ps
      (λ below. let low : (base +ℤ pos (at_price resource rest (1000 * p.worth / takes_of resource p) all)) <ℤ limit = below.1 in omega (arith, ints))
      (none_where_known known is covers ps (all_tail IsModest p ps modest))
