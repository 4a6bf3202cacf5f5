-- Where a list of sections ends.
use Rattle.std.proofs.Common.{◌≡◌, ◌↔◌, ◌<◌, ◌≤◌, ◌+◌, ◌-◌, ◌++◌, ℕ, zero, suc, true≢false, subst, inl, inr, All, true, List, [], ◌∷◌, length, take, drop, get_or, nat_lt, IsTrue, Some, arith, ap, sym, ◌∙◌}
use Rattle.std.specs.List.{slice_get}
use Rattle.std.proofs.lemmas.Bool.Decides.{nat_tests}
use Rattle.std.proofs.lemmas.List.{take_more, take_all, take-append-drop, map-append}
use Rattle.std.proofs.lemmas.Option.{get_or_from_slice_get, slice_get_within}
use Rattle.market_units.specs.declared.units.SectionNo.{SectionNo}
use Rattle.market_units.specs.Members.{has}
use Rattle.bundle_rules.specs.Sets.{IsAscending}
use Rattle.bundle_rules.specs.Ordinals.{ordinals}
use Rattle.bundle_rules.specs.Existence.Members.{has-here, has-there, has-cases, IsAscending-front, IsAscending-last, last_below}

-- a list without its last item, and that item
pub split_last : {A : Type 0} (xs : List A) (x : A) → Some x ≡ slice_get xs (length xs - 1) → xs ≡ take (length xs - 1) xs ++ x ∷ []
split_last xs x is =
    let low : length xs - 1 < length xs = slice_get_within xs (length xs - 1) x (sym is) in
    let item : get_or xs (length xs - 1) x ≡ x = get_or_from_slice_get xs (length xs - 1) x x (sym is) in
    let back : (length xs - 1) + 1 ≡ length xs = omega arith in
    sym (take_all _ xs (let h : length xs ≤ (length xs - 1) + 1 = omega arith in h)) ∙ take_more xs (length xs - 1) x low
    ∙ ap (λ y. take (length xs - 1) xs ++ y ∷ []) item

test_of : (a b : ℕ) (P : Type 0) → ((a < b) ↔ P) → IsTrue (nat_lt a b) ↔ P
test_of a b P both = ((λ t. both.0 (grind (arith, nat_tests))), (λ p. let low : a < b = both.1 p in grind (arith, nat_tests)))

-- a section above the last one is above all
pub below_the_last : (sections : List SectionNo) (last : SectionNo) (t : ℕ) → Some last ≡ slice_get sections (length sections - 1)
    → IsAscending (ordinals sections) → IsTrue (nat_lt last.0 t) ↔ IsAscending (ordinals sections ++ t ∷ [])
below_the_last sections last t is up =
    let front : List ℕ = ordinals (take (length sections - 1) sections) in
    let split : ordinals sections ≡ front ++ last.0 ∷ [] =
    ap ordinals (split_last sections last is) ∙ map-append (λ section. section.0) (take (length sections - 1) sections) (last ∷ []) in
    rw split (test_of last.0 t _ ((λ low. IsAscending-last front last.0 t (rw split at up) low), (λ more. last_below front last.0 t more)))

-- a front of ascending sections, with the next one
pub ascending-next : (sections : List SectionNo) (i : ℕ) (d : SectionNo) → i < length sections → IsAscending (ordinals sections)
    → IsAscending (ordinals (take i sections) ++ (get_or sections i d).0 ∷ [])
ascending-next sections i d low up =
    let split : take (i + 1) sections ≡ take i sections ++ get_or sections i d ∷ [] = take_more sections i d low in
    let parts : ordinals sections ≡ (ordinals (take i sections) ++ (get_or sections i d).0 ∷ []) ++ ordinals (drop (i + 1) sections) =
    ap ordinals (sym (take-append-drop (i + 1) sections)) ∙ map-append (λ section. section.0) (take (i + 1) sections) (drop (i + 1) sections)
    ∙ ap (λ front. ordinals front ++ ordinals (drop (i + 1) sections)) split
    ∙ ap (λ front. front ++ ordinals (drop (i + 1) sections)) (map-append (λ section. section.0) (take i sections) (get_or sections i d ∷ [])) in
    IsAscending-front (ordinals (take i sections) ++ (get_or sections i d).0 ∷ []) (ordinals (drop (i + 1) sections)) (rw parts at up)

-- a fact of each member is one of each section
pub all_of_ordinals : (P : ℕ → Type 0) (sections : List SectionNo) → ((s : ℕ) → has (ordinals sections) s ≡ true → P s) → All (λ section. P section.0) sections
all_of_ordinals P [] each k d low = absurd (omega arith)
all_of_ordinals P (x ∷ xs) each zero d low = each x.0 (has-here x.0 (ordinals xs))
all_of_ordinals P (x ∷ xs) each (suc k) d low = all_of_ordinals P xs (λ s is. each s (has-there x.0 (ordinals xs) s is)) k d (omega arith)

pub ordinals_of_all : (P : ℕ → Type 0) (sections : List SectionNo) → All (λ section. P section.0) sections → (s : ℕ) → has (ordinals sections) s ≡ true → P s
ordinals_of_all P [] all s is = absurd (true≢false (sym is))
ordinals_of_all P (x ∷ xs) all s is = elim (has-cases x.0 (ordinals xs) s is) [
  | inl here ↦ subst P here (all 0 x (omega arith))
  | inr there ↦ ordinals_of_all P xs (λ k d low. all (suc k) d (let h : suc k < suc (length xs) = omega arith in h)) s there
]
