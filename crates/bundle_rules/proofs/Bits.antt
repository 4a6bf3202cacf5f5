-- Sets of sections and their bits.
use Rattle.std.proofs.Common.{◌≡◌, ◌<◌, ◌==◌, ℕ, Bool, true, false, true≢false, List, [], ◌∷◌, length, arith, refl, ap, sym, subst, ◌∙◌, inl, inr}
use Rattle.std.proofs.lemmas.Bool.{cases_Bool, ne_eqb}
use Rattle.market_units.specs.Subsets.{earlier, chosen}
use Rattle.market_units.specs.Members.{has}
use Rattle.bundle_rules.specs.Sets.{AllAbove, IsAscending, DiffersFirstIn}
use Rattle.bundle_rules.specs.Places.{bits_of}
use Rattle.bundle_rules.specs.Existence.Members.{has-here, has-there, has-cases, has-above}
use Rattle.bundle_rules.specs.Existence.Orders.{none_below, same_head, head_first, not_both_first}

-- a member of what is chosen is one of all
pub chosen-among : (bits : List Bool) (all : List ℕ) (s : ℕ) → has (chosen bits all) s ≡ true → has all s ≡ true
chosen-among [] all s is = absurd (true≢false (sym is))
chosen-among (b ∷ bits) [] s is = absurd (true≢false (sym is))
chosen-among (true ∷ bits) (x ∷ all) s is = elim (has-cases x (chosen bits all) s is) [
  | inl here ↦ subst (λ t. has (x ∷ all) t ≡ true) here (has-here x all)
  | inr there ↦ has-there x all s (chosen-among bits all s there)
]
chosen-among (false ∷ bits) (x ∷ all) s is = has-there x all s (chosen-among bits all s is)

-- what is chosen of sections above one is above it
pub chosen-above : (s : ℕ) (bits : List Bool) (all : List ℕ) → AllAbove s all → AllAbove s (chosen bits all)
chosen-above s [] all above = tt
chosen-above s (b ∷ bits) [] above = tt
chosen-above s (true ∷ bits) (x ∷ all) above = (above.0, chosen-above s bits all above.1)
chosen-above s (false ∷ bits) (x ∷ all) above = chosen-above s bits all above.1

-- what is chosen of a set is a set
pub chosen-ascending : (bits : List Bool) (all : List ℕ) → IsAscending all → IsAscending (chosen bits all)
chosen-ascending [] all up = tt
chosen-ascending (b ∷ bits) [] up = tt
chosen-ascending (true ∷ bits) (x ∷ all) up = (chosen-above x bits all up.0, chosen-ascending bits all up.1)
chosen-ascending (false ∷ bits) (x ∷ all) up = chosen-ascending bits all up.1

-- bits of sections above one do not see it
bits-above : (s : ℕ) (set all : List ℕ) → AllAbove s all → bits_of all (s ∷ set) ≡ bits_of all set
bits-above s set [] above = refl
bits-above s set (x ∷ all) above =
    let other : (s == x) ≡ false = ne_eqb s x (λ e. let low : s < x = above.0 in absurd (omega arith)) in
    rw (other, bits-above s set all above.1) refl

-- the bits of what is chosen are the bits
pub bits_of-chosen : (bits : List Bool) (all : List ℕ) → IsAscending all → length bits ≡ length all → bits_of all (chosen bits all) ≡ bits
bits_of-chosen [] [] up same = refl
bits_of-chosen [] (x ∷ all) up same = absurd (omega arith)
bits_of-chosen (b ∷ bits) [] up same = absurd (omega arith)
bits_of-chosen (true ∷ bits) (x ∷ all) up same =
    let here : has (x ∷ chosen bits all) x ≡ true = has-here x (chosen bits all) in
    rw here (ap (λ bs. true ∷ bs) (bits-above x (chosen bits all) all up.0 ∙ bits_of-chosen bits all up.1 (omega arith)))
bits_of-chosen (false ∷ bits) (x ∷ all) up same =
    let none : has (chosen bits all) x ≡ false = none_below x (chosen bits all) (chosen-above x bits all up.0) x (omega arith) in
    rw none (ap (λ bs. false ∷ bs) (bits_of-chosen bits all up.1 (omega arith)))

-- a set with the first section of all, where the rest of it is chosen from the rest
from_first : (x : ℕ) (all : List ℕ) → IsAscending (x ∷ all)
    → ((set : List ℕ) → IsAscending set → ((s : ℕ) → has set s ≡ true → has all s ≡ true) → chosen (bits_of all set) all ≡ set)
    → (set : List ℕ) → IsAscending set → ((s : ℕ) → has set s ≡ true → has (x ∷ all) s ≡ true) → has set x ≡ true → x ∷ chosen (bits_of all set) all ≡ set
from_first x all up again [] rises among is = absurd (true≢false (sym is))
from_first x all up again (y ∷ set) rises among is = elim (has-cases x all y (among y (has-here y set))) [
  | inr later ↦
      let low : x < y = has-above x all y up.0 later in
      elim (has-cases y set x is) [ inl same ↦ absurd (omega arith) | inr there ↦ let high : y < x = has-above y set x rises.0 there in absurd (omega arith) ]
  | inl first ↦
      let rest : (s : ℕ) → has set s ≡ true → has all s ≡ true =
      λ s in_it. elim (has-cases x all s (among s (has-there y set s in_it)))
      [ inl here ↦ let high : y < s = has-above y set s rises.0 in_it in absurd (omega arith) | inr there ↦ there ] in
      let bits : bits_of all (y ∷ set) ≡ bits_of all set = bits-above y set all (subst (λ t. AllAbove t all) first up.0) in
      ap (λ bs. x ∷ chosen bs all) bits ∙ ap (λ ss. x ∷ ss) (again set rises.1 rest) ∙ ap (λ t. t ∷ set) first
]

-- what the bits of a set choose is the set
pub chosen-bits_of : (all set : List ℕ) → IsAscending all → IsAscending set → ((s : ℕ) → has set s ≡ true → has all s ≡ true)
    → chosen (bits_of all set) all ≡ set
chosen-bits_of [] [] up rises among = refl
chosen-bits_of [] (y ∷ set) up rises among = absurd (true≢false (sym (among y (has-here y set))))
chosen-bits_of (x ∷ all) set up rises among = elim (cases_Bool (has set x)) [
  | inl in_it ↦ rw in_it (from_first x all up (λ other. chosen-bits_of all other up.1) set rises among in_it)
  | inr not ↦
      rw not
      (chosen-bits_of all set up.1 rises
      (λ s is. elim (has-cases x all s (among s is))
      [ inl here ↦ absurd (true≢false (sym (subst (λ t. has set t ≡ true) (sym here) is) ∙ not)) | inr there ↦ there ]))
]

-- the first place on which bits differ is the lowest section on which the sets differ
pub earlier-differs : (a b : List Bool) (all : List ℕ) → IsAscending all → length a ≡ length all → length b ≡ length all → earlier a b ≡ true
    → DiffersFirstIn (chosen a all) (chosen b all)
earlier-differs [] b all up same same' is = absurd (true≢false (sym is))
earlier-differs (x ∷ a) [] all up same same' is = absurd (true≢false (sym is))
earlier-differs (x ∷ a) (y ∷ b) [] up same same' is = absurd (omega arith)
earlier-differs (true ∷ a) (true ∷ b) (s ∷ all) up same same' is =
    (same_head s (chosen a all) (chosen b all) (chosen-above s a all up.0) (chosen-above s b all up.0)).0
    (earlier-differs a b all up.1 (omega arith) (omega arith) is)
earlier-differs (true ∷ a) (false ∷ b) (s ∷ all) up same same' is =
    head_first s (chosen a all) (chosen b all) (chosen-above s a all up.0) (λ t low. none_below s (chosen b all) (chosen-above s b all up.0) t low)
earlier-differs (false ∷ a) (true ∷ b) (s ∷ all) up same same' is = absurd (true≢false (sym is))
earlier-differs (false ∷ a) (false ∷ b) (s ∷ all) up same same' is = earlier-differs a b all up.1 (omega arith) (omega arith) is

pub differs-earlier : (a b : List Bool) (all : List ℕ) → IsAscending all → length a ≡ length all → length b ≡ length all
    → DiffersFirstIn (chosen a all) (chosen b all) → earlier a b ≡ true
differs-earlier [] b all up same same' d = absurd (true≢false (sym d.1))
differs-earlier (x ∷ a) [] [] up same same' d = absurd (omega arith)
differs-earlier (x ∷ a) [] (s ∷ all) up same same' d = absurd (omega arith)
differs-earlier (x ∷ a) (y ∷ b) [] up same same' d = absurd (omega arith)
differs-earlier (true ∷ a) (true ∷ b) (s ∷ all) up same same' d =
    differs-earlier a b all up.1 (omega arith) (omega arith)
    ((same_head s (chosen a all) (chosen b all) (chosen-above s a all up.0) (chosen-above s b all up.0)).1 d)
differs-earlier (true ∷ a) (false ∷ b) (s ∷ all) up same same' d = refl
differs-earlier (false ∷ a) (true ∷ b) (s ∷ all) up same same' d =
    absurd
    (not_both_first (s ∷ chosen b all) (chosen a all)
    (head_first s (chosen b all) (chosen a all) (chosen-above s b all up.0) (λ t low. none_below s (chosen a all) (chosen-above s a all up.0) t low)) d)
differs-earlier (false ∷ a) (false ∷ b) (s ∷ all) up same same' d = differs-earlier a b all up.1 (omega arith) (omega arith) d
