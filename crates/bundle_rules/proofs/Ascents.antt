-- Ascending places.
use Rattle.std.proofs.Common.{◌≡◌, ◌↔◌, ◌<◌, ◌≤◌, ◌-◌, ℕ, List, [], ◌∷◌, length, get_or, take, drop, IsTrue, Bool, arith, ap, sym, subst, ◌∙◌}
use Rattle.plain_facts.proofs.Lists.{first_rest}
use Rattle.bundle_rules.specs.declared.menu.Rated.{Rated}
use Rattle.bundle_rules.specs.Sets.{AllAbove, IsAscending}
use Rattle.bundle_rules.proofs.Later.{no_place, sections}

pub above_all : (x y : ℕ) (ys : List ℕ) → x < y → AllAbove y ys → AllAbove x ys
above_all x y [] low above = tt
above_all x y (z ∷ zs) low above = (let h : y < z = above.0 in omega arith, above_all x y zs low above.1)

-- the first below the second, and the rest ascending
pub ascends_by_two : (x y : ℕ) (ys : List ℕ) → x < y → IsAscending (y ∷ ys) ↔ IsAscending (x ∷ y ∷ ys)
ascends_by_two x y ys low = ((λ up. ((low, above_all x y ys low up.0), up)), (λ up. up.1))

-- the same of the places of which the code has the first two
module _ (places : List Rated) (some : 1 ≤ length places) (more : 1 ≤ length (take (length places - 1) (drop 1 places))) where
  abbrev pub rest : List Rated
  rest = take (length places - 1) (drop 1 places)

  abbrev pub first : ℕ
  first = (get_or places 0 no_place).section.0

  abbrev pub second : ℕ
  second = (get_or rest 0 no_place).section.0

  pub two : sections places ≡ first ∷ second ∷ sections (take (length rest - 1) (drop 1 rest))
  two = ap sections (first_rest places no_place some) ∙ ap (λ ss. first ∷ ss) (ap sections (first_rest rest no_place more))

  pub ascends : first < second → (r : Bool) → IsTrue r ↔ IsAscending (sections rest) → IsTrue r ↔ IsAscending (sections places)
  ascends low r both =
      let by_two = ascends_by_two first second (sections (take (length rest - 1) (drop 1 rest))) low in
      let split : sections rest ≡ second ∷ sections (take (length rest - 1) (drop 1 rest)) = ap sections (first_rest rest no_place more) in
      rw two ((λ yes'. by_two.0 (subst IsAscending split (both.0 yes'))), (λ up. both.1 (subst IsAscending (sym split) (by_two.1 up))))
