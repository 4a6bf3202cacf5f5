-- The places that have a positive adjustment with an earlier one.
use Rattle.std.proofs.Common.{◌≡◌, ◌<◌, ◌≤◌, ◌-◌, ◌*◌, ◌%◌, ◌^◌, ◌==◌, ◌&&◌, ◌||◌, ℕ, ℤ, List, ◌∷◌, length, get_or, take, drop, refl, sym, ◌∙◌, subst, arith, inl, inr, w64}
use Rattle.std.specs.Prelude.{pos, negsuc, ◌≤ℤ◌, bit_or, All}
use Rattle.std.specs.Int.{bit_at}
use Rattle.std.proofs.lemmas.Int.{ints}
use Rattle.std.proofs.lemmas.Bool.{cases_Bool, cases_eq}
use Rattle.std.proofs.lemmas.Bool.Decides.{nat_tests}
use Rattle.std.proofs.lemmas.Nat.Bits.{bit_at_set_same, bit_at_set_other}
use Rattle.plain_facts.proofs.Lists.{first_rest}
use Rattle.bundle_rules.specs.Menus.{IsPair}
use Rattle.bundle_bounds.specs.Opens.{above_zero}
use Rattle.demand_oracle.specs.Reaches.{HasRaised}

not_positive : (z : ℤ) → z ≤ℤ pos 0 → above_zero z ≡ 0
not_positive (pos n) low = omega (arith, ints)
not_positive (negsuc n) low = refl

-- an adjustment that is not positive adds nothing
without_pair : (pair : ℕ × ℕ × ℤ) (rest : List (ℕ × ℕ × ℤ)) (word : ℕ) → pair.2 ≤ℤ pos 0 → HasRaised rest word → HasRaised (pair ∷ rest) word
without_pair pair rest word low has earlier place before clear =
    elim (cases_Bool ((pair.0 == earlier && pair.1 == place) || (pair.0 == place && pair.1 == earlier))) [
      | inl named ↦ rw named (not_positive pair.2 low)
      | inr other ↦ rw other (has earlier place before clear)
    ]

-- one more adjustment, whose later place is put into the word
with_pair : (pair : ℕ × ℕ × ℤ) (rest : List (ℕ × ℕ × ℤ)) (word : ℕ) → pair.0 < pair.1 → pair.1 < 64 → HasRaised rest word
    → HasRaised (pair ∷ rest) (bit_or word (1 * 2 ^ pair.1 % 2 ^ 64))
with_pair pair rest word ordered low has earlier place before clear =
    elim (cases_eq place pair.1) [
      | inl same ↦
          let set : bit_at (bit_or word (1 * 2 ^ pair.1 % 2 ^ 64)) place ≡ 1 =
          subst (λ q. bit_at (bit_or word (1 * 2 ^ pair.1 % 2 ^ 64)) q ≡ 1) (sym same) (bit_at_set_same w64 word pair.1 low) in
          absurd (omega arith)
      | inr apart ↦ elim (cases_Bool ((pair.0 == earlier && pair.1 == place) || (pair.0 == place && pair.1 == earlier))) [
        | inl named ↦ absurd (grind (arith, nat_tests, named, apart, ordered, before))
        | inr other ↦ rw other (has earlier place before (sym (bit_at_set_other w64 word pair.1 low place apart) ∙ clear))
      ]
    ]

module _ (pairs : List (ℕ × ℕ × ℤ)) (word : ℕ) (some : 1 ≤ length pairs) (has : HasRaised (take (length pairs - 1) (drop 1 pairs)) word) where
  abbrev first : ℕ × ℕ × ℤ
  first = get_or pairs 0 (0, 0, pos 0)

  pub raised_without : first.2 ≤ℤ pos 0 → HasRaised pairs word
  raised_without low =
      subst (λ l. HasRaised l word) (sym (first_rest pairs (0, 0, pos 0) some)) (without_pair first (take (length pairs - 1) (drop 1 pairs)) word low has)

  pub raised_with : All (IsPair 60) pairs → HasRaised pairs (bit_or word (1 * 2 ^ first.1 % 2 ^ 64))
  raised_with each =
      let is : IsPair 60 first = each 0 (0, 0, pos 0) some in
      let ordered : first.0 < first.1 = is.ordered in
      let on_menu : first.1 < 60 = is.on_menu in
      subst (λ l. HasRaised l (bit_or word (1 * 2 ^ first.1 % 2 ^ 64))) (sym (first_rest pairs (0, 0, pos 0) some))
      (with_pair first (take (length pairs - 1) (drop 1 pairs)) word ordered (omega arith) has)
