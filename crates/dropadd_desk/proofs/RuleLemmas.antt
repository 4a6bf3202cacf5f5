-- What is kept of a market, as it is looked up.
use Rattle.std.proofs.Common.{ℕ, zero, suc, ◌≡◌, ◌<◌, ◌≤◌, ◌+◌, ◌++◌, ◌∙◌, Bool, true, List, [], ◌∷◌, length, take, get_or, arith, refl, sym, ap, subst, Some, None, inl, inr, All}
use Rattle.std.specs.List.{find}
use Rattle.std.proofs.lemmas.Bool.{cases_Bool}
use Rattle.std.proofs.lemmas.List.{length-map, map_more, take_all}
use Rattle.market_units.proofs.Sums.{total-append}
use Rattle.market_units.specs.declared.units.SectionNo.{SectionNo}
use Rattle.course_catalog.specs.Sections.{no_section}
use Rattle.market_units.specs.Members.{has}
use Rattle.bundle_rules.specs.Ordinals.{ordinals}
use Rattle.bundle_rules.specs.Existence.Members.{has-here, has-there}
use Rattle.dropadd_desk.specs.Fits.{credits_of, lowest_clash}
use Rattle.dropadd_desk.specs.Market.{IsMarket, Market, offered, section_count}

-- the first of a list that passes
pub found_first : (p : ℕ → Bool) (xs : List SectionNo) (i : ℕ) (d : SectionNo) → i < length xs → find p (ordinals (take i xs)) ≡ None
    → p (get_or xs i d).0 ≡ true → Some (get_or xs i d).0 ≡ find p (ordinals xs)
found_first p [] i d low none passes = absurd (omega arith)
found_first p (x ∷ xs) zero d low none passes = rw passes refl
found_first p (x ∷ xs) (suc i) d low none passes = elim (cases_Bool (p x.0)) [
  | inl is ↦ let some : Some x.0 ≡ None = rw is at none in cc
  | inr other ↦ let rest : find p (ordinals (take i xs)) ≡ None = rw other at none in rw other (found_first p xs i d (omega arith) rest passes)
]

-- the credits of a section are few
pub few_credits : (market : Market) (s credit : ℕ) → IsMarket market → s < section_count market → credit ≡ (offered market s).credits → credit ≤ 100
few_credits market s credit is low same = subst (λ n. n ≤ 100) (sym same) (is.catalog.each s no_section low).is_section.few_credits

pub credits_more : (market : Market) (xs : List SectionNo) (i : ℕ) (d : SectionNo) (credit : ℕ) → i < length xs
    → credit ≡ (offered market (get_or xs i d).0).credits
    → credits_of market (ordinals (take i xs)) + credit ≡ credits_of market (ordinals (take (i + 1) xs))
credits_more market xs i d credit low is =
    let all = total-append (λ s. (offered market s).credits) (ordinals (take i xs)) ((get_or xs i d).0 ∷ []) in
    let whole : credits_of market (ordinals (take (i + 1) xs)) ≡ credits_of market (ordinals (take i xs) ++ (get_or xs i d).0 ∷ []) =
    ap (credits_of market) (map_more (λ (section : SectionNo). section.0) xs i d low) in
    omega (arith, all, whole, is)

-- what is known of what a student holds once each of its sections was looked at
pub record AreLooked (market : Market) (s : ℕ) (held : List ℕ) (credits count : ℕ) : Type 0 where
  pub none : lowest_clash market s held ≡ None
  pub sum : credits ≡ credits_of market held + (offered market s).credits
  pub size : count ≡ length held

pub all_looked : (market : Market) (s : ℕ) (held : List ℕ) (items : List SectionNo) (n credits : ℕ) → ordinals items ≡ held → length items ≤ n
    → lowest_clash market s (ordinals (take n items)) ≡ None → credits ≡ credits_of market (ordinals (take n items)) + (offered market s).credits
    → AreLooked market s held credits (length items)
all_looked market s held items n credits listed past none sum =
    let all : ordinals (take n items) ≡ held = ap ordinals (take_all n items past) ∙ listed in
    record {
      none = subst (λ set. lowest_clash market s set ≡ None) all none;
      sum = subst (λ set. credits ≡ credits_of market set + (offered market s).credits) all sum;
      size = sym (length-map items (λ (section : SectionNo). section.0)) ∙ ap length listed;
    }

-- of sections that are all in a set
pub all_below : (n : ℕ) (xs : List SectionNo) (set : List ℕ) → ordinals xs ≡ set → ((t : ℕ) → has set t ≡ true → t < n) → All (λ section. section.0 < n) xs
all_below n xs set listed within = λ k d low. within (get_or xs k d).0 (subst (λ l. has l (get_or xs k d).0 ≡ true) listed (at xs k d low))
  where
    at : (ys : List SectionNo) (k : ℕ) (d : SectionNo) → k < length ys → has (ordinals ys) (get_or ys k d).0 ≡ true
    at [] k d low = absurd (omega arith)
    at (y ∷ ys) zero d low = has-here y.0 (ordinals ys)
    at (y ∷ ys) (suc k) d low = has-there y.0 (ordinals ys) (get_or ys k d).0 (at ys k d (omega arith))
