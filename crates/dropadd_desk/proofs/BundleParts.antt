-- The parts of a bundle around a section.
use Rattle.std.proofs.Common.{ℕ, suc, ◌≡◌, ◌<◌, ◌≤◌, ◌+◌, ◌++◌, ◌∙◌, Bool, true, false, List, [], ◌∷◌, length, take, drop, arith, sym, ap, subst, map, None, Some, cond, get_or}
use Rattle.std.specs.Prelude.{nat_lt, nat_le, not}
use Rattle.std.proofs.lemmas.Bool.{ltb-false}
use Rattle.std.specs.List.{All, filter, position, position_or_len}
use Rattle.std.proofs.lemmas.List.Elements.{All-map}
use Rattle.std.proofs.lemmas.List.{append_assoc, length-append, get_or-map, length-map, map-append, map_more, take-append-drop}
use Rattle.plain_facts.proofs.Outcomes.{cond_some, cond_none}
use Rattle.market_units.specs.declared.units.SectionNo.{SectionNo}
use Rattle.bundle_rules.specs.declared.bundle.Bundle.{Bundle}
use Rattle.bundle_rules.specs.Bundles.{sections_of}
use Rattle.market_units.specs.Members.{has}
use Rattle.bundle_rules.specs.Sets.{IsAscending, without_section}
use Rattle.bundle_rules.specs.Ordinals.{ordinals, IsBundle}
use Rattle.bundle_rules.specs.Existence.Members.{IsAscending-front}
use Rattle.dropadd_desk.specs.Sets.{place_in, with_section}
use Rattle.dropadd_desk.proofs.SetChanges.{place_within, lower_part, higher_part, other_parts, with_ascends, without_ascends, length-with, length-without}

-- the sections of each bundle ascend
sections_ascend : (bundle : Bundle) → IsAscending (sections_of bundle)
unfolding sections_of
sections_ascend bundle = bundle.ascending

pub bundles_ascend : (bundles : List Bundle) → All IsAscending (map sections_of bundles)
bundles_ascend bundles = All-map IsAscending sections_of bundles (λ k d low. sections_ascend (get_or bundles k d))

-- a front of a bundle is a bundle
bundle_front : (xs ys : List ℕ) → IsBundle (xs ++ ys) → IsBundle xs
bundle_front xs ys is = record {
  few =
      (let n : ℕ = length xs in let both : length (xs ++ ys) ≡ n + length ys = length-append xs ys in let most : length (xs ++ ys) ≤ 8 = is.few in let goal : n
      ≤ 8 = omega arith in goal);
  ascending = IsAscending-front xs ys is.ascending;
}

-- the lower ones, the section, and the higher ones
pub record IsWidened (s : ℕ) (xs : List SectionNo) : Type 0 where
  pub lower : IsBundle (ordinals (take (place_in s xs) xs))
  pub room : length (ordinals (take (place_in s xs) xs)) < 8
  pub above : IsAscending (ordinals (take (place_in s xs) xs) ++ s ∷ [])
  pub whole : (ordinals (take (place_in s xs) xs) ++ s ∷ []) ++ ordinals (drop (place_in s xs) xs) ≡ with_section s (ordinals xs)
  pub bundle : IsBundle ((ordinals (take (place_in s xs) xs) ++ s ∷ []) ++ ordinals (drop (place_in s xs) xs))

pub widened : (s : ℕ) (xs : List SectionNo) → IsBundle (ordinals xs) → length (ordinals xs) < 8 → has (ordinals xs) s ≡ false → IsWidened s xs
widened s xs is few lacks =
    let low = ordinals (take (place_in s xs) xs) in
    let high = ordinals (drop (place_in s xs) xs) in
    let whole : (low ++ s ∷ []) ++ high ≡ with_section s (ordinals xs) =
    append_assoc low (s ∷ []) high ∙ ap (λ l. l ++ s ∷ high) (lower_part s xs is.ascending)
    ∙ ap (λ l. filter (λ t. nat_lt t s) (ordinals xs) ++ s ∷ l) (higher_part s xs is.ascending lacks) in
    let bundle : IsBundle ((low ++ s ∷ []) ++ high) =
    subst IsBundle (sym whole)
    (record {
      few =
          (let most = length-with s (ordinals xs) in let n : ℕ = length (ordinals xs) in let m : ℕ = length (with_section s (ordinals xs)) in let h : m
          ≤ n + 1 = most in let goal : m ≤ 8 = omega arith in goal);
      ascending = with_ascends s (ordinals xs) is.ascending;
    }) in
    let front : IsBundle (low ++ s ∷ []) = bundle_front (low ++ s ∷ []) high bundle in
    record {
      lower = bundle_front low (s ∷ []) front;
      room =
          (let n : ℕ = length low in let both : length (low ++ s ∷ []) ≡ n + 1 = length-append low (s ∷ []) in let most : length (low ++ s ∷ [])
          ≤ 8 = front.few in let goal : n < 8 = omega arith in goal);
      above = front.ascending;
      whole = whole;
      bundle = bundle;
    }

-- the lower ones and the higher ones
pub record IsNarrowed (s : ℕ) (xs : List SectionNo) : Type 0 where
  pub lower : IsBundle (ordinals (take (place_in s xs) xs))
  pub whole : ordinals (take (place_in s xs) xs) ++ ordinals (drop (place_in s xs + 1) xs) ≡ without_section s (ordinals xs)
  pub bundle : IsBundle (ordinals (take (place_in s xs) xs) ++ ordinals (drop (place_in s xs + 1) xs))

pub narrowed : (s : ℕ) (xs : List SectionNo) → IsBundle (ordinals xs) → has (ordinals xs) s ≡ true → IsNarrowed s xs
narrowed s xs is there =
    let whole = other_parts s xs is.ascending there in
    let bundle =
    subst IsBundle (sym whole)
    (record {
      few =
          (let most = length-without s (ordinals xs) in let n : ℕ = length (ordinals xs) in let m : ℕ = length (without_section s (ordinals xs)) in let
          h : m
          ≤ n = most in let few : n ≤ 8 = is.few in let goal : m ≤ 8 = omega arith in goal);
      ascending = without_ascends s (ordinals xs) is.ascending;
    }) in
    record {
      lower = bundle_front (ordinals (take (place_in s xs) xs)) (ordinals (drop (place_in s xs + 1) xs)) bundle;
      whole = whole;
      bundle = bundle;
    }

pub found_place : (p : SectionNo → Bool) (xs : List SectionNo) (i : ℕ) → position p xs ≡ Some i → i ≡ position_or_len p xs
found_place p xs i e = cond_some (nat_lt (position_or_len p xs) (length xs)) (position_or_len p xs) i e

-- how far a front can be cut off
pub place_most : (s : ℕ) (xs : List SectionNo) → place_in s xs ≤ length xs
place_most s [] = omega arith
place_most s (x ∷ xs) = most (nat_le s x.0) (place_in s xs) (length xs) (place_most s xs)
  where
    most : (b : Bool) (n k : ℕ) → n ≤ k → cond (not b) (1 + n) 0 ≤ suc k
    most true n k h = omega arith
    most false n k h = omega arith

pub no_place : (s : ℕ) (xs : List SectionNo) → position (λ (other : SectionNo). nat_le s other.0) xs ≡ None → length xs ≡ place_in s xs
no_place s xs e =
    let past = ltb-false (place_in s xs) (length xs) (cond_none (nat_lt (place_in s xs) (length xs)) (place_in s xs) e) in
    let most = place_most s xs in
    omega (arith, past, most)

-- one section more of those that are put behind a bundle
pub one_more : (front : List ℕ) (xs : List SectionNo) (i : ℕ) (d : SectionNo) → i < length xs
    → (front ++ ordinals (take i xs)) ++ (get_or xs i d).0 ∷ [] ≡ front ++ ordinals (take (i + 1) xs)
one_more front xs i d low =
    append_assoc front (ordinals (take i xs)) ((get_or xs i d).0 ∷ []) ∙ ap (λ l. front ++ l) (sym (map_more (λ (section : SectionNo). section.0) xs i d low))

pub next_in_bundle : (front : List ℕ) (xs : List SectionNo) (i : ℕ) (d : SectionNo) → i < length xs → IsBundle (front ++ ordinals xs)
    → (length (front ++ ordinals (take i xs)) < 8) × IsAscending ((front ++ ordinals (take i xs)) ++ (get_or xs i d).0 ∷ [])
next_in_bundle front xs i d low whole =
    let split : ordinals xs ≡ ordinals (take (i + 1) xs) ++ ordinals (drop (i + 1) xs) =
    ap ordinals (sym (take-append-drop (i + 1) xs)) ∙ map-append (λ (section : SectionNo). section.0) (take (i + 1) xs) (drop (i + 1) xs) in
    let parts : IsBundle ((front ++ ordinals (take (i + 1) xs)) ++ ordinals (drop (i + 1) xs)) =
    subst IsBundle (ap (λ l. front ++ l) split ∙ sym (append_assoc front (ordinals (take (i + 1) xs)) (ordinals (drop (i + 1) xs)))) whole in
    let here : IsBundle (front ++ ordinals (take (i + 1) xs)) = bundle_front (front ++ ordinals (take (i + 1) xs)) (ordinals (drop (i + 1) xs)) parts in
    let next : IsBundle ((front ++ ordinals (take i xs)) ++ (get_or xs i d).0 ∷ []) = subst IsBundle (sym (one_more front xs i d low)) here in
    let n : ℕ = length (front ++ ordinals (take i xs)) in
    let both : length ((front ++ ordinals (take i xs)) ++ (get_or xs i d).0 ∷ []) ≡ n + 1 =
    length-append (front ++ ordinals (take i xs)) ((get_or xs i d).0 ∷ []) in
    let most : length ((front ++ ordinals (take i xs)) ++ (get_or xs i d).0 ∷ []) ≤ 8 = next.few in
    ((let goal : n < 8 = omega arith in goal), next.ascending)

-- the same of a bundle of which these are the sections
pub widened_at : (s : ℕ) (xs : List SectionNo) (set : List ℕ) → ordinals xs ≡ set → IsBundle set → length set < 8 → has set s ≡ false → IsWidened s xs
widened_at s xs set listed is few lacks =
    widened s xs (subst IsBundle (sym listed) is) (subst (λ l. length l < 8) (sym listed) few) (subst (λ l. has l s ≡ false) (sym listed) lacks)

pub narrowed_at : (s : ℕ) (xs : List SectionNo) (set : List ℕ) → ordinals xs ≡ set → IsBundle set → has set s ≡ true → IsNarrowed s xs
narrowed_at s xs set listed is there = narrowed s xs (subst IsBundle (sym listed) is) (subst (λ l. has l s ≡ true) (sym listed) there)

-- the same parts make the same whole
pub same_three : (whole low low' high high' : List ℕ) (s : ℕ) → whole ≡ low ++ s ∷ [] → low ≡ low' → high ≡ high' → whole ++ high ≡ (low' ++ s ∷ []) ++ high'
same_three whole low low' high high' s is e f = ap (λ l. l ++ high) is ∙ ap (λ l. (l ++ s ∷ []) ++ high) e ∙ ap (λ l. (low' ++ s ∷ []) ++ l) f

pub same_two : (low low' high high' : List ℕ) → low ≡ low' → high ≡ high' → low ++ high ≡ low' ++ high'
same_two low low' high high' e f = ap (λ l. l ++ high) e ∙ ap (λ l. low' ++ l) f

pub narrowed_place : (s : ℕ) (xs : List SectionNo) (set : List ℕ) → ordinals xs ≡ set → IsBundle set → has set s ≡ true
    → (place_in s xs + 1 ≤ length xs) × (length xs ≤ 8)
narrowed_place s xs set listed is there =
    let up : IsBundle (ordinals xs) = subst IsBundle (sym listed) is in
    let within = place_within s xs up.ascending (subst (λ l. has l s ≡ true) (sym listed) there) in
    let size : length (ordinals xs) ≡ length xs = length-map xs (λ (section : SectionNo). section.0) in
    let few : length (ordinals xs) ≤ 8 = up.few in (
      (let p : ℕ = place_in s xs in let n : ℕ = length xs in let h : p < n = within in let goal : p + 1 ≤ n = omega arith in goal),
      (let n : ℕ = length xs in let goal : n ≤ 8 = omega arith in goal),
    )

-- the sections of the bundle at a place
pub sections_at : (bundles : List Bundle) (i at : ℕ) (bundle : Bundle) → at ≡ i → i < length (map sections_of bundles) → bundle ≡ get_or bundles at bundle
    → sections_of bundle ≡ get_or (map sections_of bundles) i []
sections_at bundles i at bundle same low is =
    ap sections_of (is ∙ ap (λ n. get_or bundles n bundle) same)
    ∙ sym (get_or-map sections_of bundles i bundle [] (subst (λ n. i < n) (length-map bundles sections_of) low))
