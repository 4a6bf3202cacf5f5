-- What is told of a section is one thing, and its tree proves it.
use Rattle.std.proofs.Common.{ℕ, ◌≡◌, ◌<◌, true≢false, List, [], refl, ap, sym, subst, ◌∙◌, length, arith, inl, inr}
use Rattle.std.specs.Prelude.{Option, Some, None, IfSome, is_some, ◌≤ℤ◌}
use Rattle.std.proofs.lemmas.Int.{ints}
use Rattle.bundle_rules.specs.Wishes.{Wishes, utility}
use Rattle.bundle_rules.specs.Preferences.{IsPreferred}
use Rattle.bundle_rules.specs.Existence.Orders.{compared, not_preferred_itself}
use Rattle.bundle_rules.specs.Demand.{IsChoice}
use Rattle.bundle_rules.specs.Given.{IsBestWith}
use Rattle.bundle_rules.specs.Menus.{place_in, section_at, wishes_of}
use Rattle.market_units.specs.Members.{has}
use Rattle.bundle_rules.specs.Existence.Places.{section_at-place_in}
use Rattle.bundle_rules.proofs.GivenBest.{best_with_a_section}
use Rattle.bundle_bounds.specs.Offers.{OfferData, places_of}
use Rattle.bundle_bounds.proofs.ByPlace.{on_menu}
use Rattle.proof_tree.specs.Laws.{HasTree}
use Rattle.proof_tree.specs.Texts.{IsTreeText, spelled}
use Rattle.proof_tree.proofs.Complete.{trees_prove_the_best_with}
use Rattle.proof_tree.proofs.Uniqueness.{one_tree}
use Rattle.market_certificate.specs.Publications.{Proved}
use Rattle.explain_desk.specs.Explanations.{IsProvedWith}
use Rattle.explain_desk.specs.Reasons.{tells_best}
use Rattle.explain_desk.specs.Laws.{ForcedTreesProveTheBest, NothingIsGained, OneExplanation}
use Rattle.explain_desk.proofs.OneReasons.{one_reason}

-- a champion has one text of a tree
one_text : (offer : OfferData) (required : Option ℕ) (champion one other : List ℕ) → IsTreeText offer required champion one
    → IsTreeText offer required champion other → one ≡ other
one_text offer required champion one other (tree, is, written) (alike, so, spelt) =
    written ∙ ap spelled ((one_tree offer required (places_of offer.menu champion) 0 []).tree tree alike is so) ∙ sym spelt

-- there is one best bundle with the section, with one tree
pub one_proved : (offer : OfferData) (section : ℕ) (a b : Proved) → IsProvedWith offer section a → IsProvedWith offer section b → a ≡ b
one_proved offer section a b one other =
    let bundle : a.bundle ≡ b.bundle =
    (best_with_a_section offer.menu offer.price offer.budget offer.allowed section).only a.bundle b.bundle one.best other.best in
    let required = Some (place_in offer.menu.places section) in
    let tree : a.tree ≡ b.tree =
    one_text offer required b.bundle a.tree b.tree (subst (λ (champion : List ℕ). IsTreeText offer required champion a.tree) bundle one.tree) other.tree in
    λ i. record { bundle = bundle i; tree = tree i }

one_best : (offer : OfferData) (section : ℕ) (a b : Option Proved) → IfSome a (IsProvedWith offer section) → IfSome b (IsProvedWith offer section)
    → is_some a ≡ is_some b → a ≡ b
one_best offer section (Some a) (Some b) one other both = ap (λ p. Some p) (one_proved offer section a b one other)
one_best offer section (Some a) None one other both = absurd (true≢false both)
one_best offer section None (Some b) one other both = absurd (true≢false (sym both))
one_best offer section None None one other both = refl

pub one_explanation : OneExplanation
one_explanation offer bundle section a b menu one other =
    let reason : a.reason ≡ b.reason =
    one_reason (wishes_of offer.menu) offer.price offer.budget bundle section a.reason b.reason one.is_reason other.is_reason in
    let best : a.best ≡ b.best = one_best offer section a.best b.best one.is_best other.is_best (one.told ∙ ap (λ r. tells_best r) reason ∙ sym other.told) in
    λ i. record { reason = reason i; best = best i }

pub forced_trees_prove_the_best : ForcedTreesProveTheBest
forced_trees_prove_the_best offer champion section menu takable member =
    let places = offer.menu.places in
    let low : place_in places section < length places = on_menu offer champion takable section member in
    let back : section_at places (place_in places section) ≡ section = section_at-place_in places section low in
    let prove = trees_prove_the_best_with offer (place_in places section) champion menu low takable (ap (has champion) back ∙ member) in (
      (λ written. subst (λ s. IsBestWith (wishes_of offer.menu) offer.price offer.budget offer.allowed s champion) back (prove.0 (written.1.0, written.1.1))),
      (λ best.
          let tree : HasTree offer (Some (place_in places section)) champion =
          prove.1 (subst (λ s. IsBestWith (wishes_of offer.menu) offer.price offer.budget offer.allowed s champion) (sym back) best) in
          (spelled tree.0, (tree.0, tree.1, refl))),
    )

-- what is preferred has no less utility
preferred_high : (w : Wishes) (a b : List ℕ) → IsPreferred w a b → utility w b ≤ℤ utility w a
preferred_high w a b (inl more) = omega (arith, ints, more)
preferred_high w a b (inr same) = let e : utility w a ≡ utility w b = same.0 in omega (arith, ints, e)

pub nothing_is_gained : NothingIsGained
nothing_is_gained offer bundle section proved best is =
    let w = wishes_of offer.menu in
    let other : IsChoice w offer.price offer.budget offer.allowed proved.bundle = is.best.choice in
    elim (compared w bundle proved.bundle best.choice.feasible.set other.feasible.set) [
      | inl same ↦ let e : utility w bundle ≡ utility w proved.bundle = ap (utility w) same in omega (arith, ints, e)
      | inr (inl over) ↦ preferred_high w bundle proved.bundle over
      | inr (inr under) ↦
          preferred_high w bundle proved.bundle
          (best.preferred proved.bundle other (λ e. not_preferred_itself w bundle (subst (λ a. IsPreferred w a bundle) e under)))
    ]
