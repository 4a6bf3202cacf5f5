-- A bound prunes a node exactly where it is below the limit.
use Rattle.std.proofs.Common.{◌≡◌, ℕ, ◌-◌, ◌<◌, ◌≤◌, true, List, [], ◌∷◌, Option, Some, None, length, take, drop, min, sym, ap, ◌∙◌, subst, arith, inl, inr}
use Rattle.std.specs.Prelude.{ℤ, pos, ◌+ℤ◌, ◌*ℤ◌, ◌<ℤ◌, IfSome, IfNone}
use Rattle.std.proofs.lemmas.Int.{ints}
use Rattle.std.proofs.lemmas.Bool.{cases_Bool}
use Rattle.std.proofs.Math.Seq.{drop-length}
use Rattle.std.proofs.lemmas.List.{length-take}
use Rattle.market_units.specs.Members.{has}
use Rattle.bundle_rules.specs.Sets.{IsAscending}
use Rattle.bundle_rules.specs.Wishes.{utility}
use Rattle.bundle_rules.specs.Menus.{by_place}
use Rattle.bundle_bounds.specs.declared.nodes.Leaf.{Leaf}
use Rattle.bundle_bounds.specs.declared.prospects.Prospect.{Prospect}
use Rattle.bundle_bounds.specs.Offers.{OfferData}
use Rattle.bundle_bounds.specs.Opens.{budget_left, credits_left, courses_left, open_places, opens_from, prospects}
use Rattle.bundle_bounds.specs.Bounds.{base_of, all_bounds, bounds, Prunes, NonePrunes, IsFirstPruning}
use Rattle.bundle_bounds.specs.Limits.{NoneBelow, IsFirstBelow}
use Rattle.bundle_rules.specs.Ahead.{is_ahead}
use Rattle.bundle_rules.proofs.FirstDifference.{ahead_to, ahead_from}
use Rattle.bundle_bounds.specs.Ahead.{limit_of}
use Rattle.bundle_bounds.proofs.Outlook.{open_places-within, rest_whole}

pub rest_of_room : (room : List Prospect) (s : ℕ) → length room ≡ 60 → take (60 - s) (drop s room) ≡ drop s room
rest_of_room room s whole = ap (λ n. take (n - s) (drop s room)) (sym whole) ∙ rest_whole room s

-- nothing is behind the room
pub nothing_behind : (room : List Prospect) → length room ≡ 60 → drop 60 room ≡ []
nothing_behind room whole = ap (λ n. drop n room) (sym whole) ∙ drop-length room

pub few_of_room : (room : List Prospect) (s : ℕ) → length room ≡ 60 → length (take (60 - s) (drop s room)) ≤ 60
few_of_room room s whole =
    let size : length (take (60 - s) (drop s room)) ≡ min (60 - s) (length (drop s room)) = length-take (60 - s) (drop s room) in omega arith

-- what the code collects from its place on is the node's open places with their worth
pub collected : (offer : OfferData) (k : ℕ) (cs slice : List ℕ) (room : List Prospect) (start from places : ℕ) → slice ≡ cs → length room ≡ 60 → from ≡ min k places
    → places ≡ length offer.menu.places
    → drop start room ≡ prospects offer slice (opens_from offer slice from (length offer.menu.places - from))
    → take (60 - start) (drop start room) ≡ prospects offer cs (open_places offer k cs)
collected offer k cs slice room start from places same whole from_is places_is found =
    rest_of_room room start whole ∙ found
    ∙ ap (λ l. prospects offer l (opens_from offer l from (length offer.menu.places - from))) same
    ∙ ap (λ n. prospects offer cs (opens_from offer cs n (length offer.menu.places - n))) (from_is ∙ ap (min k) places_is)
    ∙ ap (prospects offer cs) (sym (open_places-within offer k cs))

-- what the code computes with is the node's menu of bounds
pub same_numbers : (offer : OfferData) (k : ℕ) (cs : List ℕ) (base : ℤ) (budget credits courses : ℕ) (ps : List Prospect) → base ≡ base_of offer cs
    → budget ≡ budget_left offer cs → credits ≡ credits_left offer cs → courses ≡ courses_left offer cs
    → ps ≡ prospects offer cs (open_places offer k cs) → all_bounds base budget credits courses ps ≡ bounds offer k cs
same_numbers offer k cs base budget credits courses ps base_is budget_is credits_is courses_is ps_is =
    λ i. all_bounds (base_is i) (budget_is i) (credits_is i) (courses_is i) (ps_is i)

module _ (offer : OfferData) (k : ℕ) (cs ch : List ℕ) (up : IsAscending ch) (up' : IsAscending cs) (low : (c : ℕ) → has cs c ≡ true → c < k) where
  abbrev pub limit : ℤ
  limit = limit_of (utility (by_place offer.menu) ch) (is_ahead k ch cs)

  pub below_prunes : (b : ℤ) → b <ℤ limit → Prunes offer k cs ch b
  below_prunes b below =
      elim (cases_Bool (is_ahead k ch cs)) [
        | inl ahead ↦ inr (rw ahead at below, ahead_to k ch cs up up' low ahead)
        | inr behind ↦ inl (rw behind at below)
      ]

  pub prunes_below : (b : ℤ) → Prunes offer k cs ch b → b <ℤ limit
  prunes_below b (inl low_) =
      let u : ℤ = utility (by_place offer.menu) ch in
      let low' : b <ℤ (pos 1000 *ℤ u) = low_ in
      elim (cases_Bool (is_ahead k ch cs)) [
        | inl ahead ↦ rw ahead (let goal : b <ℤ (pos 1000 *ℤ (u +ℤ pos 1)) = omega (arith, ints) in goal)
        | inr behind ↦ rw behind low'
      ]
  prunes_below b (inr both) = rw (ahead_from k ch cs up up' low both.1) both.0

  pub first_to : (bs : List (Leaf × ℤ)) (leaf : Leaf) → IsFirstBelow limit bs leaf → IsFirstPruning offer k cs ch bs leaf
  first_to [] leaf first = first
  first_to (b ∷ bs) leaf (inl here) = inl (below_prunes b.1 here.0, here.1)
  first_to (b ∷ bs) leaf (inr later) = inr ((λ prunes. later.0 (prunes_below b.1 prunes)), first_to bs leaf later.1)

  pub none_to : (bs : List (Leaf × ℤ)) → NoneBelow limit bs → NonePrunes offer k cs ch bs
  none_to [] none = tt
  none_to (b ∷ bs) none = ((λ prunes. none.0 (prunes_below b.1 prunes)), none_to bs none.1)

  module _ (base most : ℤ) (budget credits courses : ℕ) (ps : List Prospect) (base_is : base ≡ base_of offer cs) (most_is : most ≡ limit)
      (budget_is : budget ≡ budget_left offer cs) (credits_is : credits ≡ credits_left offer cs)
      (courses_is : courses ≡ courses_left offer cs) (ps_is : ps ≡ prospects offer cs (open_places offer k cs)) where
    same_bounds : all_bounds base budget credits courses ps ≡ bounds offer k cs
    same_bounds = λ i. all_bounds (base_is i) (budget_is i) (credits_is i) (courses_is i) (ps_is i)

    pub some_prunes : (r : Option Leaf) → IfSome r (IsFirstBelow most (all_bounds base budget credits courses ps))
        → IfSome r (IsFirstPruning offer k cs ch (bounds offer k cs))
    some_prunes None h = h
    some_prunes (Some leaf) h =
        first_to (bounds offer k cs) leaf (subst (λ l. IsFirstBelow l (bounds offer k cs) leaf) most_is (subst (λ bs. IsFirstBelow most bs leaf) same_bounds h))

    pub none_prunes : (r : Option Leaf) → IfNone r (NoneBelow most (all_bounds base budget credits courses ps))
        → IfNone r (NonePrunes offer k cs ch (bounds offer k cs))
    none_prunes None h = none_to (bounds offer k cs) (subst (λ l. NoneBelow l (bounds offer k cs)) most_is (subst (NoneBelow most) same_bounds h))
    none_prunes (Some leaf) h = h
