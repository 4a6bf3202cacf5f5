-- The search finds the best bundle.
use Rattle.std.proofs.Common.{◌≡◌, ◌<◌, ◌≤◌, ◌+◌, ◌++◌, ℕ, zero, suc, Bool, true, true≢false, List, [], ◌∷◌, length, map, drop, refl, sym, ◌∙◌, ap, subst, inl, inr, arith, append_assoc, length-append}
use Rattle.std.proofs.lemmas.Bool.{cases_Bool}
use Rattle.std.proofs.lemmas.List.{append-nil}
use Rattle.bundle_rules.specs.declared.menu.Rated.{Rated}
use Rattle.market_units.specs.Members.{has}
use Rattle.bundle_rules.specs.Sets.{IsAscending}
use Rattle.bundle_rules.specs.Menus.{IsMenu, wishes_of, section_at}
use Rattle.bundle_rules.specs.Places.{menu_sections}
use Rattle.bundle_rules.specs.Given.{IsBestOf}
use Rattle.bundle_rules.specs.Extensions.{Extends}
use Rattle.bundle_rules.specs.Existence.Members.{has-here, has-there, has-above, IsAscending-middle}
use Rattle.bundle_rules.specs.Existence.Fronts.{choice_front}
use Rattle.bundle_rules.specs.Existence.Extending.{with_or_without}
use Rattle.bundle_rules.proofs.BestBits.{choice_among}
use Rattle.bundle_bounds.specs.Offers.{OfferData}
use Rattle.bundle_bounds.specs.Laws.{IsTakable, IsNode, Completes}
use Rattle.bundle_bounds.proofs.NodeFacts.{nothing_chosen}
use Rattle.bundle_bounds.proofs.Openings.{node_with, node_without}
use Rattle.demand_oracle.specs.Names.{IsPreferredByName}
use Rattle.demand_oracle.specs.Bests.{IsAmong, AreInOrder}
use Rattle.demand_oracle.specs.Search.{Aim, Kept, bundles_kept, IsListed, IsSearched, IsBestByName, LeadAim, LeadsWanted, LeadWanted}
use Rattle.demand_oracle.specs.Laws.{SearchFindsTheBest, OwnNumbersAreNames}
use Rattle.bundle_rules.specs.Preferences.{IsPreferred}
use Rattle.demand_oracle.proofs.Goodness as plain
use Rattle.demand_oracle.proofs.Naming.{lowest_first}
use Rattle.demand_oracle.proofs.InOrder.{over_the_last}

-- the sections of places
abbrev pub sections : List Rated → List ℕ
sections places = map (λ rated. rated.section.0) places

-- the first undecided section is that of the next place
pub record IsSplit (places : List Rated) (k s : ℕ) (undecided : List ℕ) : Type 0 where
  pub on_menu : k < length places
  pub first : s ≡ section_at places k
  pub later : undecided ≡ drop (k + 1) (sections places)

pub split_off : (places : List Rated) (k s : ℕ) (undecided : List ℕ) → s ∷ undecided ≡ drop k (sections places) → IsSplit places k s undecided
split_off [] zero s undecided is = cc
split_off [] (suc k) s undecided is = cc
split_off (r ∷ rs) zero s undecided is = record { on_menu = omega arith; first = cc; later = cc }
split_off (r ∷ rs) (suc k) s undecided is =
    let rest = split_off rs k s undecided is in
    let low : k < length rs = rest.on_menu in
    let one_more : suc k + 1 ≡ suc (k + 1) = omega arith in record { on_menu = omega arith; first = rest.first; later = rw one_more rest.later }

-- and the other way round
pub next_section : (places : List Rated) (k : ℕ) → k < length places → drop k (sections places) ≡ section_at places k ∷ drop (k + 1) (sections places)
next_section [] k low = absurd (omega arith)
next_section (r ∷ rs) zero low = refl
next_section (r ∷ rs) (suc k) low = let one_more : suc k + 1 ≡ suc (k + 1) = omega arith in rw one_more (next_section rs k (omega arith))

pub none_undecided : (places : List Rated) (k : ℕ) → length places ≤ k → drop k (sections places) ≡ []
none_undecided [] zero past = refl
none_undecided [] (suc k) past = refl
none_undecided (r ∷ rs) zero past = absurd (omega arith)
none_undecided (r ∷ rs) (suc k) past = none_undecided rs k (omega arith)

has-drop : (k : ℕ) (ss : List ℕ) (s : ℕ) → has (drop k ss) s ≡ true → has ss s ≡ true
has-drop zero ss s is = is
has-drop (suc k) [] s is = is
has-drop (suc k) (x ∷ ss) s is = has-there x ss s (has-drop k ss s is)

-- the section of a decided place is not undecided
decided_section : (places : List Rated) (k p : ℕ) → IsAscending (sections places) → p < k → p < length places
    → has (drop k (sections places)) (section_at places p) ≡ true → ⊥
decided_section [] k p up low on is = omega arith
decided_section (r ∷ rs) zero p up low on is = omega arith
decided_section (r ∷ rs) (suc k) zero up low on is =
    let above : r.section.0 < r.section.0 = has-above r.section.0 (sections rs) r.section.0 up.0 (has-drop k (sections rs) r.section.0 is) in omega arith
decided_section (r ∷ rs) (suc k) (suc p) up low on is = decided_section rs k p up.1 (omega arith) (omega arith) is

-- a list and no more members of another
has-append_none : (xs ys : List ℕ) (s : ℕ) → (has ys s ≡ true → ⊥) → has (xs ++ ys) s ≡ has xs s
has-append_none [] ys s none = elim (cases_Bool (has ys s)) [ inl is ↦ absurd (none is) | inr not_in ↦ not_in ]
has-append_none (x ∷ xs) ys s none = rw (has-append_none xs ys s none) refl

module _ (offer : OfferData) (menu : IsMenu offer.menu) where
  -- what extends the chosen sections by undecided ones completes them
  extends_completes : (k : ℕ) (chosen bundle : List ℕ) → Extends chosen (drop k (menu_sections offer.menu)) bundle → Completes offer k chosen bundle
  extends_completes k chosen bundle extends place low on =
      ap (λ b. has b (section_at offer.menu.places place)) extends.whole
      ∙ has-append_none chosen extends.more (section_at offer.menu.places place)
      (λ is. decided_section offer.menu.places k place menu.places.ascending low on (extends.among _ is))

  -- what a search leaves: it lists what was listed before, and all below the node that are wanted
  pub record IsFound (aim : Aim) (chosen undecided : List ℕ) (kept result : Kept) : Type 0 where
    pub takable : (bundle : List ℕ) → IsAmong bundle (bundles_kept result) → IsTakable offer bundle
    pub before : (bundle : List ℕ) → IsListed aim.name offer kept bundle → IsListed aim.name offer result bundle
    pub over_all : (bundle : List ℕ) → IsTakable offer bundle → aim.wanted bundle ≡ true → Extends chosen undecided bundle
        → IsListed aim.name offer result bundle

  -- what extends the chosen sections by nothing is the chosen sections
  no_more : (front other : List ℕ) (e : Extends front [] other) (more : List ℕ) → e.more ≡ more → other ≡ front
  no_more front other e [] is = e.whole ∙ ap (λ xs. front ++ xs) is ∙ append-nil front
  no_more front other e (x ∷ xs) is = absurd (true≢false (sym (e.among x (subst (λ ys. has ys x ≡ true) (sym is) (has-here x xs)))))

  abbrev pub AreTakable : Kept → Type 0
  AreTakable kept = (bundle : List ℕ) → IsAmong bundle (bundles_kept kept) → IsTakable offer bundle

  module _ (aim : Aim) where
    finds : (k : ℕ) (chosen undecided : List ℕ) (kept result : Kept) → IsNode offer k chosen → undecided ≡ drop k (menu_sections offer.menu)
        → IsAscending (chosen ++ undecided) → AreTakable kept
        → IsSearched offer aim k chosen undecided kept result → IsFound aim chosen undecided kept result
    finds k chosen [] kept result node is up takable put = record {
      takable = λ bundle among. elim (put.from bundle among) [
        | inl old ↦ takable bundle old
        | inr new ↦ subst (IsTakable offer) (sym new.0) node.takable
      ];
      before = put.before;
      over_all = λ bundle may is_wanted extends.
          let same : bundle ≡ chosen = no_more chosen bundle extends extends.more refl in
          subst (IsListed aim.name offer result) (sym same) (put.own (subst (λ b. aim.wanted b ≡ true) same is_wanted));
    }
    finds k chosen (s ∷ undecided) kept result node is up takable (inl pruned) =
        subst (IsFound aim chosen (s ∷ undecided) kept) (sym pruned.1) record {
          takable = takable;
          before = λ bundle listed. listed;
          over_all =
              λ bundle may is_wanted extends. pruned.0 bundle may is_wanted
              (extends_completes k chosen bundle (subst (λ later. Extends chosen later bundle) is extends));
        }
    finds k chosen (s ∷ undecided) kept result node is up takable (inr (inl both)) =
        let split = split_off offer.menu.places k s undecided is in
        let at : chosen ++ s ∷ [] ≡ chosen ++ section_at offer.menu.places k ∷ [] = ap (λ x. chosen ++ x ∷ []) split.first in
        let node' : IsNode offer (k + 1) (chosen ++ s ∷ []) =
        subst (IsNode offer (k + 1)) (sym at) (node_with offer k chosen menu split.on_menu node (subst (IsTakable offer) at both.1)) in
        let up' : IsAscending ((chosen ++ s ∷ []) ++ undecided) = rw append_assoc up in
        let first = finds (k + 1) (chosen ++ s ∷ []) undecided kept both.0 node' split.later up' takable both.2 in
        let second =
        finds (k + 1) chosen undecided both.0 result (node_without offer k chosen node) split.later (IsAscending-middle chosen s undecided up) first.takable
        both.3 in
        record {
          takable = second.takable;
          before = λ bundle listed. second.before bundle (first.before bundle listed);
          over_all = λ bundle may is_wanted extends. elim (with_or_without chosen s undecided bundle up may.feasible.set extends) [
            | inl with_it ↦ second.before bundle (first.over_all bundle may is_wanted with_it)
            | inr without ↦ second.over_all bundle may is_wanted without
          ];
        }
    finds k chosen (s ∷ undecided) kept result node is up takable (inr (inr shut)) =
        let split = split_off offer.menu.places k s undecided is in
        let rest =
        finds (k + 1) chosen undecided kept result (node_without offer k chosen node) split.later (IsAscending-middle chosen s undecided up) takable
        shut.1 in
        record {
          takable = rest.takable;
          before = rest.before;
          over_all = λ bundle may is_wanted extends. elim (with_or_without chosen s undecided bundle up may.feasible.set extends) [
            | inl with_it ↦
                absurd
                (shut.0
                (choice_front (wishes_of offer.menu) offer.price offer.budget offer.allowed (chosen ++ s ∷ []) with_it.more
                (subst (IsTakable offer) with_it.whole may)))
            | inr without ↦ rest.over_all bundle may is_wanted without
          ];
        }

  abbrev pub AreWanted : Aim → Kept → Type 0
  AreWanted aim kept = (bundle : List ℕ) → IsAmong bundle (bundles_kept kept) → aim.wanted bundle ≡ true

  -- a search that begins with wanted bundles leaves wanted ones
  stays_wanted : (aim : Aim) (k : ℕ) (chosen undecided : List ℕ) (kept result : Kept) → AreWanted aim kept
      → IsSearched offer aim k chosen undecided kept result → AreWanted aim result
  stays_wanted aim k chosen [] kept result are put = λ bundle among. elim (put.from bundle among) [
    | inl old ↦ are bundle old
    | inr new ↦ subst (λ b. aim.wanted b ≡ true) (sym new.0) new.1
  ]
  stays_wanted aim k chosen (s ∷ undecided) kept result are (inl pruned) = subst (AreWanted aim) (sym pruned.1) are
  stays_wanted aim k chosen (s ∷ undecided) kept result are (inr (inl both)) =
      stays_wanted aim (k + 1) chosen undecided both.0 result (stays_wanted aim (k + 1) (chosen ++ s ∷ []) undecided kept both.0 are both.2) both.3
  stays_wanted aim k chosen (s ∷ undecided) kept result are (inr (inr shut)) = stays_wanted aim (k + 1) chosen undecided kept result are shut.1

  -- a search of all places leaves what leads all that is wanted
  pub lead_aim : (aim : Aim) (kept result : Kept) → AreTakable kept
      → AreInOrder (IsPreferredByName aim.name (wishes_of offer.menu)) (bundles_kept result)
      → IsSearched offer aim 0 [] (menu_sections offer.menu) kept result → LeadAim offer aim (bundles_kept result)
  lead_aim aim kept result takable in_order searched =
      let found = finds aim 0 [] (menu_sections offer.menu) kept result (nothing_chosen offer 0) refl menu.places.ascending takable searched in
      record {
        some = let more = length-append result.leading (result.champion ∷ []) in omega (arith, more);
        takable = found.takable;
        in_order = in_order;
        over = λ other is is_wanted. elim (found.over_all other is is_wanted
            record { more = other; whole = refl; among = choice_among offer.menu offer.price offer.budget offer.allowed other is }) [
              | inl among ↦ inl among
              | inr behind ↦ inr (over_the_last aim.name (wishes_of offer.menu) result.leading result.champion other in_order behind.1)
            ];
      }

  -- and wanted ones, where it began with such
  pub wanted_at_end : (aim : Aim) (kept result : Kept) → AreWanted aim kept
      → IsSearched offer aim 0 [] (menu_sections offer.menu) kept result → AreWanted aim result
  wanted_at_end aim kept result = stays_wanted aim 0 [] (menu_sections offer.menu) kept result

-- the first of those that lead all that is wanted is the best, if it is wanted
first_best : (offer : OfferData) (aim : Aim) (best : List ℕ) (others : List (List ℕ)) → LeadAim offer aim (best ∷ others) → aim.wanted best ≡ true
    → IsBestByName offer aim best
first_best offer aim best others lead fits = record {
  takable = lead.takable best (inl refl);
  is_wanted = fits;
  preferred = λ other is is_wanted apart. elim (lead.over other is is_wanted) [
    | inl (inl same) ↦ absurd (apart same)
    | inl (inr behind) ↦ lead.in_order.0 other behind
    | inr all ↦ all best (inl refl)
  ];
}

-- of the best of what is wanted the first leads all of it
pub first_leads : (offer : OfferData) (wanted : List ℕ → Bool) (best : List ℕ) (others : List (List ℕ)) → LeadWanted offer wanted (best ∷ others)
    → LeadsWanted offer wanted best
first_leads offer wanted best others lead = record {
  takable = lead.takable best (inl refl);
  over = λ other is is_wanted. elim (lead.over other is is_wanted) [
    | inl (inl same) ↦ inl same
    | inl (inr behind) ↦ inr (lead.in_order.0 other behind)
    | inr all ↦ inr (all best (inl refl))
  ];
}

-- what leads all that is wanted, and is wanted, is the best of it
pub best_of_wanted : (offer : OfferData) (wanted : List ℕ → Bool) (bundle : List ℕ) → LeadsWanted offer wanted bundle → wanted bundle ≡ true
    → IsBestOf (wishes_of offer.menu) offer.price offer.budget offer.allowed wanted bundle
best_of_wanted offer wanted bundle leads fits = record {
  choice = leads.takable;
  is_wanted = fits;
  preferred = λ other is is_wanted apart. plain.over_other offer bundle other apart (leads.over other is is_wanted);
}

pub search_finds_the_best : SearchFindsTheBest
search_finds_the_best offer aim kept result menu are in_order searched =
    let lead = lead_aim offer menu aim kept result (λ bundle among. (are bundle among).0) in_order searched in
    let fits = wanted_at_end offer menu aim kept result (λ bundle among. (are bundle among).1) searched in (
      lead,
      λ best others is. first_best offer aim best others (subst (λ bs. LeadAim offer aim bs) is lead)
          (fits best (subst (λ bs. IsAmong best bs) (sym is) (inl refl))),
    )

by_number : (offer : OfferData) (a b : List ℕ) → IsTakable offer a → IsTakable offer b → IsPreferredByName (λ s. s) (wishes_of offer.menu) a b
    → IsPreferred (wishes_of offer.menu) a b
by_number offer a b may may' (inl more) = inl more
by_number offer a b may may' (inr tie) = inr (tie.0, lowest_first a b may.feasible.set may'.feasible.set tie.1)

-- where each section is called by its own number, it is the best as ever
pub own_numbers_are_names : OwnNumbersAreNames
own_numbers_are_names offer wanted bundle best = record {
  choice = best.takable;
  is_wanted = best.is_wanted;
  preferred = λ other is is_wanted apart. by_number offer bundle other best.takable is (best.preferred other is is_wanted apart);
}
