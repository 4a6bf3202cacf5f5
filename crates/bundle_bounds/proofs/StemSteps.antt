-- A stem at its node, and at the one that follows.
use Rattle.std.proofs.Common.{◌≡◌, ℕ, zero, suc, ◌+◌, ◌-◌, ◌*◌, ◌≤◌, ◌<◌, Bool, true, false, List, [], ◌∷◌, length, take, drop, get_or, Option, None, Some, refl, sym, ap, subst, ◌∙◌, arith}
use Rattle.std.specs.Prelude.{ℤ, pos, ◌*ℤ◌, IfSome, IfNone, All, nat_lt, not}
use Rattle.std.specs.Option.{is_some}
use Rattle.std.proofs.lemmas.Bool.{false≢true, true≢false}
use Rattle.std.proofs.lemmas.Bool.Decides.{nat_tests}
use Rattle.std.proofs.lemmas.List.{drop-drop, length-drop}
use Rattle.bundle_rules.specs.Ahead.{is_ahead}
use Rattle.market_units.specs.Members.{has}
use Rattle.bundle_rules.specs.Sets.{IsAscending}
use Rattle.bundle_rules.specs.Wishes.{IsFeasible, utility}
use Rattle.bundle_rules.specs.Menus.{by_place, wishes_of, IsMenu}
use Rattle.bundle_rules.specs.PlaceLists.{listed}
use Rattle.bundle_rules.proofs.Feasibility.{place_of_rated, utility_by_place}
use Rattle.bundle_bounds.specs.declared.nodes.Leaf.{Leaf}
use Rattle.bundle_bounds.specs.declared.prospects.Prospect.{Prospect}
use Rattle.bundle_bounds.specs.declared.stems.Stem.{Stem}
use Rattle.bundle_bounds.specs.declared.tangents.Tangents.{Tangents}
use Rattle.bundle_bounds.specs.Ahead.{limit_of}
use Rattle.bundle_bounds.specs.Bounds.{bounds, all_bounds, IsFirstPruning, NonePrunes}
use Rattle.bundle_bounds.specs.Courses.{by_course}
use Rattle.bundle_bounds.specs.Laws.{IsNode}
use Rattle.bundle_bounds.specs.Limits.{NoneBelow, IsFirstBelow}
use Rattle.bundle_bounds.specs.Modest.{IsModest}
use Rattle.bundle_bounds.specs.Offers.{OfferData, places_of}
use Rattle.bundle_bounds.specs.Opens.{is_open, open_places, prospect}
use Rattle.bundle_bounds.specs.Stems.{IsStem, IsQuiet, open_ones_at}
use Rattle.bundle_bounds.specs.Tangents.{AreTangents}
use Rattle.bundle_bounds.proofs.BelowLimit.{rest_of_room, some_prunes, none_prunes}
use Rattle.bundle_bounds.proofs.ByPlace.{ascending_places, has-places}
use Rattle.bundle_bounds.proofs.Steps.{no_prospect}
use Rattle.bundle_bounds.proofs.Stemming.{after_open, after_shut}

-- nothing is ahead where no place is decided
pub not_ahead : (ch : List ℕ) → is_ahead 0 ch [] ≡ false
not_ahead [] = refl
not_ahead (p ∷ ps) = let none : nat_lt p 0 ≡ false = grind (arith, nat_tests) in none

pub no_tangents : (budget credit_rest course_rest : ℕ) (all : List Prospect) (tangents : Tangents) → tangents.money ≡ None → tangents.credits ≡ None
    → tangents.courses ≡ None → AreTangents budget credit_rest course_rest all tangents
no_tangents budget credit_rest course_rest all tangents money credits courses = record {
  money_is = rw money tt;
  credits_is = rw credits tt;
  courses_is = rw courses tt;
}

pub none_at : (r : Option Leaf) (limit limit' base base' : ℤ) (budget credits courses : ℕ) (ps qs : List Prospect) → limit ≡ limit' → base ≡ base' → ps ≡ qs
    → IfNone r (NoneBelow limit (all_bounds base budget credits courses ps)) → IfNone r (NoneBelow limit' (all_bounds base' budget credits courses qs))
none_at r limit limit' base base' budget credits courses ps qs limits bases same h =
    subst (λ l. IfNone r (NoneBelow l (all_bounds base' budget credits courses qs))) limits
    (subst (λ b. IfNone r (NoneBelow limit (all_bounds b budget credits courses qs))) bases
    (subst (λ l. IfNone r (NoneBelow limit (all_bounds base budget credits courses l))) same h))

pub tail_all : (P : Prospect → Type 0) (room : List Prospect) (s : ℕ) → All P (drop s room) → All P (drop (s + 1) room)
tail_all P room s all = subst (All P) (drop-drop 1 s room) (all_drop (drop s room) all)
  where
    all_drop : (xs : List Prospect) → All P xs → All P (drop 1 xs)
    all_drop [] all = all
    all_drop (x ∷ xs) all = λ k d low. all (suc k) d (omega arith)

module _ (offer : OfferData) (champion : List ℕ) (k : ℕ) (chosen : List ℕ) (stem : Stem) (is : IsStem offer champion k chosen stem) where
  cs : List ℕ
  cs = places_of offer.menu chosen

  module _ (menu : IsMenu offer.menu) (node : IsNode offer k chosen) (feasible : IsFeasible (wishes_of offer.menu) champion) where
    champion_up : IsAscending (places_of offer.menu champion)
    champion_up = ascending_places offer.menu.places champion menu.places.ascending (place_of_rated offer.menu champion feasible.rated) feasible.set

    chosen_up : IsAscending (places_of offer.menu chosen)
    chosen_up =
        ascending_places offer.menu.places chosen menu.places.ascending (place_of_rated offer.menu chosen node.takable.feasible.rated) node.takable.feasible.set

    decided : (p : ℕ) → has (places_of offer.menu chosen) p ≡ true → p < k
    decided p in_it = let at = has-places offer.menu.places chosen p in_it in rw (← at.2) (node.decided at.0 at.1)

    limit_here : stem.limit
        ≡ limit_of (utility (by_place offer.menu) (places_of offer.menu champion)) (is_ahead k (places_of offer.menu champion) (places_of offer.menu chosen))
    limit_here =
        is.limit_is
        ∙ ap (λ z. limit_of z (is_ahead k (places_of offer.menu champion) (places_of offer.menu chosen)))
        (is.has_chosen.most_is ∙ sym (utility_by_place offer.menu champion))

    pub stem_first : (r : Option Leaf)
        → IfSome r
        (IsFirstBelow stem.limit
        (all_bounds (pos 1000 *ℤ stem.utility) stem.rests.budget stem.rests.credits stem.rests.courses (drop stem.start stem.room)))
        → IfSome r (IsFirstPruning offer k (places_of offer.menu chosen) (places_of offer.menu champion) (bounds offer k (places_of offer.menu chosen)))
    stem_first r h =
        some_prunes offer k (places_of offer.menu chosen) (places_of offer.menu champion) champion_up chosen_up decided _ _ _ _ _ _
        (ap (λ z. pos 1000 *ℤ z) is.has_chosen.utility_is) limit_here
        is.has_chosen.budget_is is.has_chosen.credits_is is.has_chosen.courses_is is.keeps.kept_is r h

    pub stem_none : (r : Option Leaf)
        → IfNone r
        (NoneBelow stem.limit (all_bounds (pos 1000 *ℤ stem.utility) stem.rests.budget stem.rests.credits stem.rests.courses (drop stem.start stem.room)))
        → IfNone r (NonePrunes offer k (places_of offer.menu chosen) (places_of offer.menu champion) (bounds offer k (places_of offer.menu chosen)))
    stem_none r h =
        none_prunes offer k (places_of offer.menu chosen) (places_of offer.menu champion) champion_up chosen_up decided _ _ _ _ _ _
        (ap (λ z. pos 1000 *ℤ z) is.has_chosen.utility_is) limit_here
        is.has_chosen.budget_is is.has_chosen.credits_is is.has_chosen.courses_is is.keeps.kept_is r h

  -- other tangents, and perhaps quiet
  pub stem_asked : (tangents : Tangents) (is_quiet : Bool)
      → AreTangents stem.rests.budget stem.rests.credits stem.rests.courses (drop stem.start stem.room) tangents
      → (is_quiet ≡ true → IsQuiet stem.limit stem.utility stem.rests (drop stem.start stem.room))
      → IsStem offer champion k chosen (record stem { tangents = tangents; is_quiet = is_quiet })
  stem_asked tangents is_quiet are quiet = record {
    has_chosen = is.has_chosen;
    limit_is = is.limit_is;
    keeps = record {
      whole = is.keeps.whole;
      within = is.keeps.within;
      kept_is = is.keeps.kept_is;
      modest = is.keeps.modest;
      on_menu = is.keeps.on_menu;
      plain_is = is.keeps.plain_is;
      small = is.keeps.small;
      tangents_are = are;
    };
    quiet = quiet;
  }

  -- the limit of the next node, as it is asked of the places that are kept
  pub next_limit : (most limit told : ℤ) (champions : List ℕ) → most ≡ stem.most → limit ≡ told
      → told ≡ limit_of most (is_ahead (k + 1) champions (take stem.count stem.chosen)) → champions ≡ listed stem.champion
      → limit ≡ limit_of stem.most (is_ahead (k + 1) (places_of offer.menu champion) (places_of offer.menu chosen))
  next_limit most limit told champions most_is limit_is asked same =
      limit_is ∙ asked ∙ (λ i. limit_of (most_is i) (is_ahead (k + 1) ((same ∙ is.has_chosen.champion_is) i) (is.has_chosen.chosen_is i)))

  module _ (low : k < length offer.menu.places) where
    -- behind a place that is not open
    pub stem_shut : (limit : ℤ) (is_quiet : Bool) → is_open offer (places_of offer.menu chosen) k ≡ false
        → limit ≡ limit_of stem.most (is_ahead (k + 1) (places_of offer.menu champion) (places_of offer.menu chosen))
        → (is_quiet ≡ true → (stem.is_quiet ≡ true) × (stem.limit ≡ limit))
        → IsStem offer champion (k + 1) chosen (record stem { limit = limit; is_quiet = is_quiet })
    stem_shut limit is_quiet shut limit_is still = record {
      has_chosen = is.has_chosen;
      limit_is = limit_is;
      keeps = record {
        whole = is.keeps.whole;
        within = is.keeps.within;
        kept_is = is.keeps.kept_is ∙ after_shut offer (places_of offer.menu chosen) k low shut;
        modest = is.keeps.modest;
        on_menu = is.keeps.on_menu;
        plain_is = is.keeps.plain_is;
        small = is.keeps.small;
        tangents_are = is.keeps.tangents_are;
      };
      quiet = λ yes. let both = still yes in subst (λ (l : ℤ). IsQuiet l stem.utility stem.rests (drop stem.start stem.room)) both.1 (is.quiet both.0);
    }

    module _ (opened : is_open offer (places_of offer.menu chosen) k ≡ true) where
      -- the first open place is the next one
      pub kept_first : drop stem.start stem.room
          ≡ prospect offer (places_of offer.menu chosen) k (open_places offer (k + 1) (places_of offer.menu chosen))
          ∷ open_ones_at offer (k + 1) (places_of offer.menu chosen)
      kept_first = is.keeps.kept_is ∙ after_open offer (places_of offer.menu chosen) k low opened

      pub kept_some : stem.start < 60
      kept_some =
          let size : length (drop stem.start stem.room) ≡ length stem.room - stem.start = length-drop stem.start stem.room in
          let more : length (drop stem.start stem.room) ≡ suc (length (open_ones_at offer (k + 1) (places_of offer.menu chosen))) = ap length kept_first in
          let whole = is.keeps.whole in omega arith

      -- so what is lent of the room has one
      pub lent_some : 1 ≤ length (take (60 - stem.start) (drop stem.start stem.room))
      lent_some =
          let size : length (drop stem.start stem.room) ≡ length stem.room - stem.start = length-drop stem.start stem.room in
          let some : stem.start < 60 = kept_some in
          let whole = is.keeps.whole in
          subst (λ ps. 1 ≤ length ps) (sym (rest_of_room stem.room stem.start is.keeps.whole))
          (let goal : 1 ≤ length (drop stem.start stem.room) = omega arith in goal)

      pub kept_later : drop (stem.start + 1) stem.room ≡ open_ones_at offer (k + 1) (places_of offer.menu chosen)
      kept_later = sym (drop-drop 1 stem.start stem.room) ∙ ap (drop 1) kept_first

      -- behind an open place
      pub stem_open : (limit : ℤ) (plain : ℕ) (tangents : Tangents)
          → limit ≡ limit_of stem.most (is_ahead (k + 1) (places_of offer.menu champion) (places_of offer.menu chosen))
          → plain ≡ by_course (λ p. 1000 * p.worth) (drop 1 (drop stem.start stem.room)) → plain ≤ stem.plain
          → AreTangents stem.rests.budget stem.rests.credits stem.rests.courses (drop 1 (drop stem.start stem.room)) tangents
          → IsStem offer champion (k + 1) chosen (record stem { limit = limit; start = stem.start + 1; plain = plain; tangents = tangents; is_quiet = false })
      stem_open limit plain tangents limit_is plain_is less are = record {
        has_chosen = is.has_chosen;
        limit_is = limit_is;
        keeps = record {
          whole = is.keeps.whole;
          within = (let some = kept_some in omega arith);
          kept_is = kept_later;
          modest = tail_all IsModest stem.room stem.start is.keeps.modest;
          on_menu = tail_all (λ p. p.place < length offer.menu.places) stem.room stem.start is.keeps.on_menu;
          plain_is = plain_is ∙ ap (by_course (λ p. 1000 * p.worth)) (drop-drop 1 stem.start stem.room);
          small = (let small = is.keeps.small in omega arith);
          tangents_are = subst (λ ps. AreTangents stem.rests.budget stem.rests.credits stem.rests.courses ps tangents) (drop-drop 1 stem.start stem.room) are;
        };
        quiet = λ yes. absurd (false≢true yes);
      }

pub none_told : (r : Option Leaf) (none : Bool) → is_some r ≡ not none → none ≡ true → r ≡ None
none_told None none told is = refl
none_told (Some leaf) none told is = absurd (true≢false (told ∙ ap not is))

pub first_here : (room : List Prospect) (s : ℕ) (p : Prospect) (ps : List Prospect) → drop s room ≡ p ∷ ps → get_or room s no_prospect ≡ p
first_here [] zero p ps are = absurd (cc are)
first_here [] (suc s) p ps are = absurd (cc are)
first_here (x ∷ room) zero p ps are = cc are
first_here (x ∷ room) (suc s) p ps are = first_here room s p ps are
