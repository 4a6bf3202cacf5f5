-- The search for the best of the wanted bundles: depth first over the places of the menu, with the
-- best wanted bundles so far, of which the last is its champion.
use Rattle.std.specs.Prelude.{ℕ, ◌+◌, ◌≤◌, ◌≡◌, ◌≢◌, ◌⊎◌, Bool, true, Option, None, Some, List, [], ◌∷◌, ◌++◌, length}
use Rattle.market_units.specs.Members.{has}
use Rattle.bundle_rules.specs.Menus.{MenuData, wishes_of, section_at}
use Rattle.bundle_rules.specs.Preferences.{IsPreferred}
use Rattle.bundle_bounds.specs.Offers.{OfferData}
use Rattle.bundle_bounds.specs.Laws.{IsTakable, Completes}
use Rattle.bundle_bounds.specs.Prunings.{IsAsGood}
use Rattle.demand_oracle.specs.Names.{IsPreferredByName, StandsFirst, name_of}
use Rattle.demand_oracle.specs.Bests.{IsAmong, AreInOrder}
use Rattle.demand_oracle.specs.declared.names.Names.{Names}

-- what is searched for: the best of these bundles, where the names of sections decide between
-- bundles of one utility
pub record Aim : Type 0 where
  pub wanted : List ℕ → Bool
  pub name : ℕ → ℕ

-- which bundles are wanted: all, or those with the section of a given place
abbrev pub wanted_by : MenuData → Option ℕ → List ℕ → Bool
wanted_by menu None bundle = true
wanted_by menu (Some place) bundle = has bundle (section_at menu.places place)

-- the best of these is searched for, by the names of the menu
abbrev pub aim_by : MenuData → Option ℕ → Names → Aim
aim_by menu given names = record { wanted = wanted_by menu given; name = name_of names }

-- the first bundle is the second, or preferred to it
abbrev pub IsAsGoodByName : (ℕ → ℕ) → OfferData → List ℕ → List ℕ → Type 0
IsAsGoodByName name offer a b = (b ≡ a) ⊎ IsPreferredByName name (wishes_of offer.menu) a b

-- what a search has found so far: a champion, bundles that lead it, the most preferred first, and
-- how many are kept at most
pub record Kept : Type 0 where
  pub leading : List (List ℕ)
  pub champion : List ℕ
  pub most : ℕ

-- all that are kept, the champion last
abbrev pub bundles_kept : Kept → List (List ℕ)
bundles_kept kept = kept.leading ++ kept.champion ∷ []

-- the bundle is kept, or as many as may be are, and the champion is preferred to it
abbrev pub IsListed : (ℕ → ℕ) → OfferData → Kept → List ℕ → Type 0
IsListed name offer kept bundle =
    IsAmong bundle (bundles_kept kept)
    ⊎ ((kept.most ≤ length (bundles_kept kept))
    × IsPreferredByName name (wishes_of offer.menu) kept.champion bundle)

-- the champion is as good as every takable bundle that completes the node and is wanted
abbrev pub LeadsNode : OfferData → Aim → ℕ → List ℕ → List ℕ → Type 0
LeadsNode offer aim k chosen champion =
    (bundle : List ℕ) → IsTakable offer bundle → aim.wanted bundle ≡ true
    → Completes offer k chosen bundle → IsAsGoodByName aim.name offer champion bundle

-- every takable bundle that completes the node and is wanted is kept, or there is no room for it
abbrev pub MayBePruned : OfferData → Aim → ℕ → List ℕ → Kept → Type 0
MayBePruned offer aim k chosen kept =
    (bundle : List ℕ) → IsTakable offer bundle → aim.wanted bundle ≡ true
    → Completes offer k chosen bundle → IsListed aim.name offer kept bundle

-- the champion stands first before every takable bundle that completes the node
abbrev pub WinsEachTie : (ℕ → ℕ) → OfferData → ℕ → List ℕ → List ℕ → Type 0
WinsEachTie name offer k chosen champion =
    (bundle : List ℕ) → IsTakable offer bundle → Completes offer k chosen bundle
    → StandsFirst name champion bundle

-- the chosen sections are kept too, where they are wanted and there is room for them
pub record IsPut (offer : OfferData) (aim : Aim) (chosen : List ℕ) (kept result : Kept) : Type 0 where
  pub own : aim.wanted chosen ≡ true → IsListed aim.name offer result chosen
  pub before : (bundle : List ℕ) → IsListed aim.name offer kept bundle
      → IsListed aim.name offer result bundle
  pub from : (bundle : List ℕ) → IsAmong bundle (bundles_kept result)
      → IsAmong bundle (bundles_kept kept) ⊎ ((bundle ≡ chosen) × (aim.wanted chosen ≡ true))

-- The result is what is kept after a search below this node, where these sections are undecided.
-- Where none is, the chosen ones are kept too. Where the node may be pruned, all may stay as it is;
-- else the search goes on with the next section, if it may be taken, and then without it.
abbrev pub IsSearched : OfferData → Aim → ℕ → List ℕ → List ℕ → Kept → Kept → Type 0
IsSearched offer aim k chosen [] kept result = IsPut offer aim chosen kept result
IsSearched offer aim k chosen (s ∷ undecided) kept result =
    (MayBePruned offer aim k chosen kept × (result ≡ kept))
    ⊎ (((between : Kept) × IsTakable offer (chosen ++ s ∷ []) × IsSearched offer aim (k + 1) (chosen ++ s ∷ []) undecided kept between × IsSearched offer aim (k + 1) chosen undecided between result)
    ⊎ ((¬ IsTakable offer (chosen ++ s ∷ [])) × IsSearched offer aim (k + 1) chosen undecided kept result))

-- the takable wanted bundle that is preferred to every other one
pub record IsBestByName (offer : OfferData) (aim : Aim) (bundle : List ℕ) : Type 0 where
  pub takable : IsTakable offer bundle
  pub is_wanted : aim.wanted bundle ≡ true
  pub preferred : (other : List ℕ) → IsTakable offer other → aim.wanted other ≡ true
      → other ≢ bundle → IsPreferredByName aim.name (wishes_of offer.menu) bundle other

-- a bundle that may be taken, and is as good as every wanted one that may be
pub record LeadsWanted (offer : OfferData) (wanted : List ℕ → Bool) (bundle : List ℕ) : Type 0 where
  pub takable : IsTakable offer bundle
  pub over : (other : List ℕ) → IsTakable offer other → wanted other ≡ true
      → IsAsGood offer bundle other

-- takable bundles in order: each other takable wanted one is less preferred than all
pub record LeadAim (offer : OfferData) (aim : Aim) (bundles : List (List ℕ)) : Type 0 where
  pub some : 1 ≤ length bundles
  pub takable : (bundle : List ℕ) → IsAmong bundle bundles → IsTakable offer bundle
  pub in_order : AreInOrder (IsPreferredByName aim.name (wishes_of offer.menu)) bundles
  pub over : (other : List ℕ) → IsTakable offer other → aim.wanted other ≡ true
      → IsAmong other bundles
      ⊎ ((bundle : List ℕ) → IsAmong bundle bundles
      → IsPreferredByName aim.name (wishes_of offer.menu) bundle other)

-- the same, where their own numbers are the names of the sections
pub record LeadWanted (offer : OfferData) (wanted : List ℕ → Bool) (bundles : List (List ℕ)) : Type 0 where
  pub some : 1 ≤ length bundles
  pub takable : (bundle : List ℕ) → IsAmong bundle bundles → IsTakable offer bundle
  pub in_order : AreInOrder (IsPreferred (wishes_of offer.menu)) bundles
  pub over : (other : List ℕ) → IsTakable offer other → wanted other ≡ true
      → IsAmong other bundles
      ⊎ ((bundle : List ℕ) → IsAmong bundle bundles
      → IsPreferred (wishes_of offer.menu) bundle other)
