-- What a crowd takes at prices that are cut to the top.
use Rattle.std.proofs.Common.{ℕ, ◌≡◌, ◌<◌, ◌≤◌, ◌+◌, ◌∙◌, List, [], ◌∷◌, ◌++◌, length, map, get_or, refl, ap, sym, subst, arith}
use Rattle.std.specs.Prelude.{All, min}
use Rattle.std.proofs.lemmas.List.{get_or_default, length-map, map-append}
use Rattle.std.proofs.lemmas.List.Elements.{All-map}
use Rattle.bundle_rules.specs.Demand.{price_in}
use Rattle.bundle_rules.specs.Places.{places_from}
use Rattle.market_units.specs.Members.{has}
use Rattle.clearing_error.specs.Errors.{error}
use Rattle.demand_api.specs.Asking.{ArePricesFor}
use Rattle.demand_api.specs.Crowds.{CrowdData, counts, demands, holders, top}
use Rattle.demand_api.proofs.Counts.{demands_by_top, same_up_to, length-demands}
use Rattle.demand_api.proofs.Takers.{demand_within}
use Rattle.market_units.specs.declared.units.Tokens.{Tokens}
use Rattle.own_price.specs.Holding.{HeldData, Holds}
use Rattle.own_price.proofs.Raising.{places_more}
use Rattle.demand_text.specs.Taken.{IsTakenBy, TakenData, taken_at}
use Rattle.market_units.proofs.Memberships.{has_at}
use Rattle.bundle_rules.proofs.PlaceLists.{length-places_from}

-- prices, each cut to this one
abbrev pub cut_to : ℕ → List Tokens → List Tokens
cut_to most prices = map (λ price. record { 0 = min price.0 most }) prices

-- which act up to it as they are
cut_same : (most : ℕ) (prices : List Tokens)
    → map (λ (price : Tokens). min price.0 most) (cut_to most prices) ≡ map (λ (price : Tokens). min price.0 most) prices
cut_same most [] = refl
cut_same most (price ∷ prices) =
    let here : min (min price.0 most) most ≡ min price.0 most = omega arith in
    ap (λ first. first ∷ map (λ (other : Tokens). min other.0 most) (cut_to most prices)) here ∙ ap (λ rest. min price.0 most ∷ rest) (cut_same most prices)

cut_high : (most : ℕ) (prices : List Tokens) → All (λ (price : Tokens). price.0 ≤ most) (cut_to most prices)
cut_high most prices = All-map (λ (price : Tokens). price.0 ≤ most) (λ (price : Tokens). record { 0 = min price.0 most }) prices (λ k d inside. omega arith)

-- they can be asked
pub cut_prices : (crowd : CrowdData) (prices asked : List Tokens) (most : ℕ) → most ≡ top crowd → asked ≡ cut_to most prices → length prices ≡ crowd.sections
    → ArePricesFor crowd asked
cut_prices crowd prices asked most is cut same = record {
  same = ap length cut ∙ length-map prices _ ∙ same;
  high = subst (λ (n : ℕ). All (λ (price : Tokens). price.0 ≤ n) asked) is (subst (All (λ (price : Tokens). price.0 ≤ most)) (sym cut) (cut_high most prices));
}

-- the counts of so many sections, one more
pub counts_more : (bundles : List (List ℕ)) (n count : ℕ) (found more : List ℕ) → found ≡ map (λ s. holders s bundles) (places_from 0 n)
    → more ≡ found ++ count ∷ [] → count ≡ holders n bundles
    → more ≡ map (λ s. holders s bundles) (places_from 0 (n + 1))
counts_more bundles n count found more are put is =
    put ∙ ap (λ first. first ++ count ∷ []) are ∙ ap (λ last. map (λ s. holders s bundles) (places_from 0 n) ++ last ∷ []) is
    ∙ sym
    (ap (map (λ s. holders s bundles)) (places_more 0 n) ∙ map-append (λ s. holders s bundles) (places_from 0 n) ((0 + n) ∷ [])
    ∙ ap (λ m. map (λ s. holders s bundles) (places_from 0 n) ++ holders m bundles ∷ []) (let e : 0 + n ≡ n = omega arith in e))

pub counts_long : (bundles : List (List ℕ)) (n : ℕ) → length (map (λ s. holders s bundles) (places_from 0 n)) ≡ n
counts_long bundles n = length-map (places_from 0 n) (λ s. holders s bundles) ∙ length-places_from 0 n

-- what is held at cut prices is what is taken at the prices as they are
pub held_bundles : (crowd : CrowdData) (prices asked : List Tokens) (held : HeldData) (most : ℕ) → most ≡ top crowd → asked ≡ cut_to most prices
    → held.prices ≡ asked → Holds crowd held → held.bundles ≡ demands crowd (price_in prices)
held_bundles crowd prices asked held most is cut same holds =
    holds.bundles ∙ ap (λ vector. demands crowd (price_in vector)) (same ∙ cut ∙ ap (λ n. cut_to n prices) is)
    ∙ demands_by_top crowd (price_in (cut_to (top crowd) prices)) (price_in prices)
    (same_up_to (top crowd) (cut_to (top crowd) prices) prices (cut_same (top crowd) prices))

pub held_counts : (crowd : CrowdData) (prices : List Tokens) (bundles : List (List ℕ)) (found : List ℕ) (n : ℕ) → bundles ≡ demands crowd (price_in prices)
    → found ≡ map (λ s. holders s bundles) (places_from 0 n) → n ≡ crowd.sections
    → found ≡ counts crowd (price_in prices)
held_counts crowd prices bundles found n are is same =
    is ∙ ap (λ held. map (λ s. holders s held) (places_from 0 n)) are ∙ ap (λ m. map (λ s. holders s (demands crowd (price_in prices))) (places_from 0 m)) same

-- the parts of what is taken make the whole
pub taken_whole : (crowd : CrowdData) (seats : List ℕ) (prices : List Tokens) (bundles : List (List ℕ)) (found : List ℕ) (e : ℕ)
    → bundles ≡ demands crowd (price_in prices) → found ≡ counts crowd (price_in prices) → e ≡ error found seats prices
    → (let taken : TakenData = record { bundles = bundles; counts = found; error = e } in taken ≡ taken_at crowd seats prices)
taken_whole crowd seats prices bundles found e are count is =
    let last : e ≡ error (counts crowd (price_in prices)) seats prices = is ∙ ap (λ (cs : List ℕ). error cs seats prices) count in
    cc

-- students take sections of their market
demands_within : (crowd : CrowdData) (price : ℕ → ℕ) → All (λ (bundle : List ℕ). All (λ s. s < crowd.sections) bundle) (demands crowd price)
demands_within crowd price k d inside n e low =
    demand_within crowd price k (get_or (get_or (demands crowd price) k d) n e)
    (ap (λ bundle. has bundle (get_or (get_or (demands crowd price) k d) n e)) (get_or_default (demands crowd price) k [] d inside)
    ∙ has_at (get_or (demands crowd price) k d) n e low)

pub taken_by_crowd : (crowd : CrowdData) (seats : List ℕ) (prices : List Tokens) (taken : TakenData) → taken ≡ taken_at crowd seats prices
    → IsTakenBy (length crowd.students) crowd.sections taken
taken_by_crowd crowd seats prices taken is =
    subst (IsTakenBy (length crowd.students) crowd.sections) (sym is) (record {
      each = length-demands crowd (price_in prices);
      within = demands_within crowd (price_in prices);
      count = counts_long (demands crowd (price_in prices)) crowd.sections;
    })
