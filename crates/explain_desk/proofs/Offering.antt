-- All of so many sections, as a set and as a test, and what is told of them.
use Rattle.std.proofs.Common.{ℕ, zero, suc, ◌≡◌, ◌<◌, Bool, true, List, [], ◌∷◌, length, get_or, refl, sym, subst, arith, ◌∙◌}
use Rattle.std.specs.Prelude.{All, IfNone, IfSome, Option, Some, None, is_some, nat_lt, option_map}
use Rattle.std.specs.FinSet as set
use Rattle.std.specs.Ordering.{nat_cmp}
use Rattle.std.proofs.lemmas.Bool.{lt-ltb}
use Rattle.market_units.specs.declared.units.Tokens.{Tokens}
use Rattle.bundle_rules.specs.declared.menu.Rated.{Rated}
use Rattle.bundle_rules.specs.Demand.{price_in}
use Rattle.bundle_rules.specs.Given.{IsBestWith}
use Rattle.bundle_rules.specs.Menus.{MenuData, place_in, section_at, wishes_of}
use Rattle.market_units.specs.Members.{has}
use Rattle.bundle_rules.specs.Wishes.{AllRated}
use Rattle.bundle_rules.specs.Existence.Places.{section_at-place_in}
use Rattle.bundle_rules.proofs.Feasibility.{place_of_rated}
use Rattle.proof_tree.specs.Texts.{IsTreeText}
use Rattle.market_certificate.specs.Publications.{Proved}
use Rattle.explain_desk.specs.declared.explanation.Proved as own
use Rattle.explain_desk.specs.Explanations.{IsProvedWith, offer_of_all}
use Rattle.explain_desk.specs.Views.{proved_of}
use Rattle.market_units.proofs.Memberships.{has_at}

-- a set that has the sections below a number is the test for it
pub all_is : (all : set.FinSet nat_cmp) (n : ℕ) → ((s : ℕ) → set.contains all s ≡ nat_lt s n) → set.contains all ≡ (λ s. nat_lt s n)
all_is all n same = λ i s. same s i

-- the section at a place of a menu is below what all its sections are below
at_below : (places : List Rated) (n k : ℕ) → All (λ (rated : Rated). rated.section.0 < n) places → k < length places → section_at places k < n
at_below [] n k each low = absurd (omega (arith, low))
at_below (r ∷ rs) n zero each low = let is : r.section.0 < n = each 0 r (omega arith) in is
at_below (r ∷ rs) n (suc k) each low = at_below rs n k (λ i d h. each (suc i) d (let g : suc i < suc (length rs) = omega (arith, h) in g)) (omega (arith, low))

-- and so is each section of a bundle of them
pub section_below : (menu : MenuData) (n : ℕ) (bundle : List ℕ) → All (λ (rated : Rated). rated.section.0 < n) menu.places → AllRated (wishes_of menu) bundle
    → (s : ℕ) → has bundle s ≡ true → s < n
section_below menu n bundle each rated s is =
    let low : place_in menu.places s < length menu.places = place_of_rated menu bundle rated s is in
    subst (λ t. t < n) (section_at-place_in menu.places s low) (at_below menu.places n (place_in menu.places s) each low)

pub all_below : (menu : MenuData) (n : ℕ) (bundle : List ℕ) → All (λ (rated : Rated). rated.section.0 < n) menu.places → AllRated (wishes_of menu) bundle
    → All (λ s. s < n) bundle
all_below menu n bundle each rated = λ k d low. section_below menu n bundle each rated (get_or bundle k d) (has_at bundle k d low)

-- all sections of a bundle are offered
pub all_offered : (menu : MenuData) (n : ℕ) (bundle : List ℕ) (all : set.FinSet nat_cmp) → ((s : ℕ) → set.contains all s ≡ nat_lt s n)
    → All (λ (rated : Rated). rated.section.0 < n) menu.places → AllRated (wishes_of menu) bundle
    → (s : ℕ) → has bundle s ≡ true → set.contains all s ≡ true
all_offered menu n bundle all same each rated s is = same s ∙ lt-ltb s n (section_below menu n bundle each rated s is)

-- what is found for the set is found for the test
pub proved_with : (menu : MenuData) (prices : List Tokens) (budget n section : ℕ) (bundle tree : List ℕ) (all : set.FinSet nat_cmp)
    → ((s : ℕ) → set.contains all s ≡ nat_lt s n)
    → IsBestWith (wishes_of menu) (price_in prices) budget (set.contains all) section bundle
    → IsTreeText (record { menu = menu; price = price_in prices; budget = budget; allowed = set.contains all }) (Some (place_in menu.places section)) bundle
    tree
    → IsProvedWith (offer_of_all menu prices budget n) section (record { bundle = bundle; tree = tree })
proved_with menu prices budget n section bundle tree all same best text =
    subst
    (λ (allowed : ℕ → Bool). IsProvedWith (record { menu = menu; price = price_in prices; budget = budget; allowed = allowed }) section
    (record { bundle = bundle; tree = tree }))
    (all_is all n same) (record { best = best; tree = text })

-- and the other way round
pub found_with : (menu : MenuData) (prices : List Tokens) (budget n section : ℕ) (bundle tree : List ℕ) (all : set.FinSet nat_cmp)
    → ((s : ℕ) → set.contains all s ≡ nat_lt s n) → IsProvedWith (offer_of_all menu prices budget n) section (record { bundle = bundle; tree = tree })
    → IsProvedWith (record { menu = menu; price = price_in prices; budget = budget; allowed = set.contains all }) section
    (record { bundle = bundle; tree = tree })
found_with menu prices budget n section bundle tree all same is =
    subst
    (λ (allowed : ℕ → Bool). IsProvedWith (record { menu = menu; price = price_in prices; budget = budget; allowed = allowed }) section
    (record { bundle = bundle; tree = tree }))
    (sym (all_is all n same)) is

-- what holds of the bundle that is told holds of it as it is seen
pub seen_told : (P : Proved → Type 0) (best : Option own.Proved) → IfSome best (λ proved. P (proved_of proved)) → IfSome (option_map proved_of best) P
seen_told P (Some proved) is = is
seen_told P None is = tt

-- a bundle is told where there has to be one
pub some_told : (Q : Type 0) (best : Option own.Proved) → IfNone best (¬ Q) → Q → is_some (option_map proved_of best) ≡ true
some_told Q (Some proved) none q = refl
some_told Q None none q = absurd (none q)
