-- What stands at a place of the terms and of a publication.
use Rattle.std.proofs.Common.{ℕ, suc, ◌≡◌, ◌≢◌, ◌<◌, ◌≤◌, ◌∙◌, Bool, true, false, true≢false, nat_eq, List, [], ◌∷◌, length, map, get_or, ap, sym, subst, inl, inr, arith}
use Rattle.std.specs.Prelude.{All, IsTrue, nat_lt, not, slice_index}
use Rattle.std.specs.FinSet as set
use Rattle.std.specs.Ordering.{nat_cmp}
use Rattle.std.proofs.lemmas.Bool.Decides.{nat_tests}
use Rattle.std.proofs.lemmas.List.{length-map, get_or-map, length-replicate}
use Rattle.market_units.specs.declared.units.Tokens.{Tokens}
use Rattle.bundle_bounds.specs.Offers.{offer_of}
use Rattle.bundle_rules.specs.Bundles.{sections_of}
use Rattle.bundle_rules.specs.Existence.Members.{has-cases}
use Rattle.bundle_rules.specs.Menus.{MenuData}
use Rattle.market_units.specs.Members.{has}
use Rattle.demand_api.specs.declared.crowd.Crowd.{Crowd}
use Rattle.demand_api.specs.Crowds.{Student}
use Rattle.demand_api.specs.Views.{data_of}
use Rattle.demand_api.proofs.Parts.{menus_few, few_sections, student_of, students_length}
use Rattle.market_certificate.specs.declared.publication.Proved as declared_proved
use Rattle.market_certificate.specs.declared.publication.Publication as declared
use Rattle.market_certificate.specs.Publications.{IsProved}
use Rattle.market_certificate.specs.Views.{proved_of, publication_of}
use Rattle.certificate_checker.specs.declared.terms.Terms.{Terms}
use Rattle.certificate_checker.specs.Firsts.{AllBelow}
use Rattle.certificate_checker.specs.Parts.{CanCheck, nameless}
use Rattle.certificate_checker.specs.Students.{offer_in, proved_in}
use Rattle.published_parts.specs.Offers.{student_in}

-- two tests of numbers
pub are_apart : (x y : ℕ) → not (nat_eq x y) ≡ true → x ≢ y
are_apart x y e = grind (arith, nat_tests)

pub are_same : (x y : ℕ) → not (nat_eq x y) ≡ false → x ≡ y
are_same x y e = grind (arith, nat_tests)

-- what a test denies
pub denied : {P : Type 0} (test : Bool) → ((IsTrue test → P) × (P → IsTrue test)) → test ≡ false → ¬ P
denied test tells e = λ is. true≢false (sym (tells.1 is) ∙ e)

-- a fact about two things, of others that are equal to them
pub moved : {A B : Type 0} (P : A → B → Type 0) (a a' : A) (b b' : B) → a ≡ a' → b ≡ b' → P a b → P a' b'
moved {A} {B} P a a' b b' e f is = subst {A = A × B} (λ both. P both.0 both.1) (λ i. (e i, f i)) is

-- so of fewer
pub fewer : (count more : ℕ) (Is : ℕ → Type 0) → count ≤ more → AllBelow more Is → AllBelow count Is
fewer count more Is low all = λ n small. all n (omega arith)

-- as many as the terms have
pub nameless_students : (terms : Terms) → length (nameless terms).students ≡ length terms.crowd.menus.items
nameless_students terms = length-replicate (length terms.crowd.menus.items) []

pub nameless_sections : (terms : Terms) → length (nameless terms).sections ≡ terms.crowd.sections
nameless_sections terms = length-replicate terms.crowd.sections []

-- the lengths of what is looked at
pub record HasLengths (terms : Terms) (publication : declared.Publication) : Type 0 where
  pub drawn : length terms.crowd.budgets.items ≡ length terms.crowd.menus.items
  pub seats : length terms.seats.items ≡ terms.crowd.sections
  pub students : length (data_of terms.crowd).students ≡ length terms.crowd.menus.items
  pub few : length terms.crowd.menus.items ≤ 2000
  pub few_sections : terms.crowd.sections ≤ 400
  pub budgets : length publication.budgets.items ≡ length terms.crowd.menus.items
  pub prices : length publication.prices.items ≡ terms.crowd.sections
  pub bundles : length publication.bundles.items ≡ length terms.crowd.menus.items
  pub allocation : length publication.allocation.items ≡ length terms.crowd.menus.items
  pub used : length publication.used.items ≡ terms.crowd.sections

pub lengths : (terms : Terms) (publication : declared.Publication) → CanCheck terms (publication_of publication) → HasLengths terms publication
lengths terms publication is = record {
  drawn = terms.crowd.same;
  seats = is.seats;
  students = students_length terms.crowd;
  few = menus_few terms.crowd;
  few_sections = few_sections terms.crowd;
  budgets = sym (length-map publication.budgets.items (λ (t : Tokens). t.0)) ∙ is.is_publication.budgets.count ∙ nameless_students terms;
  prices = sym (length-map publication.prices.items (λ (t : Tokens). t.0)) ∙ is.is_publication.prices.count ∙ nameless_sections terms;
  bundles = sym (length-map publication.bundles.items proved_of) ∙ is.is_publication.bundles.count ∙ nameless_students terms;
  allocation = sym (length-map publication.allocation.items sections_of) ∙ is.is_publication.allocation.count ∙ nameless_students terms;
  used = is.is_publication.used.count ∙ nameless_sections terms;
}

-- the student of a number has the menu and the budget at that place
pub student_is : (crowd : Crowd) (k : ℕ) (m : MenuData) (b : Tokens) → k < length crowd.menus.items
    → m ≡ get_or crowd.menus.items k m → b ≡ get_or crowd.budgets.items k b
    → student_in (data_of crowd) k ≡ record { menu = m; budget = b.0 }
student_is crowd k m b low first second = student_of crowd k _ m b low ∙ (λ i. record { menu = sym first i; budget = (sym second i).0 })

-- the budget that a student draws, and the one that is printed
pub drawn_is : (crowd : Crowd) (k : ℕ) (b : Tokens) → k < length crowd.menus.items → b ≡ get_or crowd.budgets.items k b
    → (student_in (data_of crowd) k).budget ≡ b.0
drawn_is crowd k b low is =
    let nothing : MenuData = record { places = []; pairs = []; clashes = []; credits = 0; courses = 0 } in
    ap (λ (s : Student). s.budget) (student_of crowd k _ nothing b low) ∙ ap (λ (t : Tokens). t.0) (sym is)

pub printed_is : (tokens : List Tokens) (k : ℕ) (b : Tokens) → k < length tokens → b ≡ get_or tokens k b → get_or (map (λ (t : Tokens). t.0) tokens) k 0 ≡ b.0
printed_is tokens k b low is = get_or-map (λ (t : Tokens). t.0) tokens k b 0 low ∙ ap (λ (t : Tokens). t.0) (sym is)

-- the bundle and the tree that are printed for a student
pub proved_is : (publication : declared.Publication) (k : ℕ) (item : declared_proved.Proved) → k < length publication.bundles.items
    → item ≡ get_or publication.bundles.items k item → proved_in (publication_of publication) k ≡ proved_of item
proved_is publication k item low is = get_or-map proved_of publication.bundles.items k item _ low ∙ ap proved_of (sym is)

-- what is offered in the second stage
pub offer_is : (crowd : Crowd) (k : ℕ) (publication : declared.Publication) (m : MenuData) (b : Tokens)
    (all : set.FinSet nat_cmp)
    → k < length crowd.menus.items → m ≡ get_or crowd.menus.items k m → b ≡ get_or crowd.budgets.items k b
    → ((s : ℕ) → set.contains all s ≡ nat_lt s crowd.sections)
    → offer_in (data_of crowd) (publication_of publication) k ≡ offer_of m publication.prices.items b.0 all
offer_is crowd k publication m b all low first second told =
    let student = student_is crowd k m b low first second in
    λ i. record {
      menu = (student i).menu;
      price = slice_index (map (λ (t : Tokens). t.0) publication.prices.items);
      budget = (student i).budget;
      allowed = λ s. sym
          (told s) i;
    }

-- what is so of all items of a list is so of what the list has
pub so_of_has : (P : ℕ → Type 0) (bundle : List ℕ) → All P bundle → (s : ℕ) → has bundle s ≡ true → P s
so_of_has P [] all s is = absurd (cc is)
so_of_has P (x ∷ xs) all s is = elim (has-cases x xs s is) [
  | inl here ↦ subst P here (all 0 x (omega arith))
  | inr there ↦ so_of_has P xs (λ k d low. all (suc k) d (omega arith)) s there
]

-- the sections of a bundle of the second stage are the catalogue's
pub stage_two_below : (terms : Terms) (publication : declared.Publication) (k : ℕ) (item : declared_proved.Proved) → CanCheck terms (publication_of publication)
    → k < length publication.bundles.items → item ≡ get_or publication.bundles.items k item
    → All (λ s. s < terms.crowd.sections) (sections_of item.bundle)
stage_two_below terms publication k item is low read =
    let proved : IsProved (nameless terms).sections (get_or (map proved_of publication.bundles.items) k (proved_of item)) =
    is.is_publication.bundles.each k (proved_of item) (let long = length-map publication.bundles.items proved_of in omega arith) in
    let same : get_or (map proved_of publication.bundles.items) k (proved_of item) ≡ proved_of item =
    get_or-map proved_of publication.bundles.items k item (proved_of item) low ∙ ap proved_of (sym read) in
    let mine : IsProved (nameless terms).sections (proved_of item) = subst (IsProved (nameless terms).sections) same proved in
    λ j d inside. subst (λ n. get_or (sections_of item.bundle) j d < n) (nameless_sections terms) (mine.bundle.of_catalog j d inside)
