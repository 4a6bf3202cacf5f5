-- A publication of stages is in the ranges of the text.
use Rattle.std.proofs.Common.{ℕ, zero, suc, ◌≡◌, ◌<◌, ◌≤◌, ◌+◌, ◌∙◌, true, false, ◌||◌, nat_eq, List, [], ◌∷◌, map, length, get_or, refl, ap, sym, subst, arith}
use Rattle.std.specs.Prelude.{All, nat_lt, slice_index, slice_set}
use Rattle.std.specs.List.{AllZip, flat_map, zip}
use Rattle.std.proofs.lemmas.Bool.Decides.{nat_tests}
use Rattle.std.proofs.lemmas.List.{length-map}
use Rattle.std.proofs.lemmas.List.Elements.{All-append, All-cons, All-head, All-map, All-nil, All-set, All-tail}
use Rattle.std.proofs.lemmas.Option.{get_or_from_slice_get, slice_get_within}
use Rattle.market_units.specs.declared.units.Tokens.{Tokens}
use Rattle.bundle_rules.specs.declared.menu.Rated.{Rated}
use Rattle.bundle_rules.specs.Existence.Members.{has-here, has-there}
use Rattle.bundle_rules.specs.Menus.{MenuData, wishes_of}
use Rattle.bundle_rules.specs.Places.{places_from}
use Rattle.market_units.specs.Members.{has}
use Rattle.bundle_rules.specs.Wishes.{AllRated}
use Rattle.bundle_rules.proofs.Feasibility.{among_sections}
use Rattle.budget_draw.specs.AfterOrder.{after_order_of}
use Rattle.demand_api.specs.Asking.{ArePricesFor, AreSectionPrices}
use Rattle.demand_api.specs.Crowds.{CrowdData, IsCrowd, IsWithin, Student, holders, top}
use Rattle.oversubscription_stage.proofs.Raises.{top_high}
use Rattle.aftermarket_stage.specs.Passes.{ArePasses, IsMadeOf}
use Rattle.aftermarket_stage.specs.Turns.{TurnData, after_turns}
use Rattle.held_seats.specs.Choices.{AreHeldWithin}
use Rattle.market_certificate.specs.Publications.{AreFor, IsBundleOf, IsProved, IsTurn, IsUsed, Proved, ProvedTurn}
use Rattle.published_parts.specs.Holdings.{held_after}
use Rattle.published_parts.specs.Offers.{IsProvedDemand}
use Rattle.published_market.specs.Making.{HasForm, HasTurnForm}
use Rattle.published_market.specs.Turns.{IsPublishedTurn}

-- what holds of each member holds of all
all_has : (P : ℕ → Type 0) (ss : List ℕ) → ((s : ℕ) → has ss s ≡ true → P s) → All P ss
all_has P [] each = All-nil P
all_has P (s ∷ ss) each = All-cons P s ss (each s (has-here s ss)) (all_has P ss (λ t is. each t (has-there s ss t is)))

of_sections : (n : ℕ) (sections : List (List ℕ)) (bundle tree : List ℕ) → n ≡ length sections → HasForm bundle tree → ((s : ℕ) → has bundle s ≡ true → s < n)
    → IsBundleOf sections bundle
of_sections n sections bundle tree same form below = record {
  is_bundle = form.is_bundle;
  of_catalog = all_has (λ s. s < length sections) bundle (λ s is. let low : s < n = below s is in omega arith);
}

proved_form : (n : ℕ) (sections : List (List ℕ)) (price : ℕ → ℕ) (student : Student) (proved : Proved) → n ≡ length sections
    → IsProvedDemand n price student proved → HasForm proved.bundle proved.tree → IsProved sections proved
proved_form n sections price student proved same is form = record {
  bundle =
      of_sections n sections proved.bundle proved.tree same form
      (λ s in_it. let test : nat_lt s n ≡ true = is.best.choice.within s in_it in grind (arith, nat_tests));
  tree = form.bytes;
}

-- the bundles of the second stage are in range
pub bundles_in_range : (n : ℕ) (sections : List (List ℕ)) (price : ℕ → ℕ) (students : List Student) (bundles : List Proved) → n ≡ length sections
    → AllZip (IsProvedDemand n price) students bundles → All (λ (proved : Proved). HasForm proved.bundle proved.tree) bundles
    → All (IsProved sections) bundles
bundles_in_range n sections price [] [] same are forms = All-nil (IsProved sections)
bundles_in_range n sections price (student ∷ students) (proved ∷ bundles) same are forms =
    All-cons (IsProved sections) proved bundles
    (proved_form n sections price student proved same are.0 (All-head (λ (one : Proved). HasForm one.bundle one.tree) proved bundles forms))
    (bundles_in_range n sections price students bundles same are.1 (All-tail (λ (one : Proved). HasForm one.bundle one.tree) proved bundles forms))
bundles_in_range n sections price [] (proved ∷ bundles) same are forms = absurd are
bundles_in_range n sections price (student ∷ students) [] same are forms = absurd are

-- a section of these places
section_below : (n : ℕ) (places : List Rated) (s : ℕ) → All (λ (rated : Rated). rated.section.0 < n) places
    → has (map (λ (rated : Rated). rated.section.0) places) s ≡ true → s < n
section_below n [] s low is = cc
section_below n (rated ∷ places) s low is = elim (nat_eq rated.section.0 s) as (λ b. nat_eq rated.section.0 s ≡ b → (b || has (map (λ (r : Rated). r.section.0) places) s) ≡ true → s < n) [
  | true ↦ λ e h. let first : rated.section.0 < n = All-head (λ (r : Rated). r.section.0 < n) rated places low in grind (arith, nat_tests)
  | false ↦ λ e h. section_below n places s (All-tail (λ (r : Rated). r.section.0 < n) rated places low) h
] refl is

rated_below : (n : ℕ) (menu : MenuData) (bundle : List ℕ) → IsWithin n menu → AllRated (wishes_of menu) bundle → (s : ℕ) → has bundle s ≡ true → s < n
rated_below n menu bundle within rated s is = section_below n menu.places s within (among_sections menu bundle rated s is)

-- the turn of a student with a menu within the sections is in range
turn_form : (crowd : CrowdData) (prices : List Tokens) (raise : ℕ) (students sections : List (List ℕ)) (turn : TurnData) (proved : ProvedTurn) → IsCrowd crowd
    → length crowd.students ≡ length students → crowd.sections ≡ length sections
    → 1 ≤ turn.pass → IsPublishedTurn crowd prices raise turn proved → HasTurnForm proved → IsTurn students sections proved
turn_form crowd prices raise students sections turn proved known count same from is form =
    let inside : turn.student < length crowd.students = slice_get_within crowd.students turn.student is.who is.listed in
    let who : get_or crowd.students turn.student is.who ≡ is.who = get_or_from_slice_get crowd.students turn.student is.who is.who is.listed in
    let within : IsWithin crowd.sections is.who.menu =
    subst (λ (student : Student). IsWithin crowd.sections student.menu) who (known.menus turn.student is.who inside) in
    let pass : proved.pass ≡ turn.pass = is.pass in
    let student : proved.student ≡ turn.student = is.student in
    record {
      least = omega arith;
      most = form.pass;
      student = omega arith;
      bundle =
          of_sections crowd.sections sections proved.bundle proved.tree same form.form
          (rated_below crowd.sections is.who.menu proved.bundle within is.proved.best.choice.feasible.rated);
      tree = form.form.bytes;
    }

-- the turns are in range
pub turns_in_range : (crowd : CrowdData) (prices : List Tokens) (raise : ℕ) (students sections : List (List ℕ)) (turns : List TurnData)
    (published : List ProvedTurn)
    → IsCrowd crowd → length crowd.students ≡ length students → crowd.sections ≡ length sections
    → All (λ (turn : TurnData). 1 ≤ turn.pass) turns → AllZip (IsPublishedTurn crowd prices raise) turns published → All HasTurnForm published
    → All (IsTurn students sections) published
turns_in_range crowd prices raise students sections [] [] known count same from are forms = All-nil (IsTurn students sections)
turns_in_range crowd prices raise students sections (turn ∷ turns) (proved ∷ published) known count same from are forms =
    All-cons (IsTurn students sections) proved published
    (turn_form crowd prices raise students sections turn proved known count same (All-head (λ (one : TurnData). 1 ≤ one.pass) turn turns from) are.0
    (All-head HasTurnForm proved published forms))
    (turns_in_range crowd prices raise students sections turns published known count same (All-tail (λ (one : TurnData). 1 ≤ one.pass) turn turns from) are.1
    (All-tail HasTurnForm proved published forms))
turns_in_range crowd prices raise students sections [] (proved ∷ published) known count same from are forms = absurd are
turns_in_range crowd prices raise students sections (turn ∷ turns) [] known count same from are forms = absurd are

-- passes are numbered from 1
due_pass : (pass : ℕ) (turns : List TurnData) (order : List ℕ) → 1 ≤ pass
    → map {B = ℕ × ℕ} (λ (turn : TurnData). (turn.pass, turn.student)) turns ≡ map {B = ℕ × ℕ} (λ student. (pass, student)) order
    → All (λ (turn : TurnData). 1 ≤ turn.pass) turns
due_pass pass [] order from due = All-nil (λ (turn : TurnData). 1 ≤ turn.pass)
due_pass pass (turn ∷ turns) [] from due = cc
due_pass pass (turn ∷ turns) (student ∷ order) from due =
    let one : ℕ × ℕ = (turn.pass, turn.student) in
    let two : ℕ × ℕ = (pass, student) in
    let heads : one ≡ two = cc in
    let first : turn.pass ≡ pass = ap (λ (p : ℕ × ℕ). p.0) heads in
    let rest : map {B = ℕ × ℕ} (λ (one : TurnData). (one.pass, one.student)) turns ≡ map {B = ℕ × ℕ} (λ student. (pass, student)) order = cc in
    All-cons (λ (one : TurnData). 1 ≤ one.pass) turn turns (omega arith) (due_pass pass turns order from rest)

passes_from : (Wanted : List (List ℕ) → TurnData → Type 0) (crowd : CrowdData) (number : ℕ) (held : List (List ℕ)) (by_pass : List (List TurnData)) → 1 ≤ number
    → ArePasses Wanted crowd number held by_pass
    → All (λ (turn : TurnData). 1 ≤ turn.pass) (flat_map (λ pass. pass) by_pass)
passes_from Wanted crowd number held [] from are = All-nil (λ (turn : TurnData). 1 ≤ turn.pass)
passes_from Wanted crowd number held (turns ∷ later) from are =
    All-append (λ (turn : TurnData). 1 ≤ turn.pass) turns (flat_map (λ pass. pass) later)
    (due_pass number turns (after_order_of (map (λ (student : Student). student.budget) crowd.students)) from are.0.due)
    (passes_from Wanted crowd (number + 1) (after_turns held turns) later (omega arith) are.2)

pub made_from : (Wanted : List (List ℕ) → TurnData → Type 0) (crowd : CrowdData) (held : List (List ℕ)) (turns : List TurnData) (passes : ℕ)
    → IsMadeOf Wanted crowd held turns passes → All (λ (turn : TurnData). 1 ≤ turn.pass) turns
made_from Wanted crowd held turns passes is =
    subst (All (λ (turn : TurnData). 1 ≤ turn.pass)) is.joined (passes_from Wanted crowd 1 held is.by_pass (omega arith) is.whole)

-- what holds of all bundles and of each turn's holds of what is held after the turns
pub held_all : (P : List ℕ → Type 0) (held : List (List ℕ)) (turns : List ProvedTurn) → All P held → All (λ (turn : ProvedTurn). P turn.bundle) turns
    → All P (held_after held turns)
held_all P held [] are each = are
held_all P held (turn ∷ turns) are each =
    held_all P (slice_set held turn.student turn.bundle) turns
    (All-set P held turn.student turn.bundle (All-head (λ (one : ProvedTurn). P one.bundle) turn turns each) are)
    (All-tail (λ (one : ProvedTurn). P one.bundle) turn turns each)

-- all of a list of prices
pub prices_in_range : (crowd : CrowdData) (prices : List Tokens) → IsCrowd crowd → ArePricesFor crowd prices → AreSectionPrices crowd.sections prices
prices_in_range crowd prices known are = record {
  same = are.same;
  high = λ k d inside. let low : (get_or prices k d).0 ≤ top crowd = are.high k d inside in let high : top crowd ≤ 1000001 = top_high crowd known in omega arith;
}

pub amounts_in_range : (n : ℕ) (sections : List (List ℕ)) (prices : List Tokens) → n ≡ length sections → AreSectionPrices n prices
    → AreFor sections (λ price. price ≤ 1000001) (map (λ (price : Tokens). price.0) prices)
amounts_in_range n sections prices same are = record {
  count = length-map prices (λ (price : Tokens). price.0) ∙ are.same ∙ same;
  each = All-map (λ price. price ≤ 1000001) (λ (price : Tokens). price.0) prices are.high;
}

-- counts of sections that are within the seats
counts_low : (f : ℕ → ℕ) (first n : ℕ) (seats : List ℕ) → ((k : ℕ) → k < n → f (first + k) ≤ slice_index seats k) → All (λ count. count ≤ 9999) seats
    → length seats ≡ n → All IsUsed (zip (map f (places_from first n)) seats)
counts_low f first zero [] each low same = All-nil IsUsed
counts_low f first zero (seat ∷ seats) each low same = absurd (omega arith)
counts_low f first (suc n) [] each low same = absurd (omega arith)
counts_low f first (suc n) (seat ∷ seats) each low same =
    let here : first + 0 ≡ first = omega arith in
    let count : f first ≤ seat = subst (λ k. f k ≤ seat) here (each 0 (omega arith)) in
    let small : seat ≤ 9999 = All-head (λ one. one ≤ 9999) seat seats low in
    All-cons IsUsed (f first, seat) (zip (map f (places_from (suc first) n)) seats) (record { used = omega arith; all = small })
    (counts_low f (suc first) n seats
    (λ k inside. let there : first + suc k ≡ suc first + k = omega arith in subst (λ i. f i ≤ slice_index seats k) there (each (suc k) (omega arith)))
    (All-tail (λ one. one ≤ 9999) seat seats low) (omega arith))

zip_count : (f : ℕ → ℕ) (first n : ℕ) (seats : List ℕ) → length seats ≡ n → length (zip (map f (places_from first n)) seats) ≡ n
zip_count f first zero [] same = refl
zip_count f first zero (seat ∷ seats) same = absurd (omega arith)
zip_count f first (suc n) [] same = absurd (omega arith)
zip_count f first (suc n) (seat ∷ seats) same = ap suc (zip_count f (suc first) n seats (omega arith))

pub used_in_range : (n : ℕ) (sections : List (List ℕ)) (seats : List ℕ) (held : List (List ℕ)) → n ≡ length sections → length seats ≡ n
    → All (λ count. count ≤ 9999) seats → AreHeldWithin n seats held
    → AreFor sections IsUsed (zip (map (λ s. holders s held) (places_from 0 n)) seats)
used_in_range n sections seats held same count low within = record {
  count = zip_count (λ s. holders s held) 0 n seats count ∙ same;
  each =
      counts_low (λ s. holders s held) 0 n seats
      (λ k inside. let there : 0 + k ≡ k = omega arith in subst (λ i. holders i held ≤ slice_index seats k) (sym there) (within k inside)) low count;
}
