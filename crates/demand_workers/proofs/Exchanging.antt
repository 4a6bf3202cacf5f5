-- Remembered bundles of which single ones are exchanged for what was found, and their counts.
use Rattle.std.proofs.Common.{ℕ, ◌≡◌, ◌<◌, ◌≤◌, ◌+◌, ◌∙◌, true, List, [], length, map, slice_index_or, slice_set, refl, subst, sym, ap, arith, inl, inr}
use Rattle.std.specs.Arc.{arc_value}
use Rattle.std.proofs.lemmas.Bool.{cases_eq, cases_order}
use Rattle.std.proofs.lemmas.List.{get_or-set_same, get_or-set_other, length-set, map-id, take_all}
use Rattle.market_units.specs.declared.units.Tokens.{Tokens}
use Rattle.market_units.specs.Members.{has}
use Rattle.bundle_rules.specs.declared.bundle.Bundle.{Bundle}
use Rattle.bundle_rules.specs.Bundles.{sections_of}
use Rattle.bundle_rules.specs.Demand.{price_in}
use Rattle.demand_api.specs.Counting.{AreCounts, AreWithin, IsTally}
use Rattle.demand_api.specs.Crowds.{CrowdData, counts, demand_of, demands}
use Rattle.demand_api.proofs.Parts.{menus_few, students_length}
use Rattle.demand_api.proofs.Takers.{counts_done, demand_within, demands_length}
use Rattle.demand_workers.specs.declared.inquiry.Inquiries.{Inquiries}
use Rattle.price_board.specs.declared.round.Task.{Task}
use Rattle.demand_workers.specs.declared.remembered.Remembered.{Remembered}
use Rattle.price_board.specs.Tasks.{no_task}
use Rattle.demand_workers.specs.Found.{AreFound, tasks_of}
use Rattle.price_board.specs.Tasks.{with_raised}
use Rattle.demand_workers.specs.Remembered.{AreTaken}
use Rattle.demand_workers.specs.Rounds.{prices_of}
use Rattle.demand_workers.specs.Surveyed.{AreSurveyed, IsPart}
use Rattle.demand_workers.specs.Surveys.{AreOthersKept}
use Rattle.demand_workers.specs.Views.{AreRememberedCounts, crowd_of}
use Rattle.demand_workers.proofs.Counting.{maps_same}
use Rattle.demand_workers.proofs.Surveying.{AreWritten}

-- bundles that the students take are all demands, in file order
taken_demands : (remembered : Remembered) (prices : List Tokens) (bundles : List Bundle) → length bundles ≡ length (arc_value remembered.crowd).menus.items
    → AreTaken (crowd_of remembered) prices bundles → map sections_of bundles ≡ demands (crowd_of remembered) (price_in prices)
taken_demands remembered prices bundles all taken =
    maps_same sections_of (λ (b : List ℕ). b) bundles (demands (crowd_of remembered) (price_in prices)) []
    (all ∙ sym (demands_length (arc_value remembered.crowd) (price_in prices))) taken
    ∙ map-id (demands (crowd_of remembered) (price_in prices))

-- what is remembered is at most 2,000 bundles
pub remembered_few : (remembered : Remembered) → length remembered.bundles.items ≤ 2000
remembered_few remembered =
    let all : length remembered.bundles.items ≡ length (arc_value remembered.crowd).menus.items = remembered.each in
    let few : length (arc_value remembered.crowd).menus.items ≤ 2000 = menus_few (arc_value remembered.crowd) in
    omega (arith, all, few)

-- of sections of the crowd
pub remembered_within : (remembered : Remembered) → AreWithin (crowd_of remembered).sections (map sections_of remembered.bundles.items)
remembered_within remembered i s is =
    demand_within (crowd_of remembered) (price_in remembered.prices.items) i s
    (subst (λ (bs : List (List ℕ)). has (slice_index_or bs i []) s ≡ true)
    (taken_demands remembered remembered.prices.items remembered.bundles.items remembered.each remembered.taken) is)

-- the counts of bundles that the students take are the counts at the prices
pub counts_taken : (remembered : Remembered) (prices : List Tokens) (bundles : List Bundle) (found : List ℕ)
    → length bundles ≡ length (arc_value remembered.crowd).menus.items → AreTaken (crowd_of remembered) prices bundles
    → IsTally (crowd_of remembered).sections bundles found → found ≡ counts (crowd_of remembered) (price_in prices)
counts_taken remembered prices bundles found all taken tally =
    let whole : List (List ℕ) = demands (crowd_of remembered) (price_in prices) in
    let past : length (demands (crowd_of remembered) (price_in prices)) ≤ length (demands (crowd_of remembered) (price_in prices)) = omega arith in
    counts_done (crowd_of remembered) (price_in prices) (length whole) found past
    (subst (λ (bs : List (List ℕ)). AreCounts (crowd_of remembered).sections bs found)
    (taken_demands remembered prices bundles all taken ∙ sym (take_all (length whole) whole past))
    tally.counted)

module _ (crowd : CrowdData) (prices : List Tokens) (v n : ℕ) (inquiries : List Task) where
  -- before the part of the version nobody is asked there
  pub written_begin : (bundles : List Bundle) (m : ℕ) (part : ℕ × ℕ) → AreOthersKept crowd bundles prices v inquiries → n ≡ length bundles
      → m ≡ length inquiries → IsPart inquiries m v part → AreWritten crowd prices v n part.0 inquiries bundles
  written_begin bundles m part others size all stands s low left =
      others s (rw (← size) low) (λ k from inside same. left k (stands.all k (rw all inside) same).0 inside same)

  -- what was found for the inquiry at this place is written
  pub written_more : (place student : ℕ) (bundles : List Bundle) (other : Bundle) → AreWritten crowd prices v n place inquiries bundles
      → student < length bundles → (slice_index_or inquiries place no_task).student.0 ≡ student → sections_of other ≡ demand_of crowd (price_in prices) student
      → AreWritten crowd prices v n (place + 1) inquiries (slice_set bundles student other)
  written_more place student bundles other written inside at taken s low left d = elim (cases_eq s student) [
    | inl here ↦
        ap (λ j. sections_of (slice_index_or (slice_set bundles student other) j d)) here
        ∙ ap sections_of (get_or-set_same bundles student other d inside) ∙ taken ∙ ap (demand_of crowd (price_in prices)) (sym here)
    | inr apart ↦
        ap sections_of (get_or-set_other bundles student s other d apart)
        ∙ written s low
        (λ k from within same. elim (cases_order k place) [
          | inl here ↦ λ e. apart (sym e ∙ ap (λ j. (slice_index_or inquiries j no_task).student.0) here ∙ at)
          | inr (inl less) ↦ absurd (omega (arith, from, less))
          | inr (inr more) ↦ left k (let goal : place + 1 ≤ k = omega (arith, more) in goal) within same
        ]) d
  ]

  -- behind the part of the version all is written
  pub written_all : (place : ℕ) (bundles : List Bundle) (m : ℕ) (part : ℕ × ℕ) → AreWritten crowd prices v n place inquiries bundles → n ≡ length bundles
      → m ≡ length inquiries → IsPart inquiries m v part → part.1 ≤ place → AreTaken crowd prices bundles
  written_all place bundles m part written size all stands past student d low =
      written student (rw size low) (λ k from inside same.
      let before = (stands.all k (rw all inside) same).1 in
      absurd (omega (arith, past, from, before))) d

-- ---- the counts of a survey at one of its versions

-- the prices of a version
abbrev pub prices_then : Inquiries → ℕ → List Tokens
prices_then inquiries v = slice_index_or (prices_of (arc_value inquiries.round).versions.items) v []

-- what was found so far at the version is exchanged, and counted
pub record IsExchanged (inquiries : Inquiries) (v place : ℕ) (bundles : List Bundle) (counted : List ℕ) : Type 0 where
  pub len : length bundles ≡ length (arc_value inquiries.remembered).bundles.items
  pub written : AreWritten (crowd_of (arc_value inquiries.remembered)) (prices_then inquiries v) v (length bundles) place (tasks_of inquiries) bundles
  pub tally : IsTally (crowd_of (arc_value inquiries.remembered)).sections bundles counted

module _ (inquiries : Inquiries) (v : ℕ) (surveyed : AreSurveyed inquiries) where
  -- an asked student has a remembered bundle
  pub asked_low : (place student : ℕ) → place < length (tasks_of inquiries) → (slice_index_or (tasks_of inquiries) place no_task).student.0 ≡ student
      → student < length (arc_value inquiries.remembered).bundles.items
  asked_low place student low is =
      let remembered : Remembered = arc_value inquiries.remembered in
      let many : length (crowd_of remembered).students ≡ length remembered.bundles.items =
      students_length (arc_value remembered.crowd) ∙ sym remembered.each in
      subst (λ s. s < length remembered.bundles.items) is (rw (← many) (surveyed.asked place no_task low).student)

  -- what was found for who is asked at the version is what is taken there
  pub found_then : (place student : ℕ) (found : List Bundle) (other : Bundle) → AreFound inquiries found → place < length (tasks_of inquiries)
      → (slice_index_or (tasks_of inquiries) place no_task).version ≡ v
      → (slice_index_or (tasks_of inquiries) place no_task).student.0 ≡ student → other ≡ slice_index_or found place other
      → sections_of other ≡ demand_of (crowd_of (arc_value inquiries.remembered)) (price_in (prices_then inquiries v)) student
  found_then place student found other are low at is other_is =
      let crowd : CrowdData = crowd_of (arc_value inquiries.remembered) in
      let inquiry : Task = slice_index_or (tasks_of inquiries) place no_task in
      let each : length found ≡ length (tasks_of inquiries) = are.each in
      ap sections_of other_is ∙ are.right place other (rw each low)
      ∙ ap (λ r. demand_of crowd (price_in (with_raised r (prices_then inquiries inquiry.version))) inquiry.student.0) (surveyed.plain place no_task low)
      ∙ ap (λ w. demand_of crowd (price_in (prices_then inquiries w)) inquiry.student.0) at
      ∙ ap (demand_of crowd (price_in (prices_then inquiries v))) is

  -- it is of sections of the crowd
  pub found_within : (student : ℕ) (other : Bundle)
      → sections_of other ≡ demand_of (crowd_of (arc_value inquiries.remembered)) (price_in (prices_then inquiries v)) student
      → (s : ℕ) → has (sections_of other) s ≡ true → s < (crowd_of (arc_value inquiries.remembered)).sections
  found_within student other taken s is =
      demand_within (crowd_of (arc_value inquiries.remembered)) (price_in (prices_then inquiries v)) student s (ap (λ b. has b s) (sym taken) ∙ is)

  -- before the part of the version nothing has to be exchanged
  pub exchange_begins : (bundles : List Bundle) (counted base : List ℕ) (part : ℕ × ℕ) → v < length (arc_value inquiries.round).versions.items
      → IsPart (tasks_of inquiries) (length (tasks_of inquiries)) v part → bundles ≡ (arc_value inquiries.remembered).bundles.items → counted ≡ base
      → AreRememberedCounts (arc_value inquiries.remembered) base → IsExchanged inquiries v part.0 bundles counted
  exchange_begins bundles counted base part low stands copied same are =
      let remembered : Remembered = arc_value inquiries.remembered in
      subst (λ (b : List Bundle). IsExchanged inquiries v part.0 b counted) (sym copied)
      (subst (λ (n : List ℕ). IsExchanged inquiries v part.0 remembered.bundles.items n) (sym same)
      (record {
        len = refl;
        written =
            written_begin (crowd_of remembered) (prices_then inquiries v) v (length remembered.bundles.items) (tasks_of inquiries) remembered.bundles.items
            (length (tasks_of inquiries)) part (surveyed.others v low) refl refl stands;
        tally = record { few = remembered_few remembered; within = remembered_within remembered; counted = are };
      }))

  -- one exchange more
  pub exchange_more : (place student n : ℕ) (bundles lent new : List Bundle) (counted after : List ℕ) (other : Bundle) → IsExchanged inquiries v place bundles counted
      → lent ≡ bundles → student < length bundles → (slice_index_or (tasks_of inquiries) place no_task).student.0 ≡ student
      → sections_of other ≡ demand_of (crowd_of (arc_value inquiries.remembered)) (price_in (prices_then inquiries v)) student
      → new ≡ slice_set lent student other → n ≡ (crowd_of (arc_value inquiries.remembered)).sections → IsTally n new after
      → IsExchanged inquiries v (place + 1) new after
  exchange_more place student n bundles lent new counted after other was back inside is taken set all tally =
      let long : length new ≡ length bundles = ap length set ∙ length-set lent student other ∙ ap length back in
      record {
        len = long ∙ was.len;
        written =
            subst (λ (b : List Bundle).
            AreWritten (crowd_of (arc_value inquiries.remembered)) (prices_then inquiries v) v (length b) (place + 1) (tasks_of inquiries) b)
            (sym (set ∙ ap (λ (b : List Bundle). slice_set b student other) back))
            (rw (length-set bundles student other)
            (written_more (crowd_of (arc_value inquiries.remembered)) (prices_then inquiries v) v (length bundles) (tasks_of inquiries) place student bundles
            other was.written inside is taken));
        tally = subst (λ k. IsTally k new after) all tally;
      }

  -- behind the part of the version the counts are those at its prices
  pub exchange_done : (place : ℕ) (bundles : List Bundle) (counted : List ℕ) (part : ℕ × ℕ) → IsExchanged inquiries v place bundles counted
      → IsPart (tasks_of inquiries) (length (tasks_of inquiries)) v part → part.1 ≤ place
      → counted ≡ counts (crowd_of (arc_value inquiries.remembered)) (price_in (prices_then inquiries v))
  exchange_done place bundles counted part was stands past =
      let remembered : Remembered = arc_value inquiries.remembered in
      counts_taken remembered (prices_then inquiries v) bundles counted (was.len ∙ remembered.each)
      (written_all (crowd_of remembered) (prices_then inquiries v) v (length bundles) (tasks_of inquiries) place bundles (length (tasks_of inquiries)) part
      was.written refl refl stands past) was.tally
