-- What is accepted is optimal.
use Rattle.std.proofs.Common.{ℕ, zero, suc, ◌≡◌, ◌<◌, ◌≤◌, ◌+◌, ◌∙◌, Bool, true, add-one, List, [], ◌∷◌, ◌++◌, length, map, take, get_or, refl, ap, sym, subst, inl, inr, arith}
use Rattle.std.specs.Prelude.{None, nat_lt, slice_index, slice_index_or, slice_set, zip}
use Rattle.std.proofs.Math.Seq.{get_or-append_seam, take-append_seam}
use Rattle.std.proofs.lemmas.Bool.{cases_Bool, cases_lt, lt-ltb}
use Rattle.std.proofs.lemmas.Grind.{same_number_lists}
use Rattle.std.proofs.lemmas.List.{length-map, append-nil, get_or-map, same_lists, take_all}
use Rattle.std.proofs.lemmas.Option.{slice_get-get_or}
use Rattle.plain_facts.proofs.Numbers.{true_lt}
use Rattle.budget_draw.specs.AfterOrder.{after_order_of}
use Rattle.budget_draw.specs.Budgets.{raised_by}
use Rattle.bundle_bounds.specs.Offers.{OfferData}
use Rattle.bundle_rules.specs.Demand.{IsBest}
use Rattle.bundle_rules.specs.Menus.{IsMenu, wishes_of}
use Rattle.bundle_rules.specs.Places.{places_from}
use Rattle.market_units.specs.Members.{has}
use Rattle.bundle_rules.specs.Wishes.{Wishes}
use Rattle.bundle_rules.proofs.Agreements.{best_agrees}
use Rattle.course_catalog.specs.Sections.{Section}
use Rattle.student_roll.specs.Students.{Student}
use Rattle.demand_api.specs.Crowds.{CrowdData, Student as Asked, holders}
use Rattle.demand_api.proofs.Holders.{holders_set}
use Rattle.market_certificate.specs.Publications.{IsProved, Proved, ProvedTurn, Publication}
use Rattle.proof_tree.proofs.Complete.{trees_prove_the_best}
use Rattle.proof_tree.specs.Texts.{IsTreeText}
use Rattle.utility_language.specs.declared.commands.Command.{Command}
use Rattle.published_parts.specs.Allocations.{IsAllocation}
use Rattle.published_parts.specs.Holdings.{AreWithinSeats, demanded, held_after, used_of}
use Rattle.published_parts.specs.Passes.{ComeInPasses}
use Rattle.held_seats.specs.Choices.{may_choose}
use Rattle.published_parts.specs.Journals.{wishes_in}
use Rattle.published_parts.specs.Markets.{Market, seats_in, tables_in}
use Rattle.published_parts.specs.Offers.{all_sections, nobody, student_in}
use Rattle.published_parts.proofs.Asked.{menu_says}
use Rattle.published_parts.proofs.Passing.{come_in_passes}
use Rattle.published_parts.proofs.Resting.{is_allocation}
use Rattle.certificate_checker.specs.Certificates.{HoldsOf, IsAccepted}
use Rattle.certificate_checker.specs.Laws.{AcceptedIsOptimal}
use Rattle.certificate_checker.specs.Students.{IsAffordable, IsOffered, MayTake, offer_in, proved_in}
use Rattle.certificate_checker.specs.Terms.{terms_in}
use Rattle.certificate_checker.specs.Turns.{held_before, order_in, turn_in, turn_offer}
use Rattle.certificate_checker.proofs.Composing.{allocation_is, crowd_length}
use Rattle.certificate_checker.proofs.ByPass.{any_default, due_in_passes}
use Rattle.certificate_checker.proofs.Reading.{moved, so_of_has}
use Rattle.certificate_checker.proofs.Refusing.{menu_sound}
use Rattle.certificate_checker.proofs.Turning.{held_next, order_length}
use Rattle.published_parts.proofs.HeldAfter.{length-held_after}

-- what has a tree is the best of the offer
pub best_of_tree : (offer : OfferData) (bundle tree : List ℕ) → IsMenu offer.menu → IsAffordable offer bundle → MayTake offer bundle → IsOffered offer bundle
    → IsTreeText offer None bundle tree → IsBest (wishes_of offer.menu) offer.price offer.budget offer.allowed bundle
best_of_tree offer bundle tree menu affordable feasible offered text =
    (trees_prove_the_best offer bundle menu (record { feasible = feasible; affordable = affordable; within = offered })).0 (text.0, text.1)

-- the same bundle, budget and sections
best_moved : (wishes : Wishes) (price : ℕ → ℕ) (b c : ℕ) (allowed among : ℕ → Bool) (bundle same : List ℕ) → b ≡ c → allowed ≡ among → bundle ≡ same
    → IsBest wishes price b allowed bundle → IsBest wishes price c among same
best_moved wishes price b c allowed among bundle same budget sections alike is =
    subst (λ n. IsBest wishes price n among same) budget (subst (λ a. IsBest wishes price b a same) sections (subst (IsBest wishes price b allowed) alike is))

-- a turn to held and free sections keeps within the seats
within_set : (seats : List ℕ) (held : List (List ℕ)) (i : ℕ) (bundle : List ℕ) (s : ℕ) → i < length held → holders s held ≤ slice_index seats s
    → (has bundle s ≡ true → may_choose seats held i s ≡ true) → holders s (slice_set held i bundle) ≤ slice_index seats s
within_set seats held i bundle s low within offered =
    let before : List ℕ = slice_index_or held i [] in
    let counted = holders_set s held i before bundle (slice_get-get_or held i [] low) in
    elim (cases_Bool (has bundle s)) [
      | inl taken ↦ elim (cases_Bool (has before s)) [
        | inl had ↦ (let now = rw (had, taken) at counted in omega arith)
        | inr new ↦
            let free : nat_lt (holders s held) (slice_index seats s) ≡ true = rw new at (offered taken) in
            let room : holders s held < slice_index seats s = true_lt (holders s held) (slice_index seats s) free in
            (let now = rw (new, taken) at counted in omega arith)
      ]
      | inr left ↦ (let now = rw left at counted in omega arith)
    ]

-- of each section the count and the seats
pub used_at : (f : ℕ → ℕ) (first : ℕ) (seats : List ℕ) (k : ℕ) → k < length seats
    → slice_index_or (zip (map f (places_from first (length seats))) seats) k (0, 0) ≡ (f (first + k), slice_index seats k)
used_at f first [] k low = absurd (omega arith)
used_at f first (seat ∷ seats) zero low = let here : first ≡ first + 0 = omega arith in ap (λ s. (f s, seat)) here
used_at f first (seat ∷ seats) (suc k) low =
    let there : suc first + k ≡ first + suc k = omega arith in used_at f (suc first) seats k (omega arith) ∙ ap (λ s. (f s, slice_index seats k)) there

zip_long : (f : ℕ → ℕ) (first : ℕ) (seats : List ℕ) → length (zip (map f (places_from first (length seats))) seats) ≡ length seats
zip_long f first [] = refl
zip_long f first (seat ∷ seats) = ap suc (zip_long f (suc first) seats)

used_is : (seats : List ℕ) (bundles : List (List ℕ)) (used : List (ℕ × ℕ)) → length used ≡ length seats
    → ((k : ℕ) → k < length seats → slice_index_or used k (0, 0) ≡ (holders k bundles, slice_index seats k)) → used ≡ used_of seats bundles
used_is seats bundles used long each =
    let many = zip_long (λ s. holders s bundles) 0 seats in
    same_lists used (used_of seats bundles) (omega arith) (λ k d low.
    let inside : k < length seats = omega arith in
    let number : 0 + k ≡ k = omega arith in
    any_default used k d (0, 0) low ∙ each k inside ∙ sym (used_at (λ s. holders s bundles) 0 seats k inside ∙ ap (λ s. (holders s bundles, slice_index seats k)) number) ∙ sym (any_default (used_of seats bundles) k d (0, 0) (omega arith)))

module _ (market : Market) (streams : List (List Command)) (text : List ℕ) (accepted : IsAccepted market streams text) where
  abbrev p : Publication
  p = accepted.publication

  abbrev crowd : CrowdData
  crowd = accepted.holds.crowd

  pub printed : HoldsOf (terms_in market crowd) p
  printed = accepted.holds.printed

  pub count : length crowd.students ≡ length market.roll.students
  count = crowd_length market streams p.order crowd accepted.holds.is_crowd

  pub students : length (tables_in market).students ≡ length crowd.students
  students = length-map market.roll.students (λ (student : Student). student.name) ∙ sym count

  pub sections : length (tables_in market).sections ≡ crowd.sections
  sections = length-map market.catalog.sections (λ (section : Section). section.name) ∙ sym accepted.holds.is_crowd.is_crowd.sections

  pub sound : (k : ℕ) → IsMenu (student_in crowd k).menu
  sound k = menu_sound market streams p.order crowd k accepted.holds.is_crowd

  pub budgets_are_those : p.budgets ≡ map (λ (student : Asked). student.budget) crowd.students
  budgets_are_those =
      let long = length-map crowd.students (λ (student : Asked). student.budget) in
      let many = accepted.is_text.is_publication.budgets.count in
      let same = students in
      same_number_lists p.budgets (map (λ (student : Asked). student.budget) crowd.students) (omega arith)
      (λ k low. printed.budgets k (omega arith) ∙ sym (get_or-map (λ (student : Asked). student.budget) crowd.students k nobody 0 (omega arith)))

  pub offered_all : (k : ℕ) → k < length crowd.students → IsOffered (offer_in crowd p k) (proved_in p k).bundle
  offered_all k low =
      let many = accepted.is_text.is_publication.bundles.count in
      let same = students in
      let one : IsProved (tables_in market).sections (proved_in p k) = accepted.is_text.is_publication.bundles.each k _ (omega arith) in
      λ s is. lt-ltb s crowd.sections
      (subst (λ n. s < n) sections (so_of_has (λ t. t < length (tables_in market).sections) (proved_in p k).bundle one.bundle.of_catalog s is))

  pub best_in_stage_two : (k : ℕ) → k < length crowd.students
      → IsBest (wishes_of (offer_in crowd p k).menu) (offer_in crowd p k).price (offer_in crowd p k).budget (offer_in crowd p k).allowed (proved_in p k).bundle
  best_in_stage_two k low =
      let proved = printed.bundles k low in
      best_of_tree (offer_in crowd p k) (proved_in p k).bundle (proved_in p k).tree (sound k) proved.affordable proved.feasible (offered_all k low)
      proved.proved

  stage_two : (k : ℕ) → k < length market.roll.students
      → IsBest (wishes_in market accepted.holds.is_crowd.journal k) (slice_index p.prices) (slice_index p.budgets k)
      (all_sections (length market.catalog.sections)) (slice_index_or (demanded p) k [])
  stage_two k low =
      let same = count in
      let all = students in
      let inside : k < length crowd.students = omega arith in
      let many = accepted.is_text.is_publication.bundles.count in
      let bundle : get_or (demanded p) k [] ≡ (proved_in p k).bundle = get_or-map (λ (one : Proved). one.bundle) p.bundles k _ [] (omega arith) in
      best_moved (wishes_in market accepted.holds.is_crowd.journal k) (slice_index p.prices) (student_in crowd k).budget (slice_index p.budgets k)
      (all_sections crowd.sections) (all_sections (length market.catalog.sections)) (proved_in p k).bundle (slice_index_or (demanded p) k [])
      (sym (printed.budgets k inside)) (ap all_sections accepted.holds.is_crowd.is_crowd.sections) (sym bundle)
      (best_agrees (wishes_of (student_in crowd k).menu) (wishes_in market accepted.holds.is_crowd.journal k) (menu_says market accepted.holds.is_crowd.journal crowd k accepted.holds.is_crowd.is_crowd low) (slice_index p.prices) (student_in crowd k).budget (all_sections crowd.sections) (proved_in p k).bundle
      (best_in_stage_two k inside))

  pub turn_listed : (k : ℕ) → k < length p.turns → (turn_in p k).student < length crowd.students
  turn_listed k low = subst (λ n. (turn_in p k).student < n) students (accepted.is_text.is_publication.turns k _ low).student

  pub best_at : (k : ℕ) → k < length p.turns
      → IsBest (wishes_of (turn_offer (terms_in market crowd) p k).menu) (turn_offer (terms_in market crowd) p k).price
      (turn_offer (terms_in market crowd) p k).budget (turn_offer (terms_in market crowd) p k).allowed (turn_in p k).bundle
  best_at k low =
      let right = printed.turns k low in
      best_of_tree (turn_offer (terms_in market crowd) p k) (turn_in p k).bundle (turn_in p k).tree (sound (turn_in p k).student) right.affordable
      right.feasible right.offered right.proved

  -- what is said of a turn behind others
  abbrev IsBestBehind : ProvedTurn → List ProvedTurn → Type 0
  IsBestBehind turn earlier =
      IsBest (wishes_in market accepted.holds.is_crowd.journal turn.student) (slice_index p.prices)
      (raised_by market.settings.raise (slice_index p.budgets turn.student)) (may_choose (seats_in market) (held_after (demanded p) earlier) turn.student)
      turn.bundle

  at_place : (k : ℕ) → k < length p.turns → IsBestBehind (turn_in p k) (take k p.turns)
  at_place k low =
      let who : (turn_in p k).student < length crowd.students = turn_listed k low in
      let same = count in
      best_moved (wishes_in market accepted.holds.is_crowd.journal (turn_in p k).student) (slice_index p.prices)
      (raised_by market.settings.raise (student_in crowd (turn_in p k).student).budget)
      (raised_by market.settings.raise (slice_index p.budgets (turn_in p k).student))
      (may_choose (seats_in market) (held_before p k) (turn_in p k).student) (may_choose (seats_in market) (held_before p k) (turn_in p k).student)
      (turn_in p k).bundle (turn_in p k).bundle (ap (raised_by market.settings.raise) (sym (printed.budgets (turn_in p k).student who))) refl refl
      (best_agrees (wishes_of (student_in crowd (turn_in p k).student).menu) (wishes_in market accepted.holds.is_crowd.journal (turn_in p k).student) (menu_says market accepted.holds.is_crowd.journal crowd (turn_in p k).student accepted.holds.is_crowd.is_crowd (omega arith))
      (slice_index p.prices) (raised_by market.settings.raise (student_in crowd (turn_in p k).student).budget) (may_choose (seats_in market) (held_before p k) (turn_in p k).student) (turn_in p k).bundle (best_at k low))

  at_turn : (earlier later : List ProvedTurn) (turn : ProvedTurn) → p.turns ≡ earlier ++ turn ∷ later → IsBestBehind turn earlier
  at_turn earlier later turn split =
      let no_turn : ProvedTurn = record { pass = 0; student = 0; bundle = []; tree = [] } in
      let long = simp_length earlier later turn in
      let whole : length p.turns ≡ length (earlier ++ turn ∷ later) = ap length split in
      let low : length earlier < length p.turns = omega arith in
      let this : turn_in p (length earlier) ≡ turn =
      ap (λ all. slice_index_or all (length earlier) no_turn) split ∙ get_or-append_seam earlier turn later no_turn in
      let front : take (length earlier) p.turns ≡ earlier = ap (take (length earlier)) split ∙ take-append_seam earlier (turn ∷ later) in
      moved IsBestBehind (turn_in p (length earlier)) turn (take (length earlier) p.turns) earlier this front (at_place (length earlier) low)
    where
      simp_length : (xs ys : List ProvedTurn) (x : ProvedTurn) → length (xs ++ x ∷ ys) ≡ length xs + suc (length ys)
      simp_length [] ys x = omega arith
      simp_length (y ∷ xs) ys x = let rest = simp_length xs ys x in omega arith

  -- the turns come in passes; without students there is no turn, and no pass
  by_pass : ComeInPasses (order_in crowd) (demanded p) p.turns
  by_pass = elim (cases_lt 0 (length crowd.students)) [
    | inl some ↦ due_in_passes crowd p some (λ k low. (printed.turns k low).due) (printed.quiet some)
    | inr none ↦
        let no_order : order_in crowd ≡ [] =
        none_of (order_in crowd)
        (let n = order_length (map (λ (student : Asked). student.budget) crowd.students) in let m = length-map crowd.students (λ (student : Asked). student.budget) in let h = none in omega arith) in
        let no_turns : p.turns ≡ [] = none_of p.turns (elim (cases_lt 0 (length p.turns)) [
          | inl one ↦ absurd (let low : (turn_in p 0).student < length crowd.students = turn_listed 0 one in let h = none in omega arith)
          | inr not ↦ let h = not in omega arith
        ]) in
        come_in_passes (order_in crowd) (demanded p) p.turns [] (sym no_turns) (λ e. no_order, λ e. refl) tt
  ]
    where
      none_of : {A : Type 0} (xs : List A) → length xs ≡ 0 → xs ≡ []
      none_of [] long = refl
      none_of (x ∷ xs) long = absurd (omega arith)

  -- no section is above its seats, after so many turns
  within : (k : ℕ) → AreWithinSeats market (held_before p k)
  within zero = λ s low. printed.seats s (let same = accepted.holds.is_crowd.is_crowd.sections in omega arith)
  within (suc k) = λ s low. elim (cases_lt k (length p.turns)) [
    | inl more ↦
        let next : held_before p (suc k) ≡ slice_set (held_before p k) (turn_in p k).student (turn_in p k).bundle =
        ap (held_before p) (sym (add-one k)) ∙ held_next p k more in
        let who : (turn_in p k).student < length crowd.students = turn_listed k more in
        let size : length (held_before p k) ≡ length (demanded p) = length-held_after (demanded p) (take k p.turns) in
        let bundles = length-map p.bundles (λ (one : Proved). one.bundle) in
        let many = accepted.is_text.is_publication.bundles.count in
        let same = students in
        subst (λ held. holders s held ≤ slice_index (seats_in market) s) (sym next)
        (within_set (seats_in market) (held_before p k) (turn_in p k).student (turn_in p k).bundle s (omega arith) (within k s low)
        ((printed.turns k more).offered s))
    | inr done ↦
        let all : take (suc k) p.turns ≡ take k p.turns =
        take_all (suc k) p.turns (let h = done in omega arith) ∙ sym (take_all k p.turns (let h = done in omega arith)) in
        subst (λ turns. holders s (held_after (demanded p) turns) ≤ slice_index (seats_in market) s) (sym all) (within k s low)
  ]

  after_turns : (earlier later : List ProvedTurn) → p.turns ≡ earlier ++ later → AreWithinSeats market (held_after (demanded p) earlier)
  after_turns earlier later split =
      let front : take (length earlier) p.turns ≡ earlier = ap (take (length earlier)) split ∙ take-append_seam earlier later in
      subst (λ turns. AreWithinSeats market (held_after (demanded p) turns)) front (within (length earlier))

  pub allocated : p.allocation ≡ held_after (demanded p) p.turns
  allocated =
      let many = accepted.is_text.is_publication.allocation.count in
      let bundles = accepted.is_text.is_publication.bundles.count in
      let size = length-held_after (demanded p) p.turns in
      let mapped = length-map p.bundles (λ (one : Proved). one.bundle) in
      let same = students in
      allocation_is p (length crowd.students) (omega arith) (omega arith) printed.allocation

  -- the printed seats are those that the final bundles use
  used_are : p.used ≡ used_of (seats_in market) p.allocation
  used_are =
      let many = accepted.is_text.is_publication.used.count in
      let same = sections in
      let seats : length (seats_in market) ≡ crowd.sections =
      length-map market.catalog.sections (λ (section : Section). section.seats) ∙ sym accepted.holds.is_crowd.is_crowd.sections in
      used_is (seats_in market) p.allocation p.used (omega arith) (λ k low. printed.used k (omega arith))

  pub is_allocated : IsAllocation market accepted.holds.is_crowd.journal p
  is_allocated =
      let many : length p.budgets ≡ length market.roll.students = accepted.is_text.is_publication.budgets.count ∙ students ∙ count in
      is_allocation market accepted.holds.is_crowd.journal p many
      (subst (λ budgets. ComeInPasses (after_order_of budgets) (demanded p) p.turns) (sym budgets_are_those) by_pass) at_turn allocated used_are

pub accepted_is_optimal : AcceptedIsOptimal
accepted_is_optimal market streams text accepted = record {
  journal = accepted.holds.is_crowd.journal;
  is_journal = accepted.holds.is_crowd.is_journal;
  budgets = budgets_are_those market streams text accepted ∙ accepted.holds.is_crowd.is_crowd.budgets;
  stage_two = stage_two market streams text accepted;
  allocation = is_allocated market streams text accepted;
  seats_in_stage_two = within market streams text accepted 0;
  seats_after_turns = after_turns market streams text accepted;
  seats_in_the_end =
      subst (AreWithinSeats market) (sym (allocated market streams text accepted))
      (after_turns market streams text accepted accepted.publication.turns [] (sym (append-nil accepted.publication.turns)));
}
