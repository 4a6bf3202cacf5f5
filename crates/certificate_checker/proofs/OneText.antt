-- An accepted text is fixed by its order, its prices and its error.
use Rattle.std.proofs.Common.{ℕ, zero, suc, ◌≡◌, ◌<◌, ◌≤◌, ◌+◌, ◌*◌, ◌∙◌, add-one, List, [], ◌∷◌, ◌++◌, Some, length, map, take, get_or, refl, ap, sym, subst, arith}
use Rattle.std.specs.Prelude.{slice_get, slice_index, slice_index_or}
use Rattle.std.proofs.lemmas.List.{length-map, take_all, take_more}
use Rattle.budget_draw.specs.Budgets.{raised_by}
use Rattle.bundle_bounds.specs.Offers.{OfferData}
use Rattle.demand_api.specs.Crowds.{CrowdData, Student as Asked, holders}
use Rattle.market_certificate.specs.Publications.{Proved, ProvedTurn, Publication}
use Rattle.market_certificate.specs.Texts.{text_of}
use Rattle.utility_language.specs.declared.commands.Command.{Command}
use Rattle.published_parts.specs.Crowds.{IsCrowdAfter}
use Rattle.published_parts.specs.Holdings.{demanded, held_after}
use Rattle.held_seats.specs.Choices.{may_choose}
use Rattle.published_parts.specs.Markets.{Market, seats_in, tables_in}
use Rattle.published_parts.specs.Offers.{IsProvedBest, offer_to, student_in}
use Rattle.published_parts.proofs.OneBests.{one_best, one_proof}
use Rattle.published_parts.proofs.OneCrowds.{one_crowd_after}
use Rattle.certificate_checker.specs.Certificates.{IsAccepted}
use Rattle.certificate_checker.specs.Laws.{HaveSamePrices, OneTextForPrices}
use Rattle.certificate_checker.specs.Students.{offer_in, proved_in}
use Rattle.certificate_checker.specs.Terms.{terms_in}
use Rattle.certificate_checker.specs.Turns.{HasQuietPass, IsDue, IsQuietTurn, held_before, order_in, turn_in, turn_offer}
use Rattle.certificate_checker.proofs.Optimal.{allocated, best_at, best_in_stage_two, budgets_are_those, printed, sections, students}
use Rattle.certificate_checker.proofs.Progressing.{next_pass}
use Rattle.certificate_checker.proofs.Turning.{got_below, one_place, order_length}

-- lists with the same items are one
same_lists : {A : Type 0} (xs ys : List A) (d : A) → length xs ≡ length ys → ((k : ℕ) → k < length xs → get_or xs k d ≡ get_or ys k d) → xs ≡ ys
same_lists [] [] d long same = refl
same_lists [] (y ∷ ys) d long same = absurd (omega arith)
same_lists (x ∷ xs) [] d long same = absurd (omega arith)
same_lists (x ∷ xs) (y ∷ ys) d long same =
    let first : x ≡ y = same 0 (omega arith) in
    let rest : xs ≡ ys = same_lists xs ys d (omega arith) (λ k low. same (suc k) (omega arith)) in
    cc

-- two turns with the same parts are one
same_turn : (t u : ProvedTurn) → t.pass ≡ u.pass → t.student ≡ u.student → t.bundle ≡ u.bundle → t.tree ≡ u.tree → t ≡ u
same_turn t u pass student bundle tree = λ i. record { pass = pass i; student = student i; bundle = bundle i; tree = tree i }

-- two due turns at one place have one pass and one student
one_due : (crowd : CrowdData) (p q : Publication) (k : ℕ) → IsDue crowd p k → IsDue crowd q k
    → ((turn_in p k).pass ≡ (turn_in q k).pass) × ((turn_in p k).student ≡ (turn_in q k).student)
one_due crowd p q k is so =
    let long : length (order_in crowd) ≡ length crowd.students =
    order_length (map (λ (student : Asked). student.budget) crowd.students) ∙ length-map crowd.students (λ (student : Asked). student.budget) in
    let first : is.place < length (order_in crowd) = got_below (order_in crowd) is.place (turn_in p k).student is.next in
    let second : so.place < length (order_in crowd) = got_below (order_in crowd) so.place (turn_in q k).student so.next in
    let same = one_place (length crowd.students) is.pass is.place so.pass so.place (omega arith) (omega arith) (sym is.number ∙ so.number) in
    let pass : (turn_in p k).pass ≡ (turn_in q k).pass = is.in_pass ∙ ap (λ n. n + 1) same.0 ∙ sym so.in_pass in
    let listed : Some (turn_in p k).student ≡ Some (turn_in q k).student = sym is.next ∙ ap (slice_get (order_in crowd)) same.1 ∙ so.next in
    (pass, cc)

-- the front of a front, and an item of one
take_of_take : {A : Type 0} (j k : ℕ) (xs : List A) → j ≤ k → take j xs ≡ take j (take k xs)
take_of_take zero k xs low = refl
take_of_take (suc j) zero xs low = absurd (omega arith)
take_of_take (suc j) (suc k) [] low = refl
take_of_take (suc j) (suc k) (x ∷ xs) low = ap (λ rest. x ∷ rest) (take_of_take j k xs (omega arith))

get_of_take : {A : Type 0} (j k : ℕ) (xs : List A) (d : A) → j < k → get_or xs j d ≡ get_or (take k xs) j d
get_of_take j zero xs d low = absurd (omega arith)
get_of_take j (suc k) [] d low = refl
get_of_take zero (suc k) (x ∷ xs) d low = refl
get_of_take (suc j) (suc k) (x ∷ xs) d low = get_of_take j k xs d (omega arith)

-- where a turn is due there is a student
some_student : (crowd : CrowdData) (p : Publication) (k : ℕ) → IsDue crowd p k → 0 < length crowd.students
some_student crowd p k is =
    let long : length (order_in crowd) ≡ length crowd.students =
    order_length (map (λ (student : Asked). student.budget) crowd.students) ∙ length-map crowd.students (λ (student : Asked). student.budget) in
    let low : is.place < length (order_in crowd) = got_below (order_in crowd) is.place (turn_in p k).student is.next in
    omega arith

-- a pass that is quiet in turns is so in turns that begin alike
quiet_alike : (n : ℕ) (p q : Publication) (k : ℕ) → demanded p ≡ demanded q → take k p.turns ≡ take k q.turns → k ≤ length p.turns → k ≤ length q.turns
    → HasQuietPass n p k → HasQuietPass n q k
quiet_alike n p q k start same low high quiet = record {
  pass = quiet.pass;
  whole = quiet.whole;
  quiet = λ place small. each (quiet.pass * n + place) (let long = next_pass quiet.pass n in let whole = quiet.whole in omega arith) (quiet.quiet place small);
}
  where
    each : (j : ℕ) → j < k → IsQuietTurn p j → IsQuietTurn q j
    each j small is =
        let before : take j p.turns ≡ take j q.turns =
        take_of_take j k p.turns (omega arith) ∙ ap (take j) same ∙ sym (take_of_take j k q.turns (omega arith)) in
        let no_turn : ProvedTurn = record { pass = 0; student = 0; bundle = []; tree = [] } in
        let turn : turn_in p j ≡ turn_in q j =
        get_of_take j k p.turns no_turn small ∙ ap (λ turns. get_or turns j no_turn) same ∙ sym (get_of_take j k q.turns no_turn small) in
        let held : held_before p j ≡ held_before q j = (λ i. held_after (start i) (before i)) in
        (λ i. slice_index_or (sym held i) (sym turn i).student []) ∙ is ∙ ap (λ (t : ProvedTurn). t.bundle) turn

module _ (market : Market) (streams : List (List Command)) (one other : List ℕ) (a : IsAccepted market streams one) (b : IsAccepted market streams other)
    (alike : HaveSamePrices a.publication b.publication) where
  abbrev p : Publication
  p = a.publication

  abbrev q : Publication
  q = b.publication

  same_crowd : a.holds.crowd ≡ b.holds.crowd
  same_crowd =
      one_crowd_after market streams q.order a.holds.crowd b.holds.crowd
      (subst (λ order. IsCrowdAfter market streams order a.holds.crowd) alike.order a.holds.is_crowd) b.holds.is_crowd

  same_budgets : p.budgets ≡ q.budgets
  same_budgets =
      budgets_are_those market streams one a ∙ ap (λ (crowd : CrowdData). map (λ (student : Asked). student.budget) crowd.students) same_crowd
      ∙ sym (budgets_are_those market streams other b)

  same_offer : (k : ℕ) → offer_in a.holds.crowd p k ≡ offer_in b.holds.crowd q k
  same_offer k = λ i. offer_from (same_crowd i) (alike.prices i) k
    where
      offer_from : CrowdData → List ℕ → ℕ → OfferData
      offer_from crowd prices k =
          offer_in crowd (record { order = []; budgets = []; start = []; error = 0; prices = prices; bundles = []; turns = []; allocation = []; used = [] }) k

  same_proved : (k : ℕ) → k < length a.holds.crowd.students → proved_in p k ≡ proved_in q k
  same_proved k low =
      let size : length a.holds.crowd.students ≡ length b.holds.crowd.students = ap (λ (crowd : CrowdData). length crowd.students) same_crowd in
      let small : k < length b.holds.crowd.students = omega arith in
      let mine : IsProvedBest (offer_in b.holds.crowd q k) (proved_in p k).bundle (proved_in p k).tree =
      subst (λ offer. IsProvedBest offer (proved_in p k).bundle (proved_in p k).tree) (same_offer k)
      (record { best = best_in_stage_two market streams one a k low; proved = ((printed market streams one a).bundles k low).proved }) in
      let yours : IsProvedBest (offer_in b.holds.crowd q k) (proved_in q k).bundle (proved_in q k).tree =
      record { best = best_in_stage_two market streams other b k small; proved = ((printed market streams other b).bundles k small).proved } in
      let bundle : (proved_in p k).bundle ≡ (proved_in q k).bundle = one_best _ _ _ _ _ mine yours in
      let tree : (proved_in p k).tree ≡ (proved_in q k).tree = one_proof _ _ _ _ _ mine yours in
      λ i. record { bundle = bundle i; tree = tree i }

  same_bundles : p.bundles ≡ q.bundles
  same_bundles =
      let size = students market streams one a in
      same_lists p.bundles q.bundles (record { bundle = []; tree = [] }) (a.is_text.is_publication.bundles.count ∙ sym b.is_text.is_publication.bundles.count)
      (λ k low. same_proved k (let many = a.is_text.is_publication.bundles.count in omega arith))

  same_start : demanded p ≡ demanded q
  same_start = ap (map (λ (proved : Proved). proved.bundle)) same_bundles

  -- the turn at a place is one, where those before it are
  next_same : (k : ℕ) → k < length p.turns → k < length q.turns → take k p.turns ≡ take k q.turns → turn_in p k ≡ turn_in q k
  next_same k low small before =
      let held : held_before p k ≡ held_before q k = (λ i. held_after (same_start i) (before i)) in
      let right = (printed market streams one a).turns k low in
      let also = (printed market streams other b).turns k small in
      let due = one_due b.holds.crowd p q k (subst (λ (crowd : CrowdData). IsDue crowd p k) same_crowd right.due) also.due in
      let offer : turn_offer (terms_in market a.holds.crowd) p k ≡ turn_offer (terms_in market b.holds.crowd) q k =
      λ i. offer_behind (same_crowd i) (alike.prices i) (due.1 i) (held i) in
      let mine : IsProvedBest (turn_offer (terms_in market b.holds.crowd) q k) (turn_in p k).bundle (turn_in p k).tree =
      subst (λ o. IsProvedBest o (turn_in p k).bundle (turn_in p k).tree) offer
      (record { best = best_at market streams one a k low; proved = right.proved }) in
      let yours : IsProvedBest (turn_offer (terms_in market b.holds.crowd) q k) (turn_in q k).bundle (turn_in q k).tree =
      record { best = best_at market streams other b k small; proved = also.proved } in
      same_turn (turn_in p k) (turn_in q k) due.0 due.1 (one_best _ _ _ _ _ mine yours) (one_proof _ _ _ _ _ mine yours)
    where
      offer_behind : CrowdData → List ℕ → ℕ → List (List ℕ) → OfferData
      offer_behind crowd prices number held =
          let student : Asked = student_in crowd number in
          offer_to student (slice_index prices) (raised_by market.settings.raise student.budget) (may_choose (seats_in market) held number)

  fronts_same : (k : ℕ) → k ≤ length p.turns → k ≤ length q.turns → take k p.turns ≡ take k q.turns
  fronts_same zero low small = refl
  fronts_same (suc k) low small =
      let no_turn : ProvedTurn = record { pass = 0; student = 0; bundle = []; tree = [] } in
      let before : take k p.turns ≡ take k q.turns = fronts_same k (omega arith) (omega arith) in
      let turn : turn_in p k ≡ turn_in q k = next_same k (omega arith) (omega arith) before in
      ap (λ n. take n p.turns) (sym (add-one k)) ∙ take_more p.turns k no_turn (omega arith) ∙ (λ i. before i ++ turn i ∷ [])
      ∙ sym (take_more q.turns k no_turn (omega arith)) ∙ ap (λ n. take n q.turns) (add-one k)

  -- neither goes on behind the end of the other
  not_longer : ¬ (length p.turns < length q.turns)
  not_longer more =
      let size : length a.holds.crowd.students ≡ length b.holds.crowd.students = ap (λ (crowd : CrowdData). length crowd.students) same_crowd in
      let also = (printed market streams other b).turns (length p.turns) more in
      let some : 0 < length b.holds.crowd.students = some_student b.holds.crowd q (length p.turns) also.due in
      let quiet : HasQuietPass (length b.holds.crowd.students) p (length p.turns) =
      subst (λ n. HasQuietPass n p (length p.turns)) size ((printed market streams one a).quiet (omega arith)) in
      also.due.goes_on
      (quiet_alike (length b.holds.crowd.students) p q (length p.turns) same_start (fronts_same (length p.turns) (omega arith) (omega arith)) (omega arith)
      (omega arith) quiet)

  not_shorter : ¬ (length q.turns < length p.turns)
  not_shorter more =
      let size : length a.holds.crowd.students ≡ length b.holds.crowd.students = ap (λ (crowd : CrowdData). length crowd.students) same_crowd in
      let also = (printed market streams one a).turns (length q.turns) more in
      let some : 0 < length a.holds.crowd.students = some_student a.holds.crowd p (length q.turns) also.due in
      let quiet : HasQuietPass (length a.holds.crowd.students) q (length q.turns) =
      subst (λ n. HasQuietPass n q (length q.turns)) (sym size) ((printed market streams other b).quiet (omega arith)) in
      also.due.goes_on
      (quiet_alike (length a.holds.crowd.students) q p (length q.turns) (sym same_start) (sym (fronts_same (length q.turns) (omega arith) (omega arith)))
      (omega arith) (omega arith) quiet)

  same_turns : p.turns ≡ q.turns
  same_turns =
      let long : length p.turns ≡ length q.turns = (let first = not_longer in let second = not_shorter in omega arith) in
      sym (take_all (length p.turns) p.turns (omega arith)) ∙ fronts_same (length p.turns) (omega arith) (omega arith)
      ∙ take_all (length p.turns) q.turns (omega arith)

  same_allocation : p.allocation ≡ q.allocation
  same_allocation = allocated market streams one a ∙ (λ i. held_after (same_start i) (same_turns i)) ∙ sym (allocated market streams other b)

  same_used : p.used ≡ q.used
  same_used =
      let first = sections market streams one a in
      let second = sections market streams other b in
      let many = a.is_text.is_publication.used.count in
      same_lists p.used q.used (0, 0) (a.is_text.is_publication.used.count ∙ sym b.is_text.is_publication.used.count)
      (λ k low. (printed market streams one a).used k (omega arith) ∙ ap (λ bundles. (holders k bundles, slice_index (seats_in market) k)) same_allocation
      ∙ sym ((printed market streams other b).used k (omega arith)))

  same_publication : p ≡ q
  same_publication = λ i. record {
    order = alike.order i;
    budgets = same_budgets i;
    start = alike.start i;
    error = alike.error i;
    prices = alike.prices i;
    bundles = same_bundles i;
    turns = same_turns i;
    allocation = same_allocation i;
    used = same_used i;
  }

pub one_text : OneTextForPrices
one_text market streams one other a b alike =
    a.is_text.written ∙ ap (text_of (tables_in market)) (same_publication market streams one other a b alike) ∙ sym b.is_text.written
