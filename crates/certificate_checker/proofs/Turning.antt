-- The turn at a place, and what is held before and after it.
use Rattle.std.proofs.Common.{ℕ, zero, suc, ◌≡◌, ◌≢◌, ◌<◌, ◌≤◌, ◌+◌, ◌*◌, ◌∙◌, Bool, true, false, cond, List, [], ◌∷◌, ◌++◌, Some, length, map, take, get_or, refl, ap, sym, subst, inl, inr, arith}
use Rattle.std.specs.Prelude.{All, slice_get, slice_index, slice_index_or, slice_set}
use Rattle.std.specs.List.{enumerate_from}
use Rattle.std.proofs.Math.Nat.{mul-le-mul_right}
use Rattle.std.proofs.lemmas.Bool.{cases_Bool}
use Rattle.std.proofs.lemmas.Bool.Decides.{eqb_tells}
use Rattle.std.proofs.lemmas.List.{length-map, get_or-map, get_or-set_other, get_or-set_same, length-set, take_all, take_more}
use Rattle.std.proofs.lemmas.List.Elements.{All-take}
use Rattle.std.proofs.lemmas.Option.{get_or_from_slice_get, slice_get-get_or}
use Rattle.market_units.specs.declared.units.StudentNo.{StudentNo}
use Rattle.market_units.specs.declared.units.Tokens.{Tokens}
use Rattle.bundle_bounds.specs.Offers.{OfferData}
use Rattle.bundle_rules.specs.Bundles.{sections_of}
use Rattle.bundle_rules.specs.declared.bundle.Bundle.{Bundle}
use Rattle.bundle_rules.specs.Menus.{MenuData}
use Rattle.market_units.specs.Members.{has}
use Rattle.budget_draw.specs.AfterOrder.{after_order_of, goes_before, ordered, placed}
use Rattle.budget_draw.specs.Budgets.{raised_by}
use Rattle.demand_api.specs.Crowds.{CrowdData, Student}
use Rattle.demand_api.specs.declared.crowd.Crowd.{Crowd}
use Rattle.demand_api.specs.Views.{data_of}
use Rattle.demand_api.proofs.Parts.{menus_few, students_length}
use Rattle.held_seats.specs.Floors.{AreBelow}
use Rattle.market_certificate.specs.declared.publication.ProvedTurn as declared_turn
use Rattle.market_certificate.specs.declared.publication.Publication as declared
use Rattle.market_certificate.specs.Publications.{IsTurn, ProvedTurn, Publication, Proved}
use Rattle.market_certificate.specs.Views.{proved_of, publication_of, turn_of}
use Rattle.published_parts.specs.Holdings.{demanded, held_after}
use Rattle.held_seats.specs.Choices.{may_choose}
use Rattle.certificate_checker.specs.declared.progress.Progress.{Progress}
use Rattle.certificate_checker.specs.declared.terms.Terms.{Terms}
use Rattle.certificate_checker.specs.Parts.{CanCheck, IsDueTurn, IsProgress, MadeChange, nameless}
use Rattle.published_parts.specs.Offers.{student_in}
use Rattle.certificate_checker.specs.Turns.{IsDue, held_before, order_in, turn_in, turn_offer}
use Rattle.certificate_checker.specs.Views.{terms_of}
use Rattle.certificate_checker.proofs.Progressing.{next_pass}
use Rattle.certificate_checker.proofs.Reading.{so_of_has, student_is, nameless_students, nameless_sections}
use Rattle.published_parts.proofs.HeldAfter.{length-held_after}

-- the printed turn at a place
pub turn_is : (publication : declared.Publication) (k : ℕ) (item : declared_turn.ProvedTurn) → k < length publication.turns.items
    → item ≡ get_or publication.turns.items k item → turn_in (publication_of publication) k ≡ turn_of item
turn_is publication k item low is = get_or-map turn_of publication.turns.items k item _ low ∙ ap turn_of (sym is)

-- what is offered at it, where these sections may be chosen
pub turn_offer_is : (crowd : Crowd) (seats : List ℕ) (raise k : ℕ) (publication : declared.Publication)
    (item : declared_turn.ProvedTurn) (m : MenuData) (b raised : Tokens) (allowed : ℕ → Bool)
    → item.student.0 < length crowd.menus.items → m ≡ get_or crowd.menus.items item.student.0 m → b ≡ get_or crowd.budgets.items item.student.0 b
    → turn_in (publication_of publication) k ≡ turn_of item → raised.0 ≡ raised_by raise b.0
    → ((s : ℕ) → allowed s ≡ may_choose seats (held_before (publication_of publication) k) item.student.0 s)
    → turn_offer (record { crowd = data_of crowd; seats = seats; raise = raise }) (publication_of publication) k
    ≡ record { menu = m; price = slice_index (map (λ (t : Tokens). t.0) publication.prices.items); budget = raised.0; allowed = allowed }
turn_offer_is crowd seats raise k publication item m b raised allowed low first second turn more told =
    let number : (turn_in (publication_of publication) k).student ≡ item.student.0 = ap (λ (t : ProvedTurn). t.student) turn in
    let student : student_in (data_of crowd) item.student.0 ≡ record { menu = m; budget = b.0 } =
    student_is crowd item.student.0 m b low first second in
    let offered : ℕ → Student → OfferData = λ n who. record {
      menu = who.menu;
      price = slice_index (map (λ (t : Tokens). t.0) publication.prices.items);
      budget = raised_by raise who.budget;
      allowed = may_choose seats (held_before (publication_of publication) k) n;
    } in
    ap (λ n. offered n (student_in (data_of crowd) n)) number ∙ ap (offered item.student.0) student
    ∙ (λ i. record { menu = m; price = slice_index (map (λ (t : Tokens). t.0) publication.prices.items); budget = sym more i; allowed = λ s. sym (told s) i })

-- the turn has the form of a turn
pub turn_form : (terms : Terms) (publication : declared.Publication) (k : ℕ) (item : declared_turn.ProvedTurn)
    (is : CanCheck terms (publication_of publication))
    → k < length publication.turns.items → item ≡ get_or publication.turns.items k item → IsTurn (nameless terms).students (nameless terms).sections (turn_of item)
turn_form terms publication k item is low read =
    let one : IsTurn (nameless terms).students (nameless terms).sections (get_or (map turn_of publication.turns.items) k (turn_of item)) =
    is.is_publication.turns k (turn_of item) (let long = length-map publication.turns.items turn_of in omega arith) in
    let same : get_or (map turn_of publication.turns.items) k (turn_of item) ≡ turn_of item =
    get_or-map turn_of publication.turns.items k item (turn_of item) low ∙ ap turn_of (sym read) in
    subst (IsTurn (nameless terms).students (nameless terms).sections) same one

-- its student is one of the crowd, and its sections are the catalogue's
pub turn_student : (terms : Terms) (publication : declared.Publication) (k : ℕ) (item : declared_turn.ProvedTurn) → CanCheck terms (publication_of publication)
    → k < length publication.turns.items → item ≡ get_or publication.turns.items k item → item.student.0 < length terms.crowd.menus.items
turn_student terms publication k item is low read = subst (λ n. item.student.0 < n) (nameless_students terms) (turn_form terms publication k item is low read).student

pub turn_below : (terms : Terms) (publication : declared.Publication) (k : ℕ) (item : declared_turn.ProvedTurn) → CanCheck terms (publication_of publication)
    → k < length publication.turns.items → item ≡ get_or publication.turns.items k item → All (λ s. s < terms.crowd.sections) (sections_of item.bundle)
turn_below terms publication k item is low read =
    λ j d inside. subst (λ n. get_or (sections_of item.bundle) j d < n) (nameless_sections terms)
    ((turn_form terms publication k item is low read).bundle.of_catalog j d inside)

-- one turn more
pub held_more : (held : List (List ℕ)) (turns : List ProvedTurn) (turn : ProvedTurn)
    → held_after held (turns ++ turn ∷ []) ≡ slice_set (held_after held turns) turn.student turn.bundle
held_more held [] turn = refl
held_more held (first ∷ turns) turn = held_more (slice_set held first.student first.bundle) turns turn

pub held_next : (p : Publication) (k : ℕ) → k < length p.turns → held_before p (k + 1) ≡ slice_set (held_before p k) (turn_in p k).student (turn_in p k).bundle
held_next p k low = ap (held_after (demanded p)) (take_more p.turns k _ low) ∙ held_more (demanded p) (take k p.turns) (turn_in p k)

-- what is held stays within the catalogue
set_below : (sections : ℕ) (held : List (List ℕ)) (i : ℕ) (bundle : List ℕ) → AreBelow sections held → ((s : ℕ) → has bundle s ≡ true → s < sections)
    → AreBelow sections (slice_set held i bundle)
set_below sections held i bundle are fits = λ j d low. elim (eqb_tells j i) [
  | inl same ↦
      let inside : i < length held = (let e : j ≡ i = same.1 in let long = length-set held i bundle in omega arith) in
      let there : get_or (slice_set held i bundle) j d ≡ bundle =
      ap (λ n. get_or (slice_set held i bundle) n d) same.1 ∙ get_or-set_same held i bundle d inside in
      subst (λ (b : List ℕ). (s : ℕ) → has b s ≡ true → s < sections) (sym there) fits
  | inr other ↦
      let there : get_or (slice_set held i bundle) j d ≡ get_or held j d = get_or-set_other held i j bundle d other.1 in
      subst (λ (b : List ℕ). (s : ℕ) → has b s ≡ true → s < sections) (sym there) (are j d (let long = length-set held i bundle in omega arith))
]

held_below : (sections : ℕ) (held : List (List ℕ)) (turns : List ProvedTurn) → AreBelow sections held
    → All (λ (turn : ProvedTurn). (s : ℕ) → has turn.bundle s ≡ true → s < sections) turns → AreBelow sections (held_after held turns)
held_below sections held [] are fit = are
held_below sections held (turn ∷ turns) are fit =
    held_below sections (slice_set held turn.student turn.bundle) turns (set_below sections held turn.student turn.bundle are (fit 0 turn (omega arith)))
    (λ k d low. fit (suc k) d (omega arith))

pub before_below : (terms : Terms) (publication : declared.Publication) (k : ℕ) → CanCheck terms (publication_of publication)
    → AreBelow terms.crowd.sections (held_before (publication_of publication) k)
before_below terms publication k is = held_below terms.crowd.sections (demanded (publication_of publication)) (take k (publication_of publication).turns) start
    (All-take (λ (turn : ProvedTurn). (s : ℕ) → has turn.bundle s ≡ true → s < terms.crowd.sections) k (publication_of publication).turns each)
  where
    start : AreBelow terms.crowd.sections (demanded (publication_of publication))
    start = λ j d low.
        let inside : j < length (publication_of publication).bundles =
        (let long = length-map (publication_of publication).bundles (λ (proved : Proved). proved.bundle) in omega arith) in
        let none : Proved = record { bundle = d; tree = [] } in
        let one = is.is_publication.bundles.each j none inside in
        let same : get_or (demanded (publication_of publication)) j d ≡ (get_or (publication_of publication).bundles j none).bundle =
        get_or-map (λ (proved : Proved). proved.bundle) (publication_of publication).bundles j none d inside in
        λ s is_in. subst (λ n. s < n) (nameless_sections terms)
        (so_of_has (λ t. t < length (nameless terms).sections) (get_or (publication_of publication).bundles j none).bundle one.bundle.of_catalog s
        (subst (λ (b : List ℕ). has b s ≡ true) same is_in))

    each : All (λ (turn : ProvedTurn). (s : ℕ) → has turn.bundle s ≡ true → s < terms.crowd.sections) (publication_of publication).turns
    each = λ j d low.
        let one = is.is_publication.turns j d low in
        λ s is_in. subst (λ n. s < n) (nameless_sections terms)
        (so_of_has (λ t. t < length (nameless terms).sections) (get_or (publication_of publication).turns j d).bundle one.bundle.of_catalog s is_in)

-- after any turns as many bundles are held as there are students
pub after_length : (terms : Terms) (publication : declared.Publication) (turns : List ProvedTurn) → CanCheck terms (publication_of publication)
    → length (held_after (demanded (publication_of publication)) turns) ≡ length terms.crowd.menus.items
after_length terms publication turns is =
    length-held_after (demanded (publication_of publication)) turns ∙ length-map (publication_of publication).bundles (λ (proved : Proved). proved.bundle)
    ∙ is.is_publication.bundles.count ∙ nameless_students terms

pub before_length : (terms : Terms) (publication : declared.Publication) (k : ℕ) → CanCheck terms (publication_of publication)
    → length (held_before (publication_of publication) k) ≡ length terms.crowd.menus.items
before_length terms publication k is = after_length terms publication (take k (publication_of publication).turns) is

-- after all turns that is held which is held behind the last
pub held_whole : (p : Publication) (k : ℕ) → length p.turns ≤ k → held_before p k ≡ held_after (demanded p) p.turns
held_whole p k past = ap (held_after (demanded p)) (take_all k p.turns past)

-- the bundles of the second stage, as they are read
pub stage_two_held : (publication : declared.Publication) (i : ℕ) (bundles lent : List Bundle) → lent ≡ bundles
    → map sections_of bundles ≡ map (λ (proved : Proved). proved.bundle) (map proved_of (take i publication.bundles.items))
    → length publication.bundles.items ≤ i → map sections_of lent ≡ demanded (publication_of publication)
stage_two_held publication i bundles lent same made all =
    ap (map sections_of) same ∙ made
    ∙ ap (λ items. map (λ (proved : Proved). proved.bundle) (map proved_of items)) (take_all i publication.bundles.items all)

-- the bundles of the second stage are within the catalogue
pub stage_two_fits : (terms : Terms) (publication : declared.Publication) (i : ℕ) (bundles lent : List Bundle) (seats : List ℕ)
    → CanCheck terms (publication_of publication) → seats ≡ terms.seats.items → lent ≡ bundles
    → map sections_of bundles ≡ map (λ (proved : Proved). proved.bundle) (map proved_of (take i publication.bundles.items))
    → length publication.bundles.items ≤ i → AreBelow (length seats) (map sections_of lent)
stage_two_fits terms publication i bundles lent seats is listed same made all =
    let whole : map sections_of lent ≡ demanded (publication_of publication) =
    stage_two_held publication i bundles lent same made all in
    let size : terms.crowd.sections ≡ length seats = sym is.seats ∙ ap length (sym listed) in
    subst {A = ℕ × List (List ℕ)} (λ both. AreBelow both.0 both.1) (λ j. (size j, sym whole j)) (before_below terms publication 0 is)

-- and as few as the students
pub stage_two_few : (terms : Terms) (publication : declared.Publication) (i : ℕ) (bundles lent : List Bundle)
    → CanCheck terms (publication_of publication) → lent ≡ bundles
    → map sections_of bundles ≡ map (λ (proved : Proved). proved.bundle) (map proved_of (take i publication.bundles.items))
    → length publication.bundles.items ≤ i → length lent ≤ 2000
stage_two_few terms publication i bundles lent is same made all =
    let whole : map sections_of lent ≡ demanded (publication_of publication) =
    stage_two_held publication i bundles lent same made all in
    let each : length (map sections_of lent) ≡ length terms.crowd.menus.items = ap length whole ∙ after_length terms publication [] is in
    omega (arith, length-map lent sections_of, each, menus_few terms.crowd)

-- the order has every student
placed_length : (one : ℕ × ℕ) (xs : List (ℕ × ℕ)) → length (placed one xs) ≡ length xs + 1
placed_length one [] = refl
placed_length one (other ∷ more) = elim (goes_before one other) as (λ b. length (cond b (one ∷ other ∷ more) (other ∷ placed one more)) ≡ length (other ∷ more) + 1) [
  | true ↦ omega arith
  | false ↦ let rest = placed_length one more in omega arith
]

ordered_length : (xs : List (ℕ × ℕ)) → length (ordered xs) ≡ length xs
ordered_length [] = refl
ordered_length (x ∷ xs) = let rest = ordered_length xs in let one = placed_length x (ordered xs) in omega arith

enumerated_length : (xs : List ℕ) (n : ℕ) → length (enumerate_from n xs) ≡ length xs
enumerated_length [] n = refl
enumerated_length (x ∷ xs) n = ap (λ k. suc k) (enumerated_length xs (n + 1))

pub order_length : (budgets : List ℕ) → length (after_order_of budgets) ≡ length budgets
order_length budgets =
    length-map (ordered (enumerate_from 0 budgets)) (λ (one : ℕ × ℕ). one.0) ∙ ordered_length (enumerate_from 0 budgets) ∙ enumerated_length budgets 0

-- the order is as long as there are students
pub order_is_long : (terms : Terms) (order : List StudentNo)
    → map (λ (student : StudentNo). student.0) order ≡ order_in (terms_of terms).crowd → length order ≡ length terms.crowd.menus.items
order_is_long terms order same =
    let students : List Student = (data_of terms.crowd).students in
    sym (length-map order (λ (student : StudentNo). student.0)) ∙ ap length same ∙ order_length (map (λ (student : Student). student.budget) students)
    ∙ length-map students (λ (student : Student). student.budget) ∙ students_length terms.crowd

-- a number has one pass and one place in it
same_pass : (n pass place other spot : ℕ) → place < n → spot < n → pass * n + place ≡ other * n + spot → ¬ (pass < other)
same_pass n pass place other spot low small same = λ below.
    let far : (pass + 1) * n ≤ other * n = mul-le-mul_right n (let h = below in omega arith) in
    let long : (pass + 1) * n ≡ pass * n + n = next_pass pass n in
    omega arith

pub one_place : (n pass place other spot : ℕ) → place < n → spot < n → pass * n + place ≡ other * n + spot → (pass ≡ other) × (place ≡ spot)
one_place n pass place other spot low small same =
    let first : ¬ (pass < other) = same_pass n pass place other spot low small same in
    let second : ¬ (other < pass) = same_pass n other spot pass place small low (sym same) in
    let pass_is : pass ≡ other = omega arith in
    let times : pass * n ≡ other * n = ap (λ k. k * n) pass_is in
    (pass_is, omega arith)

pub got_below : {A : Type 0} (xs : List A) (i : ℕ) (x : A) → slice_get xs i ≡ Some x → i < length xs
got_below [] i x is = absurd (cc is)
got_below (y ∷ ys) zero x is = omega arith
got_below (y ∷ ys) (suc i) x is = let rest = got_below ys i x is in omega arith

-- a turn with the pass and the student that come next is due
pub is_due_turn : (crowd : CrowdData) (p : Publication) (k : ℕ) (progress : Progress) → IsProgress (length crowd.students) p k progress
    → 0 < length crowd.students → IsDueTurn (order_in crowd) progress (turn_in p k) → IsDue crowd p k
is_due_turn crowd p k progress is some due = record {
  pass = progress.pass;
  place = progress.place;
  number = is.number;
  in_pass = due.pass;
  next = due.student;
  goes_on = is.goes_on some due.goes_on;
}

-- and no other is
pub no_due_turn : (crowd : CrowdData) (p : Publication) (k : ℕ) (progress : Progress) → IsProgress (length crowd.students) p k progress
    → 0 < length crowd.students → ¬ IsDueTurn (order_in crowd) progress (turn_in p k) → ¬ IsDue crowd p k
no_due_turn crowd p k progress is some other = λ due.
    let students : length (order_in crowd) ≡ length crowd.students =
    order_length (map (λ (student : Student). student.budget) crowd.students) ∙ length-map crowd.students (λ (student : Student). student.budget) in
    let spot : due.place < length (order_in crowd) = got_below (order_in crowd) due.place (turn_in p k).student due.next in
    let small : due.place < length crowd.students = omega arith in
    let same = one_place (length crowd.students) progress.pass progress.place due.pass due.place (is.in_pass some) small (sym is.number ∙ due.number) in
    other (record {
      goes_on = elim (cases_Bool progress.over) [ inl over ↦ absurd (due.goes_on (is.is_over over)) | inr on ↦ on ];
      pass = due.in_pass ∙ ap (λ n. n + 1) (sym same.0);
      student = subst (λ n. slice_get (order_in crowd) n ≡ Some (turn_in p k).student) (sym same.1) due.next;
    })

-- a turn that gave its student another bundle made a change
pub change_made : (p : Publication) (k : ℕ) (held : List (List ℕ)) (student : ℕ) (bundle : List ℕ) (moved : Bool) → held ≡ held_before p k
    → student ≡ (turn_in p k).student → bundle ≡ (turn_in p k).bundle → student < length held
    → (moved ≡ true → slice_get held student ≢ Some bundle) → (moved ≡ false → slice_get held student ≡ Some bundle) → MadeChange p k moved
change_made p k held student bundle moved before who what low gone stays =
    let is : slice_index_or held student [] ≡ slice_index_or (held_before p k) (turn_in p k).student [] = (λ i. slice_index_or (before i) (who i) []) in
    record {
      changed = λ e quiet. gone e (slice_get-get_or held student [] low ∙ ap Some (is ∙ quiet ∙ sym what));
      same = λ e. sym is ∙ get_or_from_slice_get held student bundle [] (stays e) ∙ what;
    }
