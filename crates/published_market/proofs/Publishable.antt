-- What is published for inputs in order is a publication: the crowd is one in its ranges, bundles and trees have their form, and a pass has no
-- greater number than the text has bytes.
use Rattle.std.proofs.Common.{ℕ, suc, ◌≡◌, ◌<◌, ◌≤◌, ◌+◌, ◌*◌, ◌^◌, ◌∙◌, zero-add, All, List, [], ◌∷◌, length, map, get_or, refl, ap, sym, subst, arith}
use Rattle.std.specs.List.{AllZip, enumerate_from, flat_map, zip}
use Rattle.std.proofs.lemmas.List.{append-nil, get_or-map, length-append, length-map}
use Rattle.std.proofs.lemmas.List.Concat.{flat_map-cons}
use Rattle.std.proofs.lemmas.List.Elements.{All-append, All-cons, All-map}
use Rattle.std.proofs.lemmas.List.FromFn.{get_or-enumerate_from, length-enumerate_from}
use Rattle.std.proofs.lemmas.Option.{get_or_from_slice_get, slice_get_within}
use Rattle.std.proofs.lemmas.Slice.Zip.{AllZip-long}
use Rattle.market_units.proofs.Images.{unmapped}
use Rattle.market_units.specs.declared.units.Tokens.{Tokens}
use Rattle.seed_words.specs.Streams.{stream_words}
use Rattle.bundle_rules.specs.Demand.{price_in}
use Rattle.bundle_rules.specs.Menus.{IsMenu, MenuData, wishes_of}
use Rattle.bundle_rules.specs.Places.{places_from}
use Rattle.bundle_bounds.specs.Offers.{OfferData}
use Rattle.budget_draw.specs.AfterOrder.{after_order_of}
use Rattle.budget_draw.specs.Budgets.{amounts, budgets_of}
use Rattle.budget_draw.specs.Ranks.{rank_among}
use Rattle.budget_draw.proofs.BudgetFacts.{drawn_rank-lt, spread-le}
use Rattle.course_catalog.specs.Catalog.{IsCatalog}
use Rattle.course_catalog.specs.Sections.{Section}
use Rattle.student_roll.specs.Students.{IsListed, IsRoll, Student, no_student}
use Rattle.demand_api.specs.Crowds.{CrowdData, IsCrowd, IsWithin, Student as Asked, holders}
use Rattle.demand_api.proofs.Parts.{parts_within}
use Rattle.market_menus.specs.MenusOf.{AreMenusOf}
use Rattle.market_settings.specs.Settings.{AreInRange}
use Rattle.market_settings.specs.declared.reader.Settings.{Settings}
use Rattle.market_crowd.proofs.CrowdFacts.{crowd_is_whole, sections_known}
use Rattle.preference_desk.specs.StudentPreferences.{StudentPreferences}
use Rattle.preference_desk.specs.declared.entry.Entry.{Entry}
use Rattle.preference_desk.proofs.SectionLemmas.{closed_below}
use Rattle.proof_tree.proofs.Alphabet.{trees_have_tree_bytes}
use Rattle.aftermarket_stage.specs.Passes.{ArePasses, IsMadeOf, due_of}
use Rattle.aftermarket_stage.specs.Turns.{IsTurn, TurnData, after_turns}
use Rattle.aftermarket_stage.proofs.Passing.{stays_within_seats}
use Rattle.market_certificate.specs.Publications.{IsSession, Proved, ProvedTurn, Publication}
use Rattle.market_certificate.specs.Tables.{Tables}
use Rattle.market_certificate.specs.Texts.{lines_of, text_of, turn_line}
use Rattle.published_parts.specs.Crowds.{IsCrowdIn}
use Rattle.published_parts.specs.Holdings.{demanded, tokens}
use Rattle.published_parts.specs.Markets.{Market, names_in, seats_in, tables_in}
use Rattle.published_parts.specs.Journals.{wanted_in}
use Rattle.published_parts.specs.Offers.{IsProvedBest, IsProvedDemand}
use Rattle.published_parts.proofs.Asked.{crowd_count}
use Rattle.published_parts.proofs.Resting.{in_order}
use Rattle.published_market.specs.Laws.{PublishedIsPublication}
use Rattle.published_market.specs.Making.{HasForm, HasTurnForm}
use Rattle.published_market.specs.Publishing.{IsOutcome, Lengths, terms_at}
use Rattle.published_market.specs.Stages.{AreStages, StageData}
use Rattle.published_market.specs.Turns.{IsPublishedTurn}
use Rattle.published_market.proofs.Found.{found_prices}
use Rattle.published_market.proofs.Outcomes.{Tells}
use Rattle.published_market.proofs.PublicationRanges.{publication_in_range}
use Rattle.published_market.proofs.Sentences.{demanded_is, stage_two_within}
use Rattle.published_market.proofs.Settled.{settled_prices}
use Rattle.published_market.proofs.Turning.{same_held}
use Rattle.market_certificate.proofs.Joins.{lines_few}

-- a drawn budget
budget_low : (students : List Student) (version seed spread k : ℕ) → All (IsListed version) students → length students ≤ 2000 → spread ≤ 49
    → k < length students → get_or (budgets_of students seed spread) k 0 ≤ 997951
budget_low students version seed spread k each few low inside =
    let words : List ℕ = stream_words seed 0 (length students) in
    let budget : ℕ × Student → ℕ = λ numbered. numbered.1.base + numbered.1.carry + spread * rank_among words numbered.0 in
    let numbered : get_or (enumerate_from 0 students) k (0, no_student) ≡ (k, get_or students k no_student) =
    get_or-enumerate_from 0 students k (0, no_student) inside ∙ ap (λ (n : ℕ). (n, get_or students k no_student)) (zero-add k) in
    let count : k < length (enumerate_from 0 students) = omega (arith, length-enumerate_from 0 students) in
    let is : get_or (budgets_of students seed spread) k 0
    ≡ (get_or students k no_student).base + (get_or students k no_student).carry + spread * rank_among words k =
    get_or-map budget (enumerate_from 0 students) k (0, no_student) 0 count ∙ ap budget numbered in
    let rank = drawn_rank-lt words seed (length students) k refl inside few in
    let drawn = spread-le spread (rank_among words k) low rank in
    let own = (each k no_student inside).is_student.tokens in
    omega (arith, is, drawn, own)

as_tokens : List Asked → List Tokens
as_tokens students = map (λ (student : Asked). record { 0 = student.budget }) students

amounts_back : (students : List Asked) → amounts (as_tokens students) ≡ map (λ (student : Asked). student.budget) students
unfolding as_tokens
amounts_back [] = refl
amounts_back (student ∷ students) = ap (λ more. student.budget ∷ more) (amounts_back students)

-- the crowd of a market in order
pub crowd_known : (market : Market) (journal : List Entry) (crowd : CrowdData) → IsCatalog market.catalog → IsRoll market.roll → AreInRange market.settings
    → IsCrowdIn market journal crowd → IsCrowd crowd
unfolding as_tokens
crowd_known market journal crowd catalog roll settings is =
    let menus : List MenuData = map (λ (student : Asked). student.menu) crowd.students in
    let drawn : amounts (as_tokens crowd.students) ≡ budgets_of market.roll.students market.settings.seed market.settings.spread =
    amounts_back crowd.students ∙ is.budgets in
    let many : length crowd.students ≡ length market.roll.students = crowd_count market journal crowd is in
    let long : length (as_tokens crowd.students) ≡ length crowd.students = length-map crowd.students _ in
    let high : All (λ (one : Tokens). one.0 ≤ 997951) (as_tokens crowd.students) = (λ k d inside.
    let at : get_or (amounts (as_tokens crowd.students)) k 0 ≡ (get_or (as_tokens crowd.students) k d).0 =
    get_or-map (λ (one : Tokens). one.0) (as_tokens crowd.students) k d 0 inside in
    let same : get_or (amounts (as_tokens crowd.students)) k 0 ≡ get_or (budgets_of market.roll.students market.settings.seed market.settings.spread) k 0 =
    ap (λ (all : List ℕ). get_or all k 0) drawn in
    let low =
    budget_low market.roll.students market.roll.version market.settings.seed market.settings.spread k roll.each roll.few settings.spread_in_range
    (omega arith) in
    omega (arith, at, same, low)) in
    let below =
    sections_known (names_in market) market.catalog.sections market.roll.students (wanted_in market journal) refl (closed_below (names_in market) journal) in
    let whole =
    crowd_is_whole market.catalog market.roll (wanted_in market journal) menus (as_tokens crowd.students) market.settings.seed market.settings.spread is.menus
    drawn catalog roll below high in
    record {
      few = let few = roll.few in omega arith;
      budgets = λ k d inside.
          let at : get_or (map (λ (student : Asked). student.budget) crowd.students) k 0 ≡ (get_or crowd.students k d).budget =
          get_or-map (λ (student : Asked). student.budget) crowd.students k d 0 inside in
          let same = ap (λ (all : List ℕ). get_or all k 0) is.budgets in
          let low =
          budget_low market.roll.students market.roll.version market.settings.seed market.settings.spread k roll.each roll.few settings.spread_in_range
          (omega arith) in
          omega (arith, at, same, low);
      sections = let few = catalog.few in let same = is.sections in omega arith;
      menus =
          unmapped (IsWithin crowd.sections) (λ (student : Asked). student.menu) crowd.students
          (subst (λ n. All (IsWithin n) menus) (sym is.sections)
          (parts_within menus (as_tokens crowd.students) (length market.catalog.sections)
          (long ∙ sym (length-map crowd.students (λ (student : Asked). student.menu))) whole));
    }

-- each student has a menu in its limits
pub menus_limited : (catalog : List Section) (roll : List Student) (wanted : List StudentPreferences) (asked : List Asked)
    → AreMenusOf catalog roll wanted (map (λ (student : Asked). student.menu) asked) → All (λ (student : Asked). IsMenu student.menu) asked
menus_limited catalog [] [] [] are = λ k d low. absurd (omega arith)
menus_limited catalog (s ∷ roll) (w ∷ wanted) (a ∷ asked) are =
    All-cons (λ (student : Asked). IsMenu student.menu) a asked are.0.limits (menus_limited catalog roll wanted asked are.1)
menus_limited catalog [] [] (a ∷ asked) are = absurd are
menus_limited catalog [] (w ∷ wanted) asked are = absurd are
menus_limited catalog (s ∷ roll) [] asked are = absurd are
menus_limited catalog (s ∷ roll) (w ∷ wanted) [] are = absurd are

-- a best bundle with its tree has the form of one
form_of : (offer : OfferData) (bundle tree : List ℕ) → IsMenu offer.menu → IsProvedBest offer bundle tree → HasForm bundle tree
unfolding wishes_of
form_of offer bundle tree menu is =
    let feasible = is.best.choice.feasible in
    let cap = menu.caps.courses_cap in
    let courses : length bundle ≤ offer.menu.courses = feasible.courses in
    record { is_bundle = record { few = omega arith; ascending = feasible.set }; bytes = trees_have_tree_bytes offer bundle tree menu is.proved }

bundle_forms : (sections : ℕ) (price : ℕ → ℕ) (students : List Asked) (bundles : List Proved) → All (λ (student : Asked). IsMenu student.menu) students
    → AllZip (IsProvedDemand sections price) students bundles
    → All (λ (proved : Proved). HasForm proved.bundle proved.tree) bundles
bundle_forms sections price [] [] limited are = λ k d low. absurd (omega arith)
bundle_forms sections price (student ∷ students) (proved ∷ bundles) limited are =
    All-cons (λ (one : Proved). HasForm one.bundle one.tree) proved bundles (form_of _ proved.bundle proved.tree (limited 0 student (omega arith)) are.0)
    (bundle_forms sections price students bundles (λ k d low. limited (suc k) d (let h : suc k < suc (length students) = omega arith in h)) are.1)
bundle_forms sections price [] (proved ∷ bundles) limited are = absurd are
bundle_forms sections price (student ∷ students) [] limited are = absurd are

-- passes have numbers below the first number and as many as there are
number_low : (most pass : ℕ) (turns : List TurnData) (order : List ℕ) → pass ≤ most → map due_of turns ≡ map {B = ℕ × ℕ} (λ student. (pass, student)) order
    → All (λ (turn : TurnData). turn.pass ≤ most) turns
number_low most pass [] order low due = λ k d inside. absurd (omega arith)
number_low most pass (turn ∷ turns) [] low due = absurd (cc due)
number_low most pass (turn ∷ turns) (student ∷ order) low due =
    let head : due_of turn ≡ (pass, student) = cc due in
    let tail : map due_of turns ≡ map {B = ℕ × ℕ} (λ one. (pass, one)) order = cc due in
    let here : turn.pass ≡ pass = ap (λ (key : ℕ × ℕ). key.0) head in
    All-cons (λ (one : TurnData). one.pass ≤ most) turn turns (omega arith) (number_low most pass turns order low tail)

passes_low : (Wanted : List (List ℕ) → TurnData → Type 0) (crowd : CrowdData) (most number : ℕ) (held : List (List ℕ)) (passes : List (List TurnData))
    → number + length passes ≤ most + 1 → ArePasses Wanted crowd number held passes
    → All (λ (turn : TurnData). turn.pass ≤ most) (flat_map (λ pass. pass) passes)
passes_low Wanted crowd most number held [] low are = λ k d inside. absurd (omega arith)
passes_low Wanted crowd most number held (turns ∷ later) low are =
    subst (All (λ (turn : TurnData). turn.pass ≤ most)) (sym (flat_map-cons (λ (pass : List TurnData). pass) turns later))
    (All-append (λ (turn : TurnData). turn.pass ≤ most) turns (flat_map (λ pass. pass) later)
    (number_low most number turns (after_order_of (map (λ (student : Asked). student.budget) crowd.students)) (omega arith) are.0.due)
    (passes_low Wanted crowd most (number + 1) (after_turns held turns) later (omega arith) are.2))

-- where there are students there are no more passes than turns
passes_few : (Wanted : List (List ℕ) → TurnData → Type 0) (crowd : CrowdData) (number : ℕ) (held : List (List ℕ)) (passes : List (List TurnData))
    → 1 ≤ length (after_order_of (map (λ (student : Asked). student.budget) crowd.students)) → ArePasses Wanted crowd number held passes
    → length passes ≤ length (flat_map (λ pass. pass) passes)
passes_few Wanted crowd number held [] some are = omega arith
passes_few Wanted crowd number held (turns ∷ later) some are =
    let order : List ℕ = after_order_of (map (λ (student : Asked). student.budget) crowd.students) in
    let rest = passes_few Wanted crowd (number + 1) (after_turns held turns) later some are.2 in
    let size : length turns ≡ length order = sym (length-map turns due_of) ∙ ap (λ (all : List (ℕ × ℕ)). length all) are.0.due ∙ length-map order _ in
    let long : length (flat_map (λ pass. pass) (turns ∷ later)) ≡ length turns + length (flat_map (λ pass. pass) later) =
    ap (λ (all : List TurnData). length all) (flat_map-cons (λ (pass : List TurnData). pass) turns later)
    ∙ length-append turns (flat_map (λ pass. pass) later) in
    omega (arith, rest, size, long)

-- so a pass has no greater number than there are turns
turns_low : (Wanted : List (List ℕ) → TurnData → Type 0) (crowd : CrowdData) (start : List (List ℕ)) (turns : List TurnData) (passes : ℕ)
    → IsMadeOf Wanted crowd start turns passes → All (λ (turn : TurnData). turn.pass ≤ length turns) turns
turns_low Wanted crowd start turns passes is = by_students crowd.students refl
  where
    by_students : (students : List Asked) → crowd.students ≡ students → All (λ (turn : TurnData). turn.pass ≤ length turns) turns
    by_students [] e =
        let none : turns ≡ [] = sym is.joined ∙ ap (flat_map (λ (pass : List TurnData). pass)) (is.some.1 e) in
        λ k d inside. absurd (let zero_long = ap (λ (all : List TurnData). length all) none in omega arith)
    by_students (student ∷ students) e =
        let order : List ℕ = after_order_of (map (λ (one : Asked). one.budget) crowd.students) in
        let size : length (map (λ (one : Asked). one.budget) crowd.students) ≡ length crowd.students =
        length-map crowd.students (λ (one : Asked). one.budget) in
        let many : length crowd.students ≡ suc (length students) = ap (λ (all : List Asked). length all) e in
        let there = in_order (map (λ (one : Asked). one.budget) crowd.students) 0 (omega arith) in
        let some : 1 ≤ length order = (let low = there.1 in omega arith) in
        let few = passes_few Wanted crowd 1 start is.by_pass some is.whole in
        let all : length (flat_map (λ pass. pass) is.by_pass) ≡ length turns = ap (λ (ts : List TurnData). length ts) is.joined in
        subst (All (λ (turn : TurnData). turn.pass ≤ length turns)) is.joined (passes_low Wanted crowd (length turns) 1 start is.by_pass (omega arith) is.whole)

turns_short : (tables : Tables) (p : Publication) → length p.turns ≤ length (text_of tables p)
turns_short tables p =
    let all = lines_few (lines_of tables p) in
    let turns : length (map (turn_line tables.students tables.sections) p.turns) ≡ length p.turns =
    length-map p.turns (turn_line tables.students tables.sections) in
    let ahead : length (map (turn_line tables.students tables.sections) p.turns) ≤ length (lines_of tables p) = grind (arith, length-append) in
    omega (arith, all, turns, ahead)

turn_forms : (crowd : CrowdData) (prices : List Tokens) (raise most : ℕ) (turns : List TurnData) (published : List ProvedTurn) → most < 2 ^ 64
    → All (λ (student : Asked). IsMenu student.menu) crowd.students
    → All (λ (turn : TurnData). turn.pass ≤ most) turns → AllZip (IsPublishedTurn crowd prices raise) turns published → All HasTurnForm published
turn_forms crowd prices raise most [] [] low limited passes are = λ k d inside. absurd (omega arith)
turn_forms crowd prices raise most (turn ∷ turns) (proved ∷ published) low limited passes are =
    let inside : turn.student < length crowd.students = slice_get_within crowd.students turn.student are.0.who are.0.listed in
    let who : get_or crowd.students turn.student are.0.who ≡ are.0.who = get_or_from_slice_get crowd.students turn.student are.0.who are.0.who are.0.listed in
    let menu : IsMenu are.0.who.menu = subst (λ (student : Asked). IsMenu student.menu) who (limited turn.student are.0.who inside) in
    let pass : proved.pass ≡ turn.pass = are.0.pass in
    let number : turn.pass ≤ most = passes 0 turn (omega arith) in
    All-cons HasTurnForm proved published (record { form = form_of _ proved.bundle proved.tree menu are.0.proved; pass = omega arith })
    (turn_forms crowd prices raise most turns published low limited (λ k d few. passes (suc k) d (let h : suc k < suc (length turns) = omega arith in h)) are.1)
turn_forms crowd prices raise most [] (proved ∷ published) low limited passes are = absurd are
turn_forms crowd prices raise most (turn ∷ turns) [] low limited passes are = absurd are

-- the stages that an outcome tells
module _ (crowd : CrowdData) (seats : List ℕ) (settings : Settings) (lengths : Lengths) (p : Publication) (is : IsOutcome crowd seats settings lengths p)
    (known : IsCrowd crowd) (same : length seats ≡ crowd.sections) where
  abbrev stages : StageData
  stages = record {
    start = tokens p.start;
    error = p.error;
    prices = tokens p.prices;
    bundles = demanded p;
    turns = is.turns.turns;
    held = after_turns (demanded p) is.turns.turns;
    used = map (λ s. holders s (after_turns (demanded p) is.turns.turns)) (places_from 0 crowd.sections);
    lengths = lengths;
  }

  are_stages : AreStages crowd seats settings stages
  are_stages =
      let start = found_prices crowd seats settings (tokens p.start) p.error lengths.turns is.start in
      record {
        found = is.start;
        settled = is.prices;
        bundles = demanded_is crowd seats settings lengths p is;
        made = is.turns.made;
        held = refl;
        used = refl;
        within =
            stays_within_seats (terms_at crowd seats (tokens p.prices) settings.raise) (demanded p) is.turns.turns lengths.passes
            (stage_two_within crowd seats settings lengths p is) is.turns.made is.turns.turns [] (sym (append-nil is.turns.turns));
        start_are = start;
        prices_are = settled_prices crowd seats (tokens p.start) (tokens p.prices) lengths.rounds start is.prices;
      }

  tells : Tells crowd seats settings stages p
  tells =
      let held : p.allocation ≡ after_turns (demanded p) is.turns.turns =
      is.allocation ∙ same_held crowd (tokens p.prices) settings.raise (demanded p) is.turns.turns p.turns is.turns.published in
      record {
        budgets = is.budgets;
        start = refl;
        error = refl;
        prices = refl;
        bundles = is.bundles;
        turns = is.turns.published;
        allocation = held;
        used = is.used ∙ ap (λ (all : List (List ℕ)). zip (map (λ s. holders s all) (places_from 0 (length seats))) seats) held
            ∙ ap (λ n. zip (map (λ s. holders s (after_turns (demanded p) is.turns.turns)) (places_from 0 n)) seats) same;
      }

pub published_is_publication : PublishedIsPublication
published_is_publication market streams order p inputs is short =
    let made = is.publication in
    let crowd : CrowdData = made.crowd in
    let outcome = made.outcome in
    let known : IsCrowd crowd = crowd_known market is.journal crowd inputs.catalog inputs.roll inputs.settings made.is_crowd in
    let limited = menus_limited market.catalog.sections market.roll.students (wanted_in market is.journal) crowd.students made.is_crowd.menus in
    let seats : length (seats_in market) ≡ crowd.sections =
    length-map market.catalog.sections (λ (section : Section). section.seats) ∙ sym made.is_crowd.sections in
    let students : length crowd.students ≡ length (tables_in market).students =
    crowd_count market is.journal crowd made.is_crowd ∙ sym (length-map market.roll.students (λ (student : Student). student.name)) in
    let sections : crowd.sections ≡ length (tables_in market).sections =
    made.is_crowd.sections ∙ sym (length-map market.catalog.sections (λ (section : Section). section.name)) in
    let sessions : All IsSession p.order = subst (All IsSession) (sym made.order)
    (All-map IsSession (λ (entry : Entry). entry.session) is.journal
    (λ k d inside. record {
      least = (is.is_journal.merges.given k d inside).0;
      most = (let few = inputs.sessions in let given = (is.is_journal.merges.given k d inside).1 in omega arith);
    })) in
    let accepted : p.error ≤ 1000000000000 = (let found = outcome.start.accepted in let low = inputs.settings.accept_in_range in omega arith) in
    let turns : length outcome.turns.turns ≡ length p.turns =
    sym (AllZip-long (IsPublishedTurn crowd (tokens p.prices) market.settings.raise) outcome.turns.turns p.turns outcome.turns.published) in
    let few = turns_short (tables_in market) p in
    let passes =
    turns_low (IsTurn (terms_at crowd (seats_in market) (tokens p.prices) market.settings.raise)) crowd (demanded p) outcome.turns.turns is.lengths.passes
    outcome.turns.made in
    publication_in_range crowd (seats_in market) market.settings (stages crowd (seats_in market) market.settings is.lengths p outcome known seats) p
    (tables_in market) known seats students sections
    (are_stages crowd (seats_in market) market.settings is.lengths p outcome known seats) (tells crowd (seats_in market) market.settings is.lengths p outcome known seats) (record {
      order = sessions;
      error = omega arith;
      bundles = bundle_forms crowd.sections (price_in (tokens p.prices)) crowd.students p.bundles limited outcome.bundles;
      turns =
          turn_forms crowd (tokens p.prices) market.settings.raise (length outcome.turns.turns) outcome.turns.turns p.turns (omega arith) limited passes
          outcome.turns.published;
      low =
          All-map (λ count. count ≤ 9999) (λ (section : Section). section.seats) market.catalog.sections
          (λ k d inside. (inputs.catalog.each k d inside).is_section.few_seats);
    })
