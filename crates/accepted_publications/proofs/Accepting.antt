-- What is published is accepted.
use Rattle.std.proofs.Common.{ℕ, zero, suc, ◌≡◌, ◌<◌, ◌≤◌, ◌+◌, ◌-◌, ◌*◌, ◌∙◌, List, [], ◌∷◌, length, take, refl, ap, sym, subst, inl, inr, arith}
use Rattle.std.specs.Prelude.{Some, slice_get, slice_index, slice_index_or}
use Rattle.std.specs.List.{AllZip}
use Rattle.std.proofs.Math.Nat.{mul-le-mul_right, suc-mul}
use Rattle.std.proofs.lemmas.Bool.{cases_lt}
use Rattle.std.proofs.lemmas.List.{length-map}
use Rattle.std.proofs.lemmas.Option.{get_or_from_slice_get, slice_get-get_or, slice_get_within}
use Rattle.std.proofs.lemmas.Slice.Zip.{AllZip-long}
use Rattle.market_units.specs.declared.units.Tokens.{Tokens}
use Rattle.bundle_rules.specs.Demand.{price_in}
use Rattle.budget_draw.specs.Budgets.{raised_by}
use Rattle.demand_api.specs.Crowds.{CrowdData, Student, holders}
use Rattle.aftermarket_stage.specs.Turns.{IsQuiet, IsTurn, TurnData, after_turns}
use Rattle.market_certificate.specs.Publications.{Proved, Publication}
use Rattle.market_certificate.specs.Texts.{text_of}
use Rattle.market_settings.specs.declared.reader.Settings.{Settings}
use Rattle.utility_language.specs.declared.commands.Command.{Command}
use Rattle.published_parts.specs.Holdings.{demanded, tokens}
use Rattle.held_seats.specs.Choices.{may_choose}
use Rattle.published_parts.specs.Markets.{Market, names_in, seats_in, tables_in}
use Rattle.published_parts.specs.Journals.{IsJournalOf}
use Rattle.published_parts.specs.Offers.{IsProvedBest, IsProvedDemand, all_sections, nobody, offer_to, student_in}
use Rattle.published_parts.proofs.Asked.{budget_at, zip_at}
use Rattle.published_market.specs.Publishing.{IsOutcome, IsPublishedText, Lengths, terms_at}
use Rattle.published_market.specs.Turns.{IsPublishedTurn, no_turn, offer_at}
use Rattle.published_market.proofs.Prices.{price_in_tokens}
use Rattle.published_market.proofs.Publishable.{published_is_publication}
use Rattle.published_market.proofs.Sentences.{stage_two_within}
use Rattle.published_market.proofs.Turning.{same_held}
use Rattle.certificate_checker.specs.Certificates.{HoldsOf, IsAccepted, IsUseTold}
use Rattle.certificate_checker.specs.Firsts.{AllBelow}
use Rattle.certificate_checker.specs.Students.{IsProvedBundle, offer_in, proved_in}
use Rattle.certificate_checker.specs.Terms.{TermsData}
use Rattle.certificate_checker.specs.Turns.{EndsQuietly, HasQuietPass, IsDue, IsQuietTurn, IsRightTurn, held_before, order_in, turn_in, turn_offer}
use Rattle.certificate_checker.proofs.Progressing.{next_pass}
use Rattle.accepted_publications.specs.Laws.{CertificateOfPublished, PublishedIsAccepted}
use Rattle.accepted_publications.proofs.Passing.{ArePassesOf, IsAt, each_at, passes_of, turn_at}
use Rattle.certificate_checker.proofs.Optimal.{used_at}
use Rattle.published_parts.proofs.HeldAfter.{length-held_after}
use Rattle.aftermarket_stage.proofs.Passing.{made_each}

-- the pass and the place in it of a number below so many passes
pub record IsSplit (students passes k : ℕ) : Type 0 where
  pub pass : ℕ
  pub place : ℕ
  pub number : k ≡ pass * students + place
  pub inside : pass < passes
  pub low : place < students

split : (students passes k : ℕ) → k < passes * students → IsSplit students passes k
split students zero k low = absurd (omega arith)
split students (suc passes) k low = elim (cases_lt k students) [
  | inl first ↦ record { pass = 0; place = k; number = omega arith; inside = omega arith; low = first }
  | inr later ↦
      let one = suc-mul passes students in
      let rest = split students passes (k - students) (let h = later in omega arith) in
      let more = suc-mul rest.pass students in
      let number = rest.number in
      let inside = rest.inside in
      record { pass = suc rest.pass; place = rest.place; number = (let h = later in omega arith); inside = omega arith; low = rest.low }
]

-- the fronts of lists that go with each other do so too
zip_take : {A B : Type 0} (R : A → B → Type 0) (k : ℕ) (xs : List A) (ys : List B) → AllZip R xs ys → AllZip R (take k xs) (take k ys)
zip_take R zero xs ys are = tt
zip_take R (suc k) [] [] are = tt
zip_take R (suc k) (x ∷ xs) (y ∷ ys) are = (are.0, zip_take R k xs ys are.1)
zip_take R (suc k) [] (y ∷ ys) are = absurd are
zip_take R (suc k) (x ∷ xs) [] are = absurd are

module _ (crowd : CrowdData) (seats : List ℕ) (settings : Settings) (lengths : Lengths) (p : Publication) (is : IsOutcome crowd seats settings lengths p) where
  abbrev terms : TermsData
  terms = record { crowd = crowd; seats = seats; raise = settings.raise }

  abbrev students : ℕ
  students = length crowd.students

  abbrev turns : List TurnData
  turns = is.turns.turns

  abbrev prices : List Tokens
  prices = tokens p.prices

  bundles_long : length p.bundles ≡ students
  bundles_long = AllZip-long (IsProvedDemand crowd.sections (price_in prices)) crowd.students p.bundles is.bundles

  turns_long : length p.turns ≡ length turns
  turns_long = AllZip-long (IsPublishedTurn crowd prices settings.raise) turns p.turns is.turns.published

  -- the printed turn of a number, and the turn that was made
  published_at : (k : ℕ) → k < length p.turns → IsPublishedTurn crowd prices settings.raise (turn_at turns k) (turn_in p k)
  published_at k low = let long = turns_long in zip_at (IsPublishedTurn crowd prices settings.raise) turns p.turns k no_turn _ is.turns.published (omega arith)

  -- what is held before it
  held_at : (k : ℕ) → held_before p k ≡ after_turns (demanded p) (take k turns)
  held_at k =
      same_held crowd prices settings.raise (demanded p) (take k turns) (take k p.turns)
      (zip_take (IsPublishedTurn crowd prices settings.raise) k turns p.turns is.turns.published)

  is_turn : (k : ℕ) → k < length p.turns → IsTurn (terms_at crowd seats prices settings.raise) (held_before p k) (turn_at turns k)
  is_turn k low =
      let long = turns_long in
      subst (λ held. IsTurn (terms_at crowd seats prices settings.raise) held (turn_at turns k)) (sym (held_at k))
      (each_at (IsTurn (terms_at crowd seats prices settings.raise)) (demanded p) turns
      (made_each (IsTurn (terms_at crowd seats prices settings.raise)) crowd (demanded p) turns lengths.passes is.turns.made) k (omega arith))

  -- the passes
  passes : ArePassesOf (order_in crowd) students 1 (demanded p) turns (length is.turns.made.by_pass)
  passes = subst (λ all. ArePassesOf (order_in crowd) students 1 (demanded p) all (length is.turns.made.by_pass)) is.turns.made.joined
      (passes_of (IsTurn (terms_at crowd seats prices settings.raise)) crowd 1 (demanded p) is.turns.made.by_pass is.turns.made.whole)

  held_each : (k : ℕ) → length (held_before p k) ≡ students
  held_each k = length-held_after (demanded p) (take k p.turns) ∙ length-map p.bundles (λ (proved : Proved). proved.bundle) ∙ bundles_long

  -- a printed turn is without a change where the turn that was made is, and the other way round
  quiet_printed : (k : ℕ) → k < length p.turns → IsAt IsQuiet (demanded p) turns k → IsQuietTurn p k
  quiet_printed k low quiet =
      let one = published_at k low in
      let held : slice_get (held_before p k) (turn_in p k).student ≡ Some (turn_in p k).bundle =
      ap (λ all. slice_get all (turn_in p k).student) (held_at k) ∙ ap (slice_get (after_turns (demanded p) (take k turns))) one.student ∙ quiet
      ∙ ap Some (sym one.bundle) in
      get_or_from_slice_get (held_before p k) (turn_in p k).student (turn_in p k).bundle [] held

  quiet_made : (k : ℕ) → k < length p.turns → IsQuietTurn p k → IsAt IsQuiet (demanded p) turns k
  quiet_made k low quiet =
      let one = published_at k low in
      let inside : (turn_at turns k).student < students = slice_get_within crowd.students (turn_at turns k).student one.who one.listed in
      let long = held_each k in
      let place : (turn_in p k).student ≡ (turn_at turns k).student = one.student in
      let held : slice_get (held_before p k) (turn_in p k).student ≡ Some (turn_in p k).bundle =
      slice_get-get_or (held_before p k) (turn_in p k).student [] (omega arith) ∙ ap Some quiet in
      ap (λ all. slice_get all (turn_at turns k).student) (sym (held_at k)) ∙ ap (slice_get (held_before p k)) (sym one.student) ∙ held ∙ ap Some one.bundle

  -- before the last pass no pass is without a change
  goes_on : (k pass place : ℕ) → k < length p.turns → k ≡ pass * students + place → pass < length is.turns.made.by_pass → place < students
      → ¬ HasQuietPass students p k
  goes_on k pass place inside number few low quiet = elim (cases_lt quiet.pass pass) [
    | inl before ↦
        passes.changed quiet.pass (let h = before in omega arith)
        (λ spot small. quiet_made (quiet.pass * students + spot) (let whole = quiet.whole in let long = next_pass quiet.pass students in omega arith)
        (quiet.quiet spot small))
    | inr behind ↦
        let whole = quiet.whole in
        let far : pass * students ≤ quiet.pass * students = mul-le-mul_right students (let h = behind in omega arith) in
        let long = next_pass quiet.pass students in
        omega arith
  ]

  due_at : (k : ℕ) → k < length p.turns → IsDue crowd p k
  due_at k low =
      let long = turns_long in
      let all = passes.long in
      let at = split students (length is.turns.made.by_pass) k (omega arith) in
      let one = published_at k low in
      let in_pass : (turn_at turns k).pass ≡ 1 + at.pass =
      subst (λ n. (turn_at turns n).pass ≡ 1 + at.pass) (sym at.number) (passes.due at.pass at.place at.inside at.low).in_pass in
      let next : slice_get (order_in crowd) at.place ≡ Some (turn_at turns k).student =
      subst (λ n. slice_get (order_in crowd) at.place ≡ Some (turn_at turns n).student) (sym at.number) (passes.due at.pass at.place at.inside at.low).next in
      let pass : (turn_in p k).pass ≡ (turn_at turns k).pass = one.pass in
      record {
        pass = at.pass;
        place = at.place;
        number = at.number;
        in_pass = omega arith;
        next = next ∙ ap Some (sym one.student);
        goes_on = goes_on k at.pass at.place low at.number at.inside at.low;
      }

  -- what is offered at a turn is what it was made of
  offered_at : (k : ℕ) (low : k < length p.turns) → offer_at prices settings.raise (published_at k low).who (turn_at turns k) ≡ turn_offer terms p k
  offered_at k low =
      let one = published_at k low in
      let made = is_turn k low in
      let listed : slice_get crowd.students (turn_in p k).student ≡ Some one.who = ap (slice_get crowd.students) one.student ∙ one.listed in
      let who : student_in crowd (turn_in p k).student ≡ one.who = get_or_from_slice_get crowd.students (turn_in p k).student one.who nobody listed in
      let allowed : (turn_at turns k).allowed ≡ may_choose seats (held_before p k) (turn_in p k).student =
      made.choices ∙ ap (may_choose seats (held_before p k)) (sym one.student) in
      λ i. offer_to (sym who i) (price_in_tokens p.prices i) (raised_by settings.raise (sym who i).budget) (allowed i)

  right_at : (k : ℕ) → k < length p.turns → IsRightTurn terms p k
  right_at k low =
      let proved : IsProvedBest (turn_offer terms p k) (turn_in p k).bundle (turn_in p k).tree =
      subst (λ offer. IsProvedBest offer (turn_in p k).bundle (turn_in p k).tree) (offered_at k low) (published_at k low).proved in
      record {
        due = due_at k low;
        affordable = proved.best.choice.affordable;
        feasible = proved.best.choice.feasible;
        offered = proved.best.choice.within;
        proved = proved.proved;
      }

  bundle_at : (student : ℕ) → student < students → IsProvedBundle crowd p student
  bundle_at student low =
      let proved : IsProvedBest (offer_in crowd p student) (proved_in p student).bundle (proved_in p student).tree =
      subst
      (λ price. IsProvedBest (offer_to (student_in crowd student) price (student_in crowd student).budget (all_sections crowd.sections))
      (proved_in p student).bundle (proved_in p student).tree)
      (price_in_tokens p.prices)
      (zip_at (IsProvedDemand crowd.sections (price_in prices)) crowd.students p.bundles student nobody (record { bundle = []; tree = [] }) is.bundles low) in
      record { affordable = proved.best.choice.affordable; feasible = proved.best.choice.feasible; proved = proved.proved }

  -- the last pass is without a change
  ends : EndsQuietly crowd p
  ends some = elim (cases_lt 0 (length is.turns.made.by_pass)) [
    | inl one_more ↦
        let last : ℕ = length is.turns.made.by_pass - 1 in
        let number : last + 1 ≡ length is.turns.made.by_pass = (let h = one_more in omega arith) in
        let all = passes.long in
        let long = turns_long in
        let whole : (last + 1) * students ≡ length is.turns.made.by_pass * students = ap (λ n. n * students) number in
        let more = next_pass last students in
        record {
          pass = last;
          whole = omega arith;
          quiet = λ place low. quiet_printed (last * students + place) (omega arith) (passes.quiet last number place low);
        }
    | inr none ↦
        let no_pass : is.turns.made.by_pass ≡ [] = empty_of is.turns.made.by_pass (let h = none in omega arith) in
        let nobody_there : length crowd.students ≡ 0 = ap (λ (all : List Student). length all) (is.turns.made.some.0 no_pass) in
        absurd (omega arith)
  ]
    where
      empty_of : {A : Type 0} (xs : List A) → length xs ≡ 0 → xs ≡ []
      empty_of [] long = refl
      empty_of (x ∷ xs) long = absurd (omega arith)

  used : length seats ≡ crowd.sections → AllBelow crowd.sections (IsUseTold seats p)
  used same section low =
      ap (λ all. slice_index_or all section (0, 0)) is.used ∙ used_at (λ s. holders s p.allocation) 0 seats section (omega arith)
      ∙ ap (λ s. (holders s p.allocation, slice_index seats section)) none_before
    where
      none_before : 0 + section ≡ section
      none_before = omega arith

  pub outcome_holds : length seats ≡ crowd.sections → HoldsOf terms p
  outcome_holds same = record {
    budgets = λ student low. budget_at p.budgets crowd.students student is.budgets low;
    bundles = bundle_at;
    seats = stage_two_within crowd seats settings lengths p is;
    turns = right_at;
    quiet = ends;
    allocation = λ student low. ap (λ all. slice_index_or all student []) is.allocation;
    used = used same;
  }

pub certificate_holds : CertificateOfPublished
certificate_holds market streams order p is =
    let made = is.publication in
    let crowd : CrowdData = made.crowd in
    let seats : length (seats_in market) ≡ crowd.sections = length-map market.catalog.sections _ ∙ sym made.is_crowd.sections in
    let entries : order ≡ p.order = sym is.is_journal.sessions ∙ sym made.order in
    record {
      crowd = crowd;
      is_crowd =
          record {
            journal = is.journal;
            is_journal = subst (λ all. IsJournalOf (names_in market) streams all is.journal) entries is.is_journal;
            is_crowd = made.is_crowd;
          };
      printed = outcome_holds crowd (seats_in market) market.settings is.lengths p made.outcome seats;
    }

-- a published text is accepted
pub published_accepted : (market : Market) (streams : List (List Command)) (order text : List ℕ) → IsPublishedText market streams order text
    → IsAccepted market streams text
published_accepted market streams order text (p, is, ranges, written) = record {
  publication = p;
  is_text = record { is_publication = ranges; written = written };
  holds = certificate_holds market streams order p is;
}

-- so it is where the inputs are in order, and it is not too long
pub published_is_accepted : PublishedIsAccepted
published_is_accepted market streams order p inputs is short =
    published_accepted market streams order (text_of (tables_in market) p) (p, is, published_is_publication market streams order p inputs is short, refl)
