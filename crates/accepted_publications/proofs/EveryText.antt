-- A text is accepted, or has a first finding.
use Rattle.std.proofs.Common.{ℕ, ◌≡◌, ◌+◌, List, [], ◌∷◌, length, map, refl, ap}
use Rattle.std.specs.Prelude.{slice_index}
use Rattle.budget_draw.specs.Budgets.{amounts, budgets_of}
use Rattle.course_catalog.specs.Catalog.{IsCatalog}
use Rattle.demand_api.specs.Crowds.{CrowdData, holders}
use Rattle.demand_api.specs.Parts.{of_parts}
use Rattle.market_certificate.specs.Publications.{Publication}
use Rattle.market_crowd.proofs.CrowdFacts.{crowd_is_markets}
use Rattle.market_menus.specs.Limits.{EachHasAMenu}
use Rattle.market_units.specs.declared.units.SectionNo.{SectionNo}
use Rattle.market_units.specs.declared.units.StudentNo.{StudentNo}
use Rattle.market_units.specs.declared.units.Tokens.{Tokens}
use Rattle.preference_desk.specs.declared.entry.Entry.{Entry}
use Rattle.student_roll.specs.Students.{IsRoll}
use Rattle.utility_language.specs.declared.commands.Command.{Command}
use Rattle.published_market.proofs.Limited.{wanted_limited, wanted_long}
use Rattle.published_parts.specs.Crowds.{IsCrowdAfter, IsCrowdIn}
use Rattle.published_parts.specs.Holdings.{demanded}
use Rattle.published_parts.specs.Journals.{wanted_in}
use Rattle.published_parts.specs.Markets.{Market, names_in, tables_in}
use Rattle.certificate_checker.specs.declared.findings.Finding.{Finding}
use Rattle.certificate_checker.specs.declared.findings.Finding.TheVariants.{Allocation, Budget, Infeasible, Journal, NotQuiet, Seats, Text, Tree, Turn, Unaffordable, Used}
use Rattle.certificate_checker.specs.declared.findings.TurnFault.{TurnFault}
use Rattle.certificate_checker.specs.declared.findings.TurnFault.TheVariants as fault
use Rattle.certificate_checker.specs.Certificates.{HoldsOf, IsAccepted, IsAllocated, IsTextOf, IsUseTold, IsWithinSeats}
use Rattle.certificate_checker.specs.Findings.{HasTurnFault, HoldsToBudgets, HoldsToSeats, IsFirstFinding, IsFirstIn}
use Rattle.certificate_checker.specs.Firsts.{FailsFirstAt}
use Rattle.certificate_checker.specs.Students.{HasBudget, IsAffordable, IsOffered, IsProvedBundle, MayTake, offer_in, proved_in}
use Rattle.certificate_checker.specs.Terms.{TermsData, terms_in}
use Rattle.certificate_checker.specs.Turns.{EndsQuietly, IsDue, IsRightTurn, turn_in, turn_offer}
use Rattle.certificate_checker.proofs.Bundling.{first_bundle}
use Rattle.certificate_checker.proofs.Composing.{order_first, printed_first, text_first}
use Rattle.certificate_checker.proofs.TurnReading.{first_turn}
use Rattle.accepted_publications.specs.Laws.{AcceptedOrFound}
use Rattle.accepted_publications.proofs.Cases.{by_cases, first_or_all}
use Rattle.accepted_publications.proofs.OrderFindings.{order_or_finding}
use Rattle.accepted_publications.proofs.TextDefects.{text_or_defect}
use Rattle.accepted_publications.proofs.TreeDefects.{tree_or_defect}

student_no : ℕ → StudentNo
student_no n = record { 0 = n }

section_no : ℕ → SectionNo
section_no n = record { 0 = n }

-- what is printed is right by these terms, or something is found
module _ (terms : TermsData) (p : Publication) (right : HoldsOf terms p → ⊥) (found : (finding : Finding) → IsFirstIn terms p finding → ⊥) where
  -- the first student whose bundle is wrong
  wrong_bundle : HoldsToBudgets terms p → (n : ℕ) → FailsFirstAt (length terms.crowd.students) (IsProvedBundle terms.crowd p) n → ⊥
  unfolding student_no
  wrong_bundle budgets n fails =
      by_cases {A = IsAffordable (offer_in terms.crowd p n) (proved_in p n).bundle}
      (λ affordable. by_cases {A = MayTake (offer_in terms.crowd p n) (proved_in p n).bundle}
      (λ feasible. tree_or_defect (offer_in terms.crowd p n) (proved_in p n).bundle (proved_in p n).tree
      (λ proved. fails.fails (record { affordable = affordable; feasible = feasible; proved = proved }))
      (λ defect is. found (Tree (student_no n) defect)
      (first_bundle terms p n (Tree (student_no n) defect) budgets fails.within fails.before (refl, affordable, feasible, is))))
      (λ other. found (Infeasible (student_no n))
      (first_bundle terms p n (Infeasible (student_no n)) budgets fails.within fails.before (refl, affordable, other))))
      (λ other. found (Unaffordable (student_no n)) (first_bundle terms p n (Unaffordable (student_no n)) budgets fails.within fails.before (refl, other)))

  -- the first turn that is wrong
  wrong_turn : HoldsToSeats terms p → (n : ℕ) → FailsFirstAt (length p.turns) (IsRightTurn terms p) n → ⊥
  wrong_turn seats n fails =
      by_cases {A = IsDue terms.crowd p n}
      (λ due. by_cases {A = IsAffordable (turn_offer terms p n) (turn_in p n).bundle}
      (λ affordable. by_cases {A = MayTake (turn_offer terms p n) (turn_in p n).bundle}
      (λ feasible. by_cases {A = IsOffered (turn_offer terms p n) (turn_in p n).bundle}
      (λ offered. tree_or_defect (turn_offer terms p n) (turn_in p n).bundle (turn_in p n).tree
      (λ proved. fails.fails (record { due = due; affordable = affordable; feasible = feasible; offered = offered; proved = proved }))
      (λ defect is. told (fault.Tree defect) (due, affordable, feasible, offered, is)))
      (λ other. told fault.Taken (due, affordable, feasible, other)))
      (λ other. told fault.Infeasible (due, affordable, other)))
      (λ other. told fault.Unaffordable (due, other)))
      (λ other. told fault.Order other)
    where
      told : (what : TurnFault) → HasTurnFault terms p n what → ⊥
      told what wrong = found (Turn (n + 1) what) (first_turn terms p n (Turn (n + 1) what) seats fails.within fails.before (refl, wrong))

  right_or_found : ⊥
  unfolding student_no section_no
  right_or_found =
      first_or_all (length terms.crowd.students) (HasBudget terms.crowd p)
      (λ budgets. first_or_all (length terms.crowd.students) (IsProvedBundle terms.crowd p)
      (λ bundles. first_or_all terms.crowd.sections (IsWithinSeats terms.seats p)
      (λ seats. first_or_all (length p.turns) (IsRightTurn terms p)
      (λ turns. by_cases {A = EndsQuietly terms.crowd p}
      (λ quiet. first_or_all (length terms.crowd.students) (IsAllocated p)
      (λ allocation. first_or_all terms.crowd.sections (IsUseTold terms.seats p)
      (λ used. right (record {
        budgets = budgets;
        bundles = bundles;
        seats = seats;
        turns = turns;
        quiet = quiet;
        allocation = allocation;
        used = used;
      }))
      (λ n fails. found (Used (section_no n)) (record { before = (((((budgets, bundles), seats), turns), quiet), allocation); found = fails })))
      (λ n fails. found (Allocation (student_no n)) (record { before = ((((budgets, bundles), seats), turns), quiet); found = fails })))
      (λ loud. found (NotQuiet (length p.turns)) (record { before = (((budgets, bundles), seats), turns); found = (refl, loud) })))
      (λ n fails. wrong_turn ((budgets, bundles), seats) n fails))
      (λ n fails. found (Seats (section_no n) (holders n (demanded p)) (slice_index terms.seats n))
      (record { before = (budgets, bundles); found = (fails, refl, refl) })))
      (λ n fails. wrong_bundle budgets n fails))
      (λ n fails. found (Budget (student_no n)) (record { before = tt; found = fails }))

-- a market has a crowd after a journal
crowd_after : EachHasAMenu → (market : Market) (journal : List Entry) → IsCatalog market.catalog → IsRoll market.roll → (crowd : CrowdData) × IsCrowdIn market journal crowd
crowd_after law market journal catalog roll =
    let menus =
    law market.catalog market.roll (wanted_in market journal) catalog roll (wanted_long market journal) (wanted_limited market journal) in
    let budgets : List ℕ = budgets_of market.roll.students market.settings.seed market.settings.spread in
    let drawn : List Tokens = map (λ (n : ℕ). record { 0 = n }) budgets in (
      of_parts menus.0 drawn (length market.catalog.sections),
      crowd_is_markets market.catalog market.roll (wanted_in market journal) menus.0 drawn market.settings.seed market.settings.spread menus.1
          (same_amounts budgets),
    )
  where
    same_amounts : (budgets : List ℕ) → amounts (map (λ (n : ℕ). record { 0 = n }) budgets) ≡ budgets
    same_amounts [] = refl
    same_amounts (budget ∷ budgets) = ap (λ more. budget ∷ more) (same_amounts budgets)

-- the text of a publication is accepted or has a first finding
of_publication : EachHasAMenu → (market : Market) (streams : List (List Command)) (text : List ℕ) (p : Publication) → IsCatalog market.catalog → IsRoll market.roll
    → IsTextOf market p text → (IsAccepted market streams text → ⊥) → ((finding : Finding) → IsFirstFinding market streams text finding → ⊥) → ⊥
of_publication law market streams text p catalog roll is accepted found =
    order_or_finding (names_in market) streams p.order
    (λ journal is_journal. let there = crowd_after law market journal catalog roll in
    let after : IsCrowdAfter market streams p.order there.0 = record { journal = journal; is_journal = is_journal; is_crowd = there.1 } in
    right_or_found (terms_in market there.0) p
    (λ holds. accepted (record { publication = p; is_text = is; holds = record { crowd = there.0; is_crowd = after; printed = holds } }))
    (λ finding first. found finding (text_first market streams p text finding is (printed_first market streams p there.0 finding after first))))
    (λ at fails. found (Journal at) (text_first market streams p text (Journal at) is (order_first market streams p (Journal at) fails)))

pub accepted_or_found : EachHasAMenu → AcceptedOrFound
accepted_or_found law market streams text catalog roll neither =
    text_or_defect (tables_in market) text
    (λ published. of_publication law market streams text published.0 catalog roll (record { is_publication = published.1; written = published.2 }) neither.0
    neither.1)
    (λ line kind finds. neither.1 (Text line kind) finds)
