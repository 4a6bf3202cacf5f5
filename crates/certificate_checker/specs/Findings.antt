-- The first finding on a text. What is looked at before a finding is as it should be.
use Rattle.std.specs.Prelude.{ℕ, ⊤, ◌≡◌, ◌<◌, ◌+◌, IfErr, List, OnOk, Result, length, slice_index}
use Rattle.demand_api.specs.Crowds.{CrowdData, holders}
use Rattle.market_certificate.specs.declared.refusals.TextRefusal.{TextRefusal}
use Rattle.market_certificate.specs.declared.refusals.TextRefusal.TheVariants.{Defect}
use Rattle.market_certificate.specs.declared.refusals.TextRefusal.TheVariants as refusals
use Rattle.market_certificate.specs.Finding.{Finds}
use Rattle.market_certificate.specs.Publications.{Publication}
use Rattle.market_certificate.specs.Texts.{ArePublished}
use Rattle.proof_tree.specs.Defects.{IsDefect}
use Rattle.utility_language.specs.declared.commands.Command.{Command}
use Rattle.published_parts.specs.Crowds.{IsCrowdAfter}
use Rattle.published_parts.specs.Holdings.{demanded}
use Rattle.published_parts.specs.Markets.{Market, tables_in}
use Rattle.certificate_checker.specs.declared.findings.CheckEnd.{CheckEnd}
use Rattle.certificate_checker.specs.declared.findings.CheckEnd.TheVariants as end
use Rattle.certificate_checker.specs.declared.findings.Finding.{Finding}
use Rattle.certificate_checker.specs.declared.findings.Finding.TheVariants.{Text, Journal, Budget, Unaffordable, Infeasible, Tree, Seats, Turn, NotQuiet, Allocation, Used}
use Rattle.certificate_checker.specs.declared.findings.TurnFault.{TurnFault}
use Rattle.certificate_checker.specs.declared.findings.TurnFault.TheVariants as fault
use Rattle.certificate_checker.specs.Terms.{TermsData, terms_in}
use Rattle.certificate_checker.specs.Firsts.{AllBelow, FailsFirstAt}
use Rattle.certificate_checker.specs.Orders.{FailsToMerge}
use Rattle.certificate_checker.specs.Students.{HasBudget, IsAffordable, IsOffered, IsProvedBundle, MayTake, offer_in, proved_in}
use Rattle.certificate_checker.specs.Turns.{EndsQuietly, IsDue, IsRightTurn, turn_in, turn_offer}
use Rattle.certificate_checker.specs.Certificates.{IsAllocated, IsTextOf, IsUseTold, IsWithinSeats}

-- one of the students, and the bundles of those before it are as they should be
pub record IsFirstStudent (crowd : CrowdData) (p : Publication) (student : ℕ) : Type 0 where
  pub within : student < length crowd.students
  pub before : AllBelow student (IsProvedBundle crowd p)

-- what is first wrong with a turn: its place; then its bundle's price, feasibility, sections and
-- tree
abbrev pub HasTurnFault : TermsData → Publication → ℕ → TurnFault → Type 0
HasTurnFault terms p turn fault.Order = ¬ IsDue terms.crowd p turn
HasTurnFault terms p turn fault.Unaffordable =
    IsDue terms.crowd p turn × (¬ IsAffordable (turn_offer terms p turn) (turn_in p turn).bundle)
HasTurnFault terms p turn fault.Infeasible =
    let offer = turn_offer terms p turn in
    let bundle = (turn_in p turn).bundle in
    IsDue terms.crowd p turn × IsAffordable offer bundle × (¬ MayTake offer bundle)
HasTurnFault terms p turn fault.Taken =
    let offer = turn_offer terms p turn in
    let bundle = (turn_in p turn).bundle in
    IsDue terms.crowd p turn × IsAffordable offer bundle × MayTake offer bundle
    × (¬ IsOffered offer bundle)
HasTurnFault terms p turn (fault.Tree defect) =
    let offer = turn_offer terms p turn in
    let bundle = (turn_in p turn).bundle in
    IsDue terms.crowd p turn × IsAffordable offer bundle × MayTake offer bundle
    × IsOffered offer bundle × IsDefect offer bundle (turn_in p turn).tree defect

-- one of the turns, numbered from 1, and those before it are as they should be
pub record IsFirstTurn (terms : TermsData) (p : Publication) (turn : ℕ)
    (fault : TurnFault) : Type 0 where
  pub place : ℕ
  pub number : turn ≡ place + 1
  pub within : place < length p.turns
  pub before : AllBelow place (IsRightTurn terms p)
  pub wrong : HasTurnFault terms p place fault

-- the finding is on this turn, and tells what is first wrong with it
abbrev pub IsTurnFinding : TermsData → Publication → ℕ → Finding → Type 0
IsTurnFinding terms p turn (Turn number fault) =
    (number ≡ turn + 1) × HasTurnFault terms p turn fault
IsTurnFinding terms p turn finding = ⊥

-- the finding is on this student, and tells what is first wrong with its bundle of the second
-- stage: its price, its feasibility, or its tree
abbrev pub IsBundleFinding : CrowdData → Publication → ℕ → Finding → Type 0
IsBundleFinding crowd p student (Unaffordable number) =
    (number.0 ≡ student) × (¬ IsAffordable (offer_in crowd p student) (proved_in p student).bundle)
IsBundleFinding crowd p student (Infeasible number) =
    let offer = offer_in crowd p student in
    let bundle = (proved_in p student).bundle in
    (number.0 ≡ student) × IsAffordable offer bundle × (¬ MayTake offer bundle)
IsBundleFinding crowd p student (Tree number defect) =
    let offer = offer_in crowd p student in
    let bundle = (proved_in p student).bundle in
    (number.0 ≡ student) × IsAffordable offer bundle × MayTake offer bundle
    × IsDefect offer bundle (proved_in p student).tree defect
IsBundleFinding crowd p student finding = ⊥

-- what the finding tells is so, and it is the first of its own part (the budgets, the bundles, the
-- turns ..); of the parts before nothing is said
abbrev pub IsFound : TermsData → Publication → Finding → Type 0
IsFound terms p (Text line kind) = ⊥
IsFound terms p (Journal at) = ⊥
IsFound terms p (Budget student) =
    FailsFirstAt (length terms.crowd.students) (HasBudget terms.crowd p) student.0
IsFound terms p (Unaffordable student) =
    IsFirstStudent terms.crowd p student.0
    × (¬ IsAffordable (offer_in terms.crowd p student.0) (proved_in p student.0).bundle)
IsFound terms p (Infeasible student) =
    let offer = offer_in terms.crowd p student.0 in
    let bundle = (proved_in p student.0).bundle in
    IsFirstStudent terms.crowd p student.0 × IsAffordable offer bundle × (¬ MayTake offer bundle)
IsFound terms p (Tree student defect) =
    let offer = offer_in terms.crowd p student.0 in
    let bundle = (proved_in p student.0).bundle in
    IsFirstStudent terms.crowd p student.0 × IsAffordable offer bundle × MayTake offer bundle
    × IsDefect offer bundle (proved_in p student.0).tree defect
IsFound terms p (Seats section used seats) =
    FailsFirstAt terms.crowd.sections (IsWithinSeats terms.seats p) section.0
    × (used ≡ holders section.0 (demanded p)) × (seats ≡ slice_index terms.seats section.0)
IsFound terms p (Turn turn fault) = IsFirstTurn terms p turn fault
IsFound terms p (NotQuiet turns) = (turns ≡ length p.turns) × (¬ EndsQuietly terms.crowd p)
IsFound terms p (Allocation student) =
    FailsFirstAt (length terms.crowd.students) (IsAllocated p) student.0
IsFound terms p (Used section) =
    FailsFirstAt terms.crowd.sections (IsUseTold terms.seats p) section.0

-- The parts that are looked at, in their order: the budgets; the bundles of the second stage; the
-- seats; the turns; how they end; the final bundles. Each of these is all parts up to one.
abbrev pub HoldsToBudgets : TermsData → Publication → Type 0
HoldsToBudgets terms p = AllBelow (length terms.crowd.students) (HasBudget terms.crowd p)

abbrev pub HoldsToBundles : TermsData → Publication → Type 0
HoldsToBundles terms p =
    HoldsToBudgets terms p × AllBelow (length terms.crowd.students) (IsProvedBundle terms.crowd p)

abbrev pub HoldsToSeats : TermsData → Publication → Type 0
HoldsToSeats terms p =
    HoldsToBundles terms p × AllBelow terms.crowd.sections (IsWithinSeats terms.seats p)

abbrev pub HoldsToTurns : TermsData → Publication → Type 0
HoldsToTurns terms p = HoldsToSeats terms p × AllBelow (length p.turns) (IsRightTurn terms p)

abbrev pub HoldsToTheEnd : TermsData → Publication → Type 0
HoldsToTheEnd terms p = HoldsToTurns terms p × EndsQuietly terms.crowd p

abbrev pub HoldsToAllocation : TermsData → Publication → Type 0
HoldsToAllocation terms p =
    HoldsToTheEnd terms p × AllBelow (length terms.crowd.students) (IsAllocated p)

-- the parts that are looked at before that of the finding are as they should be
abbrev pub HoldsBefore : TermsData → Publication → Finding → Type 0
HoldsBefore terms p (Text line kind) = ⊤
HoldsBefore terms p (Journal at) = ⊤
HoldsBefore terms p (Budget student) = ⊤
HoldsBefore terms p (Unaffordable student) = HoldsToBudgets terms p
HoldsBefore terms p (Infeasible student) = HoldsToBudgets terms p
HoldsBefore terms p (Tree student defect) = HoldsToBudgets terms p
HoldsBefore terms p (Seats section used seats) = HoldsToBundles terms p
HoldsBefore terms p (Turn turn fault) = HoldsToSeats terms p
HoldsBefore terms p (NotQuiet turns) = HoldsToTurns terms p
HoldsBefore terms p (Allocation student) = HoldsToTheEnd terms p
HoldsBefore terms p (Used section) = HoldsToAllocation terms p

-- the first finding on what is printed, where it is looked at by these terms
pub record IsFirstIn (terms : TermsData) (p : Publication) (finding : Finding) : Type 0 where
  pub before : HoldsBefore terms p finding
  pub found : IsFound terms p finding

-- a part of a check is answered: it and the parts before it are as they should be, or the first
-- finding is told
abbrev pub IsAnswered : {A : Type 0} → (TermsData → Publication → Type 0) → TermsData → Publication
    → Result A Finding → Type 0
IsAnswered Holds terms p result =
    OnOk result (Holds terms p) × IfErr result (IsFirstIn terms p)

-- the first finding on a publication: on its order, or on what is printed, by the crowd after the
-- order's journal
abbrev pub IsFirstOf : Market → List (List Command) → Publication → Finding → Type 0
IsFirstOf market streams p (Text line kind) = ⊥
IsFirstOf market streams p (Journal at) = FailsToMerge streams p.order at
IsFirstOf market streams p finding =
    (crowd : CrowdData) × IsCrowdAfter market streams p.order crowd
    × IsFirstIn (terms_in market crowd) p finding

-- The first finding on a text: its first defect, where it is the text of no publication; else the
-- first finding on the publication.
abbrev pub IsFirstFinding : Market → List (List Command) → List ℕ → Finding → Type 0
IsFirstFinding market streams text (Text line kind) =
    Finds (ArePublished (tables_in market)) 1 text line kind
IsFirstFinding market streams text finding =
    (p : Publication) × IsTextOf market p text × IsFirstOf market streams p finding

-- where a check ends with a finding, this is so of it
abbrev pub OnFound : CheckEnd → (Finding → Type 0) → Type 0
OnFound (end.Found finding) P = P finding
OnFound end.NoMemory P = ⊤

-- the end of a check of a text that is not read
abbrev pub end_of : TextRefusal → CheckEnd
end_of (Defect line kind) = end.Found (Text line kind)
end_of refusals.NoMemory = end.NoMemory
