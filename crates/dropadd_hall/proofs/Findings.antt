-- What is told where no hall opens.
use Rattle.std.proofs.Common.{ℕ, ◌≡◌, List, arith, subst}
use Rattle.std.proofs.lemmas.List.{length-map}
use Rattle.certificate_checker.specs.declared.findings.Finding.{Finding}
use Rattle.certificate_checker.specs.declared.findings.Finding.TheVariants.{Allocation, Budget, Infeasible, Journal, NotQuiet, Seats, Text, Tree, Turn, Unaffordable, Used}
use Rattle.certificate_checker.specs.Findings.{OnFound, end_of}
use Rattle.certificate_checker.specs.Words.{IsNamedIn}
use Rattle.course_catalog.specs.Catalog.{IsCatalog}
use Rattle.course_catalog.specs.Sections.{Section}
use Rattle.dropadd_desk.specs.declared.shared.HallState.{HallState}
use Rattle.dropadd_desk.specs.Market.{Market}
use Rattle.dropadd_hall.specs.declared.opening.OpeningFault.{OpeningFault}
use Rattle.dropadd_hall.specs.declared.opening.OpeningFault.TheVariants as fault
use Rattle.dropadd_hall.specs.Faults.{IsFaultless, IsFirstFault}
use Rattle.market_certificate.specs.declared.refusals.TextRefusal.{TextRefusal}
use Rattle.market_certificate.specs.declared.refusals.TextRefusal.TheVariants.{Defect}
use Rattle.market_certificate.specs.declared.refusals.TextRefusal.TheVariants as refusals
use Rattle.market_certificate.specs.Finding.{Finds, OnDefect}
use Rattle.market_certificate.specs.Publications.{Publication}
use Rattle.market_certificate.specs.Texts.{ArePublished, IsPublished}
use Rattle.student_roll.specs.Students.{IsRoll, Student}
use Rattle.dropadd_hall.specs.Openings.{IsNoOpening, IsOpeningFinding, IsTextOf, TellsFault, finding_of, opened, tables_in}
use Rattle.dropadd_hall.proofs.Finals.{opens_alone}

-- a fault is told by its finding
fault_told : (market : Market) (state : HallState) (found : OpeningFault) → IsFirstFault market state found → TellsFault market state (finding_of found)
fault_told market state (fault.Infeasible student) is = is
fault_told market state (fault.Overfull section held seats) is = is

-- so is one of a desk of this market, in this state
pub told_at : (one market : Market) (now state : HallState) (found : OpeningFault) → one ≡ market → now ≡ state → IsFirstFault one now found
    → TellsFault market state (finding_of found)
told_at one market now state found of same is =
    fault_told market state found (subst (λ (x : HallState). IsFirstFault market x found) same (subst (λ (m : Market). IsFirstFault m now found) of is))

-- and so is that there is none
pub faultless_at : (one market : Market) (now state : HallState) → one ≡ market → now ≡ state → IsFaultless one now → IsFaultless market state
faultless_at one market now state of same is = subst (λ (x : HallState). IsFaultless market x) same (subst (λ (m : Market). IsFaultless m now) of is)

-- a fault of the final bundles is the first finding on the text
pub fault_first : (market : Market) (text : List ℕ) (p : Publication) (finding : Finding) → IsTextOf market p text → TellsFault market (opened market p) finding
    → IsOpeningFinding market text finding
fault_first market text p (Infeasible student) of is = (p, of, is)
fault_first market text p (Seats section used seats) of is = (p, of, is)
fault_first market text p (Text line kind) of is = absurd is
fault_first market text p (Journal at) of is = absurd is
fault_first market text p (Budget student) of is = absurd is
fault_first market text p (Unaffordable student) of is = absurd is
fault_first market text p (Tree student defect) of is = absurd is
fault_first market text p (Turn turn what) of is = absurd is
fault_first market text p (NotQuiet turns) of is = absurd is
fault_first market text p (Allocation student) of is = absurd is
fault_first market text p (Used section) of is = absurd is

-- where there is one, the bundles may not be held
pub fault_stands : (market : Market) (state : HallState) (finding : Finding) → TellsFault market state finding → ¬ IsFaultless market state
fault_stands market state (Infeasible student) is none = is.forbidden (none.students student.0 is.within)
fault_stands market state (Seats section used seats) is none =
    let few = none.seats section.0 is.within in
    absurd (omega (arith, few, is.counted, is.given, is.over))
fault_stands market state (Text line kind) is none = is
fault_stands market state (Journal at) is none = is
fault_stands market state (Budget student) is none = is
fault_stands market state (Unaffordable student) is none = is
fault_stands market state (Tree student defect) is none = is
fault_stands market state (Turn turn what) is none = is
fault_stands market state (NotQuiet turns) is none = is
fault_stands market state (Allocation student) is none = is
fault_stands market state (Used section) is none = is

-- whom it names is on the roll, or in the catalogue
fault_named : (market : Market) (state : HallState) (finding : Finding) → TellsFault market state finding → IsNamedIn (tables_in market) finding
fault_named market state (Infeasible student) is = let all = length-map market.roll.students (λ (s : Student). s.name) in omega (arith, all, is.within)
fault_named market state (Seats section used seats) is = let all = length-map market.catalog.sections (λ (s : Section). s.name) in omega (arith, all, is.within)
fault_named market state (Text line kind) is = tt
fault_named market state (Journal at) is = tt
fault_named market state (Budget student) is = absurd is
fault_named market state (Unaffordable student) is = absurd is
fault_named market state (Tree student defect) is = absurd is
fault_named market state (Turn turn what) is = tt
fault_named market state (NotQuiet turns) is = tt
fault_named market state (Allocation student) is = absurd is
fault_named market state (Used section) is = absurd is

-- a fault of the final bundles is why no desk opens with the text
pub fault_no_opening : (market : Market) (text : List ℕ) (p : Publication) (finding : Finding) → IsCatalog market.catalog → IsRoll market.roll
    → IsTextOf market p text → TellsFault market (opened market p) finding → IsNoOpening market text finding
fault_no_opening market text p finding catalog roll of is = record {
  refused = λ can. fault_stands market (opened market p) finding is (opens_alone market text p catalog roll of can);
  first = fault_first market text p finding of is;
  named = fault_named market (opened market p) finding is;
}

-- and so is the first defect of a text that is no publication's
pub defect_no_opening : (market : Market) (text : List ℕ) (refusal : TextRefusal) → OnDefect refusal (Finds (ArePublished (tables_in market)) 1 text)
    → OnDefect refusal (λ _ _. ¬ IsPublished (tables_in market) text) → OnFound (end_of refusal) (IsNoOpening market text)
defect_no_opening market text (Defect line kind) is none =
    record { refused = λ can. none (can.0, can.1.is_text.is_publication, can.1.is_text.written); first = is; named = tt }
defect_no_opening market text refusals.NoMemory is none = tt
