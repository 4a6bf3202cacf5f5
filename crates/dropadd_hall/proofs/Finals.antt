-- The final bundles of a publication, as a desk opens with them.
use Rattle.std.proofs.Common.{ℕ, ◌≡◌, ◌<◌, ◌∙◌, ◌++◌, List, [], ◌∷◌, append_assoc, length, arith, refl, sym, subst}
use Rattle.std.specs.Prelude.{All, slice_index_or}
use Rattle.std.proofs.lemmas.List.{length-map}
use Rattle.bundle_rules.specs.Sets.{IsAscending}
use Rattle.certificate_checker.proofs.Reading.{so_of_has}
use Rattle.chronicle.specs.History.{IsLegal}
use Rattle.chronicle.proofs.HistoryLaws.{legal_front}
use Rattle.course_catalog.specs.Catalog.{IsCatalog}
use Rattle.course_catalog.specs.Sections.{Section}
use Rattle.dropadd_desk.specs.declared.command.HallCommand.{HallCommand}
use Rattle.dropadd_desk.specs.Halls.{IsHall}
use Rattle.dropadd_desk.specs.Market.{Market, section_count, student_count}
use Rattle.dropadd_desk.specs.Openings.{IsLawful}
use Rattle.dropadd_desk.specs.Shared.{is_sound, reply_to, state_after}
use Rattle.dropadd_desk.specs.Lines.{HallStep}
use Rattle.dropadd_desk.proofs.Conserved.{conserved}
use Rattle.dropadd_desk.proofs.Fitting.{held_is_allowed}
use Rattle.dropadd_desk.proofs.Handing.{first_whom_it_fits, refusals_change_nothing}
use Rattle.dropadd_desk.proofs.InOrder.{waits_in_order}
use Rattle.dropadd_desk.proofs.StateLemmas.{nobody_waits, opening_hall}
use Rattle.dropadd_hall.specs.Faults.{IsFaultless}
use Rattle.held_seats.specs.Floors.{AreBelow}
use Rattle.market_certificate.specs.Publications.{IsPublication, Publication}
use Rattle.market_certificate.specs.Tables.{AreTables}
use Rattle.market_certificate.proofs.NamesOf.{tables_are}
use Rattle.market_certificate.proofs.OneText.{one_publication}
use Rattle.student_roll.specs.Students.{IsRoll, Student}
use Rattle.dropadd_hall.specs.Laws.{ToldHallIsAllowed, ToldHallIsConserved, ToldHallServesTheFirst, ToldHallWaitsInOrder, ToldRefusalsChangeNothing}
use Rattle.dropadd_hall.specs.Openings.{CanOpen, IsTextOf, opened, tables_in}
use Rattle.dropadd_hall.specs.Told.{IsToldHall}

-- one for each student
pub each_final : (market : Market) (p : Publication) → IsPublication (tables_in market) p → length p.allocation ≡ student_count market
each_final market p is = is.allocation.count ∙ length-map market.roll.students (λ (student : Student). student.name)

-- each of sections of the catalogue
pub finals_below : (market : Market) (p : Publication) → IsPublication (tables_in market) p → AreBelow (section_count market) p.allocation
finals_below market p is = λ n d low s there.
    let all : length (tables_in market).sections ≡ section_count market = length-map market.catalog.sections (λ (section : Section). section.name) in
    let within : s < length (tables_in market).sections =
    so_of_has (λ section. section < length (tables_in market).sections) (slice_index_or p.allocation n d) (is.allocation.each n d low).of_catalog s there in
    omega (arith, all, within)

-- and each ascending
pub finals_ascend : (market : Market) (p : Publication) → IsPublication (tables_in market) p → All IsAscending p.allocation
finals_ascend market p is = λ n d low. (is.allocation.each n d low).is_bundle.ascending

-- where they may be held, the desk opens as the law of drop and add wants
opens_lawfully : (market : Market) (p : Publication) → IsFaultless market (opened market p) → IsLawful market (opened market p)
opens_lawfully market p is = record { students = is.students; seats = is.seats; nobody = nobody_waits (section_count market) }

pub told_conserved : ToldHallIsConserved
told_conserved market streams text told hall before after split s low =
    let p : Publication = hall.publication in
    let is = hall.opens.is_text.is_publication in
    let legal : IsLegal is_sound state_after reply_to market (opened market p) (before ++ after) =
    subst (IsLegal is_sound state_after reply_to market (opened market p)) split hall.told_of.legal in
    conserved market (opened market p) before (opening_hall market p.allocation (each_final market p is) (finals_below market p is) (finals_ascend market p is))
    (opens_lawfully market p hall.opens.faultless)
    (legal_front is_sound state_after reply_to market (opened market p) before after legal) s low

-- the history of a printed hall is legal, up to any step
front_legal : (market : Market) (streams : List (List HallCommand)) (text told : List ℕ) (hall : IsToldHall market streams text told)
    (front after : List HallStep)
    → hall.history ≡ front ++ after
    → IsLegal is_sound state_after reply_to market (opened market hall.publication) front
front_legal market streams text told hall front after split =
    legal_front is_sound state_after reply_to market (opened market hall.publication) front after
    (subst (IsLegal is_sound state_after reply_to market (opened market hall.publication)) split hall.told_of.legal)

told_opening : (market : Market) (streams : List (List HallCommand)) (text told : List ℕ) (hall : IsToldHall market streams text told)
    → IsHall market (opened market hall.publication)
told_opening market streams text told hall =
    let p : Publication = hall.publication in
    let is = hall.opens.is_text.is_publication in
    opening_hall market p.allocation (each_final market p is) (finals_below market p is) (finals_ascend market p is)

pub told_allowed : ToldHallIsAllowed
told_allowed market streams text told hall before after split =
    held_is_allowed market (opened market hall.publication) before (told_opening market streams text told hall)
    (opens_lawfully market hall.publication hall.opens.faultless)
    (front_legal market streams text told hall before after split)

-- one step with those before it is a beginning
one_longer : (before after : List HallStep) (step : HallStep) → before ++ step ∷ after ≡ (before ++ step ∷ []) ++ after
one_longer before after step = sym (append_assoc before (step ∷ []) after)

pub told_first : ToldHallServesTheFirst
told_first market streams text told hall before after step s lapsed next split names is =
    first_whom_it_fits market (opened market hall.publication) before step s lapsed next (told_opening market streams text told hall)
    (front_legal market streams text told hall (before ++ step ∷ []) after (split ∙ one_longer before after step)) names is

pub told_in_order : ToldHallWaitsInOrder
told_in_order market streams text told hall before after step split s =
    waits_in_order market (opened market hall.publication) before step (told_opening market streams text told hall)
    (front_legal market streams text told hall (before ++ step ∷ []) after (split ∙ one_longer before after step)) s

pub told_refusals : ToldRefusalsChangeNothing
told_refusals market streams text told hall before after step split refused =
    refusals_change_nothing market (opened market hall.publication) before step
    (front_legal market streams text told hall (before ++ step ∷ []) after (split ∙ one_longer before after step)) refused

-- the tables of a market as they can be read
pub tables_in_limits : (market : Market) → IsCatalog market.catalog → IsRoll market.roll → AreTables (tables_in market)
tables_in_limits market catalog roll =
    tables_are _ _ _ market.roll market.catalog (let one = catalog.known_version in let two = roll.known_version in omega arith) refl refl roll catalog

-- with whatever publication a desk opens, the text is that of one alone
pub opens_alone : (market : Market) (text : List ℕ) (p : Publication) → IsCatalog market.catalog → IsRoll market.roll → IsTextOf market p text
    → CanOpen market text → IsFaultless market (opened market p)
opens_alone market text p catalog roll is can =
    let same : can.0 ≡ p =
    one_publication (tables_in market) (tables_in_limits market catalog roll) can.0 p can.1.is_text.is_publication is.is_publication
    (sym can.1.is_text.written ∙ is.written) in
    subst (λ (q : Publication). IsFaultless market (opened market q)) same can.1.faultless
