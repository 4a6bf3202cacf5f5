-- What holds of the halls of published texts.
use Rattle.std.specs.Prelude.{ℕ, ◌≡◌, ◌<◌, true, Option, List, [], ◌∷◌, ◌++◌}
use Rattle.market_units.specs.declared.units.StudentNo.{StudentNo}
use Rattle.chronicle.specs.History.{state_after as state_after_steps}
use Rattle.market_certificate.specs.Publications.{Publication}
use Rattle.dropadd_desk.specs.declared.command.HallCommand.{HallCommand}
use Rattle.dropadd_desk.specs.declared.reply.HallReply.TheVariants as reply
use Rattle.dropadd_desk.specs.declared.shared.HallState.{HallState}
use Rattle.dropadd_desk.specs.Laws.{GoesToFirstFit, IsConserved}
use Rattle.dropadd_desk.specs.Lines.{HallStep, is_refusal, names_section}
use Rattle.dropadd_desk.specs.Market.{Market, section_count, student_count}
use Rattle.dropadd_desk.specs.Openings.{IsAllowed}
use Rattle.dropadd_desk.specs.Shared.{state_after}
use Rattle.dropadd_desk.specs.Step.{held_by}
use Rattle.dropadd_desk.specs.Waits.{KeepsOrderAt}
use Rattle.dropadd_hall.specs.Openings.{opened}
use Rattle.dropadd_hall.specs.Told.{IsToldHall}

-- the state of a printed hall after these steps, from the final bundles on
abbrev pub state_behind : Market → Publication → List HallStep → HallState
state_behind market p steps = state_after_steps state_after market (opened market p) steps

-- after each beginning of the history of a printed hall, the law of drop and add holds of each
-- section, student by student, from the final bundles on
abbrev pub ToldHallIsConserved : Type 0
ToldHallIsConserved =
    (market : Market) (streams : List (List HallCommand)) (text told : List ℕ)
    (hall : IsToldHall market streams text told)
    → (before after : List HallStep) → hall.history ≡ before ++ after → (s : ℕ)
    → s < section_count market → IsConserved market (opened market hall.publication) before s

-- the waiting list of each section keeps the order of those who wait, at each step of the history
abbrev pub ToldHallWaitsInOrder : Type 0
ToldHallWaitsInOrder =
    (market : Market) (streams : List (List HallCommand)) (text told : List ℕ)
    (hall : IsToldHall market streams text told)
    → (before after : List HallStep) (step : HallStep) → hall.history ≡ before ++ step ∷ after
    → (s : ℕ)
    → KeepsOrderAt market (state_behind market hall.publication before) step
    (state_behind market hall.publication (before ++ step ∷ [])) s

-- what each student holds is allowed after each beginning of the history: no two of the sections
-- clash, and the caps are kept
abbrev pub ToldHallIsAllowed : Type 0
ToldHallIsAllowed =
    (market : Market) (streams : List (List HallCommand)) (text told : List ℕ)
    (hall : IsToldHall market streams text told)
    → (before after : List HallStep) → hall.history ≡ before ++ after → (i : ℕ)
    → i < student_count market
    → IsAllowed market i (held_by (state_behind market hall.publication before) i)

-- a seat that is given up goes to the first of those who wait whom the section fits
abbrev pub ToldHallServesTheFirst : Type 0
ToldHallServesTheFirst =
    (market : Market) (streams : List (List HallCommand)) (text told : List ℕ)
    (hall : IsToldHall market streams text told)
    → (before after : List HallStep) (step : HallStep) (s lapsed : ℕ) (next : Option StudentNo)
    → hall.history ≡ before ++ step ∷ after → names_section market s step.request ≡ true
    → step.reply ≡ reply.Dropped lapsed next
    → GoesToFirstFit market (state_behind market hall.publication before)
    (state_behind market hall.publication (before ++ step ∷ [])) s lapsed next

-- a request that is refused changes nothing
abbrev pub ToldRefusalsChangeNothing : Type 0
ToldRefusalsChangeNothing =
    (market : Market) (streams : List (List HallCommand)) (text told : List ℕ)
    (hall : IsToldHall market streams text told)
    → (before after : List HallStep) (step : HallStep) → hall.history ≡ before ++ step ∷ after
    → is_refusal step.reply ≡ true
    → state_behind market hall.publication (before ++ step ∷ [])
    ≡ state_behind market hall.publication before
