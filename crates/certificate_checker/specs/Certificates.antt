-- When a published text is accepted.
use Rattle.std.specs.Prelude.{ℕ, ◌≡◌, ◌≤◌, List, [], length, slice_index, slice_index_or}
use Rattle.demand_api.specs.Crowds.{CrowdData, holders}
use Rattle.market_certificate.specs.Publications.{IsPublication, Publication}
use Rattle.market_certificate.specs.Texts.{text_of}
use Rattle.utility_language.specs.declared.commands.Command.{Command}
use Rattle.published_parts.specs.Crowds.{IsCrowdAfter}
use Rattle.published_parts.specs.Holdings.{demanded, held_after}
use Rattle.published_parts.specs.Markets.{Market, tables_in}
use Rattle.certificate_checker.specs.Terms.{TermsData, terms_in}
use Rattle.certificate_checker.specs.Firsts.{AllBelow}
use Rattle.certificate_checker.specs.Students.{HasBudget, IsProvedBundle}
use Rattle.certificate_checker.specs.Turns.{EndsQuietly, IsRightTurn}

-- no more students hold a section in the second stage than it has seats
abbrev pub IsWithinSeats : List ℕ → Publication → ℕ → Type 0
IsWithinSeats seats p section = holders section (demanded p) ≤ slice_index seats section

-- the final bundle of a student is the one that it holds after the last turn
abbrev pub IsAllocated : Publication → ℕ → Type 0
IsAllocated p student =
    slice_index_or p.allocation student []
    ≡ slice_index_or (held_after (demanded p) p.turns) student []

-- the printed seats of a section are the number of its final holders, and the catalogue's seats
abbrev pub IsUseTold : List ℕ → Publication → ℕ → Type 0
IsUseTold seats p section =
    slice_index_or p.used section (0, 0) ≡ (holders section p.allocation, slice_index seats section)

-- What is printed is right by these terms: each student's budget is the one that it draws; each
-- bundle of the second stage is affordable and feasible, with its tree; no section is above its
-- seats; each turn is the due one, and its bundle is affordable, feasible and of what is offered,
-- with its tree; the turns end with a pass without a change; the final bundles are those after the
-- last turn; and the seats are those that they use.
pub record HoldsOf (terms : TermsData) (p : Publication) : Type 0 where
  pub budgets : AllBelow (length terms.crowd.students) (HasBudget terms.crowd p)
  pub bundles : AllBelow (length terms.crowd.students) (IsProvedBundle terms.crowd p)
  pub seats : AllBelow terms.crowd.sections (IsWithinSeats terms.seats p)
  pub turns : AllBelow (length p.turns) (IsRightTurn terms p)
  pub quiet : EndsQuietly terms.crowd p
  pub allocation : AllBelow (length terms.crowd.students) (IsAllocated p)
  pub used : AllBelow terms.crowd.sections (IsUseTold terms.seats p)

-- The certificate holds of a publication: its order merges the streams, and what is printed is
-- right by the crowd after the order's journal, the seats of the catalogue and the raise of the
-- settings.
pub record Holds (market : Market) (streams : List (List Command)) (p : Publication) : Type 0 where
  pub crowd : CrowdData
  pub is_crowd : IsCrowdAfter market streams p.order crowd
  pub printed : HoldsOf (terms_in market crowd) p

-- the same by this crowd, which is the one after the order's journal
pub record HoldsBy (market : Market) (streams : List (List Command)) (p : Publication)
    (crowd : CrowdData) : Type 0 where
  pub is_crowd : IsCrowdAfter market streams p.order crowd
  pub printed : HoldsOf (terms_in market crowd) p

-- the text is that of the publication
pub record IsTextOf (market : Market) (p : Publication) (text : List ℕ) : Type 0 where
  pub is_publication : IsPublication (tables_in market) p
  pub written : text ≡ text_of (tables_in market) p

-- a text is accepted where it is that of a publication of which the certificate holds
pub record IsAccepted (market : Market) (streams : List (List Command))
    (text : List ℕ) : Type 0 where
  pub publication : Publication
  pub is_text : IsTextOf market publication text
  pub holds : Holds market streams publication
