-- The law of envy at prices.
use Rattle.std.specs.Prelude.{ℕ, ◌≡◌, ◌<◌, false, ◌≤◌, ◌≤ℤ◌, true, List, [], length, slice_index, slice_index_or}
use Rattle.demand_api.specs.Crowds.{IsCrowd, demand_of}
use Rattle.fairness_audit.specs.Allocations.{Allocation, bundle_at, student_count}
use Rattle.fairness_audit.specs.Rows.{has_lower_envy, row}
use Rattle.market_units.specs.Members.{has}
use Rattle.bundle_rules.specs.Wishes.{IsFeasible, utility}
use Rattle.certificate_checker.specs.Certificates.{IsAccepted}
use Rattle.market_certificate.specs.Publications.{Publication}
use Rattle.preference_desk.specs.declared.entry.Entry.{Entry}
use Rattle.published_parts.specs.Holdings.{demanded}
use Rattle.published_parts.specs.Journals.{IsJournalOf, wishes_in}
use Rattle.published_parts.specs.Markets.{Market, names_in}
use Rattle.utility_language.specs.declared.commands.Command.{Command}
use Rattle.fairness_audit.specs.Audits.{CountsNoLower, settled_in}

-- each student has what it takes at these prices with its own budget, all sections being allowed
abbrev pub AreTakenAt : Allocation → (ℕ → ℕ) → Type 0
AreTakenAt a price = (i : ℕ) → i < student_count a → bundle_at a i ≡ demand_of a.crowd price i

-- where all have what they take at one price vector, nobody envies one with no greater budget: what
-- is seen costs at most what that one paid
abbrev pub NoLowerEnvy : Type 0
NoLowerEnvy =
    (a : Allocation) (price : ℕ → ℕ) → IsCrowd a.crowd → AreTakenAt a price → (i j : ℕ)
    → i < student_count a → j < student_count a → has_lower_envy a i j ≡ false

-- so every row counts none
abbrev pub NoLowerCount : Type 0
NoLowerCount =
    (a : Allocation) (price : ℕ → ℕ) → IsCrowd a.crowd → AreTakenAt a price → (i : ℕ)
    → i < student_count a → (row a i).lower ≡ 0

-- the bundle that is printed for a student in the second stage
abbrev pub settled_of : Publication → ℕ → List ℕ
settled_of p student = slice_index_or (demanded p) student []

-- whatever one student could take out of the bundle of the other is worth no more to it than its
-- own bundle, in the second stage, by the journal
abbrev pub SeesNoMore : Market → List Entry → Publication → ℕ → ℕ → Type 0
SeesNoMore market journal p mine theirs =
    (bundle : List ℕ) → IsFeasible (wishes_in market journal mine) bundle
    → ((s : ℕ) → has bundle s ≡ true → has (settled_of p theirs) s ≡ true)
    → utility (wishes_in market journal mine) bundle
    ≤ℤ utility (wishes_in market journal mine) (settled_of p mine)

-- What an accepted text promises of every two students, whoever printed it. What a student wants is
-- what all sessions said of it, in the printed order. Whatever a student could take out of the
-- bundle of the second stage of one whose printed budget is no greater than its own is worth no
-- more to it than the bundle that it has itself.
pub record IsWithoutLowerEnvy (market : Market) (streams : List (List Command))
    (p : Publication) : Type 0 where
  pub journal : List Entry
  pub is_journal : IsJournalOf (names_in market) streams p.order journal
  pub sees_no_more : (mine theirs : ℕ) → mine < length market.roll.students
      → theirs < length market.roll.students
      → slice_index p.budgets theirs ≤ slice_index p.budgets mine
      → SeesNoMore market journal p mine theirs

-- what is accepted is without lower envy
abbrev pub NoLowerEnvyInAccepted : Type 0
NoLowerEnvyInAccepted =
    (market : Market) (streams : List (List Command)) (text : List ℕ)
    → (accepted : IsAccepted market streams text)
    → IsWithoutLowerEnvy market streams accepted.publication

-- so an audit of what is accepted counts none in the second stage
abbrev pub NoLowerCountInAccepted : Type 0
NoLowerCountInAccepted =
    (market : Market) (streams : List (List Command)) (text : List ℕ)
    → (accepted : IsAccepted market streams text)
    → CountsNoLower (settled_in accepted.holds.crowd accepted.publication)
