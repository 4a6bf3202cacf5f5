use Rattle.std.proofs.Common.{zero, suc, ◌≡◌, ℕ, List, [], ◌∷◌, All, length, sym, subst, arith}
use Rattle.std.specs.Arc.{arc_value}
use Rattle.demand_api.specs.Asking.{RoseAtMost}
use Rattle.demand_api.specs.Crowds.{CrowdData}
use Rattle.price_board.specs.declared.round.Task.{Task}
use Rattle.price_board.specs.Tasks.{IsTask}
use Rattle.demand_workers.specs.Found.{tasks_of}
use Rattle.demand_workers.specs.Views.{crowd_of}
use Rattle.demand_workers.proofs.walks.Asker+AnyGate.asked_alone.Goals as goal

only : (crowd : CrowdData) (inquiry : Task) → IsTask crowd 1 inquiry → All (IsTask crowd 1) (inquiry ∷ [])
only crowd inquiry is zero d low = is
only crowd inquiry is (suc k) d low = absurd (omega (arith, low))

-- the list has one inquiry
rose_one : (listed list : List Task) (inquiry : Task) (before now : ℕ) → listed ≡ list → list ≡ inquiry ∷ [] → RoseAtMost (length listed) before now
    → RoseAtMost 1 before now
rose_one listed list inquiry before now same is rose =
    subst (λ (l : List Task). RoseAtMost (length l) before now) is (subst (λ (l : List Task). RoseAtMost (length l) before now) same rose)

pub at_remembered-requires-clause-inquiries : goal.at_remembered-requires-clause-inquiries
at_remembered-requires-clause-inquiries g c =
    let remembered = arc_value c.args.notes.now.remembered in
    subst (All (IsTask (crowd_of remembered) 1)) (sym (c.in_ok-list.ensures.items_if_clones_equal (λ y is. is)))
    (only (crowd_of remembered) c.args.inquiry c.requires)

pub returns-in_err-found-clause-inquiries : goal.returns-in_err-found-clause-inquiries
returns-in_err-found-clause-inquiries g c =
    rose_one (tasks_of c.in_ok-listed.listed) c.in_ok-list.list.items c.args.inquiry c.args.inquiries.now c.inquire.new.inquiries
    c.in_ok-listed.ensures.list (c.in_ok-list.ensures.items_if_clones_equal (λ y is. is)) c.inquire.ensures.inquiries

pub returns-in_err-add-clause-inquiries : goal.returns-in_err-add-clause-inquiries
returns-in_err-add-clause-inquiries g c =
    rose_one (tasks_of c.in_ok-listed.listed) c.in_ok-list.list.items c.args.inquiry c.args.inquiries.now c.inquire.new.inquiries
    c.in_ok-listed.ensures.list (c.in_ok-list.ensures.items_if_clones_equal (λ y is. is)) c.in_ok-found.ensures.inquiries

pub returns-clause-inquiries : goal.returns-clause-inquiries
returns-clause-inquiries g c =
    rose_one (tasks_of c.in_ok-listed.listed) c.in_ok-list.list.items c.args.inquiry c.args.inquiries.now c.inquire.new.inquiries
    c.in_ok-listed.ensures.list (c.in_ok-list.ensures.items_if_clones_equal (λ y is. is)) c.in_ok-found.ensures.inquiries
