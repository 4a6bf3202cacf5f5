-- The seats of a new board.
use Rattle.std.proofs.Common.{ℕ, zero, suc, ◌≡◌, ◌+◌, ◌*◌, ◌∙◌, [], Some, replicate, refl, sym, ap, subst, arith, cond}
use Rattle.std.proofs.lemmas.List.Folds.{sum_by-replicate}
use Rattle.chronicle.specs.Seats.{standing}
use Rattle.chronicle.specs.Views.{sum_of}
use Rattle.task_board.specs.declared.mark.Mark.{Mark}
use Rattle.task_board.specs.declared.mark.Mark.TheVariants.{Open, Held}
use Rattle.task_board.specs.Marks.{is_open}
use Rattle.task_board.specs.Openings.{IsOpening}
use Rattle.task_board.specs.Rules.{Rules}
use Rattle.task_board.specs.Seats.{BoardOf, SeatOf, undrawn, IsFree}
use Rattle.task_board.proofs.Histories.{opened_at}

pub sum_of-replicate : (n share : ℕ) → sum_of (replicate n share) ≡ n * share
sum_of-replicate zero share = omega arith
sum_of-replicate (suc n) share = omega (arith, sum_of-replicate n share)

undrawn_all : (A : Type 0) (n : ℕ) → undrawn {A = A} (replicate n Open) ≡ n
undrawn_all A n = omega (arith, sum_by-replicate (λ (m : Mark A). cond (is_open m) 1 0) n Open)

module _ {B A : Type 0} (rules : Rules B A) (board : BoardOf B A) where
  -- a seat that has seen nothing is free
  fresh_free : (number left : ℕ) → IsOpening rules board.base board.opening → left ≡ 2 * rules.count board.base + 1
      → IsFree rules board (standing (Some board) number left [] [])
  fresh_free number left opens allotted =
      let all : undrawn board.opening.marks ≡ rules.count board.base = ap (λ p. undrawn p.marks) opens ∙ undrawn_all A (rules.count board.base) in
      record {
        is_seat = record {
          of = refl;
          opening = opens;
          legal = tt;
          all_own = refl;
          one_done = omega arith;
          few_posts = omega arith;
          calls = omega (arith, allotted);
          calls_left = omega (arith, all, allotted);
        };
        holds_nothing = λ task held. let e : Open ≡ Held number = sym (opened_at rules board.base board.opening opens task) ∙ held in cc;
        not_done = refl;
        each_posted = omega (arith, all);
      }

  pub new_free : (number left : ℕ) (seat : SeatOf B A) → seat ≡ standing (Some board) number left [] [] → IsOpening rules board.base board.opening
      → left ≡ 2 * rules.count board.base + 1 → IsFree rules board seat
  new_free number left seat is opens allotted = subst (λ s. IsFree rules board s) (sym is) (fresh_free number left opens allotted)
