-- A board without threads, of which one thing changes.
use Rattle.std.specs.Prelude.{ℕ, List}
use Rattle.task_board.specs.declared.data.StateData.{StateData}
use Rattle.task_board.specs.declared.mark.Mark.{Mark}

module _ {B A : Type 0} where
  -- the board whose tasks stand so, and which is else as it was
  abbrev pub with_marks : StateData B A → List (Mark A) → StateData B A
  with_marks board marks =
      record { marker = board.marker; terms = board.terms; marks = marks; room = board.room }

  -- the board that has room for so many calls, and is else as it was
  abbrev pub with_room : StateData B A → ℕ → StateData B A
  with_room board room =
      record { marker = board.marker; terms = board.terms; marks = board.marks; room = room }
