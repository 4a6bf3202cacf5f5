use Rattle.bundle_bounds.specs.Views.{data_of}
use Rattle.demand_oracle.specs.OpenWords.{IsWordOf, IsAlone}
use Rattle.demand_oracle.proofs.goods.alone.Given as goal

-- the word has those of the places so far that may be taken alone
abbrev pub invariant-loop-place : goal.invariant-loop-place
invariant-loop-place l = IsWordOf (IsAlone (data_of l.offer)) l.place l.word
