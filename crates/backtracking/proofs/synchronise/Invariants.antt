-- Each turn of the loop of `synchronise` undoes the newest entry and appends its pair, until none above the checkpoint is left.
use Prim.Native.Nat.{◌-◌}
use Rattle.backtracking.proofs.Going.{Going}
use Rattle.backtracking.proofs.synchronise.Given as goal

abbrev pub invariant-loop-undone : goal.invariant-loop-undone
invariant-loop-undone l = Going l.initial.store l.above l.initial.pairs l.store (l.above - l._undone) l.pairs
