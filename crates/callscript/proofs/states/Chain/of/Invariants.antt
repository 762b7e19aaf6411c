-- `Chain::of` keeps no more updates than it passed places for. Assumes nothing.
use Rattle.std.proofs.Common.{◌≤◌}
use Rattle.callscript.proofs.states.Chain.of.Given as goal

abbrev pub invariant-loop-place : goal.invariant-loop-place
invariant-loop-place l = l.count ≤ l.place-index
