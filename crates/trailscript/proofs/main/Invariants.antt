-- `main` keeps the store made, and the line's number far below the largest: each turn adds no more to it than the buffer has bytes.
use Rattle.std.proofs.Common.{◌+◌, ◌*◌, ◌≤◌}
use Rattle.stores.specs.Made.{Made}
use Rattle.trailscript.proofs.main.Given as goal

abbrev pub invariant-loop-turn : goal.invariant-loop-turn
invariant-loop-turn l =
    Made l.store × (l.number ≤ 65536 * l._turn + 1)
