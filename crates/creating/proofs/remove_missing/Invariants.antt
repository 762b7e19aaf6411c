-- `remove_missing` walks from the smallest to the largest: each turn the window tells whether the value is listed, and then it stays, or goes.
use mathlib.Core.Path.{◌≡◌}
use Rattle.creating.specs.Walks.{Walk}
use Rattle.creating.proofs.remove_missing.Given as goal

abbrev pub invariant-loop-value : goal.invariant-loop-value
invariant-loop-value l =
    (l.window.values.now ≡ l.values) × Walk l.values l.fn.store l.id.0 l.value l.store
