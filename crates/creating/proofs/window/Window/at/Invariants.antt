-- `at` marks the listed values: each turn passes one value of the list, and sets the mark of its place, if it has one.
use mathlib.Core.Path.{◌≡◌}
use mathlib.Core.Bool.{false, ◌||◌}
use lib.IntN.{ℤ}
use lib.ListN.{get_or, length, drop}
use Rattle.integers.specs.Distance.{distance}
use Rattle.domains.specs.Domain.{has}
use Rattle.creating.specs.Windows.{Within}
use Rattle.creating.proofs.window.Window.at.Given as goal

abbrev pub invariant-loop-value : goal.invariant-loop-value
invariant-loop-value l =
    (length l.marks ≡ 8192) × ((v : ℤ) → Within l.from v → (has (drop l.value-index l.values) v || get_or l.marks (distance l.from v) false) ≡ has l.values v)
