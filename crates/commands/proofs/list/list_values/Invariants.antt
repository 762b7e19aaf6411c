-- `list_values` copies the values: what is left of them at each place, copied from there on, makes the whole.
use Prim.Native.Nat.{ℕ, ◌+◌}
use mathlib.Core.Path.{◌≡◌}
use mathlib.Core.List.{List}
use lib.IntN.{ℤ}
use lib.ListN.{length, drop}
use Rattle.lines.specs.Fields.{fields}
use Rattle.commands.specs.Values.{spelt, values_of, Copied}
use Rattle.commands.proofs.list.list_values.Given as goal

abbrev pub invariant-loop-written : goal.invariant-loop-written
invariant-loop-written l =
    (length l.out ≡ length l.initial.out) × ((after : List ℤ) (next : ℕ) → Copied (spelt (drop (l.written + 1) (fields l.line))) l.written l.out after next → Copied (values_of l.line) 0 l.initial.out after next)
