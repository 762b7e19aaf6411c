-- `put_pairs` writes the pairs: at every turn those passed were written, and they and those that are left are all.
use Prim.Native.Nat.{ℕ, ◌+◌, ◌*◌, ◌≤◌}
use mathlib.Core.Path.{◌≡◌}
use mathlib.Core.List.{List, ◌++◌}
use lib.ListN.{length}
use Rattle.std.specs.Slice.Iter.{iter_rest}
use Rattle.lines.specs.Writing.{Wrote}
use Rattle.replies.specs.Text.{pairs_text}
use Rattle.replies.proofs.writing.put_pairs.Given as goal

abbrev pub invariant-loop-variable : goal.invariant-loop-variable
invariant-loop-variable l =
    let left = l.variable-iterator in
    (done : List ℕ)
    × Wrote l.initial.writer done l.writer
    × (done ++ pairs_text left.n (iter_rest left.iter.a) (iter_rest left.iter.b) ≡ pairs_text l.count l.variables l.lowers)
    × (length done + 33 * length (iter_rest left.iter.a) ≤ 33 * length l.variables)
