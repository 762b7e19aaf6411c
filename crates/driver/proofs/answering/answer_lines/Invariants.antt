-- `answer_lines` answers line after line: at every turn what is still to come, after what was done, is the whole run.
use Prim.Native.Nat.{◌-◌}
use mathlib.Core.Path.{◌≡◌}
use lib.ListN.{length}
use Rattle.driver.proofs.RunLaws.{Going}
use Rattle.driver.proofs.answering.answer_lines.Given as goal

abbrev pub invariant-loop-writer : goal.invariant-loop-writer
invariant-loop-writer l =
    Going l.fn.store l.first l.input l.fn.out l.done.store l.done.number l.done.read l.writer.length l.writer.buffer.now
    × (l.writer.buffer.ghost_name ≡ l.initial.writer.buffer.ghost_name)
    × (l.done.written ≡ l.writer.length)

abbrev pub decreases-loop-writer : goal.decreases-loop-writer
decreases-loop-writer l =
    length l.input - l.done.read
