-- `put_bytes` writes its text: at every turn what was passed of it was written.
use lib.ListN.{take}
use Rattle.lines.specs.Writing.{Wrote}
use Rattle.lines.proofs.writing.Writer.put_bytes.Given as goal

abbrev pub invariant-loop-byte : goal.invariant-loop-byte
invariant-loop-byte l =
    Wrote l.initial.self (take l.byte-index l.bytes) l.self
