-- `put_bytes` writes its text: at every turn what was passed of it was written.
use native.Mathlib.Numerals.{add-one}
use lib.Seq.{take-suc}
use Rattle.lines.proofs.WritingLaws.{wrote_more}
use Rattle.lines.proofs.writing.Writer.put_bytes.Goals as goal

pub loop-byte-preserved : goal.loop-byte-preserved
loop-byte-preserved c =
    let bytes = c.args.bytes.now in
    let i = c.loop-byte.byte-index in
    rw (add-one i, take-suc bytes i 0 c.loop-byte-test.true) (wrote_more c.loop-byte.invariant c.put_byte.ensures)
