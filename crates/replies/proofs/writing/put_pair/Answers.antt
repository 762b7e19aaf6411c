-- `put_pair` writes the lower bound past the variable.
use mir.Facts.{to_z-of_z}
use native.Mathlib.Omega.{arith}
use lib.ListN.{length-append}
use Rattle.lines.proofs.WritingLaws.{wrote_more}
use Rattle.replies.proofs.writing.put_pair.Goals as goal

pub returns : goal.returns
returns c =
    let number = simp c.from.ensures at c.put_number.ensures in
    let value = simp (to_z-of_z c.ranges.bound) at c.put_value.ensures in
    (wrote_more number.0 value.0, simp length-append (omega (arith, number.1, value.1)))
