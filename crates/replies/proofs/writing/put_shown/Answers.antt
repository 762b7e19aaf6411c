-- `put_shown` writes each number past the one before.
use native.Mathlib.Omega.{arith}
use lib.ListN.{length-append}
use mir.Facts.{to_z-of_z}
use Rattle.lines.proofs.WritingLaws.{wrote_more}
use Rattle.replies.proofs.writing.put_shown.Goals as goal

pub returns : goal.returns
returns c =
    let fits = c.ranges in
    let lower = simp (to_z-of_z fits.lower) at c.put_value.ensures in
    let upper = simp (to_z-of_z fits.upper) at c.put_value-2.ensures in
    let left = c.put_number.ensures in
    (wrote_more lower.0 (wrote_more upper.0 left.0), simp length-append (omega (arith, lower.1, upper.1, left.1)))
