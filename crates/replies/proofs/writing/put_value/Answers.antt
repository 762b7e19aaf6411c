-- `put_value` writes the spelling past the tab.
use mir.Facts.{to_z-of_z}
use native.Mathlib.Omega.{arith}
use Rattle.lines.proofs.SpellingLaws.{integer_length}
use Rattle.lines.proofs.WritingLaws.{wrote_more}
use Rattle.replies.proofs.writing.put_value.Goals as goal

pub returns : goal.returns
returns c =
    let fits = c.ranges.value in
    (wrote_more c.put_byte.ensures (simp (to_z-of_z fits) at c.put_integer.ensures), omega (arith, integer_length c.args.value fits))
