-- `put_number` writes the digits past the tab.
use native.Mathlib.Omega.{arith}
use Rattle.lines.proofs.SpellingLaws.{natural_length}
use Rattle.lines.proofs.WritingLaws.{wrote_more}
use Rattle.replies.proofs.writing.put_number.Goals as goal

pub returns : goal.returns
returns c =
    (wrote_more c.put_byte.ensures c.put_natural.ensures, omega (arith, natural_length c.args.number c.ranges.number.fits))
