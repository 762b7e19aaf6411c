-- `put_reply` writes the number, past it the answer, and past that LF.
use native.Mathlib.Omega.{arith}
use lib.ListN.{length-append}
use Rattle.lines.proofs.SpellingLaws.{natural_length}
use Rattle.lines.proofs.WritingLaws.{wrote_more}
use Rattle.replies.proofs.writing.put_reply.Goals as goal

pub returns : goal.returns
returns c =
    let answer = c.put_answer.ensures in
    (wrote_more c.put_natural.ensures (wrote_more answer.0 c.put_byte.ensures), simp length-append (omega (arith, natural_length c.args.number c.ranges.number.fits, answer.1)))
