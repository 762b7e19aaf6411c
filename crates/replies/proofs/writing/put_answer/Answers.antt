-- `put_answer` writes the word and past it the fields.
use native.Mathlib.Omega.{arith}
use Rattle.lines.proofs.WritingLaws.{wrote_more}
use Rattle.replies.proofs.writing.put_answer.Goals as goal

pub returns-in-Ok : goal.returns-in-Ok
returns-in-Ok c =
    let told = c.put_told.ensures in
    rw c.in-Ok.is (wrote_more c.put_bytes.ensures told.0, omega (arith, told.1))

pub returns-in-Err : goal.returns-in-Err
returns-in-Err c =
    let number = simp (c.from.ensures, c.number.ensures) at c.put_number.ensures in
    rw c.in-Err.is (wrote_more c.put_bytes-in-Err.ensures number.0, omega (arith, number.1))
