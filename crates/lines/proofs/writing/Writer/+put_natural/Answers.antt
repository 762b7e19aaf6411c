-- `put_natural` writes the spelling, which is that of the number's tenth, if it has one, and its last digit.
use Prim.Native.Nat.{◌%◌}
use mathlib.Core.Path.{◌≡◌}
use native.Mathlib.Omega.{arith}
use Rattle.lines.proofs.SpellingLaws.{spelled_digit, spelled_more}
use Rattle.lines.proofs.WritingLaws.{wrote_more}
use Rattle.lines.proofs.writing.Writer.+put_natural.Goals as goal
use Rattle.lines.proofs.writing.Writer.+put_natural.Goals.{then-number-ge10, else-number-ge10}

pub returns : goal.returns
returns t c =
    let number = c.args.number in
    let last = c.put_byte.ensures in
    elim c.if-number-ge10.branch [
      | then-number-ge10 w ↦ rw (spelled_more {n = number} w.if-number-ge10.true) (wrote_more w.put_natural.ensures (rw w.self-is at last))
      | else-number-ge10 w ↦
          let digit : number % 10 ≡ number = omega (arith, w.if-number-ge10.false) in
          rw (spelled_digit {n = number} (omega (arith, w.if-number-ge10.false))) (rw (w.self-is, digit) at last)
    ]
