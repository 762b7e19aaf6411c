-- `put_integer` writes the spelling of the magnitude, after a minus below zero.
use mathlib.Core.Path.{◌∙◌}
use mir.Facts.{to_z-of_z}
use Rattle.lines.proofs.SignLaws.{spelled_below, spelled_above}
use Rattle.lines.proofs.WritingLaws.{wrote_more}
use Rattle.lines.proofs.writing.Writer.put_integer.Goals as goal
use Rattle.lines.proofs.writing.Writer.put_integer.Goals.{then-value-lt0, else-value-lt0}

pub returns : goal.returns
returns c =
    let value = to_z-of_z c.ranges.value in
    let digits = simp (c.from.ensures ∙ c.unsigned_abs.ensures.value, value) at c.put_natural.ensures in
    elim c.if-value-lt0.branch [
      | then-value-lt0 w ↦
          let test = simp value at w.if-value-lt0.true in
          rw (spelled_below c.args.value test) (wrote_more w.put_byte.ensures (rw w.self-is at digits))
      | else-value-lt0 w ↦
          let test = simp value at w.if-value-lt0.false in
          rw (spelled_above c.args.value test) (rw w.self-is at digits)
    ]
