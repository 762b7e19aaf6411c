-- `abs_diff` is the distance: the larger's bits less the smaller's, by `cast_upwards`, one way or the other.
use Rattle.std.proofs.Common.{to_z-of_z, ◌∙◌}
use Rattle.integers.proofs.Order.{integers}
use Rattle.integers.proofs.Wrapping.{cast_upwards, same_down}
use Rattle.integers.proofs.abs_diff.Goals as goal

pub returns-then-a-b : goal.returns-then-a-b
returns-then-a-b c =
    let a = to_z-of_z c.ranges.a in
    let b = to_z-of_z c.ranges.b in
    let test = simp (a, b) at c.if-a-b.true in
    simp (c.cast_unsigned.ensures, c.cast_unsigned-then-a-b.ensures, a, b) (cast_upwards c.args.a c.args.b c.ranges.a c.ranges.b (omega integers))

pub returns-else-a-b : goal.returns-else-a-b
returns-else-a-b c =
    let a = to_z-of_z c.ranges.a in
    let b = to_z-of_z c.ranges.b in
    let test = simp (a, b) at c.if-a-b.false in
    simp (c.cast_unsigned-else-a-b.ensures, c.cast_unsigned-else-a-b-2.ensures, a, b) (cast_upwards c.args.b c.args.a c.ranges.b c.ranges.a (omega integers))
    ∙ same_down c.args.b c.args.a
