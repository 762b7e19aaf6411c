-- `span` counts the values: none where `to` lies below, else one more than the distance.
use mir.Facts.{to_z-of_z}
use Rattle.integers.proofs.Order.{integers}
use Rattle.pools.proofs.RunLaws.{apart}
use Rattle.pools.proofs.span.Goals as goal

pub returns : goal.returns
returns c =
    let from = to_z-of_z c.ranges.from in
    let to = to_z-of_z c.ranges.to in
    let test = simp (from, to) at c.if-to-from.false in
    let far = simp (from, to) at c.abs_diff.ensures in
    omega (integers, apart c.args.from c.args.to (omega integers))
