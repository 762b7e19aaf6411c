-- `steps` counts a run: the marks tell which values are the variable's, and a chain has at most 1,024.
use Rattle.std.proofs.Common.{arith}
use Rattle.pools.proofs.ChainLaws.{chain_short}
use Rattle.pools.proofs.RunLaws.{steps_end}
use Rattle.pools.proofs.Pool.steps.Goals as goal

pub returns : goal.returns
returns g c up from p =
    let run = c.first_clear.ensures in
    steps_end _ _ _ _ _ _ _ (chain_short c.args.self.now.updates 1024 c.args.newest) (c.marks.ensures up from p) run (omega (arith, c.min.ensures)) (omega (arith, c.min.ensures)) (λ h. omega (arith, c.min.ensures))
