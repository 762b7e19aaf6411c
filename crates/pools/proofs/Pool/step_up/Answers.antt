-- `step_up` takes the steps of the run from `from` on, no more than there are values up to the upper bound.
use Rattle.std.proofs.Common.{rules, ◌≡◌, pos, ◌+ℤ◌, true, w32, SFits, to_z-of_z, arith}
use Rattle.domains.specs.Domain.{raised, width}
use Rattle.pools.specs.Chain.{chain_of, values_of}
use Rattle.pools.specs.Runs.{Steps}
use Rattle.pools.proofs.RunLaws.{steps_up, above}
use Rattle.pools.proofs.Pool.step_up.Goals.{After-steps-steps}
use Rattle.pools.proofs.Pool.step_up.Goals as goal

-- after both calls
module _ (c : After-steps-steps) where
  -- the closure tells a value's place above `from`
  run : Steps (values_of (chain_of c.args.self.updates c.args.newest)) true c.args.from (width c.args.from c.args.upper) c.steps-steps.result
  run =
      let from = to_z-of_z c.ranges.from in
      let most = simp (from, to_z-of_z c.ranges.upper) at c.span.ensures in
      simp most at (c.steps-steps.ensures true c.args.from (λ v r k. above c.args.from v r (search rules)))

  -- the steps are at most 1,024, so their bits as an i32 are the number itself
  fits : SFits w32 (pos c.steps-steps.result)
  fits = record { sfits = omega (arith, run.short) }

  -- the sum is an i32, and where the bound comes to rest
  right :
      SFits w32 (c.args.from +ℤ pos c.steps-steps.result)
      × (c.args.from +ℤ pos c.steps-steps.result ≡ raised (values_of (chain_of c.args.self.updates c.args.newest)) c.args.upper c.args.from)
  right = steps_up _ _ _ _ c.ranges.upper c.ranges.from c.requires run

pub overflow_cast-result : goal.overflow_cast-result
overflow_cast-result c = fits (goal.at.overflow_cast-result c).After-steps-steps

pub overflow_add-result : goal.overflow_add-result
overflow_add-result c =
    let here = (goal.at.overflow_add-result c).After-steps-steps in
    simp (to_z-of_z c.ranges.from, to_z-of_z (fits here)) (right here).0

pub returns : goal.returns
returns c =
    let here = (goal.at.returns c).After-steps-steps in
    simp (to_z-of_z c.ranges.from, to_z-of_z (fits here), to_z-of_z (right here).0) (right here).1
