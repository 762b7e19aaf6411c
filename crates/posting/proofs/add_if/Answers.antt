-- `add_if` pushes where there is room, which is one place written and counted.
use Prim.Native.Nat.{◌<◌}
use native.Mathlib.Omega.{arith}
use mathlib.Core.Bool.{true}
use mathlib.Core.Path.{◌≡◌, ap, ◌∙◌}
use borrow.Author.Tests.{lt-ltb}
use Rattle.pools.specs.declared.Update.{Update}
use Rattle.pools.specs.declared.Pool.{Pool}
use Rattle.pools.specs.Chain.{pushed}
use Rattle.stores.specs.Store.{push_if}
use Rattle.posting.proofs.add_if.Goals as goal

comes : (q : Pool) (u : Update) → q.length < 1024 → pushed q u ≡ push_if true q u
unfolding pushed
comes q u h = rw (lt-ltb q.length 1024 h)

pub overflow_cast-result : goal.overflow_cast-result
overflow_cast-result c =
    let long = ap (λ (q : Pool). q.length) (c.push.ensures ∙ comes c.args.pool.now c.args.update c.requires) in
    record { fits = omega (arith, c.requires) }

pub returns-clause-rest : goal.returns-clause-rest
returns-clause-rest c = rw c.if-not-happened.false (c.push.ensures ∙ comes c.args.pool.now c.args.update c.requires)

pub returns-clause-link : goal.returns-clause-link
returns-clause-link c =
    rw c.if-not-happened.false (ap (λ (q : Pool). q.length) (c.push.ensures ∙ comes c.args.pool.now c.args.update c.requires))
