-- `push` stores at the length and counts one more, which is what `pushed` says where there is room; else it changes nothing.
use native.Mathlib.Numerals.{add-one}
use borrow.Author.Tests.{lt-ltb, le-ltb}
use Rattle.pools.specs.Chain.{pushed}
use Rattle.pools.proofs.Pool.push.Goals as goal

pub returns-then-self-lt1024 : goal.returns-then-self-lt1024
unfolding pushed
returns-then-self-lt1024 c = simp (add-one, lt-ltb _ _ c.if-self-lt1024.true)

pub returns-else-self-lt1024 : goal.returns-else-self-lt1024
unfolding pushed
returns-else-self-lt1024 c = simp (le-ltb _ _ c.if-self-lt1024.false)
