-- `empty` is the pool of blank places.
use Rattle.pools.specs.Chain.{no_updates}
use Rattle.pools.proofs.Pool.empty.Goals as goal

pub returns : goal.returns
unfolding no_updates
returns c = rw c.blank.ensures
