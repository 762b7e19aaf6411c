-- `newest_first` begins at the newest update, with all places before it.
use Rattle.std.proofs.Common.{rules, ◌≡◌, length, ap}
use Rattle.pools.specs.Chain.{left, chain}
use Rattle.pools.proofs.Pool.newest_first.Goals as goal

pub returns : goal.returns
unfolding left
returns c =
    let long : length c.args.self.now.updates ≡ 1024 = search rules in
    rw long (ap (chain c.args.self.now.updates 1024) c.from.ensures)
