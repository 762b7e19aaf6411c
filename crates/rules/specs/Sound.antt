-- A domain as the store keeps it: bounds, and the holes of one variable in the pool. Assumes nothing.
use Rattle.std.specs.Prelude.{ℕ}
use Rattle.domains.specs.declared.Bounds.{Bounds}
use Rattle.domains.specs.Domain.{Domain}
use Rattle.domains.specs.Promises.{Tight, Fits}
use Rattle.pools.specs.declared.Pool.{Pool}
use Rattle.pools.specs.Chain.{chain_of, values_of}

-- the domain with these bounds and with the holes from this link on
abbrev pub domain_in : Pool → ℕ → Bounds → Domain
domain_in holes newest b = record { lower = b.lower; upper = b.upper; holes = values_of (chain_of holes.updates newest) }

-- its bounds are the least and the greatest value left, and i32
pub record Sound (d : Domain) : Type 0 where
  pub tight : Tight d
  pub fits : Fits d
