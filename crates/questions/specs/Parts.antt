-- What the inner functions read: a variable's record, a pool, bounds. Assumes nothing.
use Rattle.std.specs.Prelude.{ℕ, List, ℤ, get_or, leb, Option, Some, None, Result, Ok, Err}
use Rattle.predicates.specs.declared.TrailPosition.{TrailPosition}
use Rattle.domains.specs.declared.Bounds.{Bounds}
use Rattle.domains.specs.Choice.{pick}
use Rattle.domains.specs.Domain.{Domain}
use Rattle.pools.specs.declared.Pool.{Pool}
use Rattle.pools.specs.Chain.{chain_of, values_of, up_to}
use Rattle.stores.specs.declared.Variable.{Variable}
use Rattle.stores.specs.Store.{no_variable}
use Rattle.stores.specs.Positions.{value_at}
use Rattle.stories.specs.declared.Refusal.{Refusal}
use Rattle.stories.specs.declared.Refusal.TheVariants.{NoVariable}

-- the record of variable x, if there are more than x variables
abbrev pub found_in : List Variable → ℕ → ℕ → Result Variable Refusal
found_in variables domains x = pick (leb domains x) (Err NoVariable) (Ok (get_or variables x no_variable))

-- the bounds of a variable at a position, by its histories
abbrev pub lower_at : Pool → Variable → ℕ → ℤ
lower_at lower v p = value_at (chain_of lower.updates v.lower) p v.initial.lower

abbrev pub upper_at : Pool → Variable → ℕ → ℤ
upper_at upper v p = value_at (chain_of upper.updates v.upper) p v.initial.upper

abbrev pub bounds_at : Pool → Pool → Variable → ℕ → Bounds
bounds_at lower upper v p = record { lower = lower_at lower v p; upper = upper_at upper v p }

-- the holes from a link on; those at or before a position
abbrev pub holes_in : Pool → ℕ → List ℤ
holes_in holes newest = values_of (chain_of holes.updates newest)

abbrev pub holes_at : Pool → ℕ → ℕ → List ℤ
holes_at holes newest p = values_of (up_to (chain_of holes.updates newest) p)

-- those up to a position, or with none all of them
abbrev pub holes_until : Pool → ℕ → Option TrailPosition → List ℤ
holes_until holes newest None = holes_in holes newest
holes_until holes newest (Some p) = holes_at holes newest p.0

-- the domain with these bounds and holes
abbrev pub within : Bounds → List ℤ → Domain
within b hs = record { lower = b.lower; upper = b.upper; holes = hs }
