-- What a creation is made of: the bounds that a call names by two numbers, and an entry without a reason. Assumes nothing.
use Rattle.std.specs.Prelude.{ℤ}
use Rattle.predicates.specs.declared.Predicate.{Predicate}
use Rattle.predicates.specs.declared.Reason.TheVariants.{None}
use Rattle.domains.specs.declared.Bounds.{Bounds}
use Rattle.stories.specs.declared.Entry.{Entry}

-- from a to b
abbrev pub between : ℤ → ℤ → Bounds
between a b = record { lower = a; upper = b }

-- an entry of the predicate, with these bounds before it
abbrev pub without_reason : Predicate → Bounds → Entry
without_reason p old = record { predicate = p; old = old; reason = None }
