-- What the histories say of a position: the newest update at or before it. Assumes nothing.
use Rattle.std.specs.Prelude.{ℕ, List, ℤ}
use Rattle.domains.specs.Domain.{Domain}
use Rattle.pools.specs.declared.Update.{Update}
use Rattle.pools.specs.Chain.{values_of, up_to, newest_or}
use Rattle.stores.specs.declared.Assignments.{Assignments}
use Rattle.stores.specs.Store.{variable_of, lowers_of, uppers_of, holes_of}

-- the value of the newest update at or before p, and with none the other
abbrev pub value_at : List Update → ℕ → ℤ → ℤ
value_at us p other = newest_or (up_to us p) other

-- the domain of variable x that the store has for position p
unfoldable pub domain_at : Assignments → ℕ → ℕ → Domain
domain_at s x p = record {
  lower = value_at (lowers_of s x) p (variable_of s x).initial.lower;
  upper = value_at (uppers_of s x) p (variable_of s x).initial.upper;
  holes = values_of (up_to (holes_of s x) p);
}
