-- A store whose entries can be undone one after the other. Assumes nothing.
use Rattle.std.specs.Prelude.{ℕ, ◌≤◌, ◌<◌}
use Rattle.stores.specs.declared.Assignments.{Assignments}
use Rattle.stores.specs.Store.{entry_of}

-- no length is past its array, and every entry names a place among the variables
pub record Sound (s : Assignments) : Type 0 where
  pub entries : s.trail.length ≤ 1024
  pub lower : s.lower.length ≤ 1024
  pub upper : s.upper.length ≤ 1024
  pub holes : s.holes.length ≤ 1024
  pub named : (i : ℕ) → i < s.trail.length → (entry_of s i).predicate.domain.0 < 256
