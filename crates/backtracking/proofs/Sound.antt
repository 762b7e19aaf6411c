-- The entries of every store that calls made can be undone, and those of such a store without its newest entry.
use Prim.Native.Nat.{◌-◌, ◌≤◌, ◌<◌}
use mathlib.Core.Bool.{Bool, true, false}
use native.Mathlib.Omega.{arith}
use Rattle.pools.specs.declared.Pool.{Pool}
use Rattle.stories.specs.declared.Entry.{Entry}
use Rattle.stores.specs.declared.Assignments.{Assignments}
use Rattle.stores.specs.Made.{Made}
use Rattle.stories.specs.Story.{no_entry}
use Rattle.stores.specs.Store.{pop_if, undone, undone_by}
use Rattle.stores.proofs.Straight.{at_set, tidy}
use Rattle.stores.proofs.History.{straight}
use Rattle.backtracking.specs.Sound.{Sound}

-- in every store that calls made
pub sound : {s : Assignments} → Made s → Sound s
sound m =
    let t = tidy (straight m) in
    record {
      entries = t.entries;
      lower = omega (arith, t.entries, t.lower.short);
      upper = omega (arith, t.entries, t.upper.short);
      holes = omega (arith, t.entries, t.holes.short);
      named = λ i h. omega (arith, t.named i h, t.domains);
    }

-- and after an undo
pub sound_undone : (s : Assignments) → Sound s → Sound (undone s)
unfolding undone_by
sound_undone s h = record {
  entries = omega (arith, h.entries);
  lower = fewer _ s.lower h.lower;
  upper = fewer _ s.upper h.upper;
  holes = fewer _ s.holes h.holes;
  named = λ i k. at_set (λ (e : Entry). e.predicate.domain.0 < 256) s.trail.entries (s.trail.length - 1) i no_entry no_entry (h.named i (omega arith)) (omega arith);
}
  where
    fewer : (goes : Bool) (p : Pool) → p.length ≤ 1024 → (pop_if goes p).length ≤ 1024
    fewer true p h = omega arith
    fewer false p h = h
