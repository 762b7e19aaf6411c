-- A dense variable in one piece: growing lays the variable down and records two entries, each of which reads it back and stores it to the
-- same place, so two entries, one update in each pool of bounds and one variable are left; no bound moves, so the count stays.
use Prim.Native.Nat.{ℕ, suc, ◌+◌, ◌<◌}
use Rattle.std.specs.Prelude.{true, ◌≡◌, ℤ, neg_ℤ, ◌+ℤ◌, length, set}
use Rattle.std.proofs.Common.{◌∙◌, arith, lt-ltb}
use Rattle.std.proofs.Math.Seq.{get_or-set_same, set-set}
use Rattle.integers.proofs.Still.{no_distance}
use Rattle.predicates.specs.declared.PredicateType.TheVariants.{LowerBound, UpperBound}
use Rattle.domains.specs.declared.Bounds.{Bounds}
use Rattle.domains.specs.Domain.{pruned_by}
use Rattle.pools.specs.declared.Update.{Update}
use Rattle.pools.specs.declared.Pool.{Pool}
use Rattle.pools.specs.Chain.{pushed}
use Rattle.stores.specs.declared.Variable.{Variable}
use Rattle.stores.specs.declared.Assignments.{Assignments}
use Rattle.stores.specs.Store.{no_variable, entered, push_if, recorded, allocated}
use Rattle.stories.specs.Calls.{at_least, at_most}
use Rattle.stores.specs.Calls.{grown}
use Rattle.creating.specs.Parts.{without_reason}

-- a variable just laid down, with links to its bounds' updates
abbrev pub newest : Assignments → Bounds → ℕ → ℕ → Variable
newest s b lower upper = record { bounds = b; initial = b; lower = lower; upper = upper; holes = 0; mark = record { 0 = s.trail.length + 1 } }

-- the store with a dense variable
unfoldable pub dense : Assignments → Bounds → Assignments
dense s b = record {
  trail = entered (entered s.trail (without_reason (at_least s.domains b.lower) b)) (without_reason (at_most s.domains b.upper) b);
  lower = push_if true s.lower (record { value = b.lower; position = record { 0 = s.trail.length }; previous = 0 });
  upper = push_if true s.upper (record { value = b.upper; position = record { 0 = suc s.trail.length }; previous = 0 });
  holes = s.holes;
  variables = set s.variables s.domains (newest s b (suc s.lower.length) (suc s.upper.length));
  domains = suc s.domains;
  delimiters = s.delimiters;
  checkpoint = s.checkpoint;
  pruned = s.pruned;
}

module _ (s : Assignments) (b : Bounds) (there : s.domains < length s.variables) where
  still : s.pruned + pruned_by LowerBound b b + pruned_by UpperBound b b ≡ s.pruned
  unfolding pruned_by
  still = omega (arith, no_distance b.lower, no_distance b.upper)

  pub grown_dense : grown s b ≡ dense s b
  unfolding dense grown recorded allocated
  grown_dense =
      let laid : Variable = newest s b 0 0 in
      let begun : Variable = newest s b (suc s.lower.length) 0 in
      rw (
        get_or-set_same s.variables s.domains laid no_variable there,
        set-set s.variables s.domains laid begun,
        get_or-set_same s.variables s.domains begun no_variable there,
        set-set s.variables s.domains begun (newest s b (suc s.lower.length) (suc s.upper.length)),
      )
      (λ i. record {
        trail = (dense s b).trail;
        lower = (dense s b).lower;
        upper = (dense s b).upper;
        holes = s.holes;
        variables = (dense s b).variables;
        domains = suc s.domains;
        delimiters = s.delimiters;
        checkpoint = s.checkpoint;
        pruned = still i;
      })

-- what a push of an update comes to where there is room
pub push_comes : (p : Pool) (u v : Update) (r : Pool) → r ≡ pushed p u → p.length < 1024 → u ≡ v → r ≡ push_if true p v
unfolding pushed
push_comes p u v r e room same = e ∙ rw (lt-ltb p.length 1024 room, same)
