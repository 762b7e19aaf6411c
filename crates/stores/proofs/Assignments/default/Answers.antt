-- `Assignments::default` is a fresh store: its two entries and two updates are those of growing 1 to 1 from nothing.
use mathlib.Core.Path.{◌∙◌, ap}
use lib.IntN.{pos}
use lib.ListN.{set, replicate}
use Rattle.integers.specs.Distance.{distance}
use Rattle.predicates.specs.declared.Reason.TheVariants.{None}
use Rattle.domains.specs.declared.Bounds.{Bounds}
use Rattle.domains.specs.Domain.{pruned_by}
use Rattle.pools.specs.declared.Pool.{Pool}
use Rattle.pools.specs.Chain.{no_updates, pushed}
use Rattle.stores.specs.Store.{bare, allocated, recorded}
use Rattle.stores.specs.Calls.{grown, fresh}
use Rattle.stores.proofs.Assignments.default.Goals as goal

pub returns : goal.returns
unfolding fresh grown recorded allocated bare no_updates pushed pruned_by distance
returns c =
    let entry = c.blank-no_entry.ensures in
    let first = c.lower_bound_predicate.ensures in
    let second = c.upper_bound_predicate.ensures in
    let none = c.empty-holes.ensures in
    let lower = c.push-lower.ensures ∙ ap (λ (p : Pool). pushed p (record { value = pos 1; position = record { 0 = 0 }; previous = 0 })) none in
    let upper = c.push-upper.ensures ∙ ap (λ (p : Pool). pushed p (record { value = pos 1; position = record { 0 = 1 }; previous = 0 })) none in
    let one : Bounds = record { lower = pos 1; upper = pos 1 } in
    λ i. record {
      trail = record {
        entries = set (set (replicate 1024 (entry i)) 0 (record { predicate = first i; old = one; reason = None })) 1 (record { predicate = second i; old = one; reason = None });
        length = 2;
      };
      lower = lower i;
      upper = upper i;
      holes = none i;
      variables = set (replicate 256 (c.blank-no_variable.ensures i)) 0 (record { bounds = one; initial = one; lower = 1; upper = 1; holes = 0; mark = record { 0 = 1 } });
      domains = 1;
      delimiters = replicate 256 0;
      checkpoint = 0;
      pruned = 0;
    }
