-- `remove` records one entry and one hole, which is all that a post of "not value" does where the value is neither bound.
use mathlib.Core.Path.{◌≡◌, refl, sym, ap, ◌∙◌}
use lib.ListN.{set}
use mir.Facts.{to_z-of_z}
use native.Mathlib.Omega.{arith}
use native.Mathlib.Numerals.{add-one}
use Rattle.pools.specs.declared.Pool.{Pool}
use Rattle.stores.specs.Store.{variable_of, entered}
use Rattle.stories.specs.Calls.{not_equal}
use Rattle.creating.specs.Parts.{without_reason}
use Rattle.creating.specs.Dense.{push_comes}
use Rattle.creating.specs.Walks.{removal, posted_removal}
use Rattle.creating.proofs.remove.Goals as goal

pub overflow_cast-store : goal.overflow_cast-store
overflow_cast-store c =
    let long = ap (λ (p : Pool). p.length) (push_comes _ _ _ _ c.push-store.ensures c.requires.holes refl) in
    record { fits = omega (arith, c.requires.holes) }

pub returns : goal.returns
unfolding removal
returns c =
    let s = c.args.store.now in
    let x = c.args.id.0 in
    let at = s.trail.length in
    let was = variable_of s x in
    let value = to_z-of_z c.ranges.value in
    let predicate = c.disequality_predicate-unequal.ensures ∙ ap (not_equal x) value in
    let trail = c.enter.ensures ∙ (λ i. entered s.trail (without_reason (predicate i) was.bounds)) in
    let holes = push_comes s.holes _ _ _ c.push-store.ensures c.requires.holes (λ i. record { value = value i; position = record { 0 = at }; previous = was.holes }) in
    let stored : _ ≡ removal s x c.args.value = λ i. record {
      trail = trail i;
      lower = s.lower;
      upper = s.upper;
      holes = holes i;
      variables = set s.variables x (record { bounds = was.bounds; initial = was.initial; lower = was.lower; upper = was.upper; holes = (holes i).length; mark = was.mark });
      domains = s.domains;
      delimiters = s.delimiters;
      checkpoint = s.checkpoint;
      pruned = add-one s.pruned i;
    } in
    stored ∙ sym (posted_removal s x c.args.value c.requires.low c.requires.high)
