-- `lay_down` enters two entries and pushes two updates, which is all that a dense variable is.
use mathlib.Core.Path.{◌≡◌, refl, sym, ap, ◌∙◌}
use lib.ListN.{set}
use mir.Syntax.{w32}
use mir.Val.{SFits}
use mir.Facts.{to_z-of_z}
use native.Mathlib.Omega.{arith}
use native.Mathlib.Numerals.{add-one}
use borrow.Author.Rules.{rules}
use Rattle.pools.specs.declared.Pool.{Pool}
use Rattle.stories.specs.Calls.{at_least, at_most}
use Rattle.stores.specs.Store.{entered}
use Rattle.stores.proofs.Straight.{tidy}
use Rattle.stores.proofs.History.{straight}
use Rattle.creating.specs.Parts.{without_reason}
use Rattle.creating.specs.Dense.{newest, dense, grown_dense, push_comes}
use Rattle.creating.proofs.lay_down.Goals as goal

pub overflow_cast-store : goal.overflow_cast-store
overflow_cast-store c =
    let order = tidy (straight c.requires.made) in
    let long = ap (λ (p : Pool). p.length) (push_comes _ _ _ _ c.push-store.ensures (omega (arith, order.lower.short)) refl) in
    record { fits = omega (arith, order.lower.short) }

pub overflow_cast-store-2 : goal.overflow_cast-store-2
overflow_cast-store-2 c =
    let order = tidy (straight c.requires.made) in
    let long = ap (λ (p : Pool). p.length) (push_comes _ _ _ _ c.push-store-2.ensures (omega (arith, order.upper.short)) refl) in
    record { fits = omega (arith, order.upper.short) }

pub returns : goal.returns
unfolding dense
returns c =
    let s = c.args.store.now in
    let b = c.args.bounds in
    let at = s.trail.length in
    let order = tidy (straight c.requires.made) in
    let lower_fits : SFits w32 b.lower = search rules in
    let upper_fits : SFits w32 b.upper = search rules in
    let low = to_z-of_z lower_fits in
    let high = to_z-of_z upper_fits in
    let least = c.lower_bound_predicate-least.ensures ∙ (λ i. at_least (c.requires.number i) (low i)) in
    let most = c.upper_bound_predicate-most.ensures ∙ (λ i. at_most (c.requires.number i) (high i)) in
    let one = c.enter.ensures ∙ (λ i. entered s.trail (without_reason (least i) b)) in
    let two = c.enter-2.ensures ∙ (λ i. entered (one i) (without_reason (most i) b)) in
    let lower = push_comes s.lower _ _ _ c.push-store.ensures (omega (arith, order.lower.short)) (λ i. record { value = low i; position = record { 0 = at }; previous = 0 }) in
    let upper = push_comes s.upper _ _ _ c.push-store-2.ensures (omega (arith, order.upper.short)) (λ i. record { value = high i; position = record { 0 = add-one at i }; previous = 0 }) in
    let stored : _ ≡ dense s b = λ i. record {
      trail = two i;
      lower = lower i;
      upper = upper i;
      holes = s.holes;
      variables = set s.variables s.domains (newest s b (lower i).length (upper i).length);
      domains = add-one s.domains i;
      delimiters = s.delimiters;
      checkpoint = s.checkpoint;
      pruned = s.pruned;
    } in
    stored ∙ sym (grown_dense s b (omega (arith, order.long_variables)))
