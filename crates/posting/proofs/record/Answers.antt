-- `record` writes what `recorded` says, field by field.
use Rattle.std.proofs.Common.{rules}
use Prim.Native.Nat.{ℕ, ◌+◌}
use native.Mathlib.Omega.{arith}
use mathlib.Core.Bool.{Bool}
use mathlib.Core.Path.{◌≡◌, ap, ◌∙◌}
use lib.ListN.{set}
use mir.Syntax.{w32}
use mir.Facts.{to_z-of_z}
use Rattle.domains.specs.declared.Bounds.{Bounds}
use Rattle.domains.proofs.Fits.{pruned_fits}
use Rattle.stores.specs.Store.{variable_of, domain_of, differs, recorded, push_if, link_if}
use Rattle.stores.specs.Calls.{posted}
use Rattle.stores.proofs.Straight.{tidy}
use Rattle.stores.proofs.Meaning.{meant}
use Rattle.stores.proofs.History.{straight}
use Rattle.stores.proofs.Moved.{tested}
use Rattle.posting.proofs.record.Goals as goal

pub bounds-store-x : goal.bounds-store-x
bounds-store-x c = omega (arith, (tidy (straight c.requires.made)).domains, (tidy (straight c.requires.made)).long_variables, c.requires.recordable.there)

pub add_if-lower-requires : goal.add_if-lower-requires
add_if-lower-requires c = omega (arith, (tidy (straight c.requires.made)).lower.short, c.requires.recordable.room)

pub add_if-upper-requires : goal.add_if-upper-requires
add_if-upper-requires c = omega (arith, (tidy (straight c.requires.made)).upper.short, c.requires.recordable.room)

pub add_if-holes-requires : goal.add_if-holes-requires
add_if-holes-requires c = omega (arith, (tidy (straight c.requires.made)).holes.short, c.requires.recordable.room)

pub bounds-store-x-2 : goal.bounds-store-x-2
bounds-store-x-2 c = omega (arith, (tidy (straight c.requires.made)).domains, c.requires.recordable.there)

pub overflow_add-store : goal.overflow_add-store
overflow_add-store c =
    let from = (variable_of c.args.store.now c.args.predicate.domain.0).bounds in
    let to = c.args.to in
    let more = pruned_fits c.args.predicate.kind from to (search rules) (search rules) (search rules) (search rules) in
    record { fits = omega (arith, c.pruned.ensures, more, (meant (straight c.requires.made)).small, c.requires.recordable.room) }

pub returns : goal.returns
unfolding posted recorded domain_of
returns c =
    let s = c.args.store.now in
    let p = c.args.predicate in
    let to = c.args.to in
    let was = variable_of s p.domain.0 in
    let at = s.trail.length in
    let in_lower = tested was.bounds.lower to.lower (search rules) (search rules) in
    let in_upper = tested was.bounds.upper to.upper (search rules) (search rules) in
    let in_holes = c.is_not_equal_predicate.ensures in
    let low = to_z-of_z {w = w32} {z = to.lower} (search rules) in
    let high = to_z-of_z {w = w32} {z = to.upper} (search rules) in
    let value = to_z-of_z {w = w32} {z = p.value} (search rules) in
    let lower = c.add_if-lower.ensures in
    let upper = c.add_if-upper.ensures in
    let holes = c.add_if-holes.ensures in
    let stored : _ ≡ recorded s p c.args.reason (differs was.bounds.lower to.lower) (differs was.bounds.upper to.upper) to =
    λ i. record {
      trail = c.push.ensures i;
      lower = (lower.rest ∙ (λ j. push_if (in_lower j) s.lower (record { value = low j; position = record { 0 = at }; previous = was.lower }))) i;
      upper = (upper.rest ∙ (λ j. push_if (in_upper j) s.upper (record { value = high j; position = record { 0 = at }; previous = was.upper }))) i;
      holes = (holes.rest ∙ (λ j. push_if (in_holes j) s.holes (record { value = value j; position = record { 0 = at }; previous = was.holes }))) i;
      variables = set s.variables p.domain.0 (record was {
        bounds = to;
        lower = (lower.link ∙ ap (λ (b : Bool). link_if b s.lower was.lower) in_lower) i;
        upper = (upper.link ∙ ap (λ (b : Bool). link_if b s.upper was.upper) in_upper) i;
        holes = (holes.link ∙ ap (λ (b : Bool). link_if b s.holes was.holes) in_holes) i;
      });
      domains = s.domains;
      delimiters = s.delimiters;
      checkpoint = s.checkpoint;
      pruned = ap (λ (n : ℕ). s.pruned + n) c.pruned.ensures i;
    } in
    stored ∙ ap (λ (b : Bounds). recorded s p c.args.reason (differs was.bounds.lower b.lower) (differs was.bounds.upper b.upper) b) c.requires.recordable.aimed
