-- `undo` takes from each history what the entry left there, and puts the variable back as it was before the entry.
use Rattle.std.proofs.Common.{rules, ℕ, ◌-◌, Bool, ◌∙◌, ap, set}
use Rattle.stores.specs.Store.{pop_if, back_if, undone_by}
use Rattle.stores.proofs.Moved.{tested}
use Rattle.backtracking.proofs.undo.Goals as goal

pub returns : goal.returns
unfolding undone_by
returns c =
    let s = c.args.store.now in
    let e = c.args.entry in
    let was = c.args.was in
    let last : ℕ = s.trail.length - 1 in
    let in_lower = tested e.old.lower was.bounds.lower (search rules) (search rules) in
    let in_upper = tested e.old.upper was.bounds.upper (search rules) (search rules) in
    let in_holes = c.is_not_equal_predicate.ensures in
    let lower = c.take_if-lower.ensures in
    let upper = c.take_if-upper.ensures in
    let holes = c.take_if-holes.ensures in
    λ i. record s {
      trail = record { entries = set s.trail.entries last (c.blank.ensures i); length = last };
      lower = (lower.rest ∙ ap (λ (b : Bool). pop_if b s.lower) in_lower) i;
      upper = (upper.rest ∙ ap (λ (b : Bool). pop_if b s.upper) in_upper) i;
      holes = (holes.rest ∙ ap (λ (b : Bool). pop_if b s.holes) in_holes) i;
      variables = set s.variables e.predicate.domain.0 (record was {
        bounds = e.old;
        lower = (lower.link ∙ ap (λ (b : Bool). back_if b s.lower was.lower) in_lower) i;
        upper = (upper.link ∙ ap (λ (b : Bool). back_if b s.upper was.upper) in_upper) i;
        holes = (holes.link ∙ ap (λ (b : Bool). back_if b s.holes was.holes) in_holes) i;
      });
      pruned = (c.saturating_sub-store.ensures ∙ ap (λ (n : ℕ). s.pruned - n) c.pruned.ensures) i;
    }
