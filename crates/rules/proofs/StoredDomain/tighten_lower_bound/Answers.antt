-- `tighten_lower_bound` raises the bound where that is below the value, as "at least" does, and else does nothing.
use mathlib.Core.Path.{refl}
use mir.Facts.{to_z-of_z}
use Rattle.predicates.specs.declared.PredicateType.TheVariants.{LowerBound}
use Rattle.rules.proofs.Reading.{tested, answer}
use Rattle.rules.proofs.Cases.{idle, moves}
use Rattle.rules.proofs.StoredDomain.tighten_lower_bound.Goals as goal

pub returns-then-lower-value : goal.returns-then-lower-value
returns-then-lower-value c =
    let fits = c.self.invariant.fits in
    let below = tested fits.lower c.ranges.value c.if-lower-value.true in
    let raised = answer c.raised.type_inv (rw (← c.self.view_is, to_z-of_z c.ranges.value) at c.raised.ensures) in
    rw (← c.self.view_is) (simp (raised, to_z-of_z fits.upper) (moves LowerBound _ _ below refl))

pub returns : goal.returns
returns c = rw (← c.self.view_is) (idle LowerBound _ _ (tested c.self.invariant.fits.lower c.ranges.value c.if-lower-value.false))
