-- `tighten_upper_bound` lowers the bound where that is above the value, as "at most" does, and else does nothing.
use mathlib.Core.Path.{refl}
use mir.Facts.{to_z-of_z}
use Rattle.predicates.specs.declared.PredicateType.TheVariants.{UpperBound}
use Rattle.rules.proofs.Reading.{tested, answer}
use Rattle.rules.proofs.Cases.{idle, moves}
use Rattle.rules.proofs.StoredDomain.tighten_upper_bound.Goals as goal

pub returns-then-value-upper : goal.returns-then-value-upper
returns-then-value-upper c =
    let fits = c.self.invariant.fits in
    let above = tested c.ranges.value fits.upper c.if-value-upper.true in
    let lowered = answer c.lowered.type_inv (rw (← c.self.view_is, to_z-of_z c.ranges.value, to_z-of_z fits.lower) at c.lowered.ensures) in
    rw (← c.self.view_is) (simp (lowered, to_z-of_z fits.lower) (moves UpperBound _ _ above refl))

pub returns : goal.returns
returns c = rw (← c.self.view_is) (idle UpperBound _ _ (tested c.ranges.value c.self.invariant.fits.upper c.if-value-upper.false))
