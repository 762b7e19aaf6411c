-- `make_assignment` raises the lower bound where that is below the value, and then lowers the upper bound where that is above.
use mathlib.Core.Path.{◌≡◌, refl}
use mathlib.Core.Bool.{true, false}
use lib.Signed.{lt_z}
use mir.Syntax.{w32}
use mir.Val.{of_z, to_z}
use mir.Facts.{to_z-of_z}
use Rattle.predicates.specs.declared.PredicateType.TheVariants.{Equal}
use Rattle.domains.specs.Domain.{Domain, raised}
use Rattle.domains.proofs.Fits.{risen_hole}
use Rattle.rules.specs.Sound.{domain_in}
use Rattle.rules.proofs.Reading.{tested, answer}
use Rattle.rules.proofs.Cases.{idle, assigns}
use Rattle.rules.proofs.StoredDomain.make_assignment.Goals as goal
use Rattle.rules.proofs.StoredDomain.make_assignment.Goals.{After-raised-raised}

-- where the lower bound is raised
module _ (c : After-raised-raised) where
  abbrev domain : Domain
  domain = domain_in c.self.inside.holes c.self.inside.newest c.self.inside.bounds

  below : lt_z domain.lower c.args.value ≡ true
  below = tested c.self.invariant.fits.lower c.ranges.value c.if-lower-value.true

  risen : to_z w32 (of_z w32 c.raised-raised.result) ≡ raised domain.holes domain.upper c.args.value
  risen = answer c.raised-raised.type_inv (rw (← c.self.view_is, to_z-of_z c.ranges.value) at c.raised-raised.ensures)

pub lowered-requires : goal.lowered-requires
lowered-requires c =
    let here = (goal.at.lowered-requires c).After-raised-raised in
    let test = below here in
    rw (← c.self.view_is) (simp (risen here) (rw test at (risen_hole Equal c.args.value (domain here) c.self.invariant.tight c.self.invariant.fits (rw test refl))))

pub returns-then-value-upper : goal.returns-then-value-upper
returns-then-value-upper c =
    let here = (goal.at.returns-then-value-upper c).After-raised-raised in
    let above = tested c.ranges.value c.self.invariant.fits.upper c.if-value-upper.true in
    let lowered = answer c.lowered.type_inv (simp (to_z-of_z c.ranges.value, risen here) at (rw (← c.self.view_is) at c.lowered.ensures)) in
    rw (← c.self.view_is) (simp (risen here, lowered) (assigns _ _ true true (below here) above refl))

pub returns-then-lower-value : goal.returns-then-lower-value
returns-then-lower-value c =
    let here = (goal.at.returns-then-lower-value c).After-raised-raised in
    let not_above = tested c.ranges.value c.self.invariant.fits.upper c.if-value-upper.false in
    rw (← c.self.view_is) (simp (risen here, to_z-of_z c.self.invariant.fits.upper) (assigns _ _ true false (below here) not_above refl))

pub returns-then-value-upper-2 : goal.returns-then-value-upper-2
returns-then-value-upper-2 c =
    let fits = c.self.invariant.fits in
    let lower = to_z-of_z fits.lower in
    let not_below = tested fits.lower c.ranges.value c.if-lower-value.false in
    let above = tested c.ranges.value fits.upper c.if-value-upper-2.true in
    let lowered = answer c.lowered-then-value-upper-2.type_inv (simp (to_z-of_z c.ranges.value, lower) at (rw (← c.self.view_is) at c.lowered-then-value-upper-2.ensures)) in
    rw (← c.self.view_is) (simp (lower, lowered) (assigns _ _ false true not_below above refl))

pub returns : goal.returns
returns c =
    let not_below = tested c.self.invariant.fits.lower c.ranges.value c.if-lower-value.false in
    let not_above = tested c.ranges.value c.self.invariant.fits.upper c.if-value-upper-2.false in
    rw (← c.self.view_is) (idle Equal _ _ (rw (not_below, not_above) refl))
