-- `remove_value_from_domain` does nothing where the value is not left; else each bound that is the value steps away from it.
use mathlib.Core.Path.{◌≡◌, refl, sym, ◌∙◌}
use mathlib.Core.Logic.{◌≢◌}
use mathlib.Core.Bool.{true, false}
use lib.IntN.{ℤ}
use mir.Syntax.{w32}
use mir.Val.{SFits, of_z}
use mir.Facts.{to_z-of_z}
use Rattle.integers.specs.Integers.{eq_z}
use Rattle.integers.proofs.Order.{integers}
use Rattle.domains.specs.Domain.{Domain}
use Rattle.domains.proofs.Tests.{clash}
use Rattle.domains.proofs.Membership.{Left}
use Rattle.pools.proofs.Bits.{same_bits, other_bits}
use Rattle.rules.specs.Sound.{domain_in}
use Rattle.rules.proofs.Reading.{tested, answer, one_more, one_less}
use Rattle.rules.proofs.Cases.{not_left, only_end, trims, passes}
use Rattle.rules.proofs.StoredDomain.remove_value_from_domain.Goals as goal
use Rattle.rules.proofs.StoredDomain.remove_value_from_domain.Goals.{Else-contains, then-value-lower-via-then-value-lower, then-value-lower-via-else-value-lower+then-upper-value, then-value-lower-via-else-value-lower+else-upper-value+then-contains}

-- from here on the value is left
module _ (c : Else-contains) where
  abbrev value : ℤ
  value = c.args.value

  abbrev domain : Domain
  domain = domain_in c.self.inside.holes c.self.inside.newest c.self.inside.bounds

  value_left : Left domain value
  value_left =
      let low = tested c.ranges.value c.self.invariant.fits.lower c.if-value-lower.false in
      let high = tested c.self.invariant.fits.upper c.ranges.value c.if-upper-value.false in
      let hole = simp (to_z-of_z c.ranges.value) at c.contains.ensures in
      record { above = omega integers; below = omega integers; kept = sym hole ∙ c.if-contains.false }

  -- what `==` told of the value and another
  same : {z : ℤ} → SFits w32 z → of_z w32 value ≡ of_z w32 z → eq_z value z ≡ true
  same f e = same_bits _ value f c.ranges.value (sym e)

  other : (z : ℤ) → of_z w32 value ≢ of_z w32 z → eq_z value z ≡ false
  other z n = other_bits z value (λ e. n (sym e))

  -- the value is a bound
  at_lower : of_z w32 value ≡ of_z w32 domain.lower → eq_z value domain.lower ≡ true
  at_lower = same c.self.invariant.fits.lower

  at_upper : of_z w32 value ≡ of_z w32 domain.upper → eq_z value domain.upper ≡ true
  at_upper = same c.self.invariant.fits.upper

pub returns-then-value-lower : goal.returns-then-value-lower
returns-then-value-lower c =
    let fits = c.self.invariant.fits in
    rw (← c.self.view_is)
    (elim c.then-value-lower.branch [
      | then-value-lower-via-then-value-lower w ↦
          let test = tested c.ranges.value fits.lower w.if-value-lower.true in
          not_left _ _ (λ i. omega integers)
      | then-value-lower-via-else-value-lower+then-upper-value w ↦
          let test = tested fits.upper c.ranges.value w.if-upper-value.true in
          not_left _ _ (λ i. omega integers)
      | then-value-lower-via-else-value-lower+else-upper-value+then-contains w ↦
          let hole = simp (to_z-of_z c.ranges.value) at w.contains.ensures in
          not_left _ _ (λ i. clash (sym hole ∙ w.if-contains.true) i.kept)
    ])

pub returns-in-true-true : goal.returns-in-true-true
returns-in-true-true c =
    let here = (goal.at.returns-in-true-true c).Else-contains in
    let end = simp (to_z-of_z c.ranges.value) at (sym c.is_outermost.ensures ∙ c.if-is_outermost.true) in
    rw (← c.self.view_is) (only_end _ _ (value_left here) (at_lower here c.in-true-true.is-0) (at_upper here c.in-true-true.is-1) end)

-- it is the only one left
pub returns-in-true-true-2 : goal.returns-in-true-true-2
returns-in-true-true-2 c =
    let here = (goal.at.returns-in-true-true-2 c).Else-contains in
    let inner = simp (to_z-of_z c.ranges.value) at (sym c.is_outermost.ensures ∙ c.if-is_outermost.false) in
    let t = trims _ _ (value_left here) c.self.invariant.fits true true (at_lower here c.in-true-true.is-0) (at_upper here c.in-true-true.is-1) inner in
    rw (← c.self.view_is) (simp (to_z-of_z c.ranges.value, one_more, one_less, to_z-of_z (t.next refl), to_z-of_z (t.previous refl)) (passes _ _ t))

-- it is the lower bound alone
pub returns-in-true-false : goal.returns-in-true-false
returns-in-true-false c =
    let here = (goal.at.returns-in-true-false c).Else-contains in
    let fits = c.self.invariant.fits in
    let t = trims _ _ (value_left here) fits true false (at_lower here c.in-true-false.is-0) (other here _ c.in-true-false.is-1) refl in
    let raised = answer c.raised.type_inv (simp (to_z-of_z c.ranges.value, one_more, to_z-of_z (t.next refl)) at (rw (← c.self.view_is) at c.raised.ensures)) in
    rw (← c.self.view_is) (simp (raised, to_z-of_z fits.upper) t.bounds)

-- it is the upper bound alone
pub returns-in-false-true : goal.returns-in-false-true
returns-in-false-true c =
    let here = (goal.at.returns-in-false-true c).Else-contains in
    let fits = c.self.invariant.fits in
    let t = trims _ _ (value_left here) fits false true (other here _ c.in-false-true.is-0) (at_upper here c.in-false-true.is-1) refl in
    let lower = to_z-of_z fits.lower in
    let lowered = answer c.lowered.type_inv (simp (to_z-of_z c.ranges.value, one_less, to_z-of_z (t.previous refl), lower) at (rw (← c.self.view_is) at c.lowered.ensures)) in
    rw (← c.self.view_is) (simp (lower, lowered) t.bounds)

-- it is no bound
pub returns-in-false-false : goal.returns-in-false-false
returns-in-false-false c =
    let here = (goal.at.returns-in-false-false c).Else-contains in
    rw (← c.self.view_is) (trims _ _ (value_left here) c.self.invariant.fits false false (other here _ c.in-false-false.is-0) (other here _ c.in-false-false.is-1) refl).bounds
