-- What a post comes to at each way out of the code: nothing, a refusal, or the bounds that the way out has. Assumes nothing.
use mathlib.Core.Path.{◌≡◌, refl, ◌∙◌}
use mathlib.Core.Bool.{Bool, true, false, ◌&&◌, ◌||◌}
use lib.IntN.{ℤ, suc_ℤ, pred_ℤ}
use lib.Signed.{lt_z}
use mir.Syntax.{w32}
use mir.Val.{SFits}
use Rattle.integers.specs.Integers.{eq_z}
use Rattle.integers.proofs.Order.{integers, suc=, pred=}
use Rattle.predicates.specs.declared.PredicateType.{PredicateType}
use Rattle.predicates.specs.declared.PredicateType.TheVariants.{NotEqual, Equal}
use Rattle.domains.specs.declared.Step.TheVariants.{Nothing, Overflows, Moves}
use Rattle.domains.specs.Choice.{pick}
use Rattle.domains.specs.Domain.{Domain, raised, lowered, acts, lower_after, upper_after, overflows, step_of}
use Rattle.domains.specs.Limits.{first, last}
use Rattle.domains.proofs.Fits.{suc_fits, pred_fits}
use Rattle.domains.proofs.Membership.{Left, left, is_left}
use Rattle.domains.specs.Promises.{Fits}
use Rattle.domains.proofs.Stepping.{stays, raised_is, lowered_is}
use Rattle.domains.proofs.Tests.{by_cases}

module _ (k : PredicateType) (v : ℤ) (d : Domain) where
  pub idle : acts k v d ≡ false → Nothing ≡ step_of k v d
  unfolding step_of
  idle e = rw e

  refuses : acts k v d ≡ true → overflows k v d ≡ true → Overflows ≡ step_of k v d
  unfolding step_of
  refuses e o = rw (e, o)

  pub moves : acts k v d ≡ true → overflows k v d ≡ false →
      Moves (record { lower = lower_after k v d; upper = upper_after k v d }) ≡ step_of k v d
  unfolding step_of
  moves e o = rw (e, o)

module _ (v : ℤ) (d : Domain) where
  -- the lower bound after a step to z, if it takes one, and then the upper bound
  abbrev low : Bool → ℤ → ℤ
  low p z = pick p (raised d.holes d.upper z) d.lower

  abbrev high : Bool → ℤ → ℤ → ℤ
  high q l z = pick q (lowered d.holes l z) d.upper

  -- "equal v" moves the bounds that v lies past
  pub assigns : (p q : Bool) → lt_z d.lower v ≡ p → lt_z v d.upper ≡ q → (p || q) ≡ true →
      Moves (record { lower = low p v; upper = high q (low p v) v }) ≡ step_of Equal v d
  assigns p q below above e = rw (below, above) at (moves Equal v d (rw (below, above) e) refl)

  -- "not v" does nothing where v is not left
  pub not_left : (Left d v → ⊥) → Nothing ≡ step_of NotEqual v d
  not_left n = idle NotEqual v d (by_cases (acts NotEqual v d) (λ e. absurd (n (left d v e))) (λ e. e))

  -- it is refused where v is the only value left, and the first or the last i32
  pub only_end : Left d v → eq_z v d.lower ≡ true → eq_z v d.upper ≡ true → (eq_z v last || eq_z v first) ≡ true → Overflows ≡ step_of NotEqual v d
  only_end i at-lower at_upper e = refuses NotEqual v d (is_left d v i) (rw (at-lower, at_upper) e)

  -- else it moves the bounds that are v, and the numbers next to v to which they move are i32
  pub record Trims (p q : Bool) : Type 0 where
    pub at_upper : eq_z v d.upper ≡ q
    pub next : p ≡ true → SFits w32 (suc_ℤ v)
    pub previous : q ≡ true → SFits w32 (pred_ℤ v)
    pub bounds : Moves (record { lower = low p (suc_ℤ v); upper = high q (low p (suc_ℤ v)) (pred_ℤ v) }) ≡ step_of NotEqual v d

  pub trims : Left d v → Fits d → (p q : Bool) → eq_z v d.lower ≡ p → eq_z v d.upper ≡ q →
      (p && (q && (eq_z v last || eq_z v first))) ≡ false → Trims p q
  trims i f p q at-lower at_upper e =
      let act = is_left d v i in
      let fine : overflows NotEqual v d ≡ false = rw (at-lower, at_upper) e in
      record {
        at_upper = at_upper;
        next = λ t. suc_fits v d f act fine (at-lower ∙ t);
        previous = λ t. pred_fits v d f act fine (at_upper ∙ t);
        bounds = rw (at-lower, at_upper) at (moves NotEqual v d act fine);
      }

  -- where v is the only value left, the bounds pass each other and meet no hole
  pub passes : Trims true true → Moves (record { lower = suc_ℤ v; upper = pred_ℤ v }) ≡ step_of NotEqual v d
  passes t =
      let u = t.at_upper in
      let up = raised_is d.holes d.upper (suc_ℤ v) _ (stays _ _ _ (λ p. absurd (omega (integers, suc= v)))) in
      let down =
      lowered_is d.holes (suc_ℤ v) (pred_ℤ v) (pred_ℤ v)
      (record { below = omega integers; passed = λ x p q. absurd (omega integers); stops = λ p. absurd (omega (integers, suc= v, pred= v)) }) in
      rw (up, down) at t.bounds
