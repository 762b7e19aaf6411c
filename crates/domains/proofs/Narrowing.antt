-- What posts are made of: a bound becomes v and steps on, a hole is stored. A bound that steps on passes holes only, and so loses no
-- value beyond v; and it stops at no hole, so that it is a value left if any is. Assumes nothing.
use mathlib.Core.Path.{◌≡◌, refl}
use mathlib.Core.Bool.{Bool, true, false}
use mathlib.Core.List.{◌∷◌}
use lib.IntN.{ℤ}
use lib.Signed.{◌≤ℤ◌}
use Rattle.integers.specs.Integers.{eq_z}
use Rattle.integers.proofs.Order.{integers}
use Rattle.domains.specs.Choice.{pick}
use Rattle.domains.specs.Domain.{Domain, has, raised, lowered}
use Rattle.domains.proofs.Tests.{neither}
use Rattle.domains.proofs.Stepping.{raised_steps, lowered_steps, not_passed, not_passed_down}
use Rattle.domains.proofs.Membership.{Left, left, is_left}
use Rattle.domains.specs.Promises.{Tight}

-- where the test holds, the lower bound becomes v and steps on; the upper bound does; v is stored as a hole
abbrev pub raised_if : Bool → ℤ → Domain → Domain
raised_if b v d = record { lower = pick b (raised d.holes d.upper v) d.lower; upper = d.upper; holes = d.holes }

abbrev pub lowered_if : Bool → ℤ → Domain → Domain
lowered_if b v d = record { lower = d.lower; upper = pick b (lowered d.holes d.lower v) d.upper; holes = d.holes }

abbrev pub without : ℤ → Domain → Domain
without v d = record { lower = d.lower; upper = d.upper; holes = v ∷ d.holes }

-- the bounds move inwards, the holes stay, and bounds that are tight stay so
pub record Narrows (d e : Domain) : Type 0 where
  pub rises : d.lower ≤ℤ e.lower
  pub falls : e.upper ≤ℤ d.upper
  pub keeps : (x : ℤ) → has e.holes x ≡ false → has d.holes x ≡ false
  pub tight : Tight d → Tight e

pub within : {d e : Domain} {x : ℤ} → Narrows d e → Left e x → Left d x
within {x} n i = record { above = omega integers; below = omega integers; kept = n.keeps x i.kept }

pub no_change : (d : Domain) → Narrows d d
no_change d = record { rises = omega integers; falls = omega integers; keeps = λ x k. k; tight = λ t. t }

pub and_then : {d e f : Domain} → Narrows d e → Narrows e f → Narrows d f
and_then p q =
    record {
      rises = omega integers;
      falls = omega integers;
      keeps = λ x k. p.keeps x (q.keeps x k);
      tight = λ t. q.tight (p.tight t);
    }

-- bounds are tight where they are no holes
no_holes : (d : Domain) →
    (d.lower ≤ℤ d.upper → (has d.holes d.lower ≡ false) × (has d.holes d.upper ≡ false)) → Tight d
no_holes d f =
    record {
      least = λ h. is_left d _ (record { above = omega integers; below = h; kept = (f h).0 });
      most = λ h. is_left d _ (record { above = h; below = omega integers; kept = (f h).1 });
    }

pub raised_narrows : (b : Bool) (v : ℤ) (d : Domain) → (b ≡ true → d.lower ≤ℤ v) → Narrows d (raised_if b v d)
raised_narrows true v d h =
    let up = raised_steps d.holes d.upper v in
    let far = h refl in
    record {
      rises = omega integers;
      falls = omega integers;
      keeps = λ x k. k;
      tight = λ t. no_holes (raised_if true v d) (λ p. (up.stops p, (left d _ (t.most (omega integers))).kept));
    }
raised_narrows false v d h = no_change d

pub lowered_narrows : (b : Bool) (v : ℤ) (d : Domain) → (b ≡ true → v ≤ℤ d.upper) → Narrows d (lowered_if b v d)
lowered_narrows true v d h =
    let down = lowered_steps d.holes d.lower v in
    let far = h refl in
    record {
      rises = omega integers;
      falls = omega integers;
      keeps = λ x k. k;
      tight = λ t. no_holes (lowered_if true v d) (λ p. ((left d _ (t.least (omega integers))).kept, down.stops p));
    }
lowered_narrows false v d h = no_change d

pub without_narrows : (v : ℤ) (d : Domain) → eq_z d.lower v ≡ false → eq_z d.upper v ≡ false → Narrows d (without v d)
without_narrows v d l u =
    record {
      rises = omega integers;
      falls = omega integers;
      keeps = λ x k. (neither (eq_z x v) (has d.holes x) k).1;
      tight = λ t. no_holes (without v d) (λ p. (rw (l, (left d _ (t.least p)).kept), rw (u, (left d _ (t.most p)).kept)));
    }

-- no value is lost from v on
pub raised_leaves : (b : Bool) (v : ℤ) (d : Domain) (x : ℤ) → Left d x → (b ≡ true → v ≤ℤ x) → Left (raised_if b v d) x
raised_leaves true v d x i h =
    let up = raised_steps d.holes d.upper v in
    record { above = not_passed up x (h refl) (λ _. i.kept); below = i.below; kept = i.kept }
raised_leaves false v d x i h = i

pub lowered_leaves : (b : Bool) (v : ℤ) (d : Domain) (x : ℤ) → Left d x → (b ≡ true → x ≤ℤ v) → Left (lowered_if b v d) x
lowered_leaves true v d x i h =
    let down = lowered_steps d.holes d.lower v in
    record { above = i.above; below = not_passed_down down x (h refl) (λ _. i.kept); kept = i.kept }
lowered_leaves false v d x i h = i
