-- Bounds stay within i32: a bound that steps on stops at the first or the last i32 at the latest, which is no hole if it is a bound.
-- What the code of a post needs for its own steps is proved on the way. Assumes nothing.
use Prim.Native.Nat.{◌<◌, ◌≤◌}
use mathlib.Core.Path.{◌≡◌, refl}
use mathlib.Core.Bool.{true, false, ◌&&◌}
use lib.IntN.{ℤ, suc_ℤ, pred_ℤ, neg_ℤ, ◌-ℤ◌}
use lib.Signed.{lt_z, ◌≤ℤ◌, ◌<ℤ◌}
use native.Mathlib.Omega.{arith}
use mir.Syntax.{w32}
use mir.Val.{SFits}
use Rattle.integers.specs.Integers.{eq_z}
use Rattle.integers.proofs.Order.{integers, suc=, pred=, add=, neg=, abs=, fits→, →fits}
use Rattle.integers.specs.Distance.{distance}
use Rattle.predicates.specs.declared.PredicateType.{PredicateType}
use Rattle.predicates.specs.declared.PredicateType.TheVariants.{LowerBound, NotEqual, Equal, UpperBound}
use Rattle.domains.specs.declared.Bounds.{Bounds}
use Rattle.domains.specs.Choice.{pick}
use Rattle.domains.specs.Limits.{first, last}
use Rattle.domains.specs.Domain.{Domain, has, raised, lowered, acts, lower_after, upper_after, is_not_equal, moved, after}
use Rattle.domains.specs.Domain.{overflows, pruned_by}
use Rattle.domains.proofs.Tests.{by_cases, picked, clash}
use Rattle.domains.proofs.Stepping.{raised_steps, lowered_steps, not_passed, not_passed_down}
use Rattle.domains.proofs.Membership.{left}
use Rattle.domains.specs.Promises.{Tight, Fits, FitsLaw}
use Rattle.domains.proofs.Laws.{moved_narrows}

between : (z : ℤ) → first ≤ℤ z → z ≤ℤ last → SFits w32 z
between z p q = →fits z (omega integers) (omega integers)

-- a bound that is the first or the last i32 is no hole
module _ (d : Domain) (t : Tight d) (f : Fits d) where
  first_kept : d.lower ≤ℤ first → has d.holes d.lower ≡ false
  first_kept h = (left d _ (t.least (omega (integers, fits→ d.upper f.upper)))).kept

  last_kept : last ≤ℤ d.upper → has d.holes d.upper ≡ false
  last_kept h = (left d _ (t.most (omega (integers, fits→ d.lower f.lower)))).kept

  -- so there is an i32 past a bound that is a hole
  pub lower_hole : has d.holes d.lower ≡ true → first <ℤ d.lower
  lower_hole e = by_cases (lt_z first d.lower) (λ p. omega integers) (λ p. clash e (first_kept (omega integers)))

  pub upper_hole : has d.holes d.upper ≡ true → d.upper <ℤ last
  upper_hole e = by_cases (lt_z d.upper last) (λ p. omega integers) (λ p. clash e (last_kept (omega integers)))

  -- and where a bound steps on, it stops within i32
  raised_fits : (v : ℤ) → SFits w32 v → SFits w32 (raised d.holes d.upper v)
  raised_fits v g =
      let up = raised_steps d.holes d.upper v in
      between _ (omega (integers, fits→ v g))
      (not_passed up last (omega (integers, fits→ v g))
      (λ h. let same : last ≡ d.upper = omega (integers, fits→ d.upper f.upper) in rw same (last_kept h)))

  lowered_fits : (l v : ℤ) → d.lower ≤ℤ l → SFits w32 v → SFits w32 (lowered d.holes l v)
  lowered_fits l v h g =
      let down = lowered_steps d.holes l v in
      between _
      (not_passed_down down first (omega (integers, fits→ v g))
      (λ p. let same : first ≡ d.lower = omega (integers, fits→ d.lower f.lower) in rw same (first_kept (omega integers))))
      (omega (integers, fits→ v g))

-- where "not v" trims v off and is not refused, the number next to v is an i32
module _ (v : ℤ) (d : Domain) (f : Fits d) (e : acts NotEqual v d ≡ true) (o : overflows NotEqual v d ≡ false) where
  pub suc_fits : eq_z v d.lower ≡ true → SFits w32 (suc_ℤ v)
  suc_fits p =
      let i = left d v e in
      by_cases (eq_z v last)
      (λ q. let u : eq_z v d.upper ≡ true = omega (integers, fits→ d.upper f.upper) in clash (rw (p, u, q) refl) o)
      (λ q. let g = fits→ d.lower f.lower in between _ (omega (integers, suc= v)) (omega (integers, suc= v)))

  pub pred_fits : eq_z v d.upper ≡ true → SFits w32 (pred_ℤ v)
  pred_fits p =
      let i = left d v e in
      by_cases (eq_z v first)
      (λ q.
      let l : eq_z v d.lower ≡ true = omega (integers, fits→ d.lower f.lower) in
      let n : eq_z v last ≡ false = omega integers in
      clash (rw (l, p, n, q) refl) o)
      (λ q. let g = fits→ d.upper f.upper in between _ (omega (integers, pred= v)) (omega (integers, pred= v)))

lower_rises : (k : PredicateType) (v : ℤ) (d : Domain) → acts k v d ≡ true → d.lower ≤ℤ lower_after k v d
unfolding moved
lower_rises k v d e = (moved_narrows v d k e).rises

-- so the bounds then are i32
module _ (v : ℤ) (d : Domain) (t : Tight d) (f : Fits d) (g : SFits w32 v) where
  pub lower_fits : (k : PredicateType) → acts k v d ≡ true → overflows k v d ≡ false → SFits w32 (lower_after k v d)
  lower_fits LowerBound e o = raised_fits d t f v g
  lower_fits NotEqual e o =
      picked (SFits w32) (eq_z v d.lower) (λ p. raised_fits d t f (suc_ℤ v) (suc_fits v d f e o p)) (λ _. f.lower)
  lower_fits Equal e o = picked (SFits w32) (lt_z d.lower v) (λ _. raised_fits d t f v g) (λ _. f.lower)
  lower_fits UpperBound e o = f.lower

  pub upper_fits : (k : PredicateType) → acts k v d ≡ true → overflows k v d ≡ false → SFits w32 (upper_after k v d)
  upper_fits LowerBound e o = f.upper
  upper_fits NotEqual e o =
      picked (SFits w32) (eq_z v d.upper)
      (λ p. lowered_fits d t f _ (pred_ℤ v) (lower_rises NotEqual v d e) (pred_fits v d f e o p)) (λ _. f.upper)
  upper_fits Equal e o =
      picked (SFits w32) (lt_z v d.upper) (λ _. lowered_fits d t f _ v (lower_rises Equal v d e) g) (λ _. f.upper)
  upper_fits UpperBound e o = lowered_fits d t f d.lower v (omega integers) g

pub fits_law : FitsLaw
unfolding after moved
fits_law k v d t f g o =
    picked Fits (acts k v d)
    (λ e. record { lower = lower_fits v d t f g k e o; upper = upper_fits v d t f g k e o }) (λ _. f)

-- and there is an i32 below the lower bound then, if that is a hole: the upper bound steps down to it
pub risen_hole : (k : PredicateType) (v : ℤ) (d : Domain) → Tight d → Fits d → acts k v d ≡ true →
    has d.holes (lower_after k v d) ≡ true → first <ℤ lower_after k v d
risen_hole k v d t f e h =
    let rises = lower_rises k v d e in
    by_cases (lt_z d.lower (lower_after k v d)) (λ p. omega (integers, fits→ d.lower f.lower))
    (λ p. let same : lower_after k v d ≡ d.lower = omega integers in rw same (lower_hole d t f (rw same at h)))

-- two i32 lie less than 2^32 apart, and so an entry adds less than 2^33
distance_fits : {a b : ℤ} → SFits w32 a → SFits w32 b → distance a b < 4294967296
unfolding distance
distance_fits {a} {b} f g = omega (arith, abs= (b -ℤ a), add= b (neg_ℤ a), neg= a, fits→ a f, fits→ b g)

pub pruned_fits : (k : PredicateType) (d e : Bounds) → SFits w32 d.lower → SFits w32 d.upper →
    SFits w32 e.lower → SFits w32 e.upper → pruned_by k d e < 8589934592
unfolding pruned_by
pruned_fits k d e l u m w =
    let test = is_not_equal k && (eq_z d.lower e.lower && eq_z d.upper e.upper) in
    let one : pick test 1 0 ≤ 1 = picked (λ n. n ≤ 1) test (λ _. omega arith) (λ _. omega arith) in
    omega (arith, distance_fits l m, distance_fits u w)
