-- The laws of a post hold since each bound that moves passes only holes and values that do not satisfy the predicate. "Equal" is
-- "at least" and then "at most"; "not v" trims v off where it is a bound, and then stores it as a hole. Assumes nothing.
use mathlib.Core.Path.{◌≡◌, refl, ap}
use mathlib.Core.Logic.{◌⊎◌, inl, inr}
use mathlib.Core.Bool.{true, false, not, ◌&&◌}
use mathlib.Core.List.{◌∷◌}
use borrow.Author.Tests.{not-true}
use lib.IntN.{ℤ, suc_ℤ, pred_ℤ}
use lib.Signed.{lt_z, ◌≤ℤ◌, ◌<ℤ◌}
use Rattle.integers.specs.Integers.{eq_z}
use Rattle.integers.proofs.Order.{integers, suc=, pred=}
use Rattle.predicates.specs.declared.PredicateType.{PredicateType}
use Rattle.predicates.specs.declared.PredicateType.TheVariants.{LowerBound, NotEqual, Equal, UpperBound}
use Rattle.domains.specs.Choice.{pick}
use Rattle.domains.specs.Domain.{Domain, satisfies, has, member, emptied, acts, lower_after, upper_after, is_not_equal, moved, after}
use Rattle.domains.proofs.Tests.{by_cases, picked, clash, both, neither, same_test}
use Rattle.domains.proofs.Stepping.{raised_steps, lowered_steps}
use Rattle.domains.proofs.Membership.{Left, left, is_left}
use Rattle.domains.specs.Promises.{SetLaw, TightLaw, EmptyLaw, ShrinkLaw, EmptiedLaw}
use Rattle.domains.proofs.Narrowing.{Narrows, within, no_change, and_then}
use Rattle.domains.proofs.Narrowing.{raised_narrows, lowered_narrows, without_narrows, raised_leaves, lowered_leaves}

-- the domain after a post, by whether it does something
pub after_idle : (k : PredicateType) (v : ℤ) (d : Domain) → acts k v d ≡ false → after k v d ≡ d
unfolding after
after_idle k v d e = rw e

pub after_moved : (k : PredicateType) (v : ℤ) (d : Domain) → acts k v d ≡ true → after k v d ≡ moved k v d
unfolding after
after_moved k v d e = rw e

pub after_holes : (k : PredicateType) (v : ℤ) (d : Domain) → acts k v d ≡ true →
    (after k v d).holes ≡ pick (is_not_equal k) (v ∷ d.holes) d.holes
unfolding after moved
after_holes k v d e = rw e

module _ (v : ℤ) (d : Domain) where
  -- where a bound comes to
  lower_reaches : v ≤ℤ lower_after Equal v d
  lower_reaches = picked (λ l. v ≤ℤ l) (lt_z d.lower v) (λ _. (raised_steps d.holes d.upper v).above) (λ p. omega integers)

  upper_reaches : upper_after Equal v d ≤ℤ v
  upper_reaches = picked (λ u. u ≤ℤ v) (lt_z v d.upper) (λ _. (lowered_steps d.holes _ v).below) (λ p. omega integers)

  lower_avoids : eq_z (lower_after NotEqual v d) v ≡ false
  lower_avoids =
      picked (λ l. eq_z l v ≡ false) (eq_z v d.lower)
      (λ _. omega (integers, suc= v, (raised_steps d.holes d.upper (suc_ℤ v)).above)) (λ p. omega integers)

  upper_avoids : eq_z (upper_after NotEqual v d) v ≡ false
  upper_avoids =
      picked (λ u. eq_z u v ≡ false) (eq_z v d.upper)
      (λ _. omega (integers, pred= v, (lowered_steps d.holes (lower_after NotEqual v d) (pred_ℤ v)).below)) (λ p. omega integers)

  -- a post that does something narrows
  pub moved_narrows : (k : PredicateType) → acts k v d ≡ true → Narrows d (moved k v d)
  unfolding moved
  moved_narrows LowerBound e = raised_narrows true v d (λ _. omega integers)
  moved_narrows NotEqual e =
      and_then (raised_narrows (eq_z v d.lower) (suc_ℤ v) d (λ p. omega (integers, suc= v)))
      (and_then (lowered_narrows (eq_z v d.upper) (pred_ℤ v) _ (λ p. omega (integers, pred= v)))
      (without_narrows v _ lower_avoids upper_avoids))
  moved_narrows Equal e =
      and_then (raised_narrows (lt_z d.lower v) v d (λ p. omega integers))
      (lowered_narrows (lt_z v d.upper) v _ (λ p. omega integers))
  moved_narrows UpperBound e = lowered_narrows true v d (λ _. omega integers)

  -- to values that satisfy it
  moved_only : (k : PredicateType) → acts k v d ≡ true → (x : ℤ) → Left (moved k v d) x → satisfies k v x ≡ true
  unfolding moved
  moved_only LowerBound e x i = omega (integers, (raised_steps d.holes d.upper v).above)
  moved_only NotEqual e x i = ap not (neither (eq_z x v) (has d.holes x) i.kept).0
  moved_only Equal e x i = omega (integers, lower_reaches, upper_reaches)
  moved_only UpperBound e x i = omega (integers, (lowered_steps d.holes d.lower v).below)

  -- and to all of them
  moved_all : (k : PredicateType) (x : ℤ) → Left d x → satisfies k v x ≡ true → Left (moved k v d) x
  unfolding moved
  moved_all LowerBound x i s = raised_leaves true v d x i (λ _. omega integers)
  moved_all NotEqual x i s =
      let n = not-true (eq_z x v) s in
      let j = raised_leaves (eq_z v d.lower) (suc_ℤ v) d x i (λ p. omega (integers, suc= v)) in
      let m = lowered_leaves (eq_z v d.upper) (pred_ℤ v) _ x j (λ p. omega (integers, pred= v)) in
      record { above = m.above; below = m.below; kept = rw (n, i.kept) }
  moved_all Equal x i s =
      let j = raised_leaves (lt_z d.lower v) v d x i (λ p. omega integers) in
      lowered_leaves (lt_z v d.upper) v _ x j (λ p. omega integers)
  moved_all UpperBound x i s = lowered_leaves true v d x i (λ _. omega integers)

  -- where it does nothing, each value left satisfies it
  pub idle_only : (k : PredicateType) → acts k v d ≡ false → (x : ℤ) → Left d x → satisfies k v x ≡ true
  idle_only LowerBound e x i = omega integers
  idle_only NotEqual e x i =
      by_cases (eq_z x v) (λ p. let same : x ≡ v = omega integers in clash (rw same at (is_left d x i)) e) (ap not)
  idle_only Equal e x i = let idle = neither (lt_z d.lower v) (lt_z v d.upper) e in omega integers
  idle_only UpperBound e x i = omega integers

-- so either way e is narrower than d, and has the values of d that satisfy the predicate, and all of them
pub record Leaves (k : PredicateType) (v : ℤ) (d e : Domain) : Type 0 where
  pub narrows : Narrows d e
  pub only : (x : ℤ) → Left e x → satisfies k v x ≡ true
  pub all : (x : ℤ) → Left d x → satisfies k v x ≡ true → Left e x

pub after_leaves : (k : PredicateType) (v : ℤ) (d : Domain) → Leaves k v d (after k v d)
unfolding after
after_leaves k v d =
    picked (Leaves k v d) (acts k v d)
    (λ e. record { narrows = moved_narrows v d k e; only = moved_only v d k e; all = moved_all v d k })
    (λ e. record { narrows = no_change d; only = idle_only v d k e; all = λ x i s. i })

pub set_law : SetLaw
set_law k v d x =
    let e = after k v d in
    let p = after_leaves k v d in
    same_test (member e x) (member d x && satisfies k v x)
    (λ m. let i = left e x m in rw (is_left d x (within p.narrows i), p.only x i))
    (λ m. let i = both (member d x) (satisfies k v x) m in is_left e x (p.all x (left d x i.0) i.1))

pub tight_law : TightLaw
tight_law k v d = (after_leaves k v d).narrows.tight

none_left : (d : Domain) → emptied d ≡ true → (x : ℤ) → member d x ≡ false
none_left d e x = by_cases (member d x) (λ m. let i = left d x m in absurd (omega integers)) (λ m. m)

pub empty_law : EmptyLaw
empty_law d t =
    (none_left d, λ f. by_cases (emptied d) (λ e. e) (λ e. clash (t.least (omega integers)) (f d.lower)))

pub shrink_law : ShrinkLaw
shrink_law k v d t n =
    (lost k, λ w. by_cases (acts k v d) (λ e. e) (λ e. clash (idle_only v d k e w.0 (left d w.0 w.1)) w.2))
  where
    lost : (k : PredicateType) → acts k v d ≡ true → (x : ℤ) × (member d x ≡ true) × (satisfies k v x ≡ false)
    lost LowerBound e = (d.lower, t.least (omega integers), omega integers)
    lost NotEqual e = let same : eq_z v v ≡ true = omega integers in (v, e, ap not same)
    lost Equal e =
        by_cases (lt_z d.lower v) (λ p. (d.lower, t.least (omega integers), omega integers))
        (λ p. let q : lt_z v d.upper ≡ true = rw p at e in (d.upper, t.most (omega integers), omega integers))
    lost UpperBound e = (d.upper, t.most (omega integers), omega integers)

pub emptied_law : EmptiedLaw
emptied_law d v e = (none_left d e v, λ k. let n = (after_leaves k v d).narrows in omega integers)

-- an entry of another kind than "not v" moves a bound
pub moves_bound : (k : PredicateType) (v : ℤ) (d : Domain) → acts k v d ≡ true → is_not_equal k ≡ false →
    d.lower <ℤ lower_after k v d ⊎ upper_after k v d <ℤ d.upper
moves_bound LowerBound v d e n = inl (omega (integers, (raised_steps d.holes d.upper v).above))
moves_bound NotEqual v d e n = clash refl n
moves_bound Equal v d e n =
    by_cases (lt_z d.lower v) (λ p. inl (omega (integers, lower_reaches v d)))
    (λ p. let q : lt_z v d.upper ≡ true = rw p at e in inr (omega (integers, upper_reaches v d)))
moves_bound UpperBound v d e n = inr (omega (integers, (lowered_steps d.holes d.lower v).below))
