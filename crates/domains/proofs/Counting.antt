-- What an entry adds to the count, by one sum and one test: the distances are both 0 exactly where neither bound moved. Assumes nothing.
use Prim.Native.Nat.{ℕ, ◌+◌}
use mathlib.Core.Bool.{Bool, true, false, ◌&&◌}
use mathlib.Core.Path.{◌≡◌, refl}
use lib.IntN.{ℤ, neg_ℤ, ◌-ℤ◌}
use native.Mathlib.Omega.{arith}
use Rattle.integers.specs.Integers.{eq_z}
use Rattle.integers.proofs.Order.{integers, abs=, add=, neg=}
use Rattle.integers.specs.Distance.{distance}
use Rattle.predicates.specs.declared.PredicateType.{PredicateType}
use Rattle.domains.specs.declared.Bounds.{Bounds}
use Rattle.domains.specs.Choice.{pick}
use Rattle.domains.specs.Domain.{is_not_equal, pruned_by}
use Rattle.domains.proofs.Tests.{both}

still : (a b : ℤ) → distance a b ≡ 0 → eq_z a b ≡ true
unfolding distance
still a b e = omega (integers, abs= (b -ℤ a), add= b (neg_ℤ a), neg= a)

at_rest : (a b : ℤ) → eq_z a b ≡ true → distance a b ≡ 0
unfolding distance
at_rest a b e = omega (integers, abs= (b -ℤ a), add= b (neg_ℤ a), neg= a)

module _ (k : PredicateType) (from to : Bounds) where
  -- the distances that the bounds moved
  abbrev pub moved : ℕ
  moved = distance from.lower to.lower + distance from.upper to.upper

  pub counts_one : moved ≡ 0 → is_not_equal k ≡ true → 1 ≡ pruned_by k from to
  unfolding pruned_by
  counts_one e n =
      rw (n, still from.lower to.lower (omega arith), still from.upper to.upper (omega arith)) (omega arith)

  pub counts_moved : (is_not_equal k ≡ true → moved ≡ 0 → ⊥) → moved ≡ pruned_by k from to
  unfolding pruned_by
  counts_moved h = go (is_not_equal k && (eq_z from.lower to.lower && eq_z from.upper to.upper)) refl
    where
      go : (b : Bool) → (is_not_equal k && (eq_z from.lower to.lower && eq_z from.upper to.upper)) ≡ b → moved ≡ moved + pick b 1 0
      go false e = omega arith
      go true e =
          let p = both (is_not_equal k) _ e in
          let q = both (eq_z from.lower to.lower) (eq_z from.upper to.upper) p.1 in
          absurd (h p.0 (omega (arith, at_rest from.lower to.lower q.0, at_rest from.upper to.upper q.1)))
