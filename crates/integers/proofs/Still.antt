-- An integer lies no distance from itself, as nothing is left of a difference with itself. Assumes nothing.
use Rattle.std.proofs.Common.{◌≡◌, ℤ, ◌+ℤ◌, neg_ℤ, arith}
use Rattle.integers.specs.Distance.{distance}
use Rattle.integers.proofs.Order.{add=, neg=, abs=}

pub no_distance : (z : ℤ) → distance z z ≡ 0
unfolding distance
no_distance z = omega (arith, abs= (z +ℤ neg_ℤ z), add= z (neg_ℤ z), neg= z)
