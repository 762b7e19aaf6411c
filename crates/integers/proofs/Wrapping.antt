-- Two's complement keeps differences: both numbers' bits are off by 2^32 or by nothing, and a subtraction with wrap-around takes that away.
use Rattle.std.proofs.Common.{◌≡◌, ℕ, ◌+◌, ◌-◌, ◌%◌, ◌^◌, ◌<◌, ◌≤◌, ℤ, pos, negsuc, ◌-ℤ◌, neg_ℤ, arith, w32, SFits, of_z}
use Rattle.integers.specs.Integers.{plus, minus}
use Rattle.integers.proofs.Order.{add=, neg=, abs=, fits→}
use Rattle.integers.specs.Distance.{distance, wrapped}

-- the distance upwards, and that it is the same downwards
apart : (a b : ℤ) → plus a + minus b ≤ plus b + minus a → distance a b ≡ plus b + minus a - (plus a + minus b)
unfolding distance
apart a b h = omega (arith, add= b (neg_ℤ a), neg= a, abs= (b -ℤ a))

pub same_down : (a b : ℤ) → distance a b ≡ distance b a
unfolding distance
same_down a b = omega (arith, add= b (neg_ℤ a), neg= a, abs= (b -ℤ a), add= a (neg_ℤ b), neg= b, abs= (a -ℤ b))

-- what a cast of an i32 to a u32 gives
pub cast_wraps : (v : ℤ) → SFits w32 v → of_z w32 v ≡ wrapped v
cast_wraps (pos n) f = omega (arith, f.sfits)
cast_wraps (negsuc n) f = omega (arith, f.sfits)

-- so a number that the lower one's bits take to the upper one's is the distance
pub upwards : (a b : ℤ) (r : ℕ) → SFits w32 a → SFits w32 b → plus a + minus b ≤ plus b + minus a → (r + wrapped a) % 2 ^ 32 ≡ wrapped b → r < 4294967296 → r ≡ distance a b
upwards a b r fa fb h e l = omega (arith, apart a b h, fits→ a fa, fits→ b fb)

-- and so is what a subtraction of the casts gives
pub cast_upwards : (a b : ℤ) → SFits w32 a → SFits w32 b → plus a + minus b ≤ plus b + minus a → (of_z w32 b + (4294967296 - of_z w32 a)) % 4294967296 ≡ distance a b
cast_upwards a b fa fb h = omega (arith, cast_wraps a fa, cast_wraps b fb, apart a b h, fits→ a fa, fits→ b fb)
