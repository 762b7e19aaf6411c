-- The distance of two integers, as whole numbers have it. Assumes nothing.
use Rattle.std.specs.Prelude.{ℕ, ◌+◌, ◌-◌, ◌%◌, ℤ, ◌-ℤ◌, unsigned_abs}
use Rattle.integers.specs.Integers.{plus, minus}

-- how far a and b lie apart
unfoldable pub distance : ℤ → ℤ → ℕ
distance a b = unsigned_abs (b -ℤ a)

-- the number whose bits, as a u32, are those of v as an i32
abbrev pub wrapped : ℤ → ℕ
wrapped v = (plus v + 4294967296 - minus v) % 4294967296
