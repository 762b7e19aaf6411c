-- The least and the greatest value that a variable can have. Assumes nothing.
use Rattle.std.specs.Prelude.{ℤ, pos, negsuc}

-- the first and the last i32
abbrev pub first : ℤ
first = negsuc 2147483647

abbrev pub last : ℤ
last = pos 2147483647
