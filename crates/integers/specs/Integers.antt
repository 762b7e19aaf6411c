-- Integers as the promises read them: the test of equality, and an integer z as plus z − minus z. Assumes nothing.
use Rattle.std.specs.Prelude.{ℕ, suc, Bool, false, ℤ, pos, negsuc, ◌==◌}

-- whether two integers are the same
abbrev pub eq_z : ℤ → ℤ → Bool
eq_z (pos a) (pos b) = a == b
eq_z (pos a) (negsuc b) = false
eq_z (negsuc a) (pos b) = false
eq_z (negsuc a) (negsuc b) = a == b

-- the part of an integer above zero, and the part below
abbrev pub plus : ℤ → ℕ
plus (pos n) = n
plus (negsuc n) = 0

abbrev pub minus : ℤ → ℕ
minus (pos n) = 0
minus (negsuc n) = suc n
