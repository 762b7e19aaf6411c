-- An integer taken from zero changes its sign and keeps its size, and its spelling goes by its sign.
use Prim.Native.Nat.{ℕ, zero, suc, ◌≤◌}
use mathlib.Core.Path.{◌≡◌, refl, sym}
use mathlib.Core.Bool.{true, false, false≢true}
use mathlib.Core.List.{◌∷◌}
use native.Mathlib.Omega.{arith}
use lib.Dec.{T}
use lib.IntN.{ℤ, pos, negsuc, neg_ℤ, nat_abs, ◌-ℤ◌, +ℤ_idl}
use lib.Signed.{lt_z, non_neg}
use mir.Syntax.{w32, w64}
use mir.Val.{SFits}
use borrow.Author.Tests.{ltb-true}
use Rattle.lines.specs.Spelling.{spelled, spelled_integer}

pub from_zero : (z : ℤ) → pos 0 -ℤ z ≡ neg_ℤ z
from_zero z = +ℤ_idl (neg_ℤ z)

pub opposite_size : (z : ℤ) → nat_abs (neg_ℤ z) ≡ nat_abs z
opposite_size (pos zero) = refl
opposite_size (pos (suc n)) = refl
opposite_size (negsuc n) = refl

-- the opposite of an i32 is an i64, and of a number that is no larger than the smallest i32 is, an i32
pub opposite_fits : (z : ℤ) → SFits w32 z → SFits w64 (neg_ℤ z)
opposite_fits (pos zero) f = record { sfits = omega arith }
opposite_fits (pos (suc n)) f = record { sfits = omega (arith, f.sfits) }
opposite_fits (negsuc n) f = record { sfits = omega (arith, f.sfits) }

pub below_fits : (n : ℕ) → n ≤ 2147483648 → SFits w32 (neg_ℤ (pos n))
below_fits zero h = record { sfits = omega arith }
below_fits (suc n) h = record { sfits = omega arith }

-- what the test of the sign tells
pub opposite_above : (z : ℤ) → lt_z z (pos 0) ≡ true → T (non_neg (neg_ℤ z))
opposite_above (pos n) e = absurd (omega (arith, ltb-true n 0 e))
opposite_above (negsuc n) e = tt

pub is_above : (z : ℤ) → lt_z z (pos 0) ≡ false → T (non_neg z)
is_above (pos n) e = tt
is_above (negsuc n) e = false≢true (sym e)

pub spelled_below : (z : ℤ) → lt_z z (pos 0) ≡ true → spelled_integer z ≡ 45 ∷ spelled (nat_abs z)
spelled_below (pos n) e = absurd (omega (arith, ltb-true n 0 e))
spelled_below (negsuc n) e = refl

pub spelled_above : (z : ℤ) → lt_z z (pos 0) ≡ false → spelled_integer z ≡ spelled (nat_abs z)
spelled_above (pos n) e = refl
spelled_above (negsuc n) e = absurd (false≢true (sym e))
