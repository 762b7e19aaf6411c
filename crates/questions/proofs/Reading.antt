-- How the code's i32 are read: it holds their bits, and a number in range is what its bits say. Assumes nothing.
use Prim.Native.Nat.{◌^◌, ◌<◌}
use mathlib.Core.Path.{◌≡◌}
use lib.IntN.{ℤ}
use lib.Signed.{mag}
use mir.Syntax.{w32}
use mir.Val.{hbits, of_z, to_z}
use mir.Facts.{to_z-of_z}

-- an i32 that a struct holds, or that a callee answers
pub read : (z : ℤ) → mag z < 2 ^ hbits w32 → to_z w32 (of_z w32 z) ≡ z
read z ok = to_z-of_z {w = w32} (record { sfits = ok })
