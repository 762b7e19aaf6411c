-- How the code's i32 are read: it holds their bits, and tests, answers and sums are of the numbers. Assumes nothing.
use Prim.Native.Nat.{◌^◌, ◌<◌}
use mathlib.Core.Path.{◌≡◌, ◌∙◌}
use mathlib.Core.Bool.{Bool, true}
use lib.IntN.{ℤ, pos, negsuc, suc_ℤ, pred_ℤ, ◌+ℤ◌, ◌-ℤ◌}
use lib.Signed.{mag, lt_z, ◌<ℤ◌}
use mir.Syntax.{w32}
use mir.Val.{SFits, hbits, of_z, to_z}
use mir.Facts.{to_z-of_z}
use Rattle.integers.proofs.Order.{integers, suc=, pred=, add=}
use Rattle.domains.specs.Domain.{Domain, has}
use Rattle.domains.specs.Limits.{first, last}
use Rattle.domains.proofs.Fits.{lower_hole, upper_hole}
use Rattle.rules.specs.Sound.{Sound}

-- a test `<`
pub tested : {a b : ℤ} {t : Bool} → SFits w32 a → SFits w32 b → lt_z (to_z w32 (of_z w32 a)) (to_z w32 (of_z w32 b)) ≡ t → lt_z a b ≡ t
tested f g e = simp (to_z-of_z f, to_z-of_z g) at e

-- a callee's answer
pub answer : {r z : ℤ} → mag r < 2 ^ hbits w32 → r ≡ z → to_z w32 (of_z w32 r) ≡ z
answer ok e = to_z-of_z {w = w32} (record { sfits = ok }) ∙ e

-- `+ 1` and `- 1`
pub one_more : (v : ℤ) → v +ℤ pos 1 ≡ suc_ℤ v
one_more v = omega (integers, add= v (pos 1), suc= v)

pub one_less : (v : ℤ) → v -ℤ pos 1 ≡ pred_ℤ v
one_less v = omega (integers, add= v (negsuc 0), pred= v)

-- there is an i32 past a bound that is a hole, as the steps over holes ask
module _ {d : Domain} (s : Sound d) where
  pub room_above : has d.holes (to_z w32 (of_z w32 d.upper)) ≡ true → to_z w32 (of_z w32 d.upper) <ℤ last
  room_above = simp (to_z-of_z s.fits.upper) (upper_hole d s.tight s.fits)

  pub room_below : has d.holes (to_z w32 (of_z w32 d.lower)) ≡ true → first <ℤ to_z w32 (of_z w32 d.lower)
  room_below = simp (to_z-of_z s.fits.lower) (lower_hole d s.tight s.fits)
