-- `==` of two i32 compares their bits, and tells whether they are the same number. Assumes nothing.
use mathlib.Core.Path.{◌≡◌, refl, ap}
use mathlib.Core.Logic.{◌≢◌}
use mathlib.Core.Bool.{Bool, true, false}
use lib.IntN.{ℤ}
use mir.Syntax.{w32}
use mir.Val.{SFits, of_z}
use Rattle.integers.specs.Integers.{eq_z}
use Rattle.integers.proofs.Order.{integers, bits_eq}

-- the test held
pub same_bits : (a b : ℤ) → SFits w32 a → SFits w32 b → of_z w32 a ≡ of_z w32 b → eq_z b a ≡ true
same_bits a b f g e = let same = bits_eq f g e in omega integers

-- the test failed
pub other_bits : (a b : ℤ) → of_z w32 a ≢ of_z w32 b → eq_z b a ≡ false
other_bits a b n = go (eq_z b a) refl
  where
    go : (t : Bool) → eq_z b a ≡ t → t ≡ false
    go true e = let same : a ≡ b = omega integers in absurd (n (ap (of_z w32) same))
    go false e = refl
