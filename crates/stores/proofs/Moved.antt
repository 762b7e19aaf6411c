-- The code tells a bound that moved by its bits, and two i32 have the same bits exactly where they are equal. Assumes nothing.
use mathlib.Core.Bool.{Bool, true, false, not}
use mathlib.Core.Path.{◌≡◌, refl, ap}
use lib.IntN.{ℤ}
use lib.Dec.{eqb}
use mir.Syntax.{w32}
use mir.Val.{SFits, of_z}
use borrow.Author.Tests.{eqb-true, eqb-false}
use Rattle.integers.specs.Integers.{eq_z}
use Rattle.integers.proofs.Order.{integers, bits_eq}
use Rattle.stores.specs.Store.{differs}

pub tested : (a b : ℤ) → SFits w32 a → SFits w32 b → not (eqb (of_z w32 a) (of_z w32 b)) ≡ differs a b
tested a b f g = ap not (both (eqb (of_z w32 a) (of_z w32 b)) (eq_z a b) refl refl)
  where
    both : (s t : Bool) → eqb (of_z w32 a) (of_z w32 b) ≡ s → eq_z a b ≡ t → s ≡ t
    both true true p q = refl
    both true false p q = let same : a ≡ b = bits_eq f g (eqb-true _ _ p) in absurd (omega integers)
    both false true p q = let same : a ≡ b = omega integers in absurd (eqb-false _ _ p (ap (of_z w32) same))
    both false false p q = refl
