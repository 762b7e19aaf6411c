-- Each number of an array of i32 fits an i32, and so does each of its first ones. Past the end there is 0. Assumes nothing.
use Prim.Native.Nat.{ℕ, zero, suc}
use mathlib.Core.List.{List, [], ◌∷◌}
use lib.IntN.{ℤ, pos}
use lib.ListN.{get_or, take}
use mir.Syntax.{w32}
use mir.Val.{Val, SFits}
use denote.Shadow.{shadow}
use denote.Array.{each}
use denote.Signed.{SInt}
use borrow.Author.Rules.{rules}

pub each_fits : (xs : List ℤ) (us : List Val) → shadow (each ℤ (SInt w32).own_val xs us) → (i : ℕ) → SFits w32 (get_or xs i (pos 0))
each_fits [] us p i = search rules
each_fits (x ∷ xs) [] p i = absurd p
each_fits (x ∷ xs) (u ∷ us) p zero = record { sfits = p.0.1 }
each_fits (x ∷ xs) (u ∷ us) p (suc i) = each_fits xs us p.1 i

pub first_fit : (xs : List ℤ) → ((i : ℕ) → SFits w32 (get_or xs i (pos 0))) → (n i : ℕ) → SFits w32 (get_or (take n xs) i (pos 0))
first_fit xs f zero i = search rules
first_fit [] f (suc n) i = search rules
first_fit (x ∷ xs) f (suc n) zero = f 0
first_fit (x ∷ xs) f (suc n) (suc i) = first_fit xs (λ j. f (suc j)) n i
