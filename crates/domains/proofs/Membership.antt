-- Membership as three facts, in place of three tests. Tools: a reader of the promises need believe nothing here. Assumes nothing.
use mathlib.Core.Path.{◌≡◌}
use mathlib.Core.Bool.{true, false}
use borrow.Author.Tests.{not-true}
use lib.IntN.{ℤ}
use lib.Signed.{le_z, ◌≤ℤ◌}
use Rattle.integers.proofs.Order.{integers}
use Rattle.domains.specs.Domain.{Domain, has, member}
use Rattle.domains.proofs.Tests.{both}

-- x is left
pub record Left (d : Domain) (x : ℤ) : Type 0 where
  pub above : d.lower ≤ℤ x
  pub below : x ≤ℤ d.upper
  pub kept : has d.holes x ≡ false

pub left : (d : Domain) (x : ℤ) → member d x ≡ true → Left d x
left d x e =
    let low = both (le_z d.lower x) _ e in
    let high = both (le_z x d.upper) _ low.1 in
    record { above = omega integers; below = omega integers; kept = not-true _ high.1 }

pub is_left : (d : Domain) (x : ℤ) → Left d x → member d x ≡ true
is_left d x i =
    let low : le_z d.lower x ≡ true = omega integers in
    let high : le_z x d.upper ≡ true = omega integers in
    rw (low, high, i.kept)
