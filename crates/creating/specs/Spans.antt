-- The smallest and the largest of a list that has a value: they are in order, and both are listed. Tools. Assumes nothing.
use Rattle.std.specs.Prelude.{◌<◌, ◌≡◌, refl, Bool, true, false, List, [], ◌∷◌, ℤ, ◌≤ℤ◌, length}
use Rattle.std.specs.Int.Signed.{lt_z}
use Rattle.std.proofs.Common.{arith}
use Rattle.integers.proofs.Order.{integers}
use Rattle.domains.specs.Choice.{pick}
use Rattle.domains.specs.Domain.{has}
use Rattle.stories.specs.Calls.{smallest, largest, span_of, is_empty}
use Rattle.stores.proofs.Lists.{smallest_listed, largest_listed}

-- the smallest is not above the largest
ordered : (vs : List ℤ) (a b : ℤ) → a ≤ℤ b → smallest a vs ≤ℤ largest b vs
ordered [] a b h = h
ordered (v ∷ vs) a b h = ordered vs (pick (lt_z v a) v a) (pick (lt_z b v) v b) (step (lt_z v a) refl (lt_z b v) refl)
  where
    step : (s : Bool) → lt_z v a ≡ s → (t : Bool) → lt_z b v ≡ t → pick s v a ≤ℤ pick t v b
    step true p true q = omega integers
    step true p false q = omega integers
    step false p true q = omega integers
    step false p false q = h

-- a list that has a value is not empty, and its bounds are in order and listed
pub record Spanned (vs : List ℤ) : Type 0 where
  pub some : is_empty vs ≡ false
  pub proper : (span_of vs).lower ≤ℤ (span_of vs).upper
  pub low : has vs (span_of vs).lower ≡ true
  pub high : has vs (span_of vs).upper ≡ true

pub spanned : (vs : List ℤ) → 0 < length vs → Spanned vs
spanned [] h = absurd (omega arith)
spanned (v ∷ vs) h = record { some = refl; proper = ordered vs v v (omega integers); low = smallest_listed v vs; high = largest_listed v vs }
