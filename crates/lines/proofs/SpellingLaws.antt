-- The spelling of a number below ten is its digit, and that of a larger one is the spelling of its tenth and then its last digit: the digits allowed for are always enough.
use Prim.Native.Nat.{ℕ, zero, suc, ◌+◌, ◌/◌, ◌%◌, ◌^◌, ◌<◌, ◌≤◌}
use mathlib.Core.Path.{◌≡◌}
use mathlib.Core.List.{[], ◌∷◌, ◌++◌}
use mathlib.Core.Logic.{⊎_elim}
use native.Mathlib.Nat.{pow-suc}
use native.Mathlib.Omega.{arith}
use lib.ListN.{length, length-append}
use lib.IntN.{ℤ, pos, negsuc}
use mir.Syntax.{w32}
use mir.Val.{SFits}
use borrow.Author.Tests.{lt-ltb, le-ltb}
use Rattle.lines.specs.Spelling.{spelled_within, spelled, spelled_integer}
use Rattle.lines.proofs.Cases.{below_or_not}

-- a claim holds of every number if it holds below ten, and of a larger one where it holds of its tenth
pub by_digits : (P : ℕ → Type 0) → ((n : ℕ) → n < 10 → P n) → ((n : ℕ) → 10 ≤ n → P (n / 10) → P n) → (n : ℕ) → P n
by_digits P digit more n = go (suc n) n (omega arith)
  where
    go : (most n : ℕ) → n < most → P n
    go zero n h = absurd (omega arith)
    go (suc most) n h = ⊎_elim (digit n) (λ k. more n k (go most (n / 10) (omega arith))) (below_or_not n 10)

pub spelled_digit : {n : ℕ} → n < 10 → spelled n ≡ (48 + n) ∷ []
unfolding spelled spelled_within
spelled_digit h = rw lt-ltb

enough : (n most more : ℕ) → n < most → n < more → spelled_within most n ≡ spelled_within more n
unfolding spelled_within
enough n zero more h k = absurd (omega arith)
enough n (suc most) zero h k = absurd (omega arith)
enough n (suc most) (suc more) h k =
    ⊎_elim
    (λ small. rw (lt-ltb n 10 small))
    (λ large. rw (le-ltb n 10 large, enough (n / 10) most more (omega arith) (omega arith)))
    (below_or_not n 10)

pub spelled_more : {n : ℕ} → 10 ≤ n → spelled n ≡ spelled (n / 10) ++ ((48 + n % 10) ∷ [])
unfolding spelled spelled_within
spelled_more {n} h = rw (le-ltb n 10 h, enough (n / 10) n (suc (n / 10)) (omega arith) (omega arith))

-- how long a spelling is, at most: a number below a power of ten has no more digits than the power has zeros
pub spelled_length : (k n : ℕ) → n < 10 ^ suc k → length (spelled n) ≤ suc k
spelled_length zero n h = rw (spelled_digit {n = n} h) (omega arith)
spelled_length (suc k) n h =
    ⊎_elim
    (λ (small : n < 10). rw (spelled_digit small) (omega arith))
    (λ (large : 10 ≤ n).
    let tenth : length (spelled (n / 10)) ≤ suc k = spelled_length k (n / 10) (omega (arith, pow-suc 10 (suc k))) in
    rw (spelled_more large, length-append) (omega arith))
    (below_or_not n 10)

-- no u64 has more than twenty digits, and no i32 more than ten and a minus
pub natural_length : (n : ℕ) → n < 2 ^ 64 → length (spelled n) ≤ 20
natural_length n h = spelled_length 19 n (omega arith)

pub integer_length : (z : ℤ) → SFits w32 z → length (spelled_integer z) ≤ 11
integer_length (pos n) f = omega (arith, spelled_length 9 n (omega (arith, f.sfits)))
integer_length (negsuc n) f = omega (arith, spelled_length 9 (suc n) (omega (arith, f.sfits)))
