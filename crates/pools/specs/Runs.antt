-- What the helpers of a step over holes promise each other: a window of 1,024 marks, one for each value from a value on. Assumes nothing.
-- Tools: the promise of a step itself, `raised` and `lowered`, does not go by these.
use Rattle.std.specs.Prelude.{ℕ, ◌≤◌, ◌<◌, ◌≡◌, Bool, true, false, List, ℤ, pos, ◌+ℤ◌, ◌-ℤ◌, get_or, eqb, IfSome, Option, Some, None}
use Rattle.integers.specs.Integers.{eq_z}
use Rattle.domains.specs.Domain.{has}

-- the value that lies k from a value, upwards or downwards
abbrev pub shifted : Bool → ℤ → ℕ → ℤ
shifted true v k = v +ℤ pos k
shifted false v k = v -ℤ pos k

-- whether the place is k
abbrev pub is_at : Option ℕ → ℕ → Bool
is_at None k = false
is_at (Some n) k = eqb k n

-- r is the place of v in the window from a value on: how far on it lies, or none for all outside
pub record Place (up : Bool) (from v : ℤ) (r : Option ℕ) : Type 0 where
  pub within : IfSome r (λ n. n < 1024)
  pub here : (k : ℕ) → k < 1024 → is_at r k ≡ eq_z (shifted up from k) v

-- each answer for a value is its place in the window from a value on
abbrev pub Places : (ℤ → Option ℕ → Type 0) → Bool → ℤ → Type 0
Places answers up from = (v : ℤ) (r : Option ℕ) → answers v r → Place up from v r

-- each mark of the window tells whether its value is one of these
pub record Marked (hs : List ℤ) (up : Bool) (from : ℤ) (marks : List Bool) : Type 0 where
  pub tells : (k : ℕ) → k < 1024 → get_or marks k false ≡ has hs (shifted up from k)

-- r is the first place of the window that is clear, or 1,024
pub record FirstClear (marks : List Bool) (r : ℕ) : Type 0 where
  pub within : r ≤ 1024
  pub set : (k : ℕ) → k < r → get_or marks k false ≡ true
  pub clear : r < 1024 → get_or marks r false ≡ false

-- n steps from a value on, each at one of these, end at none of them, or are as many as there may be
pub record Steps (hs : List ℤ) (up : Bool) (from : ℤ) (most n : ℕ) : Type 0 where
  pub short : n ≤ 1024
  pub within : n ≤ most
  pub held : (k : ℕ) → k < n → has hs (shifted up from k) ≡ true
  pub ends : n < most → has hs (shifted up from n) ≡ false
