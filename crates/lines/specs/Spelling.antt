-- The one spelling of a number (RULES.md, D4). Assumes nothing.
use Rattle.std.specs.Prelude.{ℕ, zero, suc, ◌+◌, ◌/◌, ◌%◌, cond, List, [], ◌∷◌, ◌++◌, ltb, ℤ, pos, negsuc}

-- the decimal digits of n, the first one first, if they are no more than `most`; byte 48 is the digit zero. What a `let` binds is computed only where it is used, so a large `most` costs nothing
unfoldable pub spelled_within : ℕ → ℕ → List ℕ
spelled_within zero n = []
spelled_within (suc most) n =
    let longer = spelled_within most (n / 10) ++ ((48 + n % 10) ∷ []) in
    cond (ltb n 10) ((48 + n) ∷ []) longer

-- the decimal digits of n, the first one first: n has no more than n + 1
unfoldable pub spelled : ℕ → List ℕ
unfolding spelled_within
spelled n = spelled_within (suc n) n

-- a minus, byte 45, stands before the digits of a number below zero; `negsuc n` is -(n + 1)
abbrev pub spelled_integer : ℤ → List ℕ
spelled_integer (pos n) = spelled n
spelled_integer (negsuc n) = 45 ∷ spelled (suc n)
