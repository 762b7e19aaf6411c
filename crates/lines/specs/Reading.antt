-- The number whose spelling a text is (RULES.md, D4). That exactly the spellings are read, each as its number, is shown in proofs/NaturalLaws.antt and proofs/IntegerLaws.antt. Assumes nothing.
use Rattle.std.specs.Prelude.{ℕ, ◌+◌, ◌-◌, ◌*◌, Bool, true, false, not, ◌&&◌, cond, List, [], ◌∷◌, leb, eqb, ℤ, pos, neg_ℤ, Option, Some, None, option_and_then}

-- whether a byte is one of the ten digits
abbrev pub is_digit : ℕ → Bool
is_digit b = leb 48 b && leb b 57

-- the number whose digits are those of n and then the text's, if all of these are digits and no number on the way is above a u32
abbrev pub read_digits : ℕ → List ℕ → Option ℕ
read_digits n [] = Some n
read_digits n (b ∷ l) = cond (is_digit b && leb (n * 10 + (b - 48)) 4294967295) (read_digits (n * 10 + (b - 48)) l) None

-- whether a text starts as a number: it has a first byte, and none stands after a zero there
abbrev pub starts_well : List ℕ → Bool
starts_well [] = false
starts_well (b ∷ []) = true
starts_well (b ∷ c ∷ l) = not (eqb b 48)

-- the u32 that a text spells
abbrev pub read_natural : List ℕ → Option ℕ
read_natural l = cond (starts_well l) (read_digits 0 l) None

-- an i32 from the number that was read with no minus before it
abbrev pub from_above : ℕ → Option ℤ
from_above n = cond (leb n 2147483647) (Some (pos n)) None

-- an i32 from the number that was read after a minus, which no zero has
abbrev pub from_below : ℕ → Option ℤ
from_below n = cond (leb 1 n && leb n 2147483648) (Some (neg_ℤ (pos n))) None

-- the i32 that a text spells: a minus, byte 45, is taken off first
abbrev pub read_integer : List ℕ → Option ℤ
read_integer [] = None
read_integer (b ∷ l) = cond (eqb b 45) (option_and_then from_below (read_natural l)) (option_and_then from_above (read_natural (b ∷ l)))
