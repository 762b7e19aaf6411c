-- Exactly the spellings of the i32 are read, each as its number: a minus is no digit, so it parts the numbers below zero from the others, and the rest is a natural number.
use Prim.Native.Nat.{ℕ, zero, suc}
use mathlib.Core.Path.{◌≡◌, refl, sym, ap, ◌∙◌}
use mathlib.Core.Bool.{true, false, ◌&&◌, cond, and-eq-true_iff}
use mathlib.Core.List.{List, [], ◌∷◌}
use mathlib.Core.Logic.{⊎_elim}
use native.Mathlib.Omega.{arith}
use lib.ListN.{length, get_or, drop}
use lib.Dec.{leb, eqb}
use lib.IntN.{ℤ, pos, negsuc}
use mir.Syntax.{w32}
use mir.Val.{SFits}
use borrow.Author.Tests.{le-leb, leb-true, ne_eqb, eqb-true}
use Rattle.std.specs.Prelude.{Option, Some, None, option_and_then}
use Rattle.lines.specs.Spelling.{spelled, spelled_integer}
use Rattle.lines.specs.Reading.{read_digits, starts_well, read_natural, from_above, from_below, read_integer}
use Rattle.lines.proofs.Cases.{true_or_false}
use Rattle.lines.proofs.NaturalLaws.{chosen, no_number, digit_read, natural_of_spelled, spelled_of_natural}

-- how a text of no byte and one of some bytes is read as an integer
pub integer_empty : (l : List ℕ) → length l ≡ 0 → read_integer l ≡ None
integer_empty [] e = refl
integer_empty (b ∷ l) e = absurd (omega arith)

pub integer_at : (l : List ℕ) → (length l ≡ 0 → ⊥) → read_integer l ≡ cond (eqb (get_or l 0 0) 45) (option_and_then from_below (read_natural (drop 1 l))) (option_and_then from_above (read_natural l))
integer_at [] some = absurd (some refl)
integer_at (b ∷ l) some = refl

-- the spelling of an i32 is read as that number
minus_apart : (l : List ℕ) {n : ℕ} → read_natural l ≡ Some n → read_integer l ≡ from_above n
minus_apart [] e = absurd (no_number e)
minus_apart (b ∷ l) {n} e =
    let digits = chosen (starts_well (b ∷ l)) (read_digits 0 (b ∷ l)) None no_number e in
    let digit = digit_read 0 b l digits.1 in
    rw (ne_eqb b 45 (λ minus. omega (arith, digit.low))) (ap (option_and_then from_above) e)

pub integer_of_spelled : (z : ℤ) → SFits w32 z → read_integer (spelled_integer z) ≡ Some z
integer_of_spelled (pos n) f =
    minus_apart (spelled n) (natural_of_spelled n (omega (arith, f.sfits))) ∙ rw (le-leb n 2147483647 (omega (arith, f.sfits)))
integer_of_spelled (negsuc n) f =
    ap (option_and_then from_below) (natural_of_spelled (suc n) (omega (arith, f.sfits))) ∙ rw (le-leb 1 (suc n) (omega arith), le-leb (suc n) 2147483648 (omega (arith, f.sfits)))

-- and what is read as an i32 is its spelling
above_spelled : (l : List ℕ) (r : Option ℕ) {z : ℤ} → read_natural l ≡ r → option_and_then from_above r ≡ Some z → (l ≡ spelled_integer z) × SFits w32 z
above_spelled l None q e = absurd (no_number e)
above_spelled l (Some n) {z} q e =
    let found = chosen (leb n 2147483647) (Some (pos n)) None no_number e in
    let same : pos n ≡ z = cc found.1 in
    rw (← same) ((spelled_of_natural l n q).0, record { sfits = omega (arith, leb-true n 2147483647 found.0) })

below_spelled : (l : List ℕ) (r : Option ℕ) {z : ℤ} → read_natural l ≡ r → option_and_then from_below r ≡ Some z → (45 ∷ l ≡ spelled_integer z) × SFits w32 z
below_spelled l None q e = absurd (no_number e)
below_spelled l (Some zero) q e = absurd (no_number e)
below_spelled l (Some (suc n)) {z} q e =
    let found = chosen (leb 1 (suc n) && leb (suc n) 2147483648) (Some (negsuc n)) None no_number e in
    let tests = (and-eq-true_iff (leb 1 (suc n)) (leb (suc n) 2147483648)).0 found.0 in
    let same : negsuc n ≡ z = cc found.1 in
    rw (← same) (ap (λ (m : List ℕ). 45 ∷ m) (spelled_of_natural l (suc n) q).0, record { sfits = omega (arith, leb-true (suc n) 2147483648 tests.1) })

pub spelled_of_integer : (l : List ℕ) (z : ℤ) → read_integer l ≡ Some z → (l ≡ spelled_integer z) × SFits w32 z
spelled_of_integer [] z e = absurd (no_number e)
spelled_of_integer (b ∷ l) z e =
    ⊎_elim
    (λ (minus : eqb b 45 ≡ true). rw (eqb-true b 45 minus) (below_spelled l (read_natural l) refl (simp minus at e)))
    (λ (other : eqb b 45 ≡ false). above_spelled (b ∷ l) (read_natural (b ∷ l)) refl (simp other at e))
    (true_or_false (eqb b 45))

-- so what is bad is the spelling of no i32
pub integer_bad : (l : List ℕ) → read_integer l ≡ None → (z : ℤ) → SFits w32 z → l ≡ spelled_integer z → ⊥
integer_bad l bad z fits same = no_number (sym bad ∙ ap read_integer same ∙ integer_of_spelled z fits)
