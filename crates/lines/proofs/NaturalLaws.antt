-- Exactly the spellings of the u32 are read, each as its number: reading a digit more undoes spelling a digit more, and a spelling starts with no zero unless it is zero's.
use Prim.Native.Nat.{ℕ, zero, suc, ◌+◌, ◌-◌, ◌*◌, ◌/◌, ◌%◌, ◌<◌, ◌≤◌}
use mathlib.Core.Path.{◌≡◌, refl, sym, ap, ◌∙◌}
use mathlib.Core.Bool.{Bool, true, false, not, ◌&&◌, cond, and-eq-true_iff, false≢true}
use mathlib.Core.List.{List, [], ◌∷◌, ◌++◌, append_assoc, append-nil}
use native.Mathlib.Omega.{arith}
use lib.ListN.{length, get_or}
use lib.Dec.{leb, eqb}
use borrow.Author.Tests.{le-leb, leb-true, ne_eqb, eqb-false, not-true}
use Rattle.std.specs.Prelude.{Some, None}
use Rattle.lines.specs.Spelling.{spelled}
use Rattle.lines.specs.Reading.{is_digit, read_digits, starts_well, read_natural}
use Rattle.lines.proofs.SpellingLaws.{by_digits, spelled_digit, spelled_more}

-- one digit more
pub read_digit : (n b : ℕ) (l : List ℕ) → 48 ≤ b → b ≤ 57 → n * 10 + (b - 48) ≤ 4294967295 → read_digits n (b ∷ l) ≡ read_digits (n * 10 + (b - 48)) l
read_digit n b l low high fits = rw (le-leb 48 b low, le-leb b 57 high, le-leb _ _ fits)

-- how a text of no byte, of one and of more starts
pub starts_empty : (l : List ℕ) → length l ≡ 0 → starts_well l ≡ false
starts_empty [] e = refl
starts_empty (b ∷ l) e = absurd (omega arith)

pub starts_single : (l : List ℕ) → length l ≡ 1 → starts_well l ≡ true
starts_single [] e = absurd (omega arith)
starts_single (b ∷ []) e = refl
starts_single (b ∷ c ∷ l) e = absurd (omega arith)

pub starts_longer : (l : List ℕ) → 1 < length l → starts_well l ≡ not (eqb (get_or l 0 0) 48)
starts_longer [] h = absurd (omega arith)
starts_longer (b ∷ []) h = absurd (omega arith)
starts_longer (b ∷ c ∷ l) h = refl

-- the spelling of n leads to n
read_spelled : (n : ℕ) → n ≤ 4294967295 → (l : List ℕ) → read_digits 0 (spelled n ++ l) ≡ read_digits n l
read_spelled =
    by_digits (λ n. n ≤ 4294967295 → (l : List ℕ) → read_digits 0 (spelled n ++ l) ≡ read_digits n l)
    (λ n small fits l. rw (spelled_digit small, read_digit 0 (48 + n) l (omega arith) (omega arith) (omega arith)) (ap (λ (k : ℕ). read_digits k l) (omega arith)))
    (λ n large tenth fits l.
    rw (spelled_more large, append_assoc, tenth (omega arith) ((48 + n % 10) ∷ l), read_digit (n / 10) (48 + n % 10) l (omega arith) (omega arith) (omega arith))
    (ap (λ (k : ℕ). read_digits k l) (omega arith)))

-- no spelling but zero's starts with a zero
starts_well_lem : (n : ℕ) → 1 ≤ n → (l : List ℕ) → starts_well (spelled n ++ l) ≡ true
starts_well_lem =
    by_digits (λ n. 1 ≤ n → (l : List ℕ) → starts_well (spelled n ++ l) ≡ true)
    (λ n small some l. rw (spelled_digit small) (first n some l))
    (λ n large tenth some l. rw (spelled_more large, append_assoc) (tenth (omega arith) ((48 + n % 10) ∷ l)))
  where
    first : (n : ℕ) → 1 ≤ n → (l : List ℕ) → starts_well ((48 + n) ∷ l) ≡ true
    first n some [] = refl
    first n some (c ∷ l) = rw (ne_eqb (48 + n) 48 (λ e. omega arith))

-- a spelling is read as its number
pub natural_of_spelled : (n : ℕ) → n ≤ 4294967295 → read_natural (spelled n) ≡ Some n
natural_of_spelled zero fits = rw (spelled_digit {n = 0} (omega arith))
natural_of_spelled (suc n) fits =
    let well = simp append-nil at (starts_well_lem (suc n) (omega arith) []) in
    rw well (simp append-nil at (read_spelled (suc n) fits []))

-- where a test chose between an answer and another that is not the one at hand, it was true
pub chosen : {A : Type 0} (t : Bool) (answer other : A) {found : A} → (other ≡ found → ⊥) → cond t answer other ≡ found → (t ≡ true) × (answer ≡ found)
chosen true answer other clash e = (refl, e)
chosen false answer other clash e = absurd (clash e)

pub no_number : {A : Type 0} {found : A} → None ≡ Some found → ⊥
no_number e = let clash : ◌≡◌ {A = ℕ} 0 1 = cc in omega arith

-- what was read past a byte: the byte is a digit
pub record DigitRead (n b : ℕ) (l : List ℕ) (m : ℕ) : Type 0 where
  pub low : 48 ≤ b
  pub high : b ≤ 57
  pub fits : n * 10 + (b - 48) ≤ 4294967295
  pub after : read_digits (n * 10 + (b - 48)) l ≡ Some m

pub digit_read : (n b : ℕ) (l : List ℕ) {m : ℕ} → read_digits n (b ∷ l) ≡ Some m → DigitRead n b l m
digit_read n b l e =
    let next = n * 10 + (b - 48) in
    let found = chosen (is_digit b && leb next 4294967295) (read_digits next l) None no_number e in
    let tests = (and-eq-true_iff (is_digit b) (leb next 4294967295)).0 found.0 in
    let digit = (and-eq-true_iff (leb 48 b) (leb b 57)).0 tests.0 in
    record { low = leb-true _ _ digit.0; high = leb-true _ _ digit.1; fits = leb-true _ _ tests.1; after = found.1 }

-- what digits make after n is spelt by those of n and then the digits
more_spelled : (l : List ℕ) (n m : ℕ) → 1 ≤ n → n ≤ 4294967295 → read_digits n l ≡ Some m → (spelled n ++ l ≡ spelled m) × (m ≤ 4294967295)
more_spelled [] n m some fits e =
    let same : n ≡ m = cc in
    (rw (append-nil, same), omega arith)
more_spelled (b ∷ l) n m some fits e =
    let digit = digit_read n b l e in
    let next = n * 10 + (b - 48) in
    let rest = more_spelled l next m (omega arith) digit.fits digit.after in
    let tenth : next / 10 ≡ n = omega (arith, digit.low, digit.high) in
    let last : 48 + next % 10 ≡ b = omega (arith, digit.low, digit.high) in
    (simp (spelled_more {n = next} (omega arith), append_assoc, tenth, last) at rest.0, rest.1)

-- the first digit, and the text from it on
first_digit : {b m : ℕ} {l : List ℕ} → DigitRead 0 b l m → spelled (0 * 10 + (b - 48)) ++ l ≡ b ∷ l
first_digit {b} {m} {l} digit =
    let same : 48 + (0 * 10 + (b - 48)) ≡ b = omega (arith, digit.low) in
    rw (spelled_digit {n = 0 * 10 + (b - 48)} (omega (arith, digit.high)), same)

-- and what is read as a number is its spelling
pub spelled_of_natural : (l : List ℕ) (m : ℕ) → read_natural l ≡ Some m → (l ≡ spelled m) × (m ≤ 4294967295)
spelled_of_natural l m e = let found = chosen (starts_well l) (read_digits 0 l) None no_number e in go l found.0 found.1
  where
    go : (l : List ℕ) → starts_well l ≡ true → read_digits 0 l ≡ Some m → (l ≡ spelled m) × (m ≤ 4294967295)
    go [] well e = absurd (false≢true well)
    go (b ∷ []) well e =
        let digit = digit_read 0 b [] e in
        let same : 0 * 10 + (b - 48) ≡ m = cc digit.after in
        (simp (same, append-nil) at (sym (first_digit digit)), omega (arith, digit.high))
    go (b ∷ c ∷ l) well e =
        let digit = digit_read 0 b (c ∷ l) e in
        let other = eqb-false b 48 (not-true _ well) in
        let rest = more_spelled (c ∷ l) (0 * 10 + (b - 48)) m (omega (arith, digit.low, other)) digit.fits digit.after in
        (sym (first_digit digit) ∙ rest.0, rest.1)

-- so what is bad is the spelling of no u32
pub natural_bad : (l : List ℕ) → read_natural l ≡ None → (n : ℕ) → n ≤ 4294967295 → l ≡ spelled n → ⊥
natural_bad l bad n fits same = no_number (sym bad ∙ ap read_natural same ∙ natural_of_spelled n fits)
