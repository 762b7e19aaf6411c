-- `same_bytes` tells whether two texts are equal, since it compares them byte by byte.
use Prim.Native.Nat.{ℕ}
use mathlib.Core.Path.{◌≡◌, refl}
use mathlib.Core.Bool.{true, false, false≢true, and-eq-true_iff}
use mathlib.Core.List.{List, [], ◌∷◌}
use mathlib.Core.Logic.{⊎_elim}
use lib.Dec.{eqb}
use borrow.Author.Tests.{eq-eqb, eqb-true}
use Rattle.lines.specs.Fields.{same_bytes}
use Rattle.lines.proofs.Cases.{true_or_false}

pub same_is_equal : (l m : List ℕ) → same_bytes l m ≡ true → l ≡ m
same_is_equal [] [] e = refl
same_is_equal [] (b ∷ m) e = absurd (false≢true e)
same_is_equal (a ∷ l) [] e = absurd (false≢true e)
same_is_equal (a ∷ l) (b ∷ m) e =
    let both = (and-eq-true_iff (eqb a b) (same_bytes l m)).0 e in
    rw (eqb-true a b both.0, same_is_equal l m both.1)

pub equal_is_same : (l : List ℕ) → same_bytes l l ≡ true
equal_is_same [] = refl
equal_is_same (a ∷ l) = rw (eq-eqb a a refl, equal_is_same l)

pub different_is_not_same : (l m : List ℕ) → (l ≡ m → ⊥) → same_bytes l m ≡ false
different_is_not_same l m h = ⊎_elim (λ e. absurd (h (same_is_equal l m e))) (λ e. e) (true_or_false (same_bytes l m))
