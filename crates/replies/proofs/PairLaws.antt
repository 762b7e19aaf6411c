-- The text of one pair more is that of the pairs before it and then its own, and pairs past the end of a list add nothing: both by going along the two lists.
use Prim.Native.Nat.{ℕ, zero, suc, ◌+◌, ◌<◌, ◌≤◌, min}
use mathlib.Core.Path.{◌≡◌, refl, sym, ap, ◌∙◌}
use mathlib.Core.List.{List, [], ◌∷◌, ◌++◌, append_assoc, append-nil}
use mathlib.Core.Logic.{◌⊎◌, ⊎_elim}
use native.Mathlib.Numerals.{add-one}
use native.Mathlib.Omega.{arith}
use lib.IntN.{ℤ, pos}
use lib.ListN.{length, get_or}
use Rattle.replies.specs.Text.{pair_text, pairs_text}

pub pairs_none : (variables : List ℕ) (lowers : List ℤ) → pairs_text 0 variables lowers ≡ []
unfolding pairs_text
pairs_none [] lowers = refl
pairs_none (x ∷ variables) [] = refl
pairs_none (x ∷ variables) (v ∷ lowers) = refl

pub pairs_short : (n m : ℕ) (variables : List ℕ) (lowers : List ℤ) → min (length variables) (length lowers) ≤ n → min (length variables) (length lowers) ≤ m → pairs_text n variables lowers ≡ pairs_text m variables lowers
unfolding pairs_text
pairs_short n m [] lowers h k = refl
pairs_short n m (x ∷ variables) [] h k = refl
pairs_short zero m (x ∷ variables) (v ∷ lowers) h k = absurd (omega arith)
pairs_short (suc n) zero (x ∷ variables) (v ∷ lowers) h k = absurd (omega arith)
pairs_short (suc n) (suc m) (x ∷ variables) (v ∷ lowers) h k = ap (λ (t : List ℕ). pair_text x v ++ t) (pairs_short n m variables lowers (omega arith) (omega arith))

pub pairs_more : (variables : List ℕ) (lowers : List ℤ) (i : ℕ) → i < length variables → i < length lowers → pairs_text (suc i) variables lowers ≡ pairs_text i variables lowers ++ pair_text (get_or variables i 0) (get_or lowers i (pos 0))
unfolding pairs_text
pairs_more [] lowers i h k = absurd (omega arith)
pairs_more (x ∷ variables) [] i h k = absurd (omega arith)
pairs_more (x ∷ variables) (v ∷ lowers) zero h k = ap (λ (t : List ℕ). pair_text x v ++ t) (pairs_none variables lowers) ∙ append-nil _
pairs_more (x ∷ variables) (v ∷ lowers) (suc i) h k =
    ap (λ (t : List ℕ). pair_text x v ++ t) (pairs_more variables lowers i (omega arith) (omega arith)) ∙ sym (append_assoc (pair_text x v) _ _)

-- the first pair of two lists, and those after it
pub pairs_first : {n x : ℕ} (left : ℕ) {v : ℤ} {variables later_variables : List ℕ} {lowers later_lowers : List ℤ} → variables ≡ x ∷ later_variables → lowers ≡ v ∷ later_lowers → left + 1 ≡ n → pairs_text n variables lowers ≡ pair_text x v ++ pairs_text left later_variables later_lowers
unfolding pairs_text
pairs_first left one two count = rw (one, two, ← count, add-one left) refl

-- no pair is left where none is asked for, or where a list is at its end
pub pairs_left : (n : ℕ) (variables : List ℕ) (lowers : List ℤ) → (0 < n → (length variables ≡ 0) ⊎ (length lowers ≡ 0)) → pairs_text n variables lowers ≡ []
unfolding pairs_text
pairs_left n [] lowers h = refl
pairs_left n (x ∷ variables) [] h = refl
pairs_left zero (x ∷ variables) (v ∷ lowers) h = refl
pairs_left (suc n) (x ∷ variables) (v ∷ lowers) h = ⊎_elim (λ none. absurd (omega arith)) (λ none. absurd (omega arith)) (h (omega arith))
