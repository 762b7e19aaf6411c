-- A part of the delimiters that is filled with blanks is cut off, as the meaning has it. Assumes nothing.
use Rattle.std.proofs.Common.{◌≡◌, ℕ, zero, suc, ◌+◌, ◌<◌, ◌≤◌, List, ◌∷◌, ◌++◌, length, set, take, drop, refl, ap, ◌∙◌, arith, add-one, length-drop}
use Rattle.std.proofs.Math.ListN.{replicate}
use Rattle.std.proofs.lemmas.List.{take-set-le, drop-set-add, drop-set, length-set, take-append-drop, length-take-le}
use borrow.Rule.Slice.PartMut.{put_mid}
use Rattle.stores.specs.Store.{cut}

-- one blank more, behind n blanks
one_more : (n : ℕ) (ds : List ℕ) → replicate (suc n) 0 ++ ds ≡ replicate n 0 ++ 0 ∷ ds
one_more zero ds = refl
one_more (suc n) ds = ap (λ (l : List ℕ). 0 ∷ l) (one_more n ds)

-- n places from the k-th on
cut_is : (n : ℕ) (ds : List ℕ) (k : ℕ) → k + n ≤ length ds → put_mid k n ds (replicate n 0) ≡ cut n ds k
unfolding cut
cut_is zero ds k h = take-append-drop k ds
cut_is (suc n) ds k h =
    let fits : n < length (drop k ds) = omega (arith, length-drop k ds) in
    let top : take k (set ds (k + n) 0) ≡ take k ds = take-set-le k ds (k + n) 0 (omega arith) in
    let rest : drop n (drop k (set ds (k + n) 0)) ≡ 0 ∷ drop (suc n) (drop k ds) = rw (drop-set-add k ds n 0, ← add-one n) (drop-set (drop k ds) n 0 fits) in
    rw (top, rest, one_more n (drop (suc n) (drop k ds))) refl ∙ cut_is n (set ds (k + n) 0) k (omega (arith, length-set ds (k + n) 0))

-- as the code fills it
pub filled : (n : ℕ) (ds : List ℕ) (k : ℕ) → k + n ≤ length ds → put_mid k n ds (replicate (length (take n (drop k ds))) 0) ≡ cut n ds k
filled n ds k h =
    let all : length (take n (drop k ds)) ≡ n = length-take-le n (drop k ds) (omega (arith, length-drop k ds)) in
    rw all (cut_is n ds k h)
