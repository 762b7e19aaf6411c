-- A list takes no more values out of a range than it has: each of its values is at most one of the range, so what is missing and what is
-- listed are together as many as the range has.
use Rattle.std.specs.Prelude.{ℕ, zero, suc, ◌+◌, ◌≤◌, ◌≡◌, refl, Bool, true, false, ◌||◌, List, [], ◌∷◌, ℤ, length, ◌<ℤ◌}
use Rattle.std.proofs.Common.{ap, arith}
use Rattle.std.proofs.Math.IntN.{suc_ℤ}
use Rattle.integers.specs.Integers.{eq_z}
use Rattle.integers.proofs.Order.{integers, suc=}
use Rattle.domains.specs.Choice.{pick}
use Rattle.domains.specs.Domain.{has}
use Rattle.stories.specs.Calls.{unlisted}

-- a value below the range makes no difference to it
same_above : (a : ℤ) (vs : List ℤ) (n : ℕ) (v : ℤ) → a <ℤ v → unlisted (a ∷ vs) n v ≡ unlisted vs n v
unfolding unlisted
same_above a vs zero v h = refl
same_above a vs (suc n) v h =
    let other : eq_z v a ≡ false = omega integers in
    let rest : unlisted (a ∷ vs) n (suc_ℤ v) ≡ unlisted vs n (suc_ℤ v) = same_above a vs n (suc_ℤ v) (omega (integers, suc= v)) in
    rw (other, rest)

-- one value more on the list takes at most one away
one_less : (a : ℤ) (vs : List ℤ) (n : ℕ) (v : ℤ) → length (unlisted vs n v) ≤ suc (length (unlisted (a ∷ vs) n v))
unfolding unlisted
one_less a vs zero v = omega arith
one_less a vs (suc n) v = go (eq_z v a) refl (has vs v) (one_less a vs n (suc_ℤ v))
  where
    longer : (t : Bool) (l : List ℤ) → length (pick t l (v ∷ l)) ≤ suc (length l)
    longer true l = omega arith
    longer false l = omega arith

    go : (q : Bool) → eq_z v a ≡ q → (t : Bool) → length (unlisted vs n (suc_ℤ v)) ≤ suc (length (unlisted (a ∷ vs) n (suc_ℤ v))) → length (pick t (unlisted vs n (suc_ℤ v)) (v ∷ unlisted vs n (suc_ℤ v))) ≤ suc (length (pick (q || t) (unlisted (a ∷ vs) n (suc_ℤ v)) (v ∷ unlisted (a ∷ vs) n (suc_ℤ v))))
    go true e t h =
        let rest : unlisted (a ∷ vs) n (suc_ℤ v) ≡ unlisted vs n (suc_ℤ v) = same_above a vs n (suc_ℤ v) (omega (integers, suc= v)) in
        rw rest (longer t (unlisted vs n (suc_ℤ v)))
    go false e true h = h
    go false e false h = omega arith

-- of a list with nothing on it, all are missing
all_missing : (n : ℕ) (v : ℤ) → length (unlisted [] n v) ≡ n
unfolding unlisted
all_missing zero v = refl
all_missing (suc n) v = ap suc (all_missing n (suc_ℤ v))

pub covered : (vs : List ℤ) (n : ℕ) (v : ℤ) → n ≤ length (unlisted vs n v) + length vs
covered [] n v = omega (arith, all_missing n v)
covered (a ∷ vs) n v = omega (arith, covered vs n v, one_less a vs n v)
