-- Where a bound stops that steps over holes: it passes holes up to the other bound only, and stops past that or at no hole.
-- Only one number is such: of two, the smaller would be a hole and no hole. A step down is a step up of the negatives. Assumes nothing.
use Prim.Native.Nat.{ℕ, zero, suc, ◌≤◌}
use mathlib.Core.Path.{◌≡◌, refl, sym, ap, ap₂, ◌∙◌}
use mathlib.Core.Bool.{Bool, true, false, ◌&&◌, ◌||◌}
use mathlib.Core.List.{List, [], ◌∷◌, map}
use lib.IntN.{ℤ, suc_ℤ, neg_ℤ, neg_ℤ-neg_ℤ}
use lib.Signed.{le_z, lt_z, ◌≤ℤ◌, ◌<ℤ◌}
use Rattle.integers.specs.Integers.{eq_z}
use Rattle.integers.proofs.Order.{integers, suc=, neg=}
use Rattle.domains.specs.Domain.{has, width, step_up, raised, lowered}
use Rattle.domains.proofs.Tests.{by_cases, clash, both, same_test}

-- from v up to r, over holes that are at most u
pub record Stepped (hs : List ℤ) (u v r : ℤ) : Type 0 where
  pub above : v ≤ℤ r
  pub passed : (x : ℤ) → v ≤ℤ x → x <ℤ r → (x ≤ℤ u) × (has hs x ≡ true)
  pub stops : r ≤ℤ u → has hs r ≡ false

-- from v down to r, over holes that are at least l
pub record SteppedDown (hs : List ℤ) (l v r : ℤ) : Type 0 where
  pub below : r ≤ℤ v
  pub passed : (x : ℤ) → x ≤ℤ v → r <ℤ x → (l ≤ℤ x) × (has hs x ≡ true)
  pub stops : l ≤ℤ r → has hs r ≡ false

-- no step from v, where v is past u or no hole
pub stays : (hs : List ℤ) (u v : ℤ) → (v ≤ℤ u → has hs v ≡ false) → Stepped hs u v v
stays hs u v h = record { above = omega integers; passed = λ x p q. absurd (omega integers); stops = h }

-- one step from v, and then more
goes : (hs : List ℤ) (u v r : ℤ) → v ≤ℤ u → has hs v ≡ true → Stepped hs u (suc_ℤ v) r → Stepped hs u v r
goes hs u v r h t s =
    record {
      above = omega (integers, suc= v);
      passed = λ x p q.
          by_cases (lt_z v x) (λ e. s.passed x (omega (integers, suc= v)) q)
          (λ e. let same : x ≡ v = omega integers in rw same (h, t));
      stops = s.stops;
    }

steps : (n : ℕ) (hs : List ℤ) (u v : ℤ) → width v u ≤ n → Stepped hs u v (step_up n hs u v)
unfolding step_up
steps zero hs u v h = stays hs u v (λ p. absurd (omega integers))
steps (suc n) hs u v h = go (le_z v u && has hs v) refl (λ l. steps n hs u (suc_ℤ v) l)
  where
    go : (b : Bool) → (le_z v u && has hs v) ≡ b → (width (suc_ℤ v) u ≤ n → Stepped hs u (suc_ℤ v) (step_up n hs u (suc_ℤ v))) → Stepped hs u v (elim b [ true ↦ step_up n hs u (suc_ℤ v) | false ↦ v ])
    go true e more =
        let p = both (le_z v u) (has hs v) e in
        goes hs u v _ (omega integers) p.1 (more (omega (integers, suc= v)))
    go false e more = stays hs u v (λ p. let q : le_z v u ≡ true = omega integers in rw q at e)

-- what `raised` gives
pub raised_steps : (hs : List ℤ) (u v : ℤ) → Stepped hs u v (raised hs u v)
unfolding raised
raised_steps hs u v = steps (width v u) hs u v (omega integers)

-- what is past u or no hole is not passed
pub not_passed : {hs : List ℤ} {u v r : ℤ} → Stepped hs u v r → (x : ℤ) → v ≤ℤ x → (x ≤ℤ u → has hs x ≡ false) → r ≤ℤ x
not_passed {r} s x p kept =
    by_cases (lt_z x r) (λ e. let hole = s.passed x p (omega integers) in clash hole.1 (kept hole.0))
    (λ e. omega integers)

-- and nothing else than `raised` is such
pub raised_is : (hs : List ℤ) (u v r : ℤ) → Stepped hs u v r → raised hs u v ≡ r
raised_is hs u v r s =
    let t = raised_steps hs u v in
    omega (integers, not_passed s _ t.above t.stops, not_passed t r s.above s.stops)

-- the negative is one of the negatives exactly where the number is one of the numbers
has_negative : (hs : List ℤ) (x : ℤ) → has (map neg_ℤ hs) (neg_ℤ x) ≡ has hs x
has_negative [] x = refl
has_negative (h ∷ hs) x =
    ap₂ ◌||◌
    (same_test (eq_z (neg_ℤ x) (neg_ℤ h)) (eq_z x h) (λ e. omega (integers, neg= x, neg= h)) (λ e. omega (integers, neg= x, neg= h)))
    (has_negative hs x)

-- a step down is a step up of the negatives, and back
module _ (hs : List ℤ) (l v r : ℤ) where
  to_negatives : SteppedDown hs l v r → Stepped (map neg_ℤ hs) (neg_ℤ l) (neg_ℤ v) (neg_ℤ r)
  to_negatives s =
      record {
        above = omega (integers, neg= v, neg= r);
        passed =
            λ x p q.
            let hole = s.passed (neg_ℤ x) (omega (integers, neg= v, neg= x)) (omega (integers, neg= r, neg= x)) in
            (omega (integers, neg= l, neg= x), rw neg_ℤ-neg_ℤ at (has_negative hs (neg_ℤ x) ∙ hole.1));
        stops = λ h. has_negative hs r ∙ s.stops (omega (integers, neg= l, neg= r));
      }

  from_negatives : Stepped (map neg_ℤ hs) (neg_ℤ l) (neg_ℤ v) (neg_ℤ r) → SteppedDown hs l v r
  from_negatives s =
      record {
        below = omega (integers, neg= v, neg= r);
        passed =
            λ x p q.
            let hole = s.passed (neg_ℤ x) (omega (integers, neg= v, neg= x)) (omega (integers, neg= r, neg= x)) in
            (omega (integers, neg= l, neg= x), sym (has_negative hs x) ∙ hole.1);
        stops = λ h. sym (has_negative hs r) ∙ s.stops (omega (integers, neg= l, neg= r));
      }

-- so the same holds of `lowered`
pub lowered_steps : (hs : List ℤ) (l v : ℤ) → SteppedDown hs l v (lowered hs l v)
unfolding lowered
lowered_steps hs l v = from_negatives hs l v _ (rw neg_ℤ-neg_ℤ (raised_steps (map neg_ℤ hs) (neg_ℤ l) (neg_ℤ v)))

pub not_passed_down : {hs : List ℤ} {l v r : ℤ} → SteppedDown hs l v r → (x : ℤ) → x ≤ℤ v → (l ≤ℤ x → has hs x ≡ false) → x ≤ℤ r
not_passed_down {hs} {l} {v} {r} s x p kept =
    let step =
    not_passed (to_negatives hs l v r s) (neg_ℤ x) (omega (integers, neg= v, neg= x))
    (λ h. has_negative hs x ∙ kept (omega (integers, neg= l, neg= x))) in
    omega (integers, neg= r, neg= x)

pub lowered_is : (hs : List ℤ) (l v r : ℤ) → SteppedDown hs l v r → lowered hs l v ≡ r
unfolding lowered
lowered_is hs l v r s = ap neg_ℤ (raised_is _ _ _ _ (to_negatives hs l v r s)) ∙ neg_ℤ-neg_ℤ r
