-- A window of marks over the listed values: what each mark tells, and that one pass over the list sets them. Tools. Assumes nothing.
use Rattle.std.specs.Prelude.{ℕ, ◌<◌, ◌≡◌, refl, Bool, true, false, ◌||◌, List, ◌∷◌, ℤ, ◌≤ℤ◌, get_or, set, length, eqb}
use Rattle.std.proofs.Common.{ap, ◌∙◌, get_or-set_same, get_or-set_other, eqb-true, arith}
use Rattle.std.proofs.lemmas.Bool.{eqb-false}
use Rattle.integers.specs.Integers.{eq_z}
use Rattle.integers.proofs.Order.{integers}
use Rattle.integers.specs.Distance.{distance}
use Rattle.domains.specs.Domain.{has}
use Rattle.domains.proofs.Tests.{by_cases}
use Rattle.pools.proofs.RunLaws.{apart, set_mark}
use Rattle.integers.proofs.Still.{no_distance}

-- v is one of the 8,192 values from a value on
abbrev pub Within : ℤ → ℤ → Type 0
Within from v = (from ≤ℤ v) × (distance from v < 8192)

-- each mark tells whether its value is listed
pub record Told (vs : List ℤ) (from : ℤ) (marks : List Bool) : Type 0 where
  pub tells : (v : ℤ) → Within from v → get_or marks (distance from v) false ≡ has vs v

-- two values from a value on are the same where they lie as far from it
same_place : (from v w : ℤ) → from ≤ℤ v → from ≤ℤ w → eqb (distance from v) (distance from w) ≡ eq_z v w
same_place from v w h g = go (eqb (distance from v) (distance from w)) refl (eq_z v w) refl
  where
    go : (s : Bool) → eqb (distance from v) (distance from w) ≡ s → (t : Bool) → eq_z v w ≡ t → s ≡ t
    go true p true q = refl
    go true p false q = let same = eqb-true _ _ p in absurd (omega (integers, apart from v h, apart from w g))
    go false p true q = let same : v ≡ w = omega integers in absurd (eqb-false _ _ p (ap (distance from) same))
    go false p false q = refl

-- a value is marked, or still among those to come
module _ (from w v : ℤ) (marks : List Bool) (rest : List ℤ) (in_window : Within from v) where
  -- marking the first of those keeps that
  pub marks_more : Within from w → length marks ≡ 8192 → (has rest v || get_or (set marks (distance from w) true) (distance from v) false) ≡ (has (w ∷ rest) v || get_or marks (distance from v) false)
  marks_more h long =
      rw (set_mark marks (distance from w) (distance from v) (omega arith), same_place from v w in_window.0 h.0)
      (turned (eq_z v w) (has rest v) (get_or marks (distance from v) false))
    where
      turned : (a b c : Bool) → (b || (a || c)) ≡ ((a || b) || c)
      turned true true c = refl
      turned true false c = refl
      turned false b c = refl

  -- as does passing it by where it does not stand in the window
  pub passes_more : (Within from w → ⊥) → (has rest v || get_or marks (distance from v) false) ≡ (has (w ∷ rest) v || get_or marks (distance from v) false)
  passes_more h = by_cases (eq_z v w) (λ e. let same : v ≡ w = omega integers in absurd (h (rw same at in_window))) (λ e. rw e refl)

-- the first mark tells of the window's first value
pub first_told : (vs : List ℤ) (v : ℤ) (marks : List Bool) → Told vs v marks → get_or marks 0 false ≡ has vs v
first_told vs v marks t = rw (no_distance v) at (t.tells v (omega integers, omega (arith, no_distance v)))
