-- What is promised of a domain and of a post, with the rules of RULES.md. Statements alone, proved in Laws.antt and Fits.antt.
-- Assumes nothing.
use Rattle.std.specs.Prelude.{◌≡◌, ◌↔◌, true, false, ◌&&◌, ℤ, ◌≤ℤ◌}
use Rattle.std.specs.Int.{w32}
use Rattle.std.proofs.Common.{SFits}
use Rattle.predicates.specs.declared.PredicateType.{PredicateType}
use Rattle.predicates.specs.declared.PredicateType.TheVariants.{NotEqual}
use Rattle.domains.specs.Domain.{Domain, satisfies, member, emptied, acts, after, overflows}

-- the bounds are the least and the greatest value left, if any is (H8)
pub record Tight (d : Domain) : Type 0 where
  pub least : d.lower ≤ℤ d.upper → member d d.lower ≡ true
  pub most : d.lower ≤ℤ d.upper → member d d.upper ≡ true

-- a post leaves exactly the values before that satisfy it (P1)
abbrev pub SetLaw : Type 0
SetLaw = (k : PredicateType) (v : ℤ) (d : Domain) (x : ℤ) → member (after k v d) x ≡ (member d x && satisfies k v x)

-- after a post the bounds are again the least and the greatest value left (P1)
abbrev pub TightLaw : Type 0
TightLaw = (k : PredicateType) (v : ℤ) (d : Domain) → Tight d → Tight (after k v d)

-- nothing is left exactly where lower > upper (H8)
abbrev pub EmptyLaw : Type 0
EmptyLaw = (d : Domain) → Tight d → (emptied d ≡ true) ↔ ((x : ℤ) → member d x ≡ false)

-- a post does something exactly where fewer values are left (P1)
abbrev pub ShrinkLaw : Type 0
ShrinkLaw =
    (k : PredicateType) (v : ℤ) (d : Domain) → Tight d → emptied d ≡ false →
    (acts k v d ≡ true) ↔ ((x : ℤ) × (member d x ≡ true) × (satisfies k v x ≡ false))

-- where nothing is left "not v" does nothing, and after any post nothing is left (P9)
abbrev pub EmptiedLaw : Type 0
EmptiedLaw =
    (d : Domain) (v : ℤ) → emptied d ≡ true →
    (acts NotEqual v d ≡ false) × ((k : PredicateType) → emptied (after k v d) ≡ true)

-- the bounds fit an i32
pub record Fits (d : Domain) : Type 0 where
  pub lower : SFits w32 d.lower
  pub upper : SFits w32 d.upper

-- and so do those after a post that is not refused for overflow (P2, P6)
abbrev pub FitsLaw : Type 0
FitsLaw =
    (k : PredicateType) (v : ℤ) (d : Domain) → Tight d → Fits d → SFits w32 v → overflows k v d ≡ false → Fits (after k v d)
