-- A variable's domain, and what a post does to it (RULES.md, "Posts"). How the store keeps one is not said here. Assumes nothing.
use Rattle.std.specs.Prelude.{ℕ, zero, suc, ◌+◌, ◌-◌, Bool, true, false, not, ◌&&◌, ◌||◌, List, [], ◌∷◌, map, ℤ, pos, negsuc, neg_ℤ}
use Rattle.std.proofs.Math.IntN.{suc_ℤ, pred_ℤ}
use Rattle.std.specs.Int.Signed.{le_z, lt_z}
use Rattle.integers.specs.Integers.{plus, minus, eq_z}
use Rattle.integers.specs.Distance.{distance}
use Rattle.predicates.specs.declared.PredicateType.{PredicateType}
use Rattle.predicates.specs.declared.PredicateType.TheVariants.{LowerBound, NotEqual, Equal, UpperBound}
use Rattle.domains.specs.Choice.{pick}
use Rattle.domains.specs.declared.Bounds.{Bounds}
use Rattle.domains.specs.declared.Step.{Step}
use Rattle.domains.specs.declared.Step.TheVariants.{Nothing, Overflows, Moves}

-- the bounds, and the values that were removed by name, newest first
pub record Domain : Type 0 where
  pub lower : ℤ
  pub upper : ℤ
  pub holes : List ℤ

-- x satisfies the predicate of this kind and value
abbrev pub satisfies : PredicateType → ℤ → ℤ → Bool
satisfies LowerBound v x = le_z v x
satisfies NotEqual v x = not (eq_z x v)
satisfies Equal v x = eq_z x v
satisfies UpperBound v x = le_z x v

-- x is one of the values
abbrev pub has : List ℤ → ℤ → Bool
has [] x = false
has (h ∷ hs) x = eq_z x h || has hs x

-- x is left: within the bounds, and no hole
abbrev pub member : Domain → ℤ → Bool
member d x = le_z d.lower x && (le_z x d.upper && not (has d.holes x))

-- nothing is left
abbrev pub emptied : Domain → Bool
emptied d = lt_z d.upper d.lower

-- how many values there are from a up to b
abbrev pub width : ℤ → ℤ → ℕ
width a b = suc (plus b + minus a) - (plus a + minus b)

-- from l up over holes, while it is at most u; n bounds the steps
unfoldable pub step_up : ℕ → List ℤ → ℤ → ℤ → ℤ
step_up zero hs u l = l
step_up (suc n) hs u l = elim (le_z l u && has hs l) [ true ↦ step_up n hs u (suc_ℤ l) | false ↦ l ]

-- a lower bound that becomes v steps up over holes, while it is at most the upper bound u
unfoldable pub raised : List ℤ → ℤ → ℤ → ℤ
raised hs u v = step_up (width v u) hs u v

-- an upper bound that becomes v, above the lower bound l: the mirror image
unfoldable pub lowered : List ℤ → ℤ → ℤ → ℤ
lowered hs l v = neg_ℤ (raised (map neg_ℤ hs) (neg_ℤ l) (neg_ℤ v))

-- whether a post does something
abbrev pub acts : PredicateType → ℤ → Domain → Bool
acts LowerBound v d = lt_z d.lower v
acts NotEqual v d = member d v
acts Equal v d = lt_z d.lower v || lt_z v d.upper
acts UpperBound v d = lt_z v d.upper

-- the lower bound after a post that does something. Stepping away from v never meets v, so it is one whether v is a hole by then
abbrev pub lower_after : PredicateType → ℤ → Domain → ℤ
lower_after LowerBound v d = raised d.holes d.upper v
lower_after NotEqual v d = pick (eq_z v d.lower) (raised d.holes d.upper (suc_ℤ v)) d.lower
lower_after Equal v d = pick (lt_z d.lower v) (raised d.holes d.upper v) d.lower
lower_after UpperBound v d = d.lower

-- and then the upper bound
abbrev pub upper_after : PredicateType → ℤ → Domain → ℤ
upper_after LowerBound v d = d.upper
upper_after NotEqual v d = pick (eq_z v d.upper) (lowered d.holes (lower_after NotEqual v d) (pred_ℤ v)) d.upper
upper_after Equal v d = pick (lt_z v d.upper) (lowered d.holes (lower_after Equal v d) v) d.upper
upper_after UpperBound v d = lowered d.holes d.lower v

-- a not-equal stores its value as a hole, first of all
abbrev pub is_not_equal : PredicateType → Bool
is_not_equal LowerBound = false
is_not_equal NotEqual = true
is_not_equal Equal = false
is_not_equal UpperBound = false

-- the domain after a post that does something
unfoldable pub moved : PredicateType → ℤ → Domain → Domain
moved k v d = record { lower = lower_after k v d; upper = upper_after k v d; holes = pick (is_not_equal k) (v ∷ d.holes) d.holes }

-- the domain after any post
unfoldable pub after : PredicateType → ℤ → Domain → Domain
after k v d = pick (acts k v d) (moved k v d) d

-- removing the only value left, where that is the first or the last i32
abbrev pub overflows : PredicateType → ℤ → Domain → Bool
overflows k v d =
    is_not_equal k && (eq_z v d.lower && (eq_z v d.upper && (eq_z v (pos 2147483647) || eq_z v (negsuc 2147483647))))

-- what a post comes to
unfoldable pub step_of : PredicateType → ℤ → Domain → Step
step_of k v d =
    pick (acts k v d)
    (pick (overflows k v d) Overflows (Moves (record { lower = lower_after k v d; upper = upper_after k v d })))
    Nothing

-- what an entry adds to the count: the distances that the bounds moved, and 1 for a not-equal that moved neither
unfoldable pub pruned_by : PredicateType → Bounds → Bounds → ℕ
pruned_by k d e =
    distance d.lower e.lower + distance d.upper e.upper
    + pick (is_not_equal k && (eq_z d.lower e.lower && eq_z d.upper e.upper)) 1 0
