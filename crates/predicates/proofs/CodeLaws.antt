-- There are four codes, and each tells its kind: by the four cases.
use Prim.Native.Nat.{◌<◌}
use mathlib.Core.Path.{◌≡◌, refl}
use native.Mathlib.Omega.{arith}
use Rattle.predicates.specs.declared.PredicateType.{PredicateType}
use Rattle.predicates.specs.declared.PredicateType.TheVariants.{LowerBound, NotEqual, Equal, UpperBound}
use Rattle.predicates.specs.Codes.{code_of, kind_of}

-- there is no fifth code
pub code_below : (k : PredicateType) → code_of k < 4
code_below LowerBound = omega arith
code_below NotEqual = omega arith
code_below Equal = omega arith
code_below UpperBound = omega arith

-- a code tells its kind, so no two kinds share one
pub code_tells : (k : PredicateType) → kind_of (code_of k) ≡ k
code_tells LowerBound = refl
code_tells NotEqual = refl
code_tells Equal = refl
code_tells UpperBound = refl
