-- The numbers and words of a predicate's parts (RULES.md, "What the store holds"). Assumes nothing.
use Rattle.std.specs.Prelude.{ℕ, zero, suc}
use Rattle.predicates.specs.declared.PredicateType.{PredicateType}
use Rattle.predicates.specs.declared.PredicateType.TheVariants.{LowerBound, NotEqual, Equal, UpperBound}

-- the code of each kind: 0 lower, 1 not equal, 2 equal, 3 upper
abbrev pub code_of : PredicateType → ℕ
code_of LowerBound = 0
code_of NotEqual = 1
code_of Equal = 2
code_of UpperBound = 3

-- the kind of each code; a number past the four is read as the last, and nothing asks for it
abbrev pub kind_of : ℕ → PredicateType
kind_of zero = LowerBound
kind_of (suc zero) = NotEqual
kind_of (suc (suc zero)) = Equal
kind_of (suc (suc (suc n))) = UpperBound
