-- What a domain says of a predicate, as `evaluate_predicate` finds it, and what that means, with the rules of RULES.md.
-- Statements alone, proved in TruthLaws.antt. Assumes nothing.
use Rattle.std.specs.Prelude.{◌≡◌, ◌↔◌, Bool, true, false, not, ℤ}
use Rattle.std.specs.Int.Signed.{le_z, lt_z}
use Rattle.integers.specs.Integers.{eq_z}
use Rattle.predicates.specs.declared.PredicateType.{PredicateType}
use Rattle.predicates.specs.declared.PredicateType.TheVariants.{LowerBound, NotEqual, Equal, UpperBound}
use Rattle.domains.specs.Choice.{pick}
use Rattle.domains.specs.Domain.{Domain, satisfies, member, emptied}
use Rattle.domains.specs.Promises.{Tight}

-- true, false or open
pub data Truth : Type 0 where
  holds : Truth
  fails : Truth
  open' : Truth

-- the tests, in their order (Q6)
unfoldable pub truth_of : PredicateType → ℤ → Domain → Truth
truth_of LowerBound v d = pick (le_z v d.lower) holds (pick (lt_z d.upper v) fails open')
truth_of NotEqual v d = pick (not (member d v)) holds (pick (eq_z d.lower d.upper) fails open')
truth_of Equal v d = pick (not (member d v)) fails (pick (eq_z d.lower d.upper) holds open')
truth_of UpperBound v d = pick (le_z d.upper v) holds (pick (lt_z v d.lower) fails open')

-- each value left answers the predicate so
abbrev pub All : PredicateType → ℤ → Domain → Bool → Type 0
All k v d answer = (x : ℤ) → member d x ≡ true → satisfies k v x ≡ answer

-- where a value is left, a predicate is true exactly where all values left satisfy it, and false exactly where none does
abbrev pub TruthLaw : Type 0
TruthLaw =
    (k : PredicateType) (v : ℤ) (d : Domain) → Tight d → emptied d ≡ false →
    ((truth_of k v d ≡ holds) ↔ All k v d true) × ((truth_of k v d ≡ fails) ↔ All k v d false)

-- where none is left, "not v" is true and "equal v" false (Q7)
abbrev pub EmptiedTruthLaw : Type 0
EmptiedTruthLaw =
    (v : ℤ) (d : Domain) → emptied d ≡ true → (truth_of NotEqual v d ≡ holds) × (truth_of Equal v d ≡ fails)
