-- The tests look at the bounds and at v alone, and tight bounds are values left: so they speak for all of them. Assumes nothing.
use mathlib.Core.Path.{◌≡◌, refl, ap}
use mathlib.Core.Logic.{◌↔◌}
use mathlib.Core.Bool.{Bool, true, false, not}
use borrow.Author.Tests.{not-true, not-false}
use lib.IntN.{ℤ}
use lib.Signed.{le_z, lt_z}
use Rattle.integers.specs.Integers.{eq_z}
use Rattle.integers.proofs.Order.{integers}
use Rattle.predicates.specs.declared.PredicateType.{PredicateType}
use Rattle.predicates.specs.declared.PredicateType.TheVariants.{LowerBound, NotEqual, Equal, UpperBound}
use Rattle.domains.specs.Domain.{Domain, satisfies, member, emptied}
use Rattle.domains.proofs.Tests.{by_cases, picked, clash}
use Rattle.domains.proofs.Membership.{left}
use Rattle.domains.specs.Promises.{Tight}
use Rattle.domains.proofs.Laws.{idle_only, emptied_law}
use Rattle.domains.specs.Truth.{Truth, truth_of, All, TruthLaw, EmptiedTruthLaw}
use Rattle.domains.specs.Truth.Truth.{holds, fails, open'}

-- a value left answers the predicate so
abbrev Some : PredicateType → ℤ → Domain → Bool → Type 0
Some k v d answer = (x : ℤ) × (member d x ≡ true) × (satisfies k v x ≡ answer)

-- what the three answers mean
abbrev Means : PredicateType → ℤ → Domain → Truth → Type 0
Means k v d holds = All k v d true
Means k v d fails = All k v d false
Means k v d open' = Some k v d true × Some k v d false

module _ (v : ℤ) (d : Domain) (t : Tight d) (n : emptied d ≡ false) where
  least : member d d.lower ≡ true
  least = t.least (omega integers)

  most : member d d.upper ≡ true
  most = t.most (omega integers)

  -- v is no value left, or the only one, or one of several
  other : member d v ≡ false → All Equal v d false
  other e x m = not-true (eq_z x v) (idle_only v d NotEqual e x (left d x m))

  only : member d v ≡ true → eq_z d.lower d.upper ≡ true → All Equal v d true
  only e p x m = let i = left d x m in let j = left d v e in omega integers

  several : eq_z d.lower d.upper ≡ false → Some Equal v d false
  several p = by_cases (eq_z d.lower v) (λ q. (d.upper, most, omega integers)) (λ q. (d.lower, least, q))

  itself : eq_z v v ≡ true
  itself = omega integers

  means : (k : PredicateType) → Means k v d (truth_of k v d)
  unfolding truth_of
  means LowerBound =
      picked (Means LowerBound v d) (le_z v d.lower) (λ p x m. let i = left d x m in omega integers)
      (λ p. picked (Means LowerBound v d) (lt_z d.upper v) (λ q x m. let i = left d x m in omega integers)
      (λ q. ((d.upper, most, omega integers), (d.lower, least, omega integers))))
  means NotEqual =
      picked (Means NotEqual v d) (not (member d v)) (λ p x m. ap not (other (not-true _ p) x m))
      (λ p. picked (Means NotEqual v d) (eq_z d.lower d.upper) (λ q x m. ap not (only (not-false _ p) q x m))
      (λ q. let w = several q in ((w.0, w.1, ap not w.2), (v, not-false _ p, ap not itself))))
  means Equal =
      picked (Means Equal v d) (not (member d v)) (λ p. other (not-true _ p))
      (λ p. picked (Means Equal v d) (eq_z d.lower d.upper) (λ q. only (not-false _ p) q)
      (λ q. ((v, not-false _ p, itself), several q)))
  means UpperBound =
      picked (Means UpperBound v d) (le_z d.upper v) (λ p x m. let i = left d x m in omega integers)
      (λ p. picked (Means UpperBound v d) (lt_z v d.lower) (λ q x m. let i = left d x m in omega integers)
      (λ q. ((d.lower, least, omega integers), (d.upper, most, omega integers))))

  -- and the answers are three, so each is given where what it means is so
  told : (k : PredicateType) (s : Truth) → Means k v d s → ((s ≡ holds) ↔ All k v d true) × ((s ≡ fails) ↔ All k v d false)
  told k holds f = ((λ _. f, λ _. refl), (λ e. clash refl (cc), λ g. clash (f _ least) (g _ least)))
  told k fails f = ((λ e. clash refl (cc), λ g. clash (g _ least) (f _ least)), (λ _. f, λ _. refl))
  told k open' w =
      ((λ e. clash refl (cc), λ g. clash (g _ w.1.1) w.1.2), (λ e. clash refl (cc), λ g. clash w.0.2 (g _ w.0.1)))

pub truth_law : TruthLaw
truth_law k v d t n = told v d t n k (truth_of k v d) (means v d t n k)

pub emptied_truth_law : EmptiedTruthLaw
unfolding truth_of
emptied_truth_law v d e = let none = (emptied_law d v e).0 in (rw none, rw none)
