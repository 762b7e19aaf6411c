-- `marks` marks the places of the variable's values: each turn passes one update of the walk, and sets the mark of its value's place.
use Rattle.std.proofs.Common.{◌≡◌, Bool, false, ◌||◌, ℤ, ℕ, ◌<◌, length, get_or}
use Rattle.domains.specs.Domain.{has}
use Rattle.pools.specs.Chain.{values_of, chain_of, left}
use Rattle.pools.specs.Runs.{Places, shifted}
use Rattle.pools.proofs.Pool.marks.Given as goal

abbrev pub invariant-loop-update : goal.invariant-loop-update
invariant-loop-update g l =
    (goal.iterator-loop-update g).can_next l.update-iterator
    × (goal.iterator-loop-update g).is_finite l.update-iterator
    × (length l.marks ≡ 1024)
    × ((up : Bool) (from : ℤ) → Places (λ v r. g.F.Fn.post l.place (v, tt) r) up from → (k : ℕ) → k < 1024
    → (has (values_of (left l.update-iterator)) (shifted up from k) || get_or l.marks k false) ≡ has (values_of (chain_of l.self.updates l.newest)) (shifted up from k))
