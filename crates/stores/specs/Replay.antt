-- What the trail means: the entries on a variable, applied in order to its starting interval. Read are the trail's predicates and that
-- interval, and nothing else: no pool, no bound, no hole. Assumes nothing.
use Rattle.std.specs.Prelude.{ℕ, zero, suc, ◌+◌, List, get_or}
use Rattle.domains.specs.declared.Bounds.{Bounds}
use Rattle.domains.specs.Domain.{pruned_by}
use Rattle.stories.specs.declared.Entry.{Entry}
use Rattle.stories.specs.Story.{replayed, bounds_of}
use Rattle.stories.specs.Story.{no_entry}

-- what the first n entries pruned, each by the rule of the count; `starts` has the variables' starting intervals
unfoldable pub pruned_up_to : List Entry → (ℕ → Bounds) → ℕ → ℕ
pruned_up_to es starts zero = 0
pruned_up_to es starts (suc n) =
    let e : Entry = get_or es n no_entry in
    let x : ℕ = e.predicate.domain.0 in
    pruned_up_to es starts n + pruned_by e.predicate.kind (bounds_of (replayed es x (starts x) n)) (bounds_of (replayed es x (starts x) (suc n)))
