-- The rules' words for what a post answers and for a reason (RULES.md, "The driver"). Assumes nothing.
use Rattle.std.specs.Prelude.{ℕ, Bool, true, false, List, [], ◌∷◌, Result, Ok, Err}
use Rattle.predicates.specs.declared.Reason.{Reason}
use Rattle.predicates.specs.declared.Reason.TheVariants.{None, Given}
use Rattle.stories.specs.declared.Refusal.{Refusal}
use Rattle.stories.specs.Refusals.{number_of}

-- taken, with a number, or refused by number
pub data Told : Type 0 where
  ok : ℕ → Told
  refused : ℕ → Told

-- a post answers 1 for changed, 0 for unchanged
abbrev pub told_of : Result Bool Refusal → Told
told_of (Ok true) = Told.ok 1
told_of (Ok false) = Told.ok 0
told_of (Err r) = Told.refused (number_of r)

-- a reason is none, or a number
abbrev pub reason_of : Reason → List ℕ
reason_of None = []
reason_of (Given number) = number ∷ []
