-- What the questions about a variable answer (RULES.md, "Questions, now and at a position"): each asks the domain that the store has now or
-- for a position, and is refused with 1 where there is no such variable. Assumes nothing.
use Rattle.std.specs.Prelude.{ℕ, [], ◌∷◌, leb, ℤ, Result, Ok, Err}
use Rattle.domains.specs.Domain.{Domain}
use Rattle.stores.specs.declared.Assignments.{Assignments}
use Rattle.stories.specs.declared.Refusal.{Refusal}
use Rattle.stories.specs.declared.Refusal.TheVariants.{NoVariable}
use Rattle.stories.specs.Refusals.{decided}
use Rattle.stores.specs.Store.{variable_of, domain_of}
use Rattle.stores.specs.Positions.{domain_at}

-- ---- asking the store

-- a question about variable x: 1 where there is no such variable, else the answer (R3, R5)
abbrev pub asked : {A : Type 0} → Assignments → ℕ → A → Result A Refusal
asked s x answer = decided Err (record { holds = leb s.domains x; refusal = NoVariable } ∷ []) (Ok answer)

-- about its domain now
abbrev pub ask_now : {A : Type 0} → (Domain → A) → Assignments → ℕ → Result A Refusal
ask_now answer s x = asked s x (answer (domain_of s x))

-- about its domain at position p
abbrev pub ask_at : {A : Type 0} → (Domain → A) → Assignments → ℕ → ℕ → Result A Refusal
ask_at answer s x p = asked s x (answer (domain_at s x p))

-- about its bounds at first
abbrev pub initial_lower : Assignments → ℕ → Result ℤ Refusal
initial_lower s x = asked s x (variable_of s x).initial.lower

abbrev pub initial_upper : Assignments → ℕ → Result ℤ Refusal
initial_upper s x = asked s x (variable_of s x).initial.upper
