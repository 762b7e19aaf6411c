-- What the questions answer (RULES.md, "Questions, now and at a position"): each asks the domain that the story has now or for a
-- position, and is refused with 1 where there is no such variable. Assumes nothing.
use Rattle.std.specs.Prelude.{ℕ, Bool, true, false, [], ◌∷◌, ℤ, length, get_or, leb, Option, Some, None, Result, Ok, Err}
use Rattle.integers.specs.Integers.{eq_z}
use Rattle.predicates.specs.declared.PredicateType.{PredicateType}
use Rattle.domains.specs.Choice.{pick}
use Rattle.domains.specs.Domain.{Domain, member, width}
use Rattle.domains.specs.Truth.{Truth, truth_of}
use Rattle.domains.specs.Truth.Truth.{holds, fails, open'}
use Rattle.stories.specs.declared.Entry.{Entry}
use Rattle.stories.specs.declared.Refusal.{Refusal}
use Rattle.stories.specs.declared.Refusal.TheVariants.{NoVariable, NoSuchEntry}
use Rattle.stories.specs.Refusals.{ground, decided}
use Rattle.stories.specs.Story.{Story, no_entry, start_of, domain_now, domain_at}

-- ---- the rules' words

-- true, false, or none of the two where it is open
abbrev pub in_words : Truth → Option Bool
in_words holds = Some true
in_words fails = Some false
in_words open' = None

-- ---- what a domain tells

-- its bounds (Q2, Q3)
abbrev pub lowest : Domain → ℤ
lowest d = d.lower

abbrev pub highest : Domain → ℤ
highest d = d.upper

-- whether v is in it (Q4)
abbrev pub contains : ℤ → Domain → Bool
contains v d = member d v

-- whether lower equals upper; then that value, else the rules' none (Q5)
abbrev pub is_one : Domain → Bool
is_one d = eq_z d.lower d.upper

abbrev pub assigned_value : Domain → Option ℤ
assigned_value d = pick (is_one d) (Some d.lower) None

-- whether a predicate is true, false or open (Q6)
abbrev pub truth : PredicateType → ℤ → Domain → Option Bool
truth k v d = in_words (truth_of k v d)

-- whether it is true; whether it is false: open is neither (Q8)
abbrev pub if_true : Option Bool → Bool
if_true (Some true) = true
if_true (Some false) = false
if_true None = false

abbrev pub if_false : Option Bool → Bool
if_false (Some true) = false
if_false (Some false) = true
if_false None = false

abbrev pub satisfied : PredicateType → ℤ → Domain → Bool
satisfied k v d = if_true (truth k v d)

abbrev pub falsified : PredicateType → ℤ → Domain → Bool
falsified k v d = if_false (truth k v d)

-- how many values there are from lower to upper; holes between them are not taken off (Q16)
unfoldable pub left_of : Domain → ℕ
left_of d = width d.lower d.upper

-- ---- asking the story

-- a question about variable x: 1 where there is no such variable, else the answer (R3, R5)
abbrev pub asked : {A : Type 0} → Story → ℕ → A → Result A Refusal
asked t x answer = decided Err (ground NoVariable (leb (length t.variables) x) ∷ []) (Ok answer)

-- about its domain now
abbrev pub ask_now : {A : Type 0} → (Domain → A) → Story → ℕ → Result A Refusal
ask_now answer t x = asked t x (answer (domain_now t x))

-- about its domain at position p
abbrev pub ask_at : {A : Type 0} → (Domain → A) → Story → ℕ → ℕ → Result A Refusal
ask_at answer t x p = asked t x (answer (domain_at t x p))

-- about its bounds at first
abbrev pub initial_lower : Story → ℕ → Result ℤ Refusal
initial_lower t x = asked t x (start_of t x).lower

abbrev pub initial_upper : Story → ℕ → Result ℤ Refusal
initial_upper t x = asked t x (start_of t x).upper

-- the entry at position n: 11 where there is none (R3)
unfoldable pub entry_at : Story → ℕ → Result Entry Refusal
entry_at t n = decided Err (ground NoSuchEntry (leb (length t.entries) n) ∷ []) (Ok (get_or t.entries n no_entry))
