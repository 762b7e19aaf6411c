-- The refusals: their numbers, and the order in which a call tests for them (RULES.md, "Refusal numbers"). Assumes nothing.
use Rattle.std.specs.Prelude.{ℕ, Bool, true, false, ◌≡◌, List, [], ◌∷◌}
use Rattle.domains.specs.Choice.{pick}
use Rattle.stories.specs.declared.Refusal.{Refusal}
use Rattle.stories.specs.declared.Refusal.TheVariants.{NoVariable, NotRoot, BadDomain, TooManyVariables, TrailFull, StepOverflow, Empty, TooManyCheckpoints, NotLower, NoRoom, NoSuchEntry, NoDecision, NoReason}

-- each refusal's number
abbrev pub number_of : Refusal → ℕ
number_of NoVariable = 1
number_of NotRoot = 2
number_of BadDomain = 3
number_of TooManyVariables = 4
number_of TrailFull = 5
number_of StepOverflow = 6
number_of Empty = 7
number_of TooManyCheckpoints = 8
number_of NotLower = 9
number_of NoRoom = 10
number_of NoSuchEntry = 11
number_of NoDecision = 12
number_of NoReason = 13

-- a refusal and the test for it
pub record Ground : Type 0 where
  pub holds : Bool
  pub refusal : Refusal

abbrev pub ground : Refusal → Bool → Ground
ground r b = record { holds = b; refusal = r }

-- what a call answers: the first refusal of which the test holds, or else its own answer
abbrev pub decided : {A : Type 0} → (Refusal → A) → List Ground → A → A
decided refused [] answer = answer
decided refused (g ∷ gs) answer = pick g.holds (refused g.refusal) (decided refused gs answer)

-- r is the first: its test holds and none before it does
pub data First : List Ground → Refusal → Type 0 where
  here : {g : Ground} {gs : List Ground} → g.holds ≡ true → First (g ∷ gs) g.refusal
  later : {g : Ground} {gs : List Ground} {r : Refusal} → g.holds ≡ false → First gs r → First (g ∷ gs) r
