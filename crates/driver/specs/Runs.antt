-- A run over lines: which lines of an input are answered, and the store and the text after them, line by line (RULES.md, D1, D9 and D11). Assumes nothing.
use Rattle.std.specs.Prelude.{ℕ, suc, ◌+◌, ◌-◌, ◌<◌, ◌≤◌, ◌≡◌, List, [], ◌∷◌, ◌++◌, leb, eqb, length, get_or}
use Rattle.std.proofs.lemmas.List.Edits.{sets}
use Rattle.domains.specs.Choice.{pick}
use Rattle.stores.specs.declared.Assignments.{Assignments}
use Rattle.stores.specs.Made.{Made}
use Rattle.driver.specs.declared.answering.Answered.{Answered}
use Rattle.driver.specs.Lines.{line_store, line_text}

-- the lines of a text, each ended by LF, byte 10; `begun` stands before the text in its first line, and what no LF ends is no line yet
unfoldable pub lines_from : List ℕ → List ℕ → List (List ℕ)
lines_from begun [] = []
lines_from begun (byte ∷ text) = pick (eqb byte 10) (begun ∷ lines_from [] text) (lines_from (begun ++ (byte ∷ [])) text)

-- the lines with LF at the end of each
unfoldable pub ended : List (List ℕ) → List ℕ
ended [] = []
ended (line ∷ lines) = line ++ (10 ∷ ended lines)

-- the store after the lines
unfoldable pub run_store : Assignments → List (List ℕ) → Assignments
run_store s [] = s
run_store s (line ∷ lines) = run_store (line_store s line) lines

-- what is printed for the lines, of which the first has the number
unfoldable pub run_text : ℕ → Assignments → List (List ℕ) → List ℕ
run_text number s [] = []
run_text number s (line ∷ lines) = line_text number s line ++ run_text (suc number) (line_store s line) lines

-- the lines that are answered into so much room: each for which there is still room for the longest answer
unfoldable pub room_for : ℕ → Assignments → ℕ → List (List ℕ) → List (List ℕ)
room_for number s room [] = []
room_for number s room (line ∷ lines) = pick (leb 34000 room) (line ∷ room_for (suc number) (line_store s line) (room - length (line_text number s line)) lines) []

-- those of an input and of a buffer
abbrev pub answered : Assignments → ℕ → List ℕ → List ℕ → List (List ℕ)
answered s first input buffer = room_for first s (length buffer) (lines_from [] input)

-- these lines were answered, one after the other: the store is the one after them, and their text stands whole at the buffer's start.
-- The last two follow from the rest, and are said for the caller.
pub record Ran (s : Assignments) (first : ℕ) (input before : List ℕ) (r : Answered) (after : List ℕ) : Type 0 where
  pub store : r.store ≡ run_store s (answered s first input before)
  pub number : r.number ≡ first + length (answered s first input before)
  pub read : r.read ≡ length (ended (answered s first input before))
  pub written : r.written ≡ length (run_text first s (answered s first input before))
  pub output : after ≡ sets before 0 (run_text first s (answered s first input before))
  pub made : Made r.store
  pub within : r.written ≤ length before

-- `end` is the place of the first LF from `from` on, or the input's length
pub record EndsAt (input : List ℕ) (from end : ℕ) : Type 0 where
  pub later : from ≤ end
  pub inside : from ≤ length input → end ≤ length input
  pub unbroken : (k : ℕ) → from ≤ k → k < end → get_or input k 0 ≡ 10 → ⊥
  pub broken : end < length input → get_or input end 0 ≡ 10
