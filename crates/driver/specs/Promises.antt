-- What is promised of the driver beside what each line does: statements alone. The proofs are in Kept.antt. Believe the definitions that
-- these cite (Lines and Runs; Commands of commands; Text of replies; Calls and Made of stores) and nothing else. Assumes nothing.
use Rattle.std.specs.Prelude.{ℕ, ◌+◌, ◌<◌, ◌≡◌, List, [], ◌++◌, length, None, Err}
use Rattle.stores.specs.declared.Assignments.{Assignments}
use Rattle.stories.specs.declared.Refusal.TheVariants.{NoRoom}
use Rattle.stores.specs.Calls.{synchronise_answer}
use Rattle.stores.specs.Made.{Made}
use Rattle.commands.specs.Commands.{command_of}
use Rattle.replies.specs.declared.answers.LineRefusal.TheVariants.{BadLine}
use Rattle.replies.specs.Replies.{line_number}
use Rattle.replies.specs.Text.{reply_text}
use Rattle.driver.specs.declared.answering.Answered.{Answered}
use Rattle.driver.specs.Lines.{line_store, line_text}
use Rattle.driver.specs.Runs.{run_store, run_text, Ran}

-- a run of lines is the lines one after the other: what comes later changes no answer before it (D11)
abbrev pub RunLaw : Type 0
RunLaw =
    (number : ℕ) (s : Assignments) (before after : List (List ℕ)) →
    (run_store s (before ++ after) ≡ run_store (run_store s before) after)
    × (run_text number s (before ++ after) ≡ run_text number s before ++ run_text (number + length before) (run_store s before) after)

-- a line that cannot be read is 14, once, and the store stays as it is (D7)
abbrev pub BadLaw : Type 0
BadLaw = (number : ℕ) (s : Assignments) (line : List ℕ) → command_of line ≡ None → (line_store s line ≡ s) × (line_text number s line ≡ reply_text number (Err BadLine) [] []) × (line_number BadLine ≡ 14)

-- a line of more than 200 bytes cannot be read (D2)
abbrev pub LongLaw : Type 0
LongLaw = (line : List ℕ) → 200 < length line → command_of line ≡ None

-- a `back` is never refused for want of room (D10)
abbrev pub RoomLaw : Type 0
RoomLaw = (s : Assignments) → Made s → (k : ℕ) → synchronise_answer s k 1024 ≡ Err NoRoom → ⊥

-- two results for the same store, input and buffer are equal
abbrev pub SameLaw : Type 0
SameLaw =
    (s : Assignments) (first : ℕ) (input before : List ℕ) (r other : Answered) (after afterwards : List ℕ) → Ran s first input before r after → Ran s first input before other afterwards → (r ≡ other) × (after ≡ afterwards)
