-- What it is to write a text into a buffer. Assumes nothing.
use Rattle.std.specs.Prelude.{ℕ, ◌+◌, ◌-◌, min, ◌≡◌, List, length}
use Rattle.std.proofs.lemmas.List.Edits.{sets}
use Rattle.lines.specs.declared.writing.Writer.{Writer}

-- the text stands in the buffer from the place `at` on, as much of it as the buffer has room for, and all else is as before; `next` is the place after it
pub record Put (before : List ℕ) (at : ℕ) (text after : List ℕ) (next : ℕ) : Type 0 where
  pub written : after ≡ sets before at text
  pub past : next ≡ at + min (length text) (length before - at)

-- a writer wrote the text and goes on in the same buffer
pub record Wrote (before : Writer) (text : List ℕ) (after : Writer) : Type 0 where
  pub put : Put before.buffer.now before.length text after.buffer.now after.length
  pub same_buffer : after.buffer.ghost_name ≡ before.buffer.ghost_name
