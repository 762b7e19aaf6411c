-- The three kinds of count: a variable, a checkpoint, a position of the trail. Assumes nothing.
-- A store has at most 256 variables, 256 open checkpoints and 1,024 entries, so each fits 16 bits, and all
-- numbers past the last of 16 bits mean the same: a variable or a checkpoint that no store has, a position past the trail.
use Rattle.std.specs.Prelude.{ℕ, min}

-- the count that stands for a number
abbrev pub counted : ℕ → ℕ
counted n = min n 65535
