-- How much a store holds (RULES.md, H13). Assumes nothing.
use Rattle.std.specs.Prelude.{ℕ}

-- variables, variable 0 counted
abbrev pub max_variables : ℕ
max_variables = 256

-- entries on the trail
abbrev pub max_entries : ℕ
max_entries = 1024

-- open checkpoints, checkpoint 0 not counted
abbrev pub max_checkpoints : ℕ
max_checkpoints = 256
