-- `get_checkpoint` narrows the checkpoint, of which at most 256 are open.
use native.Mathlib.Omega.{arith}
use Rattle.stores.proofs.Straight.{tidy}
use Rattle.stores.proofs.History.{straight}
use Rattle.stores.proofs.Assignments.get_checkpoint.Goals as goal

pub overflow_cast-result : goal.overflow_cast-result
overflow_cast-result c = record { fits = omega (arith, (tidy (straight c.requires)).checkpoints) }
