-- `num_domains` narrows the number of variables, of which there are at most 256.
use native.Mathlib.Omega.{arith}
use Rattle.stores.proofs.Straight.{tidy}
use Rattle.stores.proofs.History.{straight}
use Rattle.stores.proofs.Assignments.num_domains.Goals as goal

pub overflow_cast-result : goal.overflow_cast-result
overflow_cast-result c = record { fits = omega (arith, (tidy (straight c.requires)).domains) }
