-- `new_checkpoint` opens one where there is room for it: the trail's length, which a u16 holds, is put at the place of the new checkpoint.
use native.Mathlib.Omega.{arith}
use native.Mathlib.Numerals.{add-one}
use Rattle.stores.specs.Store.{opened}
use Rattle.stores.proofs.Straight.{tidy}
use Rattle.stores.proofs.History.{straight}
use Rattle.stores.proofs.Cases.{open_many, open_taken}
use Rattle.backtracking.proofs.new_checkpoint.Goals as goal

pub returns-then-current-ge-MAX_CHECKPOINTS : goal.returns-then-current-ge-MAX_CHECKPOINTS
returns-then-current-ge-MAX_CHECKPOINTS c = open_many c.args.store c.if-current-ge-MAX_CHECKPOINTS.true

pub overflow_cast-store : goal.overflow_cast-store
overflow_cast-store c = record { fits = omega (arith, (tidy (straight c.requires)).entries) }

pub returns : goal.returns
unfolding opened
returns c = rw add-one (open_taken c.args.store c.if-current-ge-MAX_CHECKPOINTS.false)
