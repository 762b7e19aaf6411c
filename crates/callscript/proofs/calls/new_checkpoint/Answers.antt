-- `new_checkpoint` leaves a store that public calls made: one call more made it. Assumes nothing.
use Rattle.std.proofs.Common.{sym, subst}
use Rattle.stores.specs.Made.{Made}
use Rattle.callscript.proofs.calls.new_checkpoint.Goals as goal

pub returns : goal.returns
returns c = subst Made (sym c.new_checkpoint-opened.ensures.1) (Made.open_next c.requires)
