-- `synchronise` leaves a store that public calls made: one call more made it. Assumes nothing.
use Rattle.std.proofs.Common.{sym, subst}
use Rattle.stores.specs.Made.{Made}
use Rattle.callscript.proofs.calls.synchronise.Goals as goal

pub returns : goal.returns
returns c = subst Made (sym c.synchronise-gone.ensures.store) (Made.synchronise c.requires _ _)
