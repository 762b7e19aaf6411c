-- `answer_command` leaves a store that public calls made: a fresh one is such, and all other arms are calls that say so. Assumes nothing.
use Rattle.std.proofs.Common.{sym, subst}
use Rattle.stores.specs.Made.{Made}
use Rattle.callscript.proofs.calls.answer_command.Goals as goal

pub returns-in-Fresh : goal.returns-in-Fresh
returns-in-Fresh c = subst Made (sym c.default.ensures) Made.fresh
