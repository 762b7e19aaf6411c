-- `answer_lines` begins with a store that public calls made. Assumes nothing.
use Rattle.std.proofs.Common.{sym, subst}
use Rattle.stores.specs.Made.{Made}
use Rattle.callscript.proofs.answer_lines.Goals as goal

pub loop-number-init : goal.loop-number-init
loop-number-init g c = subst Made (sym c.default-store.ensures) Made.fresh
