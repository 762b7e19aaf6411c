-- `answer_lines` is safe and ends. At every turn the store is one that public calls made: each arm that changes it makes it of that store by one call more. Assumes nothing.
use Rattle.stores.specs.Made.{Made}
use Rattle.callscript.proofs.answer_lines.Given as goal

abbrev pub invariant-loop-number : goal.invariant-loop-number
invariant-loop-number g l = Made l.store
