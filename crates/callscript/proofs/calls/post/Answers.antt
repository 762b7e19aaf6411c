-- `post` leaves a store that public calls made: one call more made it, of a predicate whose value is an i32. Assumes nothing.
use Rattle.std.proofs.Common.{sym, subst, rules}
use Rattle.stores.specs.Made.{Made}
use Rattle.callscript.proofs.calls.post.Goals as goal

pub returns : goal.returns
returns c = subst Made (sym c.post_predicate-posted.ensures.1) (Made.post c.requires _ _ (search rules))
